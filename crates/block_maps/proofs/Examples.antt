-- The examples of the definitions of uses and of what a batch changes, computed.
use Rattle.std.proofs.Common.{◌≡◌, [], ◌∷◌, refl, length, Some, None}
use Rattle.block_maps.specs.Maps.{given_blocks, placed_file, with_block}
use Rattle.block_maps.specs.Uses.{uses, place_of, use_at, new_uses, given_uses, new_count}

two_pages : uses 2 ≡ Some 0 ∷ Some 1 ∷ []
two_pages = refl

twenty_four_pages : length (uses 24) ≡ 24
twenty_four_pages = refl

twenty_five_pages : length (uses 25) ≡ 26
twenty_five_pages = refl

the_last_direct_page : place_of (Some 23) ≡ 23
the_last_direct_page = refl

the_indirect_block : place_of None ≡ 24
the_indirect_block = refl

the_first_indirect_page : use_at 25 ≡ Some 24
the_first_indirect_page = refl

one_page_more : new_uses 24 25 ≡ None ∷ Some 24 ∷ []
one_page_more = refl

an_indirect_block_that_stays : new_uses 25 27 ≡ Some 25 ∷ Some 26 ∷ []
an_indirect_block_that_stays = refl

the_indirect_block_is_given_up : given_uses 24 26 ≡ None ∷ Some 24 ∷ Some 25 ∷ []
the_indirect_block_is_given_up = refl

the_indirect_block_is_kept : given_uses 25 27 ≡ Some 25 ∷ Some 26 ∷ []
the_indirect_block_is_kept = refl

made_anew : new_uses 0 2 ≡ Some 0 ∷ Some 1 ∷ []
made_anew = refl

-- of three blocks the first is kept, and one is new
one_is_kept : placed_file (record { len = 9000; blocks = 300 ∷ 301 ∷ 302 ∷ [] }) 1 5000 (400 ∷ []) ≡ record { len = 5000; blocks = 300 ∷ 400 ∷ [] }
one_is_kept = refl

two_are_given_up : given_blocks (record { len = 9000; blocks = 300 ∷ 301 ∷ 302 ∷ [] }) 1 ≡ 301 ∷ 302 ∷ []
two_are_given_up = refl

cut_to_twenty_four_and_filled_up : new_count 24 122880 ≡ 7
cut_to_twenty_four_and_filled_up = refl

a_block_over_another : with_block (record { len = 0; blocks = 7 ∷ 8 ∷ [] }) 1 9 ≡ record { len = 0; blocks = 7 ∷ 9 ∷ [] }
a_block_over_another = refl
