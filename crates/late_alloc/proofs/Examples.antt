-- The examples of the definitions of lengths, reaches and of the choice of blocks, computed.
use Rattle.std.proofs.Common.{◌≡◌, true, false, [], ◌∷◌, refl, Some, None}
use Rattle.file_bodies.specs.declared.ops.BodyOp.TheVariants as ops
use Rattle.block_maps.specs.Maps.{no_file}
use Rattle.late_alloc.specs.Choice.{unheld}
use Rattle.late_alloc.specs.Gaining.{gains_from, gains_by}
use Rattle.late_alloc.specs.Lengths.{length_by, length_after, least_pages}
use Rattle.late_alloc.specs.Reaches.{reach_by, touched_of, news_of, given_of}

cut_and_filled_up : reach_by (ops.Shrink 5 98304 ∷ ops.Grow 5 122880 ∷ []) 5 122880 ≡ record { inode = 5; least = 24; end = 122880 }
cut_and_filled_up = refl

-- a file of two pages is dropped and made anew with one, and another one gets a first page
two_files : news_of (record { len = 5000; blocks = 300 ∷ 301 ∷ [] } ∷ no_file ∷ []) (ops.Drop 0 ∷ ops.Grow 0 9 ∷ ops.Grow 1 1 ∷ []) ≡ (0, Some 0) ∷ (1, Some 0) ∷ []
two_files = refl

two_blocks_given_up : given_of (record { len = 5000; blocks = 300 ∷ 301 ∷ [] } ∷ no_file ∷ []) (ops.Drop 0 ∷ ops.Grow 0 9 ∷ ops.Grow 1 1 ∷ []) ≡ 300 ∷ 301 ∷ []
two_blocks_given_up = refl

one_is_touched : touched_of (no_file ∷ no_file ∷ no_file ∷ []) (ops.Grow 1 9 ∷ []) ≡ record { inode = 1; least = 0; end = 9 } ∷ []
one_is_touched = refl

-- of the blocks 2 to 5 block 3 is used and block 4 held
neither_used_nor_held : unheld (record { bytes = 2 ∷ []; count = 4 }) (false ∷ false ∷ false ∷ false ∷ true ∷ false ∷ []) 2 ≡ 2 ∷ 5 ∷ []
neither_used_nor_held = refl

past_the_direct_pages : gains_from 7 23 (300 ∷ 301 ∷ 302 ∷ [])
    ≡ record { inode = 7; page = Some 23; block = 300 } ∷ record { inode = 7; page = None; block = 301 } ∷ record { inode = 7; page = Some 24; block = 302 } ∷ []
past_the_direct_pages = refl

each_takes_its_own : gains_by (record { inode = 3; least = 1; end = 4097 } ∷ record { inode = 9; least = 0; end = 1 } ∷ []) (300 ∷ 301 ∷ 302 ∷ [])
    ≡ record { inode = 3; page = Some 1; block = 300 } ∷ record { inode = 9; page = Some 0; block = 301 } ∷ []
each_takes_its_own = refl

a_put_that_makes_a_file_longer : length_by (ops.Put 5 4 (1 ∷ [])) 3 ≡ 5
a_put_that_makes_a_file_longer = refl

a_shrink_of_a_shorter_file : length_by (ops.Shrink 5 4) 3 ≡ 3
a_shrink_of_a_shorter_file = refl

a_grow_and_a_shrink : length_after 5 3 (ops.Grow 5 9 ∷ ops.Shrink 5 1 ∷ []) ≡ 1
a_grow_and_a_shrink = refl

dropped_and_made_anew : least_pages 5 122880 (ops.Drop 5 ∷ ops.Grow 5 122880 ∷ []) ≡ 0
dropped_and_made_anew = refl

another_file_is_dropped : least_pages 6 122880 (ops.Drop 5 ∷ []) ≡ 30
another_file_is_dropped = refl
