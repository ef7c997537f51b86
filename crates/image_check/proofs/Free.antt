-- Where no pointer is looked at, each data block has to be marked as free.
use Rattle.std.proofs.Common.{◌≡◌, ℕ, zero, suc, ◌+◌, ◌≤◌, ◌<◌, List, [], length, refl, sym, ap, ◌∙◌, inl, inr, arith}
use Rattle.std.proofs.Math.Path.{ap₂}
use Rattle.std.specs.Prelude.{Bool, true, false, cond, not, ◌==◌, is_some, Option, Some, None, option_map, map, slice_get, MatchOption}
use Rattle.std.specs.Option.{option_and_then}
use Rattle.std.specs.List.{list_any}
use Rattle.std.proofs.lemmas.Bool.{cases_eq, eq-eqb, ne_eqb}
use Rattle.free_maps.specs.Bits.{failing}
use Rattle.free_maps.specs.Maps.{Map, clear_below}
use Rattle.image_model.specs.declared.check.Check.TheVariants as checks
use Rattle.image_model.specs.declared.pointer.Pointer.{Pointer}
use Rattle.image_model.specs.Fields.{block_bits}
use Rattle.image_model.specs.Volumes.{Volume, table_of, data_blocks, first_data, is_block_used, clear_blocks}
use Rattle.image_model.specs.Files.{pointers, named, holder}
use Rattle.image_model.specs.Lowest.{lowest, NoneBelow, IsLowest}
use Rattle.image_model.specs.Checks.{bare, failure, unless, differ, is_bad_bit, is_bad_pointer}
use Rattle.image_model.proofs.Least.{lowest_is_lowest}
use Rattle.image_model.proofs.NoPointers.{bare_has_no_pointers}
use Rattle.image_check.specs.Tables.{block_map}
use Rattle.image_check.specs.Verdicts.{inode_checks, first_among}
use Rattle.image_check.proofs.Verdict.{root_and_record}
use Rattle.image_check.proofs.Same.{lowest_same}

-- ---- counting

one : (b : Bool) → cond b 0 1 ≤ 1
one true = omega arith
one false = omega arith

at_most : (test : ℕ → Bool) (n : ℕ) → failing test n ≤ n
at_most test zero = omega arith
at_most test (suc n) = omega (arith, at_most test n, one (test n))

none_all : (test : ℕ → Bool) (n : ℕ) → NoneBelow test n → failing test n ≡ n
none_all test zero none = refl
none_all test (suc n) none =
    let more : n + 1 ≡ suc n = omega arith in
    ap₂ (λ k b. k + cond b 0 1) (none_all test n (λ i h. none i (omega arith))) (none n (omega arith)) ∙ more

a_miss : (a n : ℕ) (b : Bool) → a ≤ n → b ≡ true → a + cond b 0 1 < suc n
a_miss a n true most passes = omega arith
a_miss a n false most passes = absurd (cc)

still_fewer : (a n : ℕ) (b : Bool) → a < n → a + cond b 0 1 < suc n
still_fewer a n true fewer = omega arith
still_fewer a n false fewer = omega arith

some_fewer : (test : ℕ → Bool) (n k : ℕ) → k < n → test k ≡ true → failing test n < n
some_fewer test zero k h passes = absurd (omega arith)
some_fewer test (suc n) k h passes = elim (cases_eq k n) [
  | inl same ↦ a_miss (failing test n) n (test n) (at_most test n) (sym (ap test same) ∙ passes)
  | inr other ↦ still_fewer (failing test n) n (test n) (some_fewer test n k (omega arith) passes)
]

by_lowest : (test : ℕ → Bool) (n : ℕ) (o : Option ℕ) → MatchOption o (NoneBelow test n) (IsLowest test n) → (failing test n == n) ≡ not (is_some o)
by_lowest test n None none = eq-eqb (failing test n) n (none_all test n none)
by_lowest test n (Some k) is = ne_eqb (failing test n) n (λ all. let fewer = some_fewer test n k is.within is.passes in omega arith)

-- all fail exactly where none passes
all_fail : (test : ℕ → Bool) (n : ℕ) → (failing test n == n) ≡ not (is_some (lowest test n))
all_fail test n = by_lowest test n (lowest test n) (lowest_is_lowest test n)

-- ---- blocks

differs_from_none : (b : Bool) → b ≡ differ b false
differs_from_none true = refl
differs_from_none false = refl

used_is_bad : (v : Volume) (item : ℕ) → pointers (table_of v) ≡ [] → is_block_used v item ≡ is_bad_bit v item
used_is_bad v item none =
    differs_from_none (is_block_used v item)
    ∙ sym (ap (λ (ps : List Pointer). differ (is_block_used v item) (list_any (λ block. block == first_data v + item) (map (named v) ps))) none)

pub no_pointers : (v : Volume) → first_among v inode_checks ≡ None → pointers (table_of v) ≡ []
no_pointers v none = let both = root_and_record v none in bare_has_no_pointers None v both.0 both.1

-- the bits are right where all are clear
bits_are_clear : (v : Volume) → pointers (table_of v) ≡ [] → unless (clear_blocks v == data_blocks v) block_bits ≡ failure bare None v checks.Bits
bits_are_clear v none =
    ap (λ b. unless b block_bits) (all_fail (is_block_used v) (data_blocks v)
    ∙ ap (λ o. not (is_some o)) (lowest_same (is_block_used v) (is_bad_bit v) (data_blocks v) (λ i h. used_is_bad v i none)))

-- no pointer is wrong
pub pointers_are_right : (v : Volume) → pointers (table_of v) ≡ [] → failure bare None v checks.Pointer ≡ None
pointers_are_right v none =
    ap (λ (ps : List Pointer). option_map (holder v) (option_and_then (slice_get ps) (lowest (is_bad_pointer v) (length ps)))) none

pub bits_told : (v : Volume) (blocks : Map) (clear total : ℕ) (told : Option ℕ) → pointers (table_of v) ≡ [] → blocks ≡ block_map v → clear ≡ clear_below blocks.bytes blocks.count → total ≡ data_blocks v
    → told ≡ unless (clear == total) block_bits → failure bare None v checks.Bits ≡ told
bits_told v blocks clear total told none are counted all answer =
    sym (answer ∙ ap₂ (λ a b. unless (a == b) block_bits) (counted ∙ ap (λ m. clear_below m.bytes m.count) are) all ∙ bits_are_clear v none)
