-- Where there are no pointers, a data block is wrong exactly where it is marked as used.
use Rattle.std.proofs.Common.{◌≡◌, ℕ, zero, suc, ◌+◌, List, [], ◌++◌, refl, ap, ◌∙◌, arith}
use Rattle.std.proofs.Math.Path.{ap₂}
use Rattle.std.specs.Prelude.{Bool, true, false, cond, ◌==◌, map, flat_map}
use Rattle.std.specs.List.{list_any, range_with_len}
use Rattle.free_maps.specs.Bits.{failing}
use Rattle.image_model.specs.declared.pointer.Pointer.{Pointer}
use Rattle.image_model.specs.Volumes.{Volume, table_of, first_data, is_block_used}
use Rattle.image_model.specs.Files.{pointers, named}
use Rattle.image_model.specs.Lowest.{NoneBelow}
use Rattle.image_model.specs.Checks.{differ, is_bad_bit}

-- where no inode has pointers, there are none
pub none_at_all : (f : ℕ → List Pointer) (n a : ℕ) → ((i : ℕ) → f i ≡ []) → flat_map f (range_with_len a n) ≡ []
none_at_all f zero a none = refl
none_at_all f (suc n) a none = ap (λ z. z ++ flat_map f (range_with_len (a + 1) n)) (none a) ∙ none_at_all f n (a + 1) none

-- all of the first places fail a test that none passes
pub all_fail : (test : ℕ → Bool) (n : ℕ) → NoneBelow test n → failing test n ≡ n
all_fail test zero none = refl
all_fail test (suc n) none =
    let more : n + 1 ≡ suc n = omega arith in
    ap₂ (λ k b. k + cond b 0 1) (all_fail test n (λ i h. none i (omega arith))) (none n (omega arith)) ∙ more

differs_from_none : (b : Bool) → differ b false ≡ b
differs_from_none true = refl
differs_from_none false = refl

pub bad_is_used : (v : Volume) (item : ℕ) → pointers (table_of v) ≡ [] → is_bad_bit v item ≡ is_block_used v item
bad_is_used v item none =
    ap (λ (ps : List Pointer). differ (is_block_used v item) (list_any (λ block. block == first_data v + item) (map (named v) ps))) none
    ∙ differs_from_none (is_block_used v item)
