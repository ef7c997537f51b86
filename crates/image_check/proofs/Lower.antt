-- Twins, as the index of the slots finds them.
use Rattle.std.proofs.Common.{◌≡◌, ℕ, ◌<◌, ◌≤◌, List, refl, sym, ap, ◌∙◌, inl, inr, arith}
use Rattle.std.specs.Prelude.{Bool, true, false, ◌&&◌, nat_lt, Option, Some, None, is_some, MatchOption}
use Rattle.std.specs.FinMap.{get}
use Rattle.std.proofs.lemmas.Bool.{cases_Bool, cases_lt, lt-ltb, le-ltb}
use Rattle.flat_dirs.specs.declared.slot.Slot.{Slot}
use Rattle.flat_dirs.specs.Slots.{is_slot_at, IsLeast}
use Rattle.image_model.specs.Lowest.{lowest, NoneBelow, IsLowest}
use Rattle.image_model.specs.Checks.{is_entry, has_lower}
use Rattle.image_model.proofs.Least.{lowest_is_lowest, lowest_none}
use Rattle.image_check.specs.declared.table.Table.{Table}
use Rattle.image_check.specs.Tables.{seen, HasOnlyEntries}

-- whether one was found, and is below a bound
abbrev pub is_found_below : Option ℕ → ℕ → Bool
is_found_below None n = false
is_found_below (Some k) n = nat_lt k n

no_slot : (o : Option Slot) (parent : ℕ) (name : List ℕ) → o ≡ None → is_slot_at o parent name ≡ false
no_slot o parent name none = ap (λ z. is_slot_at z parent name) none

-- where there is a slot there is an entry
entry_there : (table : Table) (parent : ℕ) (name : List ℕ) (i : ℕ) → HasOnlyEntries table → (is_entry (seen table) i && is_slot_at (get table.slots i) parent name) ≡ is_slot_at (get table.slots i) parent name
entry_there table parent name i only = elim (cases_Bool (is_entry (seen table) i)) [
  | inl entry ↦ ap (λ b. b && is_slot_at (get table.slots i) parent name) entry
  | inr none ↦
      let outside : (is_entry (seen table) i && nat_lt i table.used.count) ≡ false = ap (λ b. b && nat_lt i table.used.count) none in
      ap (λ b. b && is_slot_at (get table.slots i) parent name) none ∙ sym (no_slot (get table.slots i) parent name (only i outside))
]

has_one : (test : ℕ → Bool) (n k : ℕ) → k < n → test k ≡ true → (o : Option ℕ) → MatchOption o (NoneBelow test n) (IsLowest test n) → is_some o ≡ true
has_one test n k below passes None none = absurd (let z : true ≡ false = sym passes ∙ none k below in cc)
has_one test n k below passes (Some i) is = refl

fails : (b : Bool) → (b ≡ true → ⊥) → b ≡ false
fails true h = absurd (h refl)
fails false h = refl

least_below : (test : ℕ → Bool) (n : ℕ) (found : Option ℕ) → IsLeast test found → is_found_below found n ≡ is_some (lowest test n)
least_below test n None least = sym (ap (λ o. is_some o) (lowest_none test n (λ i h. least i)))
least_below test n (Some k) least = elim (cases_lt k n) [
  | inl below ↦ lt-ltb k n below ∙ sym (has_one test n k below least.0 (lowest test n) (lowest_is_lowest test n))
  | inr past ↦ le-ltb k n past ∙ sym (ap (λ o. is_some o) (lowest_none test n (λ i h. fails (test i) (λ passes. let k_first : k ≤ i = least.1 i passes in omega arith))))
]

pub found_is_lower : (table : Table) (n : ℕ) (s : Slot) (found : Option ℕ) → HasOnlyEntries table → IsLeast (λ i. is_slot_at (get table.slots i) s.parent s.name) found
    → is_found_below found n ≡ has_lower (seen table) n (Some s)
found_is_lower table n s found only least =
    least_below (λ i. is_slot_at (get table.slots i) s.parent s.name) n found least
    ∙ sym (ap (λ (test : ℕ → Bool). is_some (lowest test n)) (λ k i. entry_there table s.parent s.name i only k))
