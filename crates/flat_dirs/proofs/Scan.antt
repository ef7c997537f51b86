-- What a scan of the slots finds.
use Rattle.std.proofs.Common.{◌≡◌, ℕ, ◌<◌, ◌≤◌, Bool, true, false, ◌==◌, List, [], ◌∷◌, refl, sym, ap, subst, ◌∙◌, arith}
use Rattle.std.specs.Prelude.{cond, T, nat_lt}
use Rattle.std.specs.Cmp.{unsigned_tied}
use Rattle.std.proofs.lemmas.Bool.Decides.{nat_tests}
use Rattle.std.specs.declared.option.Option.{Option}
use Rattle.std.specs.declared.option.Option.TheVariants.{None, Some}
use Rattle.std.specs.declared.cmp.Ordering.{Ordering}
use Rattle.std.specs.declared.cmp.Ordering.TheVariants.{Less, Equal, Greater}
use Rattle.std.specs.Ordering.{nat_cmp, is_eq, is_lt}
use Rattle.std.specs.FinMap.{get, find, is_sorted, entries, entries_sorted, get-entries}
use Rattle.std.specs.FinMap.Entries.{below_all}
use Rattle.std.specs.BTreeSet.{BTreeSet, contains}
use Rattle.std.proofs.lemmas.Bool.{and_parts, eqb-true}
use Rattle.std.proofs.lemmas.Cmp.{ranked, nat_cmp_total, tied_itself}
use Rattle.flat_dirs.specs.declared.slot.Slot.{Slot}
use Rattle.flat_dirs.specs.Slots.{SlotMap, is_at, find_among, find_in, is_slot_at, IsLeast}
use Rattle.flat_dirs.specs.Index.{SlotKey, place_cmp, IsIndex}

pub is_true : (b : Bool) → T b → b ≡ true
is_true true t = refl
is_true false t = absurd t

pub not_both : {A : Type 0} (b : Bool) → b ≡ true → b ≡ false → A
not_both b p q = absurd (subst T (sym p ∙ q) tt)

pub is_less : (o : Ordering) → is_lt o ≡ true → o ≡ Less
is_less Less p = refl
is_less Equal p = absurd (subst T (sym p) tt)
is_less Greater p = absurd (subst T (sym p) tt)

-- among inodes above y there is neither y nor a lower one
pub none_above : (x y : ℕ) (es : List (ℕ × Slot)) → x ≤ y → below_all nat_cmp y es ≡ true → find nat_cmp x es ≡ None
none_above x y [] le h = refl
none_above x y (e ∷ es) le h =
    let parts = and_parts _ _ h in
    let y_below : y < e.0 = ranked y e.0 Less (sym (is_less _ parts.0)) in
    let less : nat_cmp x e.0 ≡ Less = below x e.0 (omega arith) in
    ap (λ o. cond (is_eq o) (Some e.1) (find nat_cmp x es)) less ∙ none_above x y es le parts.1
  where
    below : (a b : ℕ) → a < b → nat_cmp a b ≡ Less
    below a b h = let t : nat_lt a b ≡ true = grind (arith, nat_tests) in ap (λ z. cond z Less (cond (a == b) Equal Greater)) t

-- an inode that ties with the first of them is it
pub is_first : (j k : ℕ) → is_eq (nat_cmp j k) ≡ true → j ≡ k
is_first j k tie = eqb-true j k (sym (unsigned_tied j k) ∙ tie)

-- a first slot that doesn't stand there is passed by
pub passed_by : (p : ℕ) (n : List ℕ) (e : ℕ × Slot) (es : List (ℕ × Slot)) (j : ℕ) → below_all nat_cmp e.0 es ≡ true → is_at p n e.1 ≡ false
    → is_slot_at (find nat_cmp j (e ∷ es)) p n ≡ is_slot_at (find nat_cmp j es) p n
passed_by p n e es j above out =
    elim (is_eq (nat_cmp j e.0)) as (λ b. is_eq (nat_cmp j e.0) ≡ b → is_slot_at (cond b (Some e.1) (find nat_cmp j es)) p n ≡ is_slot_at (find nat_cmp j es) p n) [
      | true ↦ λ tie.
          let same = is_first j e.0 tie in
          out ∙ ap (λ o. is_slot_at o p n) (sym (none_above j e.0 es (omega arith) above))
      | false ↦ λ _. refl
    ] refl

-- a first slot that stands there is the least
first_is_found : (p : ℕ) (n : List ℕ) (e : ℕ × Slot) (es : List (ℕ × Slot)) (r : Option ℕ) (test : ℕ → Bool) → below_all nat_cmp e.0 es ≡ true
    → ((j : ℕ) → test j ≡ is_slot_at (find nat_cmp j (e ∷ es)) p n) → is_at p n e.1 ≡ true → IsLeast test r → r ≡ Some e.0
first_is_found p n e es r test above is here least =
    let passes : test e.0 ≡ true =
    is e.0 ∙ ap (λ o. is_slot_at (cond (is_eq o) (Some e.1) (find nat_cmp e.0 es)) p n) (tied_itself nat_cmp_total e.0) ∙ here in
    elim r as (λ z. IsLeast test z → z ≡ Some e.0) [
      | None ↦ λ none. not_both (test e.0) passes (none e.0)
      | Some i ↦ λ least.
          elim (is_eq (nat_cmp i e.0)) as (λ b. is_eq (nat_cmp i e.0) ≡ b → Some i ≡ Some e.0) [
            | true ↦ λ tie. ap (λ z. Some z) (is_first i e.0 tie)
            | false ↦ λ tie.
                not_both (test i) least.0
                (is i ∙ ap (λ b. is_slot_at (cond b (Some e.1) (find nat_cmp i es)) p n) tie ∙ ap (λ o. is_slot_at o p n) (none_above i e.0 es (least.1 e.0 passes) above))
          ] refl
    ] least

-- the least inode that passes is the first that the scan meets
least_is_found : (p : ℕ) (n : List ℕ) (es : List (ℕ × Slot)) (r : Option ℕ) (test : ℕ → Bool) → is_sorted nat_cmp es ≡ true
    → ((j : ℕ) → test j ≡ is_slot_at (find nat_cmp j es) p n) → IsLeast test r → r ≡ find_among p n es
least_is_found p n [] None test s is least = refl
least_is_found p n [] (Some i) test s is least = not_both (test i) least.0 (is i)
least_is_found p n (e ∷ es) r test s is least =
    let parts : (below_all nat_cmp e.0 es ≡ true) × (is_sorted nat_cmp es ≡ true) = and_parts _ _ s in
    elim (is_at p n e.1) as (λ b. is_at p n e.1 ≡ b → r ≡ cond b (Some e.0) (find_among p n es)) [
      | true ↦ λ here. first_is_found p n e es r test parts.0 is here least
      | false ↦ λ out. least_is_found p n es r test parts.1 (λ j. is j ∙ passed_by p n e es j parts.0 out) least
    ] refl

pub found_is_least : (m : SlotMap) (at : BTreeSet SlotKey) (p : ℕ) (n : List ℕ) (r : Option ℕ) → IsIndex m at → IsLeast (λ i. contains place_cmp at (p, n, i)) r → r ≡ find_in m p n
found_is_least m at p n r index least =
    least_is_found p n (entries m) r (λ i. contains place_cmp at (p, n, i)) (is_true _ (entries_sorted m)) (λ j. index p n j ∙ ap (λ o. is_slot_at o p n) (get-entries m j)) least

-- the least by the index is the least by the slots
pub least_by_slots : (m : SlotMap) (at : BTreeSet SlotKey) (p : ℕ) (n : List ℕ) (r : Option ℕ) → IsIndex m at → IsLeast (λ i. contains place_cmp at (p, n, i)) r → IsLeast (λ i. is_slot_at (get m i) p n) r
least_by_slots m at p n None index least = λ j. sym (index p n j) ∙ least j
least_by_slots m at p n (Some i) index least = (sym (index p n i) ∙ least.0, λ j t. least.1 j (index p n j ∙ t))

-- the least by the slots is what the scan finds
pub least_by_scan : (m : SlotMap) (p : ℕ) (n : List ℕ) (r : Option ℕ) → IsLeast (λ i. is_slot_at (get m i) p n) r → r ≡ find_in m p n
least_by_scan m p n r least =
    least_is_found p n (entries m) r (λ i. is_slot_at (get m i) p n) (is_true _ (entries_sorted m)) (λ j. ap (λ o. is_slot_at o p n) (get-entries m j)) least
