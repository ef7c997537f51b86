-- The index after a change of one inode's slot.
use Rattle.std.proofs.Common.{◌≡◌, ℕ, Bool, true, false, ◌==◌, List, refl, sym, ap, ◌∙◌}
use Rattle.std.specs.Prelude.{cond, ◌&&◌}
use Rattle.std.specs.declared.option.Option.{Option}
use Rattle.std.specs.declared.option.Option.TheVariants.{None, Some}
use Rattle.std.specs.Cmp.{unsigned_tied, eq_by_cmp_equiv}
use Rattle.std.specs.FinMap.{get, insert, remove, get-insert, get-remove}
use Rattle.std.specs.BTreeSet.{BTreeSet, contains}
use Rattle.std.proofs.lemmas.Cmp.{nat_cmp_total}
use Rattle.std.specs.Str.{bytes_eq}
use Rattle.std.proofs.lemmas.Bool.{and_parts, and_from, eqb-true, eq-eqb}
use Rattle.std.proofs.lemmas.Slice.Eq.{bytes_eq-Decides}
use Rattle.flat_dirs.specs.declared.slot.Slot.{Slot}
use Rattle.flat_dirs.specs.Slots.{SlotMap, is_at, is_slot_at}
use Rattle.flat_dirs.specs.Index.{SlotKey, place_cmp, place_of, Sets, IsIndex}
use Rattle.flat_dirs.proofs.Places.{place_test}

-- ---- what is to be shown: of the inode that changed, and of the others
put_by_inode : (m : SlotMap) (k : ℕ) (s : Slot) (p : ℕ) (n : List ℕ) (i : ℕ) (r : Bool)
    → ((k == i) ≡ true → r ≡ is_at p n s) → ((k == i) ≡ false → r ≡ is_slot_at (get m i) p n) → r ≡ is_slot_at (get (insert m k s) i) p n
put_by_inode m k s p n i r here there =
    let found : get (insert m k s) i ≡ cond (k == i) (Some s) (get m i) =
    get-insert nat_cmp_total m k s i ∙ ap (λ b. cond b (Some s) (get m i)) ((eq_by_cmp_equiv nat_cmp_total).symm i k ∙ unsigned_tied k i) in
    (elim (k == i) as (λ b. (k == i) ≡ b → r ≡ is_slot_at (cond b (Some s) (get m i)) p n) [
      | true ↦ λ e. here e
      | false ↦ λ e. there e
    ] refl) ∙ ap (λ o. is_slot_at o p n) (sym found)

removed_by_inode : (m : SlotMap) (k : ℕ) (p : ℕ) (n : List ℕ) (i : ℕ) (r : Bool)
    → ((k == i) ≡ true → r ≡ false) → ((k == i) ≡ false → r ≡ is_slot_at (get m i) p n) → r ≡ is_slot_at (get (remove m k) i) p n
removed_by_inode m k p n i r here there =
    let found : get (remove m k) i ≡ cond (k == i) None (get m i) =
    get-remove nat_cmp_total m k i ∙ ap (λ b. cond b None (get m i)) ((eq_by_cmp_equiv nat_cmp_total).symm i k ∙ unsigned_tied k i) in
    (elim (k == i) as (λ b. (k == i) ≡ b → r ≡ is_slot_at (cond b None (get m i)) p n) [
      | true ↦ λ e. here e
      | false ↦ λ e. there e
    ] refl) ∙ ap (λ o. is_slot_at o p n) (sym found)

-- ---- one place put in or taken out
and_true : (a : Bool) → (a && true) ≡ a
and_true true = refl
and_true false = refl

and_false : (a : Bool) → (a && false) ≡ false
and_false true = refl
and_false false = refl

-- at the inode itself, it is as the slot says
set_here : (was now : BTreeSet SlotKey) (k : ℕ) (s : Slot) (b : Bool) (p : ℕ) (n : List ℕ) (i : ℕ) → Sets was now (place_of k s) b → (k == i) ≡ true
    → contains place_cmp now (p, n, i) ≡ cond (is_at p n s) b (contains place_cmp was (p, n, i))
set_here was now k s b p n i h e =
    h (p, n, i) ∙ ap (λ t. cond t b (contains place_cmp was (p, n, i))) (place_test (place_of k s) (p, n, i) ∙ ap (λ t. is_at p n s && t) e ∙ and_true (is_at p n s))

-- at another inode, it is as before
set_there : (was now : BTreeSet SlotKey) (k : ℕ) (s : Slot) (b : Bool) (p : ℕ) (n : List ℕ) (i : ℕ) → Sets was now (place_of k s) b → (k == i) ≡ false
    → contains place_cmp now (p, n, i) ≡ contains place_cmp was (p, n, i)
set_there was now k s b p n i h e =
    h (p, n, i) ∙ ap (λ t. cond t b (contains place_cmp was (p, n, i))) (place_test (place_of k s) (p, n, i) ∙ ap (λ t. is_at p n s && t) e ∙ and_false (is_at p n s))

-- what the index says of an inode with this slot
of_inode : (m : SlotMap) (at : BTreeSet SlotKey) (k : ℕ) (o : Option Slot) (p : ℕ) (n : List ℕ) (i : ℕ) → IsIndex m at → get m k ≡ o → (k == i) ≡ true
    → contains place_cmp at (p, n, i) ≡ is_slot_at o p n
of_inode m at k o p n i index is e =
    index p n i ∙ ap (λ z. is_slot_at (get m z) p n) (sym (eqb-true k i e)) ∙ ap (λ z. is_slot_at z p n) is

-- ---- tests
settled : (a : Bool) → cond a true false ≡ a
settled true = refl
settled false = refl

agreed : (a b : Bool) → a ≡ b → cond a true b ≡ a
agreed true b e = refl
agreed false b e = sym e

struck : (a : Bool) → cond a false a ≡ false
struck true = refl
struck false = refl

undone : (a : Bool) → cond a false (cond a true false) ≡ false
undone true = refl
undone false = refl

moved : (old new : Bool) → (old ≡ true → new ≡ false) → cond old false (cond new true old) ≡ new
moved true new h = sym (h refl)
moved false true h = refl
moved false false h = refl

-- ---- the calls
-- a slot put where there was none
pub put_new : (m : SlotMap) (was now : BTreeSet SlotKey) (k : ℕ) (s : Slot) → IsIndex m was → get m k ≡ None → Sets was now (place_of k s) true → IsIndex (insert m k s) now
put_new m was now k s index none sets p n i =
    put_by_inode m k s p n i _
    (λ e. set_here was now k s true p n i sets e ∙ ap (cond (is_at p n s) true) (of_inode m was k None p n i index none e) ∙ settled (is_at p n s))
    (λ e. set_there was now k s true p n i sets e ∙ index p n i)

-- a slot put in its own place
pub put_same : (m : SlotMap) (was now : BTreeSet SlotKey) (k : ℕ) (s : Slot) → IsIndex m was → get m k ≡ Some s → Sets was now (place_of k s) true → IsIndex (insert m k s) now
put_same m was now k s index is sets p n i =
    put_by_inode m k s p n i _
    (λ e. set_here was now k s true p n i sets e ∙ ap (cond (is_at p n s) true) (of_inode m was k (Some s) p n i index is e) ∙ agreed (is_at p n s) (is_at p n s) refl)
    (λ e. set_there was now k s true p n i sets e ∙ index p n i)

-- a slot put in the place of another
pub put_other : (m : SlotMap) (was more now : BTreeSet SlotKey) (k : ℕ) (old s : Slot) → IsIndex m was → get m k ≡ Some old
    → ((p : ℕ) (n : List ℕ) → is_at p n old ≡ true → is_at p n s ≡ false)
    → Sets was more (place_of k s) true → Sets more now (place_of k old) false → IsIndex (insert m k s) now
put_other m was more now k old s index is apart adds drops p n i =
    put_by_inode m k s p n i _
    (λ e. set_here more now k old false p n i drops e
    ∙ ap (cond (is_at p n old) false) (set_here was more k s true p n i adds e ∙ ap (cond (is_at p n s) true) (of_inode m was k (Some old) p n i index is e))
    ∙ moved (is_at p n old) (is_at p n s) (apart p n))
    (λ e. set_there more now k old false p n i drops e ∙ set_there was more k s true p n i adds e ∙ index p n i)

-- a place put in and taken out again
pub put_undone : (m : SlotMap) (was more now : BTreeSet SlotKey) (k : ℕ) (s : Slot) → IsIndex m was → get m k ≡ None
    → Sets was more (place_of k s) true → Sets more now (place_of k s) false → IsIndex m now
put_undone m was more now k s index none adds drops p n i =
    elim (k == i) as (λ b. (k == i) ≡ b → contains place_cmp now (p, n, i) ≡ is_slot_at (get m i) p n) [
      | true ↦ λ e.
          set_here more now k s false p n i drops e
          ∙ ap (cond (is_at p n s) false) (set_here was more k s true p n i adds e ∙ ap (cond (is_at p n s) true) (of_inode m was k None p n i index none e))
          ∙ undone (is_at p n s) ∙ sym (of_inode m was k None p n i index none e) ∙ index p n i
      | false ↦ λ e. set_there more now k s false p n i drops e ∙ set_there was more k s true p n i adds e ∙ index p n i
    ] refl

-- a slot taken out
pub taken_out : (m : SlotMap) (was now : BTreeSet SlotKey) (k : ℕ) (old : Slot) → IsIndex m was → get m k ≡ Some old → Sets was now (place_of k old) false → IsIndex (remove m k) now
taken_out m was now k old index is drops p n i =
    removed_by_inode m k p n i _
    (λ e. set_here was now k old false p n i drops e ∙ ap (cond (is_at p n old) false) (of_inode m was k (Some old) p n i index is e) ∙ struck (is_at p n old))
    (λ e. set_there was now k old false p n i drops e ∙ index p n i)

-- no slot taken out
pub none_taken : (m : SlotMap) (was : BTreeSet SlotKey) (k : ℕ) → IsIndex m was → get m k ≡ None → IsIndex (remove m k) was
none_taken m was k index none p n i =
    removed_by_inode m k p n i _ (λ e. of_inode m was k None p n i index none e) (λ e. index p n i)

-- ---- two slots
-- slots that the test finds equal are
pub same_slot : (a b : Slot) → ((a.parent == b.parent) && bytes_eq a.name b.name) ≡ true → a ≡ b
same_slot a b t =
    let parts = and_parts _ _ t in
    let parent : a.parent ≡ b.parent = eqb-true a.parent b.parent parts.0 in
    let name : a.name ≡ b.name = (bytes_eq-Decides a.name b.name).0 parts.1 in
    λ i. record { parent = parent i; name = name i }

-- slots that it doesn't find equal stand at no place together
pub apart_slots : (a b : Slot) → ((a.parent == b.parent) && bytes_eq a.name b.name) ≡ false → (p : ℕ) (n : List ℕ) → is_at p n a ≡ true → is_at p n b ≡ false
apart_slots a b f p n at =
    elim (is_at p n b) as (λ t. is_at p n b ≡ t → t ≡ false) [
      | true ↦ λ t.
          let here = and_parts _ _ at in
          let there = and_parts _ _ t in
          let parent : a.parent ≡ b.parent = eqb-true a.parent p here.0 ∙ sym (eqb-true b.parent p there.0) in
          let name : a.name ≡ b.name = (bytes_eq-Decides a.name n).0 here.1 ∙ sym ((bytes_eq-Decides b.name n).0 there.1) in
          let both : ((a.parent == b.parent) && bytes_eq a.name b.name) ≡ true = and_from _ _ (eq-eqb a.parent b.parent parent) ((bytes_eq-Decides a.name b.name).1 name) in
          sym both ∙ f
      | false ↦ λ _. refl
    ] refl
