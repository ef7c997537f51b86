-- Attributes and slots, read one inode behind the other.
use Rattle.std.proofs.Common.{◌≡◌, ℕ, ◌+◌, ◌<◌, List, [], ◌∷◌, ◌++◌, length, refl, sym, ap, ◌∙◌, inl, inr, arith}
use Rattle.std.specs.Prelude.{Bool, true, false, cond, ◌&&◌, nat_lt, Option, Some, None, slice_index_or}
use Rattle.std.specs.Ordering.{nat_cmp}
use Rattle.std.specs.Cmp.{nat_cmp_total, unsigned_tied}
use Rattle.std.specs.FinMap.{get, insert, empty, get-insert, get-empty}
use Rattle.std.proofs.lemmas.Bool.{cases_eq, cases_lt, eq-eqb, ne_eqb, lt-ltb, le-ltb}
use Rattle.std.proofs.lemmas.List.{get_or_append_left, get_or_push}
use Rattle.inode_table.specs.declared.attrs.Attr.{Attr}
use Rattle.flat_dirs.specs.declared.slot.Slot.{Slot}
use Rattle.flat_dirs.specs.Slots.{SlotMap}
use Rattle.image_model.specs.Volumes.{Table}
use Rattle.image_model.specs.Checks.{is_entry}
use Rattle.image_check.specs.Tables.{slot_kept, AreSlots}

-- ---- attributes

pub one_attr : (f : ℕ → Option Attr) (was now : List (Option Attr)) (a : Option Attr) (n : ℕ) → length was ≡ n → ((i : ℕ) → i < n → slice_index_or was i None ≡ f i) → a ≡ f n → now ≡ was ++ a ∷ []
    → (i : ℕ) → i < n + 1 → slice_index_or now i None ≡ f i
one_attr f was now a n long each is more i h = ap (λ l. slice_index_or l i None) more ∙ elim (cases_eq i n) [
  | inl same ↦ ap (λ k. slice_index_or (was ++ a ∷ []) k None) same ∙ get_or_push was a None n long ∙ is ∙ sym (ap f same)
  | inr other ↦ get_or_append_left was (a ∷ []) None i (omega arith) ∙ each i (omega arith)
]

-- ---- slots

-- the slots of the inodes below a bound
pub record AreSlotsBelow (t : Table) (slots : SlotMap) (n : ℕ) : Type 0 where
  pub each : (inode : ℕ) → get slots inode ≡ cond (nat_lt inode n) (slot_kept t inode) None

pub no_slots : (t : Table) → AreSlotsBelow t empty 0
no_slots t = record { each = λ i. get-empty nat_cmp i ∙ sym (ap (λ b. cond b (slot_kept t i) None) (le-ltb i 0 (omega arith))) }

below_more : (f : ℕ → Option Slot) (n i : ℕ) → i ≡ n → cond (nat_lt i (n + 1)) (f i) None ≡ f i
below_more f n i same = ap (λ b. cond b (f i) None) (lt-ltb i (n + 1) (omega arith))

same_below : (f : ℕ → Option Slot) (n i : ℕ) → (i ≡ n → ⊥) → cond (nat_lt i n) (f i) None ≡ cond (nat_lt i (n + 1)) (f i) None
same_below f n i other = elim (cases_lt i n) [
  | inl below ↦ ap (λ b. cond b (f i) None) (lt-ltb i n below) ∙ sym (ap (λ b. cond b (f i) None) (lt-ltb i (n + 1) (omega arith)))
  | inr past ↦ ap (λ b. cond b (f i) None) (le-ltb i n past) ∙ sym (ap (λ b. cond b (f i) None) (le-ltb i (n + 1) (omega arith)))
]

pub one_slot : (t : Table) (slots : SlotMap) (n : ℕ) (s : Slot) → AreSlotsBelow t slots n → slot_kept t n ≡ Some s → AreSlotsBelow t (insert slots n s) (n + 1)
one_slot t slots n s are here = record {
  each = λ i. get-insert nat_cmp_total slots n s i ∙ ap (λ b. cond b (Some s) (get slots i)) (unsigned_tied i n) ∙ elim (cases_eq i n) [
    | inl same ↦ ap (λ b. cond b (Some s) (get slots i)) (eq-eqb i n same) ∙ sym here ∙ sym (ap (slot_kept t) same) ∙ sym (below_more (slot_kept t) n i same)
    | inr other ↦ ap (λ b. cond b (Some s) (get slots i)) (ne_eqb i n other) ∙ are.each i ∙ same_below (slot_kept t) n i other
  ];
}

pub no_slot : (t : Table) (slots : SlotMap) (n : ℕ) → AreSlotsBelow t slots n → slot_kept t n ≡ None → AreSlotsBelow t slots (n + 1)
no_slot t slots n are here = record {
  each = λ i. elim (cases_eq i n) [
    | inl same ↦ are.each i ∙ ap (λ b. cond b (slot_kept t i) None) (le-ltb i n (omega arith)) ∙ sym here ∙ sym (ap (slot_kept t) same) ∙ sym (below_more (slot_kept t) n i same)
    | inr other ↦ are.each i ∙ same_below (slot_kept t) n i other
  ];
}

outside : (e b : Bool) (o : Option Slot) → cond b (cond (e && b) o None) None ≡ cond (e && b) o None
outside e true o = refl
outside true false o = refl
outside false false o = refl

-- there are no others
pub all_slots : (t : Table) (slots : SlotMap) (n : ℕ) → AreSlotsBelow t slots n → n ≡ t.inodes → AreSlots t slots
all_slots t slots n are all i = are.each i ∙ ap (λ m. cond (nat_lt i m) (slot_kept t i) None) all ∙ outside (is_entry t i) (nat_lt i t.inodes) (t.slot i)
