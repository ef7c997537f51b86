-- What a scan lists: just the inodes of the directory, in the order of their names.
use Rattle.std.proofs.Common.{◌≡◌, ℕ, Bool, true, false, ◌==◌, List, [], ◌∷◌, refl, sym, ap, subst, ◌∙◌}
use Rattle.std.specs.Prelude.{cond, ◌||◌, map}
use Rattle.std.specs.declared.option.Option.{Option}
use Rattle.std.specs.declared.option.Option.TheVariants.{None, Some}
use Rattle.std.specs.declared.cmp.Ordering.{Ordering}
use Rattle.std.specs.declared.cmp.Ordering.TheVariants.{Less, Greater}
use Rattle.std.specs.List.{list_any, AllByRecursion}
use Rattle.std.specs.List.Sorted.{IsStrictlySortedBy}
use Rattle.std.specs.Ordering.{ordering_reverse, is_eq}
use Rattle.std.specs.Cmp.{IsTotalOrder, both_ways}
use Rattle.std.specs.FinMap.{get, find, is_sorted, entries, entries_sorted, get-entries, from_entries, get-from_entries}
use Rattle.std.specs.FinMap.Entries.{below_all}
use Rattle.std.proofs.lemmas.Bool.{and_parts, and_from, eqb-true, eq-eqb}
use Rattle.std.proofs.lemmas.Cmp.{tied_itself}
use Rattle.std.proofs.lemmas.Option.{same_Some}
use Rattle.std.proofs.lemmas.Slice.Eq.{bytes_eq-Decides}
use Rattle.flat_dirs.specs.declared.slot.Slot.{Slot}
use Rattle.flat_dirs.specs.Slots.{SlotMap, is_slot_at, name_cmp, named_among, entries_in, is_in, name_of, by_name}
use Rattle.flat_dirs.proofs.Scan.{is_true, is_less}
use Rattle.flat_dirs.proofs.Listing.{name_cmp_total, find_named, marked}

-- ---- each entry of a sorted list is found
module _ {K X : Type 0} {R : K → K → Ordering} (o : IsTotalOrder R) where
  found_behind : (x : K × X) (all es : List (K × X)) → below_all R x.0 es ≡ true → AllByRecursion (λ e. find R e.0 all ≡ Some e.1) es → AllByRecursion (λ e. find R e.0 (x ∷ all) ≡ Some e.1) es
  found_behind x all [] h each = each
  found_behind x all (e ∷ es) h each =
      let parts = and_parts _ _ h in
      let back : R e.0 x.0 ≡ Greater = o.antisymm e.0 x.0 ∙ ap ordering_reverse (is_less _ parts.0) in
      (ap (λ r. cond (is_eq r) (Some x.1) (find R e.0 all)) back ∙ each.0, found_behind x all es parts.1 each.1)

  each_found : (es : List (K × X)) → is_sorted R es ≡ true → AllByRecursion (λ e. find R e.0 es ≡ Some e.1) es
  each_found [] s = tt
  each_found (e ∷ es) s =
      let parts : (below_all R e.0 es ≡ true) × (is_sorted R es ≡ true) = and_parts _ _ s in
      (ap (λ r. cond (is_eq r) (Some e.1) (find R e.0 es)) (tied_itself o e.0), found_behind e es es parts.0 (each_found es parts.1))

-- ---- each entry is an inode of the directory with its name
pub record IsListed (m : SlotMap) (p : ℕ) (e : (List ℕ × ℕ) × ℕ) : Type 0 where
  pub stands : is_slot_at (get m e.1) p e.0.0 ≡ true
  pub itself : e.0.1 ≡ e.1

marked_parts : (b : Bool) (i k : ℕ) → marked b i ≡ Some k → (b ≡ true) × (i ≡ k)
marked_parts true i k e = (refl, same_Some i k e)
marked_parts false i k e = absurd (cc)

listed_each : (m : SlotMap) (p : ℕ) (all es : List ((List ℕ × ℕ) × ℕ)) → ((n : List ℕ) (i : ℕ) → find name_cmp (n, i) all ≡ marked (is_slot_at (get m i) p n) i)
    → AllByRecursion (λ e. find name_cmp e.0 all ≡ Some e.1) es → AllByRecursion (IsListed m p) es
listed_each m p all [] finds each = tt
listed_each m p all (e ∷ es) finds each =
    let parts = marked_parts (is_slot_at (get m e.0.1) p e.0.0) e.0.1 e.1 (sym (finds e.0.0 e.0.1) ∙ each.0) in
    (record { stands = subst (λ i. is_slot_at (get m i) p e.0.0 ≡ true) parts.1 parts.0; itself = parts.1 }, listed_each m p all es finds each.1)

-- ---- in the order of their names
stands_by : (o : Option Slot) (p : ℕ) (n : List ℕ) → is_slot_at o p n ≡ true → (is_in p o ≡ true) × (name_of o ≡ n)
stands_by None p n h = absurd (cc)
stands_by (Some s) p n h = let parts = and_parts _ _ h in (parts.0, (bytes_eq-Decides s.name n).0 parts.1)

key_of : (m : SlotMap) (p : ℕ) (e : (List ℕ × ℕ) × ℕ) → IsListed m p e → ◌≡◌ {A = List ℕ × ℕ} (name_of (get m e.1), e.1) e.0
key_of m p e l =
    let name = (stands_by (get m e.1) p e.0.0 l.stands).1 in
    λ i. (name i, sym l.itself i)

names_behind : (m : SlotMap) (p : ℕ) (x : (List ℕ × ℕ) × ℕ) (es : List ((List ℕ × ℕ) × ℕ)) → IsListed m p x → AllByRecursion (IsListed m p) es → below_all name_cmp x.0 es ≡ true
    → AllByRecursion (λ j. by_name m x.1 j ≡ Less) (map (λ e. e.1) es)
names_behind m p x [] l each h = tt
names_behind m p x (e ∷ es) l each h =
    let parts = and_parts _ _ h in
    ((λ i. name_cmp (key_of m p x l i) (key_of m p e each.0 i)) ∙ is_less _ parts.0, names_behind m p x es l each.1 parts.1)

names_sorted : (m : SlotMap) (p : ℕ) (es : List ((List ℕ × ℕ) × ℕ)) → AllByRecursion (IsListed m p) es → is_sorted name_cmp es ≡ true → IsStrictlySortedBy (by_name m) (map (λ e. e.1) es)
unfolding IsStrictlySortedBy
names_sorted m p [] each s = tt
names_sorted m p (e ∷ es) each s =
    let parts : (below_all name_cmp e.0 es ≡ true) × (is_sorted name_cmp es ≡ true) = and_parts _ _ s in
    (names_behind m p e es each.0 each.1 parts.0, names_sorted m p es each.1 parts.1)

-- ---- just the inodes of the directory
in_directory : (m : SlotMap) (p i : ℕ) (es : List ((List ℕ × ℕ) × ℕ)) → AllByRecursion (IsListed m p) es → list_any (λ j. j == i) (map (λ e. e.1) es) ≡ true → is_in p (get m i) ≡ true
in_directory m p i [] each h = cc
in_directory m p i (e ∷ es) each h =
    elim (e.1 == i) as (λ b. (e.1 == i) ≡ b → (b || list_any (λ j. j == i) (map (λ e. e.1) es)) ≡ true → is_in p (get m i) ≡ true) [
      | true ↦ λ same _. subst (λ j. is_in p (get m j) ≡ true) (eqb-true e.1 i same) (stands_by (get m e.1) p e.0.0 each.0.stands).0
      | false ↦ λ _ rest. in_directory m p i es each.1 rest
    ] refl h

or_true : (a : Bool) → (a || true) ≡ true
or_true true = refl
or_true false = refl

one_listed : (q : List ℕ × ℕ) (i : ℕ) (es : List ((List ℕ × ℕ) × ℕ)) → find name_cmp q es ≡ Some i → list_any (λ j. j == i) (map (λ e. e.1) es) ≡ true
one_listed q i [] h = cc
one_listed q i (e ∷ es) h =
    elim (is_eq (name_cmp q e.0)) as (λ b. cond b (Some e.1) (find name_cmp q es) ≡ Some i → ((e.1 == i) || list_any (λ j. j == i) (map (λ e. e.1) es)) ≡ true) [
      | true ↦ λ is. ap (λ b. b || list_any (λ j. j == i) (map (λ e. e.1) es)) (eq-eqb e.1 i (same_Some e.1 i is))
      | false ↦ λ is. ap (λ b. (e.1 == i) || b) (one_listed q i es is) ∙ or_true (e.1 == i)
    ] h

stands_itself : (o : Option Slot) (p : ℕ) → is_in p o ≡ true → is_slot_at o p (name_of o) ≡ true
stands_itself None p h = cc
stands_itself (Some s) p h = and_from _ _ h ((bytes_eq-Decides s.name s.name).1 refl)

-- ---- of the scan
pub listed_names : (m : SlotMap) (p : ℕ) (n : List ℕ) (i : ℕ) → find name_cmp (n, i) (entries (from_entries {R = name_cmp} (named_among p (entries m)))) ≡ marked (is_slot_at (get m i) p n) i
listed_names m p n i =
    sym (get-entries (from_entries {R = name_cmp} (named_among p (entries m))) (n, i)) ∙ get-from_entries name_cmp_total (named_among p (entries m)) (n, i)
    ∙ find_named p n i (entries m) (is_true _ (entries_sorted m)) ∙ ap (λ o. marked (is_slot_at o p n) i) (sym (get-entries m i))

pub each_listed : (m : SlotMap) (p : ℕ) → AllByRecursion (IsListed m p) (entries (from_entries {R = name_cmp} (named_among p (entries m))))
each_listed m p =
    let all = from_entries {R = name_cmp} (named_among p (entries m)) in
    listed_each m p (entries all) (entries all) (listed_names m p) (each_found name_cmp_total (entries all) (is_true _ (entries_sorted all)))

pub listed_in_order : (m : SlotMap) (p : ℕ) → IsStrictlySortedBy (by_name m) (entries_in m p)
listed_in_order m p = let all = from_entries {R = name_cmp} (named_among p (entries m)) in names_sorted m p (entries all) (each_listed m p) (is_true _ (entries_sorted all))

pub listed_just : (m : SlotMap) (p i : ℕ) → list_any (λ j. j == i) (entries_in m p) ≡ is_in p (get m i)
listed_just m p i =
    let all = from_entries {R = name_cmp} (named_among p (entries m)) in
    both_ways _ _ (in_directory m p i (entries all) (each_listed m p))
    (λ h. one_listed (name_of (get m i), i) i (entries all) (listed_names m p (name_of (get m i)) i ∙ ap (λ b. marked b i) (stands_itself (get m i) p h)))
