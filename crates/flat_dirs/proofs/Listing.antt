-- The places of a directory, and what a scan of the slots lists.
use Rattle.std.proofs.Common.{◌≡◌, ℕ, ◌<◌, ◌≤◌, Bool, true, false, ◌==◌, List, [], ◌∷◌, ◌++◌, refl, sym, ap, subst, ◌∙◌, arith}
use Rattle.std.specs.Prelude.{cond, ◌&&◌, ◌||◌, T, map}
use Rattle.std.specs.Prelude.{Result, Ok, Err, OnErr}
use Rattle.std.specs.declared.option.Option.{Option}
use Rattle.std.specs.declared.option.Option.TheVariants.{None, Some}
use Rattle.std.specs.declared.cmp.Ordering.{Ordering}
use Rattle.std.specs.declared.cmp.Ordering.TheVariants.{Less, Equal, Greater}
use Rattle.std.specs.declared.ops.Bound.TheVariants.{Included, Unbounded}
use Rattle.std.specs.List.{filter, list_any, AllByRecursion}
use Rattle.std.specs.List.Sorted.{IsStrictlySortedBy}
use Rattle.std.specs.Ordering.{nat_cmp, ordering_then, is_eq, is_lt, is_le, is_gt}
use Rattle.std.specs.Cmp.{IsTotalOrder, unsigned_tied, tied_then}
use Rattle.std.specs.Cmp.Lexicographic.{slice_cmp}
use Rattle.std.specs.Str.{bytes_eq}
use Rattle.std.specs.BTreeSet.{BTreeSet}
use Rattle.std.specs.BTreeMap.Range.{range_contains}
use Rattle.std.specs.FinMap.{IsAntisymmetric, find, is_sorted, entries, entries_sorted, get-entries, from_entries, from_sorted, same_map, get-from_entries, get-from_sorted, entries-from_sorted, nat_cmp-IsAntisymmetric, slice_cmp-IsAntisymmetric}
use Rattle.std.specs.FinMap.Entries.{below_all}
use Rattle.std.proofs.lemmas.List.{append-nil}
use Rattle.std.proofs.lemmas.Bool.{and_parts, and_from, eqb-true, eq-eqb, ne_eqb}
use Rattle.std.proofs.lemmas.Cmp.{ranked, nat_cmp_total, nat_list_cmp_total, nat_list_eq_equiv, then_total, on_total, tied_itself}
use Rattle.std.proofs.lemmas.Map.Keys.{le_from_not_gt}
use Rattle.std.proofs.lemmas.Map.Text.{is_eq-slice_cmp}
use Rattle.flat_dirs.specs.declared.slot.Slot.{Slot}
use Rattle.flat_dirs.specs.Slots.{SlotMap, name_cmp, named_among, entries_in, is_slot_at}
use Rattle.flat_dirs.specs.Index.{SlotKey, place_cmp, is_below, IsIndex}
use Rattle.flat_dirs.proofs.Places.{both_tie, first_not_above, never_below, place_test}
use Rattle.flat_dirs.proofs.Scan.{not_both, is_true, none_above, passed_by}

-- ---- the run of a directory's places
-- the places from the front on that are in this directory
abbrev pub run : ℕ → List SlotKey → List SlotKey
run p [] = []
run p (k ∷ ks) = cond (is_below p k) (k ∷ run p ks) []

-- the places from the first possible one of this directory on
abbrev pub from_dir : ℕ → List SlotKey → List SlotKey
from_dir p ks = filter (range_contains place_cmp (Included (p, [], 0)) Unbounded) ks

not_later : (o : Ordering) → is_gt o ≡ false → is_le o ≡ true
not_later Less h = refl
not_later Equal h = refl
not_later Greater h = sym h

lowest_name : (n : List ℕ) (i : ℕ) → is_le (ordering_then (slice_cmp nat_cmp [] n) (nat_cmp 0 i)) ≡ true
lowest_name [] i = not_later (nat_cmp 0 i) (never_below i)
lowest_name (b ∷ bs) i = refl

-- behind a place of a later directory there is none of this
none_behind : (p : ℕ) (k : SlotKey) (ks : List SlotKey) → p < k.0 → AllByRecursion (λ y. place_cmp k y ≡ Less) ks → filter (is_below p) ks ≡ []
none_behind p k [] later all = refl
none_behind p k (y ∷ ys) later all =
    let above = first_not_above (nat_cmp k.0 y.0) _ (first_not_above _ (nat_cmp k.2 y.2) (ap is_gt all.0)) in
    let from : k.0 ≤ y.0 = le_from_not_gt k.0 y.0 above in
    let out : (y.0 == p) ≡ false = ne_eqb y.0 p (λ e. absurd (omega arith)) in
    ap (λ b. cond b (y ∷ filter (is_below p) ys) (filter (is_below p) ys)) out ∙ none_behind p k ys later all.1

pub run_is : (p : ℕ) (ks : List SlotKey) → IsStrictlySortedBy place_cmp ks → run p (from_dir p ks) ≡ filter (is_below p) ks
unfolding IsStrictlySortedBy
run_is p [] s = refl
run_is p (k ∷ ks) s =
    let rest = run_is p ks s.1 in
    elim (nat_cmp p k.0) as (λ o. nat_cmp p k.0 ≡ o
    → run p (cond (is_le (ordering_then (ordering_then o (slice_cmp nat_cmp [] k.1)) (nat_cmp 0 k.2)) && true) (k ∷ from_dir p ks) (from_dir p ks)) ≡ cond (k.0 == p) (k ∷ filter (is_below p) ks) (filter (is_below p) ks)) [
      | Less ↦ λ e.
          let later : p < k.0 = ranked p k.0 Less (sym e) in
          let out : (k.0 == p) ≡ false = ne_eqb k.0 p (λ e. absurd (omega arith)) in
          ap (λ b. cond b (k ∷ run p (from_dir p ks)) []) out ∙ sym (none_behind p k ks later s.0) ∙ sym (ap (λ b. cond b (k ∷ filter (is_below p) ks) (filter (is_below p) ks)) out)
      | Equal ↦ λ e.
          let here : (k.0 == p) ≡ true = eq-eqb k.0 p (sym (ranked p k.0 Equal (sym e))) in
          ap (λ b. run p (cond (b && true) (k ∷ from_dir p ks) (from_dir p ks))) (lowest_name k.1 k.2)
          ∙ ap (λ b. cond b (k ∷ run p (from_dir p ks)) []) here ∙ ap (λ l. k ∷ l) rest ∙ sym (ap (λ b. cond b (k ∷ filter (is_below p) ks) (filter (is_below p) ks)) here)
      | Greater ↦ λ e.
          let sooner : k.0 < p = ranked p k.0 Greater (sym e) in
          let out : (k.0 == p) ≡ false = ne_eqb k.0 p (λ e. absurd (omega arith)) in
          rest ∙ sym (ap (λ b. cond b (k ∷ filter (is_below p) ks) (filter (is_below p) ks)) out)
    ] refl

-- the run ends where nothing follows, and before a place of another directory
pub run_done : (p : ℕ) (all : List ℕ) (r : List SlotKey) → r ≡ [] → all ++ map (λ (k : SlotKey). k.2) (run p r) ≡ all
run_done p all r e = ap (λ z. all ++ map (λ (k : SlotKey). k.2) (run p z)) e ∙ append-nil all

pub run_left : (p : ℕ) (all : List ℕ) (r rest : List SlotKey) (k : SlotKey) → r ≡ k ∷ rest → (k.0 ≡ p → ⊥) → all ++ map (λ (k : SlotKey). k.2) (run p r) ≡ all
run_left p all r rest k e out =
    ap (λ z. all ++ map (λ (k : SlotKey). k.2) (run p z)) e
    ∙ ap (λ b. all ++ map (λ (k : SlotKey). k.2) (cond b (k ∷ run p rest) [])) (ne_eqb k.0 p out)
    ∙ append-nil all

-- where a place of the directory follows, the run isn't over
pub run_some : (p : ℕ) (all : List ℕ) (r rest : List SlotKey) (k : SlotKey) → r ≡ k ∷ rest → k.0 ≡ p → all ++ map (λ (k : SlotKey). k.2) (run p r) ≡ [] → ⊥
run_some p all r rest k e here none =
    not_empty all k.2 (map (λ (k : SlotKey). k.2) (run p rest))
    (sym (ap (λ z. all ++ map (λ (k : SlotKey). k.2) (run p z)) e ∙ ap (λ b. all ++ map (λ (k : SlotKey). k.2) (cond b (k ∷ run p rest) [])) (eq-eqb k.0 p here)) ∙ none)
  where
    not_empty : (xs : List ℕ) (y : ℕ) (ys : List ℕ) → xs ++ y ∷ ys ≡ [] → ⊥
    not_empty [] y ys e = cc
    not_empty (x ∷ xs) y ys e = cc

pub none_mapped : {X Y : Type 0} (f : X → Y) (xs : List X) → map f xs ≡ [] → xs ≡ []
none_mapped f [] e = refl
none_mapped f (x ∷ xs) e = absurd (cc)

-- what holds anyway holds on an error
pub on_err : {X E P : Type 0} (r : Result X E) → P → OnErr r P
on_err (Ok x) p = tt
on_err (Err e) p = p

-- ---- the order of names
pub name_cmp_total : IsTotalOrder name_cmp
name_cmp_total = then_total (on_total (λ t. t.0) nat_list_cmp_total) (on_total (λ t. t.1) nat_cmp_total)

names_same : IsAntisymmetric name_cmp
names_same x y e =
    let both = both_tie (slice_cmp nat_cmp x.0 y.0) (nat_cmp x.1 y.1) e in
    let name = slice_cmp-IsAntisymmetric nat_cmp-IsAntisymmetric x.0 y.0 both.0 in
    let inode = nat_cmp-IsAntisymmetric x.1 y.1 both.1 in
    λ i. (name i, inode i)

pub name_test : (x y : List ℕ × ℕ) → is_eq (name_cmp x y) ≡ bytes_eq x.0 y.0 && (x.1 == y.1)
name_test x y =
    sym (tied_then (slice_cmp nat_cmp x.0 y.0) (nat_cmp x.1 y.1))
    ∙ (λ i. is_eq-slice_cmp x.0 y.0 i && unsigned_tied x.1 y.1 i)

-- an inode that is there or not
abbrev pub marked : Bool → ℕ → Option ℕ
marked b i = cond b (Some i) None

-- ---- a directory's places by their names
abbrev pairs : ℕ → List SlotKey → List ((List ℕ × ℕ) × ℕ)
pairs p [] = []
pairs p (k ∷ ks) = cond (k.0 == p) (((k.1, k.2), k.2) ∷ pairs p ks) (pairs p ks)

pairs_inodes : (p : ℕ) (ks : List SlotKey) → map (λ e. e.1) (pairs p ks) ≡ map (λ (k : SlotKey). k.2) (filter (is_below p) ks)
pairs_inodes p [] = refl
pairs_inodes p (k ∷ ks) =
    elim (k.0 == p) as (λ b. map (λ e. e.1) (cond b (((k.1, k.2), k.2) ∷ pairs p ks) (pairs p ks)) ≡ map (λ (k : SlotKey). k.2) (cond b (k ∷ filter (is_below p) ks) (filter (is_below p) ks))) [
      | true ↦ ap (λ l. k.2 ∷ l) (pairs_inodes p ks)
      | false ↦ pairs_inodes p ks
    ]

-- of two places in one directory the names are in order
names_less : (p : ℕ) (x y : SlotKey) → x.0 ≡ p → y.0 ≡ p → place_cmp x y ≡ Less → name_cmp (x.1, x.2) (y.1, y.2) ≡ Less
names_less p x y e f less =
    let tie : nat_cmp x.0 y.0 ≡ Equal = ap (λ z. nat_cmp z y.0) (e ∙ sym f) ∙ tied_itself nat_cmp_total y.0 in
    ap (λ o. ordering_then (ordering_then o (slice_cmp nat_cmp x.1 y.1)) (nat_cmp x.2 y.2)) (sym tie) ∙ less

pairs_below : (p : ℕ) (x : SlotKey) (ks : List SlotKey) → x.0 ≡ p → AllByRecursion (λ y. place_cmp x y ≡ Less) ks → below_all name_cmp (x.1, x.2) (pairs p ks) ≡ true
pairs_below p x [] e all = refl
pairs_below p x (k ∷ ks) e all =
    elim (k.0 == p) as (λ b. (k.0 == p) ≡ b → below_all name_cmp (x.1, x.2) (cond b (((k.1, k.2), k.2) ∷ pairs p ks) (pairs p ks)) ≡ true) [
      | true ↦ λ h. and_from _ _ (ap is_lt (names_less p x k e (eqb-true k.0 p h) all.0)) (pairs_below p x ks e all.1)
      | false ↦ λ h. pairs_below p x ks e all.1
    ] refl

pairs_sorted : (p : ℕ) (ks : List SlotKey) → IsStrictlySortedBy place_cmp ks → is_sorted name_cmp (pairs p ks) ≡ true
unfolding IsStrictlySortedBy
pairs_sorted p [] s = refl
pairs_sorted p (k ∷ ks) s =
    elim (k.0 == p) as (λ b. (k.0 == p) ≡ b → is_sorted name_cmp (cond b (((k.1, k.2), k.2) ∷ pairs p ks) (pairs p ks)) ≡ true) [
      | true ↦ λ h. and_from _ _ (pairs_below p k ks (eqb-true k.0 p h) s.0) (pairs_sorted p ks s.1)
      | false ↦ λ h. pairs_sorted p ks s.1
    ] refl

-- a name and an inode are found among them where the index has their place
first_of : (t : Bool) (rest : Bool) (i k : ℕ) → (t ≡ true → i ≡ k) → cond t (Some k) (marked rest i) ≡ marked (t || rest) i
first_of true rest i k same = ap (λ z. Some z) (sym (same refl))
first_of false rest i k same = refl

find_pairs : (p : ℕ) (n : List ℕ) (i : ℕ) (ks : List SlotKey) → find name_cmp (n, i) (pairs p ks) ≡ marked (list_any (λ k. is_eq (place_cmp (p, n, i) k)) ks) i
find_pairs p n i [] = refl
find_pairs p n i (k ∷ ks) =
    let rest = list_any (λ k. is_eq (place_cmp (p, n, i) k)) ks in
    let ih = find_pairs p n i ks in
    elim (k.0 == p) as (λ b. (k.0 == p) ≡ b → find name_cmp (n, i) (cond b (((k.1, k.2), k.2) ∷ pairs p ks) (pairs p ks)) ≡ marked (is_eq (place_cmp (p, n, i) k) || rest) i) [
      | true ↦ λ h.
          let dir : nat_cmp p k.0 ≡ Equal = ap (nat_cmp p) (eqb-true k.0 p h) ∙ tied_itself nat_cmp_total p in
          ap (cond (is_eq (name_cmp (n, i) (k.1, k.2))) (Some k.2)) ih
          ∙ first_of (is_eq (name_cmp (n, i) (k.1, k.2))) rest i k.2 (λ t. eqb-true i k.2 (and_parts _ _ (sym (name_test (n, i) (k.1, k.2)) ∙ t)).1)
          ∙ ap (λ o. marked (is_eq (ordering_then (ordering_then o (slice_cmp nat_cmp n k.1)) (nat_cmp i k.2)) || rest) i) (sym dir)
      | false ↦ λ h.
          let apart : (p == k.0) ≡ false = ne_eqb p k.0 (λ e. not_both (k.0 == p) (eq-eqb k.0 p (sym e)) h) in
          ih ∙ ap (λ b. marked (b || rest) i) (sym (place_test (p, n, i) k ∙ ap (λ b. (b && bytes_eq n k.1) && (i == k.2)) apart))
    ] refl

-- ---- the same of the slots
-- what a scan lists has a name and an inode exactly where the inode's slot stands at that name
pub turned : (a b : List ℕ) → bytes_eq a b ≡ bytes_eq b a
turned a b = nat_list_eq_equiv.symm a b

listed_first : (n m : List ℕ) (i k : ℕ) (rest : Option ℕ) → (i == k) ≡ true → rest ≡ None → cond (bytes_eq n m && (i == k)) (Some k) rest ≡ marked (bytes_eq m n) i
listed_first n m i k rest same none =
    ap (λ b. cond (bytes_eq n m && b) (Some k) rest) same
    ∙ ap (λ z. cond (bytes_eq n m && true) (Some k) z) none
    ∙ ap (λ b. cond (b && true) (Some k) None) (turned n m)
    ∙ (elim (bytes_eq m n) as (λ b. cond (b && true) (Some k) None ≡ marked b i) [
      | true ↦ ap (λ z. Some z) (sym (eqb-true i k same))
      | false ↦ refl
    ])

listed_later : (n m : List ℕ) (i k : ℕ) (rest : Option ℕ) → (i == k) ≡ false → cond (bytes_eq n m && (i == k)) (Some k) rest ≡ rest
listed_later n m i k rest apart =
    ap (λ b. cond (bytes_eq n m && b) (Some k) rest) apart ∙ (elim (bytes_eq n m) as (λ b. cond (b && false) (Some k) rest ≡ rest) [ true ↦ refl | false ↦ refl ])

pub find_named : (p : ℕ) (n : List ℕ) (i : ℕ) (es : List (ℕ × Slot)) → is_sorted nat_cmp es ≡ true → find name_cmp (n, i) (named_among p es) ≡ marked (is_slot_at (find nat_cmp i es) p n) i
find_named p n i [] s = refl
find_named p n i (e ∷ es) s =
    let parts : (below_all nat_cmp e.0 es ≡ true) × (is_sorted nat_cmp es ≡ true) = and_parts _ _ s in
    let ih = find_named p n i es parts.1 in
    let test : is_eq (name_cmp (n, i) (e.1.name, e.0)) ≡ bytes_eq n e.1.name && (i == e.0) = name_test (n, i) (e.1.name, e.0) in
    elim (e.1.parent == p) as (λ b. (e.1.parent == p) ≡ b
    → find name_cmp (n, i) (cond b (((e.1.name, e.0), e.0) ∷ named_among p es) (named_among p es)) ≡ marked (is_slot_at (find nat_cmp i (e ∷ es)) p n) i) [
      | true ↦ λ here. elim (i == e.0) as (λ t. (i == e.0) ≡ t
          → cond (is_eq (name_cmp (n, i) (e.1.name, e.0))) (Some e.0) (find name_cmp (n, i) (named_among p es)) ≡ marked (is_slot_at (find nat_cmp i (e ∷ es)) p n) i) [
            | true ↦ λ same.
                let equal : i ≡ e.0 = eqb-true i e.0 same in
                let none : find nat_cmp i es ≡ None = none_above i e.0 es (omega arith) parts.0 in
                ap (λ b. cond b (Some e.0) (find name_cmp (n, i) (named_among p es))) test
                ∙ listed_first n e.1.name i e.0 (find name_cmp (n, i) (named_among p es)) same (ih ∙ ap (λ o. marked (is_slot_at o p n) i) none)
                ∙ ap (λ b. marked (b && bytes_eq e.1.name n) i) (sym here)
                ∙ ap (λ b. marked (is_slot_at (cond b (Some e.1) (find nat_cmp i es)) p n) i) (sym (unsigned_tied i e.0 ∙ same))
            | false ↦ λ apart.
                ap (λ b. cond b (Some e.0) (find name_cmp (n, i) (named_among p es))) test
                ∙ listed_later n e.1.name i e.0 (find name_cmp (n, i) (named_among p es)) apart ∙ ih
                ∙ ap (λ b. marked (is_slot_at (cond b (Some e.1) (find nat_cmp i es)) p n) i) (sym (unsigned_tied i e.0 ∙ apart))
          ] refl
      | false ↦ λ out. ih ∙ ap (λ b. marked b i) (sym (passed_by p n e es i parts.0 (ap (λ b. b && bytes_eq e.1.name n) out)))
    ] refl

-- ---- both are the same
pub places_listed : (m : SlotMap) (at : BTreeSet SlotKey) (p : ℕ) → IsIndex m at → IsStrictlySortedBy place_cmp at.keys → map (λ (k : SlotKey). k.2) (filter (is_below p) at.keys) ≡ entries_in m p
places_listed m at p index ordered =
    let ps = pairs p at.keys in
    let sorted : T (is_sorted name_cmp ps) = subst T (sym (pairs_sorted p at.keys ordered)) tt in
    let same : from_sorted {R = name_cmp} ps ≡ from_entries (named_among p (entries m)) = same_map name_cmp_total names_same _ _ (λ q.
    get-from_sorted name_cmp ps q sorted ∙ find_pairs p q.0 q.1 at.keys ∙ ap (λ b. marked b q.1) (index p q.0 q.1 ∙ ap (λ o. is_slot_at o p q.0) (get-entries m q.1))
    ∙ sym (get-from_entries name_cmp_total (named_among p (entries m)) q ∙ find_named p q.0 q.1 (entries m) (is_true _ (entries_sorted m)))) in
    sym (pairs_inodes p at.keys) ∙ ap (map (λ e. e.1)) (sym (entries-from_sorted name_cmp ps sorted)) ∙ ap (λ z. map (λ e. e.1) (entries z)) same
