-- A directory as a map from names to inodes.
use Rattle.std.proofs.Common.{◌≡◌, ℕ, true, false, ◌==◌, List, [], ◌∷◌, refl, sym, ap, subst, ◌∙◌, arith}
use Rattle.std.specs.Prelude.{cond, ◌&&◌, T, map}
use Rattle.std.specs.declared.option.Option.{Option}
use Rattle.std.specs.declared.option.Option.TheVariants.{None, Some}
use Rattle.std.specs.declared.cmp.Ordering.{Ordering}
use Rattle.std.specs.declared.cmp.Ordering.TheVariants.{Less, Equal, Greater}
use Rattle.std.specs.List.{AllByRecursion}
use Rattle.std.specs.Ordering.{nat_cmp, ordering_then, is_eq, is_lt}
use Rattle.std.specs.Cmp.{tied_then}
use Rattle.std.specs.Cmp.Lexicographic.{slice_cmp}
use Rattle.std.specs.Str.{bytes_eq}
use Rattle.std.specs.FinMap.{IsAntisymmetric, get, find, is_sorted, entries, entries_sorted, values, from_entries, from_sorted, same_map, get-from_entries, get-from_sorted, entries-from_sorted, nat_cmp-IsAntisymmetric, slice_cmp-IsAntisymmetric}
use Rattle.std.specs.FinMap.Entries.{below_all}
use Rattle.std.proofs.lemmas.Bool.{and_parts, and_from}
use Rattle.std.proofs.lemmas.Cmp.{nat_cmp_total, nat_list_cmp_total, tied_itself}
use Rattle.std.proofs.lemmas.Map.Text.{is_eq-slice_cmp}
use Rattle.std.proofs.lemmas.Option.{same_Some}
use Rattle.std.proofs.lemmas.Slice.Eq.{bytes_eq-Decides}
use Rattle.flat_dirs.specs.declared.slot.Slot.{Slot}
use Rattle.flat_dirs.specs.Slots.{SlotMap, is_slot_at, IsLeast, find_among, find_in, name_cmp, named_among, entries_in, placed_among, directory, AreApart}
use Rattle.flat_dirs.proofs.Scan.{is_true, is_less, least_by_scan}
use Rattle.flat_dirs.proofs.Listing.{turned, marked}
use Rattle.flat_dirs.proofs.Listed.{IsListed, listed_names, each_listed}

abbrev bytes_cmp : List ℕ → List ℕ → Ordering
bytes_cmp = slice_cmp nat_cmp

bytes_same : IsAntisymmetric bytes_cmp
bytes_same = slice_cmp-IsAntisymmetric nat_cmp-IsAntisymmetric

-- ---- finding
find_placed : (p : ℕ) (n : List ℕ) (es : List (ℕ × Slot)) → find bytes_cmp n (placed_among p es) ≡ find_among p n es
find_placed p n [] = refl
find_placed p n (e ∷ es) =
    let ih = find_placed p n es in
    let test : is_eq (bytes_cmp n e.1.name) ≡ bytes_eq e.1.name n = is_eq-slice_cmp n e.1.name ∙ turned n e.1.name in
    elim (e.1.parent == p) as (λ b. find bytes_cmp n (cond b ((e.1.name, e.0) ∷ placed_among p es) (placed_among p es)) ≡ cond (b && bytes_eq e.1.name n) (Some e.0) (find_among p n es)) [
      | true ↦ λ i. cond (test i) (Some e.0) (ih i)
      | false ↦ ih
    ]

pub found_in_directory : (m : SlotMap) (p : ℕ) (n : List ℕ) → find_in m p n ≡ get (directory m p) n
found_in_directory m p n = sym (get-from_entries nat_list_cmp_total (placed_among p (entries m)) n ∙ find_placed p n (entries m))

-- ---- listing
-- the names without their own inodes
abbrev short : List ((List ℕ × ℕ) × ℕ) → List (List ℕ × ℕ)
short es = map (λ e. (e.0.0, e.1)) es

short_inodes : (es : List ((List ℕ × ℕ) × ℕ)) → map (λ e. e.1) es ≡ map (λ e. e.1) (short es)
short_inodes [] = refl
short_inodes (e ∷ es) = ap (λ l. e.1 ∷ l) (short_inodes es)

-- where names are apart, they alone are in order
names_apart : (m : SlotMap) (p : ℕ) (x e : (List ℕ × ℕ) × ℕ) → AreApart m → IsListed m p x → IsListed m p e → name_cmp x.0 e.0 ≡ Less → bytes_cmp x.0.0 e.0.0 ≡ Less
names_apart m p x e apart lx le less =
    elim (bytes_cmp x.0.0 e.0.0) as (λ o. bytes_cmp x.0.0 e.0.0 ≡ o → ordering_then o (nat_cmp x.0.1 e.0.1) ≡ Less → o ≡ Less) [
      | Less ↦ λ _ _. refl
      | Equal ↦ λ tie h.
          let same : x.1 ≡ e.1 = apart x.1 e.1 p x.0.0 lx.stands (subst (λ n. is_slot_at (get m e.1) p n ≡ true) (sym (bytes_same x.0.0 e.0.0 tie)) le.stands) in
          let inodes : nat_cmp x.0.1 e.0.1 ≡ Equal = ap (λ z. nat_cmp z e.0.1) (lx.itself ∙ same ∙ sym le.itself) ∙ tied_itself nat_cmp_total e.0.1 in
          sym inodes ∙ h
      | Greater ↦ λ _ h. h
    ] refl less

short_below : (m : SlotMap) (p : ℕ) (x : (List ℕ × ℕ) × ℕ) (es : List ((List ℕ × ℕ) × ℕ)) → AreApart m → IsListed m p x → AllByRecursion (IsListed m p) es
    → below_all name_cmp x.0 es ≡ true → below_all bytes_cmp x.0.0 (short es) ≡ true
short_below m p x [] apart lx each h = refl
short_below m p x (e ∷ es) apart lx each h =
    let parts = and_parts _ _ h in
    and_from _ _ (ap is_lt (names_apart m p x e apart lx each.0 (is_less _ parts.0))) (short_below m p x es apart lx each.1 parts.1)

short_sorted : (m : SlotMap) (p : ℕ) (es : List ((List ℕ × ℕ) × ℕ)) → AreApart m → AllByRecursion (IsListed m p) es → is_sorted name_cmp es ≡ true → is_sorted bytes_cmp (short es) ≡ true
short_sorted m p [] apart each s = refl
short_sorted m p (e ∷ es) apart each s =
    let parts : (below_all name_cmp e.0 es ≡ true) × (is_sorted name_cmp es ≡ true) = and_parts _ _ s in
    and_from _ _ (short_below m p e es apart each.0 each.1 parts.0) (short_sorted m p es apart each.1 parts.1)

-- what is found by a name alone stands there
short_stands : (m : SlotMap) (p : ℕ) (n : List ℕ) (i : ℕ) (es : List ((List ℕ × ℕ) × ℕ)) → AllByRecursion (IsListed m p) es → find bytes_cmp n (short es) ≡ Some i → is_slot_at (get m i) p n ≡ true
short_stands m p n i [] each h = cc
short_stands m p n i (e ∷ es) each h =
    elim (is_eq (bytes_cmp n e.0.0)) as (λ b. is_eq (bytes_cmp n e.0.0) ≡ b → cond b (Some e.1) (find bytes_cmp n (short es)) ≡ Some i → is_slot_at (get m i) p n ≡ true) [
      | true ↦ λ tie is.
          let name : n ≡ e.0.0 = (bytes_eq-Decides n e.0.0).0 (sym (is_eq-slice_cmp n e.0.0) ∙ tie) in
          let inode : e.1 ≡ i = same_Some e.1 i is in
          sym (λ k. is_slot_at (get m (inode k)) p (sym name k)) ∙ each.0.stands
      | false ↦ λ _ is. short_stands m p n i es each.1 is
    ] refl h

-- where nothing is found by a name, it isn't found by the name and an inode
short_none : (n : List ℕ) (j : ℕ) (es : List ((List ℕ × ℕ) × ℕ)) → find bytes_cmp n (short es) ≡ None → find name_cmp (n, j) es ≡ None
short_none n j [] h = refl
short_none n j (e ∷ es) h =
    elim (is_eq (bytes_cmp n e.0.0)) as (λ b. is_eq (bytes_cmp n e.0.0) ≡ b → cond b (Some e.1) (find bytes_cmp n (short es)) ≡ None → find name_cmp (n, j) (e ∷ es) ≡ None) [
      | true ↦ λ tie is. absurd (cc)
      | false ↦ λ out is.
          ap (λ b. cond b (Some e.1) (find name_cmp (n, j) es)) (sym (tied_then (bytes_cmp n e.0.0) (nat_cmp j e.0.1)) ∙ ap (λ b. b && is_eq (nat_cmp j e.0.1)) out)
          ∙ short_none n j es is
    ] refl h

-- so it is the least that stands there
short_least : (m : SlotMap) (p : ℕ) (n : List ℕ) (es : List ((List ℕ × ℕ) × ℕ)) → AreApart m → AllByRecursion (IsListed m p) es
    → ((j : ℕ) → find name_cmp (n, j) es ≡ marked (is_slot_at (get m j) p n) j) → (r : Option ℕ) → find bytes_cmp n (short es) ≡ r → IsLeast (λ i. is_slot_at (get m i) p n) r
short_least m p n es apart each finds None is = λ j.
    elim (is_slot_at (get m j) p n) as (λ b. find name_cmp (n, j) es ≡ marked b j → b ≡ false) [
      | true ↦ λ h. let none = short_none n j es is in cc
      | false ↦ λ _. refl
    ] (finds j)
short_least m p n es apart each finds (Some i) is =
    let stands = short_stands m p n i es each is in
    (stands, λ j t. let same : i ≡ j = apart i j p n stands t in omega arith)

pub listed_in_directory : (m : SlotMap) (p : ℕ) → AreApart m → entries_in m p ≡ values (directory m p)
listed_in_directory m p apart =
    let all = from_entries {R = name_cmp} (named_among p (entries m)) in
    let es = entries all in
    let sorted : T (is_sorted bytes_cmp (short es)) = subst T (sym (short_sorted m p es apart (each_listed m p) (is_true _ (entries_sorted all)))) tt in
    let same : from_sorted {R = bytes_cmp} (short es) ≡ directory m p = same_map nat_list_cmp_total bytes_same _ _ (λ n.
    get-from_sorted bytes_cmp (short es) n sorted ∙ least_by_scan m p n (find bytes_cmp n (short es)) (short_least m p n es apart (each_listed m p) (listed_names m p n) _ refl)
    ∙ found_in_directory m p n) in
    short_inodes es ∙ ap (map (λ e. e.1)) (sym (entries-from_sorted bytes_cmp (short es) sorted)) ∙ ap (λ d. values d) same
