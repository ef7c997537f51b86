-- There is a free inode where the rows and the inodes that were given up are few enough.
use Rattle.std.proofs.Common.{◌≡◌, ◌≢◌, ℕ, zero, suc, ◌+◌, ◌-◌, ◌<◌, ◌≤◌, inl, inr, List, [], ◌∷◌, ◌++◌, length, map, refl, sym, ap, subst, arith, ◌∙◌}
use Rattle.std.specs.Prelude.{true, false, cond, not, ◌||◌, ◌==◌}
use Rattle.std.specs.List.{filter}
use Rattle.std.specs.declared.option.Option.{Option}
use Rattle.std.specs.declared.option.Option.TheVariants.{None, Some}
use Rattle.std.specs.Ordering.{nat_cmp}
use Rattle.std.specs.Cmp.{unsigned_tied}
use Rattle.std.specs.FinMap.{get, find, entries, get-entries, len, len-entries}
use Rattle.std.proofs.lemmas.Bool.{cases_eq, cases_Bool, eq-eqb, ne_eqb}
use Rattle.std.proofs.lemmas.List.{length-append, length-map}
use Rattle.tree_model.specs.declared.rows.Row.{Row}
use Rattle.tree_model.specs.Rows.{Rows}
use Rattle.tree_cuts.specs.Calls.{Charged}
use Rattle.image_model.specs.Carrying.{inode_in}
use Rattle.front_laws.specs.Inodes.{given, has, IsFree}
use Rattle.front_laws.specs.Laws.{AFreeInodeIsThere}

-- ---- where each of so many numbers is in a list, the list is as long

-- a list without one number
abbrev others : ℕ → List ℕ → List ℕ
others i xs = filter (λ x. not (x == i)) xs

has_others : (i j : ℕ) (xs : List ℕ) → i ≢ j → has j xs ≡ true → has j (others i xs) ≡ true
has_others i j [] n e = e
has_others i j (x ∷ xs) n e = elim (cases_eq x i) [
  | inl p ↦
      let z : (x == j) ≡ false = ne_eqb x j (λ s. n (sym p ∙ s)) in
      subst (λ b. has j (cond (not b) (x ∷ others i xs) (others i xs)) ≡ true) (sym (eq-eqb x i p)) (has_others i j xs n (ap (λ b. b || has j xs) (sym z) ∙ e))
  | inr p ↦ subst (λ b. has j (cond (not b) (x ∷ others i xs) (others i xs)) ≡ true) (sym (ne_eqb x i p))
      (elim (x == j) as (λ b. (b || has j xs) ≡ true → (b || has j (others i xs)) ≡ true) [ true ↦ λ q. refl | false ↦ λ q. has_others i j xs n q ] e)
]

fewer : (i : ℕ) (xs : List ℕ) → length (others i xs) ≤ length xs
fewer i [] = omega arith
fewer i (x ∷ xs) = let h = fewer i xs in elim (x == i) as (λ b. length (cond (not b) (x ∷ others i xs) (others i xs)) ≤ length (x ∷ xs)) [ true ↦ omega arith | false ↦ omega arith ]

one_fewer : (i : ℕ) (xs : List ℕ) → has i xs ≡ true → length (others i xs) < length xs
one_fewer i [] e = absurd (cc)
one_fewer i (x ∷ xs) e = elim (x == i) as (λ b. (b || has i xs) ≡ true → length (cond (not b) (x ∷ others i xs) (others i xs)) < length (x ∷ xs)) [
  | true ↦ λ p. let h = fewer i xs in omega arith
  | false ↦ λ p. let h = one_fewer i xs p in omega arith
] e

pigeons : (k i : ℕ) (xs : List ℕ) → ((j : ℕ) → i ≤ j → j < i + k → has j xs ≡ true) → k ≤ length xs
pigeons zero i xs f = omega arith
pigeons (suc k) i xs f =
    let h = pigeons k (i + 1) (others i xs) (λ j a b. has_others i j xs (λ (e : i ≡ j). absurd (omega arith)) (f j (omega arith) (omega arith))) in
    let g = one_fewer i xs (f i (omega arith) (omega arith)) in
    omega arith

-- ---- the inodes that are taken

has_left : (j : ℕ) (xs ys : List ℕ) → has j xs ≡ true → has j (xs ++ ys) ≡ true
has_left j [] ys e = absurd (cc)
has_left j (x ∷ xs) ys e = elim (x == j) as (λ b. (b || has j xs) ≡ true → (b || has j (xs ++ ys)) ≡ true) [ true ↦ λ p. refl | false ↦ λ p. has_left j xs ys p ] e

has_right : (j : ℕ) (xs ys : List ℕ) → has j ys ≡ true → has j (xs ++ ys) ≡ true
has_right j [] ys e = e
has_right j (x ∷ xs) ys e = elim (x == j) as (λ b. (b || has j (xs ++ ys)) ≡ true) [ true ↦ refl | false ↦ has_right j xs ys e ]

not_has : (j : ℕ) (xs : List ℕ) → has j xs ≡ false → has j xs ≡ true → ⊥
not_has j xs p q = let z : true ≡ false = sym q ∙ p in cc

module _ (inodes : List ℕ) where
  -- the inodes of the rows
  abbrev of_rows : List (ℕ × Row) → List ℕ
  of_rows es = map (λ e. inode_in inodes e.0) es

  found_has : (s : ℕ) (r : Row) (es : List (ℕ × Row)) → find nat_cmp s es ≡ Some r → has (inode_in inodes s) (of_rows es) ≡ true
  found_has s r [] p = absurd (let z : ◌≡◌ {A = Option Row} None (Some r) = p in cc)
  found_has s r (e ∷ es) p = elim (cases_eq s e.0) [
    | inl same ↦ ap (λ b. b || has (inode_in inodes s) (of_rows es)) (eq-eqb (inode_in inodes e.0) (inode_in inodes s) (ap (inode_in inodes) (sym same)))
    | inr ne ↦
        let rest = found_has s r es (sym (ap (λ z. cond z (Some e.1) (find nat_cmp s es)) (unsigned_tied s e.0 ∙ ne_eqb s e.0 ne)) ∙ p) in
        elim (inode_in inodes e.0 == inode_in inodes s) as (λ b. (b || has (inode_in inodes s) (of_rows es)) ≡ true) [ true ↦ refl | false ↦ rest ]
  ]

  row_has : (t : Rows) (s : ℕ) (r : Row) → get t s ≡ Some r → has (inode_in inodes s) (of_rows (entries t)) ≡ true
  row_has t s r is = found_has s r (entries t) (sym (get-entries t s) ∙ is)

  -- those, and those that were given up
  abbrev taken : Rows → List (ℕ × Charged) → List ℕ
  taken t unsealed = of_rows (entries t) ++ given inodes unsealed

  many_taken : (t : Rows) (unsealed : List (ℕ × Charged)) → length (taken t unsealed) ≡ len t + length (given inodes unsealed)
  many_taken t unsealed =
      let a = length-append (of_rows (entries t)) (given inodes unsealed) in
      let b = length-map (entries t) (λ (e : ℕ × Row). inode_in inodes e.0) in
      let c = len-entries t in omega (arith, a, b, c)

  -- an inode that isn't taken is free
  untaken_free : (t : Rows) (unsealed : List (ℕ × Charged)) (i : ℕ) → has i (taken t unsealed) ≡ false → IsFree inodes t unsealed i
  untaken_free t unsealed i isnt = record {
    no_row = λ s r is e. not_has i (taken t unsealed) isnt
        (has_left i (of_rows (entries t)) (given inodes unsealed) (subst (λ z. has z (of_rows (entries t)) ≡ true) e (row_has t s r is)));
    not_given = elim (cases_Bool (has i (given inodes unsealed))) [
      | inl p ↦ absurd (not_has i (taken t unsealed) isnt (has_right i (of_rows (entries t)) (given inodes unsealed) p))
      | inr p ↦ p
    ];
  }

pub a_free_inode_is_there : AFreeInodeIsThere
a_free_inode_is_there count inodes t unsealed have plain few none =
    let all : List ℕ = taken inodes t unsealed in
    let root : has 0 all ≡ true = has_left 0 (of_rows inodes (entries t)) (given inodes unsealed)
    (subst (λ z. has z (of_rows inodes (entries t)) ≡ true) have.root (row_has inodes t 0 _ plain.tree.root.1)) in
    let each : (j : ℕ) → 2 ≤ j → j < 2 + (count - 2) → has j all ≡ true = λ j low high. elim (cases_Bool (has j all)) [
      | inl p ↦ p
      | inr p ↦ absurd (none j low (omega arith) (untaken_free inodes t unsealed j p))
    ] in
    let h = pigeons (count - 2) 2 (others 0 all) (λ j low high. has_others 0 j all (λ (e : 0 ≡ j). absurd (omega arith)) (each j low high)) in
    let g = one_fewer 0 all root in
    let m = many_taken inodes t unsealed in
    absurd (omega (arith, few, h, g, m))
