-- The preorder of a tree from a row has the rows below it, each once.
use Rattle.std.proofs.Common.{◌≡◌, ℕ, zero, suc, ◌+◌, ◌-◌, ◌<◌, ◌≤◌, List, [], ◌∷◌, refl, sym, ap, subst, ◌∙◌, inl, inr, arith}
use Rattle.std.proofs.Math.Path.{ap₂}
use Rattle.std.specs.Prelude.{true, false, cond, is_some, Option, Some, None, flat_map}
use Rattle.std.specs.declared.cmp.Ordering.{Ordering}
use Rattle.std.specs.declared.cmp.Ordering.TheVariants.{Less, Equal}
use Rattle.std.specs.Ordering.{is_eq, eq_by_cmp}
use Rattle.std.specs.FinMap.{get, len, find, entries_sorted, is_sorted, get-entries}
use Rattle.std.specs.FinMap.Entries.{below_all}
use Rattle.std.proofs.lemmas.Bool.{and_parts, cases_Bool, cases_eq, cases_lt}
use Rattle.std.proofs.lemmas.Cmp.{nat_list_cmp_total, tied_itself}
use Rattle.std.proofs.lemmas.Option.{same_Some, some_pair_parts}
use Rattle.tree_model.specs.Rows.{Rows, place, place_of, parent_in, parent_of, up, up_from, IsEntry, IsTree}
use Rattle.tree_model.specs.Entries.{children, entries_of}
use Rattle.tree_model.proofs.MapView.{tied, bytes_same}
use Rattle.tree_model.proofs.Index.{bytes_cmp, is_less, is_true}
use Rattle.tree_model.proofs.Found.{entry_stands, entry_is}
use Rattle.tree_model.proofs.Chains.{up_first, up_last, no_circle, parent_entry, root_top}
use Rattle.tree_model.proofs.Above.{Chain, chain_short, dir_chain}
use Rattle.image_model.specs.Trees.{preorder}
use Rattle.image_model.proofs.PreorderLists.{In, Once, in_flat, in_flattened, once_flat}

-- ---- entries in order of their names

in_above : (n : List ℕ) (es : List (List ℕ × ℕ)) (e : List ℕ × ℕ) → below_all bytes_cmp n es ≡ true → In es e → bytes_cmp n e.0 ≡ Less
in_above n [] e below h = absurd h
in_above n (d ∷ ds) e below (inl same) = subst (λ z. bytes_cmp n z.0 ≡ Less) same (is_less _ (and_parts _ _ below).0)
in_above n (d ∷ ds) e below (inr h) = in_above n ds e (and_parts _ _ below).1 h

not_less : (n : List ℕ) → bytes_cmp n n ≡ Less → ⊥
not_less n p = let z : ◌≡◌ {A = Ordering} Less Equal = sym p ∙ tied_itself nat_list_cmp_total n in cc

find_here : (d : List ℕ × ℕ) (ds : List (List ℕ × ℕ)) → find bytes_cmp d.0 (d ∷ ds) ≡ Some d.1
find_here d ds = ap (λ o. cond (is_eq o) (Some d.1) (find bytes_cmp d.0 ds)) (tied_itself nat_list_cmp_total d.0)

-- each entry is found under its name
in_found : (es : List (List ℕ × ℕ)) (e : List ℕ × ℕ) → is_sorted bytes_cmp es ≡ true → In es e → find bytes_cmp e.0 es ≡ Some e.1
in_found [] e s h = absurd h
in_found (d ∷ ds) e s (inl same) = subst (λ z. find bytes_cmp z.0 (d ∷ ds) ≡ Some z.1) same (find_here d ds)
in_found (d ∷ ds) e s (inr h) =
    let parts = and_parts _ _ s in
    elim (cases_Bool (eq_by_cmp bytes_cmp e.0 d.0)) [
      | inl yes_ ↦ absurd (
          let same : e.0 ≡ d.0 = bytes_same e.0 d.0 (tied _ yes_) in
          not_less d.0 (ap (bytes_cmp d.0) (sym same) ∙ in_above d.0 ds e parts.0 h))
      | inr no_ ↦ ap (λ b. cond b (Some d.1) (find bytes_cmp e.0 ds)) no_ ∙ in_found ds e parts.1 h
    ]

-- what is found is an entry
found_in : (n : List ℕ) (x : ℕ) (es : List (List ℕ × ℕ)) → find bytes_cmp n es ≡ Some x → In es (n, x)
found_in n x [] f = absurd (cc)
found_in n x (d ∷ ds) f = elim (eq_by_cmp bytes_cmp n d.0) as (λ b. eq_by_cmp bytes_cmp n d.0 ≡ b → cond b (Some d.1) (find bytes_cmp n ds) ≡ Some x → In (d ∷ ds) (n, x)) [
  | true ↦ λ p q. inl (ap₂ (λ (m : List ℕ) (y : ℕ). (m, y)) (sym (bytes_same n d.0 (tied _ p))) (same_Some d.1 x q))
  | false ↦ λ p q. inr (found_in n x ds q)
] refl f

once_sorted : (es : List (List ℕ × ℕ)) → is_sorted bytes_cmp es ≡ true → Once es
once_sorted [] s = tt
once_sorted (d ∷ ds) s =
    let parts = and_parts _ _ s in
    (λ h. not_less d.0 (in_above d.0 ds d parts.0 h), once_sorted ds parts.1)

-- ---- chains of parents

up_sum : (f : ℕ → Option ℕ) (j k m x y : ℕ) → m ≡ j + k → up f k x ≡ Some y → up f m x ≡ up f j y
up_sum f zero k m x y e p = let same : m ≡ k = omega arith in ap (λ n. up f n x) same ∙ p
up_sum f (suc j) k m x y e p = let same : m ≡ suc (j + k) = omega arith in ap (λ n. up f n x) same ∙ ap (up_from f) (up_sum f j k (j + k) x y refl p)

module _ (t : Rows) (tree : IsTree t) where
  sorted : (d : ℕ) → is_sorted bytes_cmp (children t d) ≡ true
  sorted d = is_true _ (entries_sorted (entries_of t d))

  pub in_child : (d : ℕ) (e : List ℕ × ℕ) → In (children t d) e → IsEntry t d e.0 e.1
  in_child d e h = entry_stands t d e.0 e.1 (get-entries (entries_of t d) e.0 ∙ in_found (children t d) e (sorted d) h)

  child_in : (d : ℕ) (n : List ℕ) (x : ℕ) → IsEntry t d n x → In (children t d) (n, x)
  child_in d n x e = found_in n x (children t d) (sym (get-entries (entries_of t d) n) ∙ (entry_is t tree d n x).1 e)

  -- ---- what is in the preorder

  abbrev flat_below : ℕ → ℕ → List ℕ
  flat_below l x = flat_map (λ e. preorder l t e.1) (children t x)

  pub below_in : (levels k x y : ℕ) → k ≤ levels → up (parent_of t) k y ≡ Some x → In (preorder levels t x) y
  below_in zero zero x y le p = inl (let q : ◌≡◌ {A = Option ℕ} (Some y) (Some x) = p in cc)
  below_in (suc l) zero x y le p = inl (let q : ◌≡◌ {A = Option ℕ} (Some y) (Some x) = p in cc)
  below_in zero (suc k) x y le p = absurd (omega arith)
  below_in (suc l) (suc k) x y le p = inr (elim (up (parent_of t) k y) as (λ o. up (parent_of t) k y ≡ o → up_from (parent_of t) o ≡ Some x → In (flat_below l x) y) [
    | None ↦ λ e q. absurd (cc)
    | Some z ↦ λ e q.
        let w = parent_entry (place_of t z) x q in
        in_flat (λ (c : List ℕ × ℕ). preorder l t c.1) (children t x) (w.0, z) y (child_in x w.0 z w.1) (below_in l k z y (omega arith) e)
  ] refl p)

  pub in_below : (levels x y : ℕ) → In (preorder levels t x) y → (k : ℕ) × (up (parent_of t) k y ≡ Some x)
  in_below zero x y (inl e) = (zero, ap (λ z. Some z) (sym e))
  in_below zero x y (inr h) = absurd h
  in_below (suc l) x y (inl e) = (zero, ap (λ z. Some z) (sym e))
  in_below (suc l) x y (inr h) =
      let w = in_flattened (λ (c : List ℕ × ℕ). preorder l t c.1) (children t x) y h in
      let ih = in_below l w.0.1 y w.1.1 in
      (suc ih.0, ap (up_from (parent_of t)) ih.1 ∙ ap parent_in (in_child x w.0 w.1.0))

  -- ---- each once

  no_ring : (m c x : ℕ) → up (parent_of t) m x ≡ Some 0 → up (parent_of t) (suc c) x ≡ Some x → ⊥
  no_ring m c x p q = no_circle (parent_of t) m c x 0 (root_top t tree) p q

  -- of two rows in one directory, none is below the other
  not_further : (m j k d a b y : ℕ) → up (parent_of t) m d ≡ Some 0 → parent_of t a ≡ Some d → parent_of t b ≡ Some d
      → up (parent_of t) j y ≡ Some a → up (parent_of t) k y ≡ Some b → j < k → ⊥
  not_further m j k d a b y root pa pb qa qb less =
      let more : ℕ = k - j - 1 in
      let sum : k ≡ suc more + j = omega arith in
      let up_there : up (parent_of t) more d ≡ Some b = sym (up_first (parent_of t) more a d pa) ∙ sym (up_sum (parent_of t) (suc more) j k y a sum qa) ∙ qb in
      no_ring m more d root (ap (up_from (parent_of t)) up_there ∙ pb)

  one_way : (m j k d a b y : ℕ) → up (parent_of t) m d ≡ Some 0 → parent_of t a ≡ Some d → parent_of t b ≡ Some d
      → up (parent_of t) j y ≡ Some a → up (parent_of t) k y ≡ Some b → a ≡ b
  one_way m j k d a b y root pa pb qa qb = elim (cases_eq j k) [
    | inl same ↦ same_Some a b (sym qa ∙ ap (λ n. up (parent_of t) n y) same ∙ qb)
    | inr other ↦ elim (cases_lt j k) [
      | inl less ↦ absurd (not_further m j k d a b y root pa pb qa qb less)
      | inr more ↦ absurd (not_further m k j d b a y root pb pa qb qa (omega arith))
    ]
  ]

  same_child : (d : ℕ) (a b : List ℕ × ℕ) → In (children t d) a → In (children t d) b → a.1 ≡ b.1 → a ≡ b
  same_child d a b h k e =
      let p : place_of t a.1 ≡ Some (d, a.0) = in_child d a h in
      let q : place_of t b.1 ≡ Some (d, b.0) = in_child d b k in
      let names : a.0 ≡ b.0 = (some_pair_parts d d a.0 b.0 (sym p ∙ ap (place_of t) e ∙ q)).1 in
      ap₂ (λ (m : List ℕ) (y : ℕ). (m, y)) names e

  pub once_preorder : (levels x m : ℕ) → up (parent_of t) m x ≡ Some 0 → Once (preorder levels t x)
  once_preorder zero x m root = (λ h. h, tt)
  once_preorder (suc l) x m root = (
    λ h.
        let w = in_flattened (λ (c : List ℕ × ℕ). preorder l t c.1) (children t x) x h in
        let b = in_below l w.0.1 x w.1.1 in
        no_ring m b.0 x root (ap (up_from (parent_of t)) b.1 ∙ ap parent_in (in_child x w.0 w.1.0)),
    once_flat (λ (c : List ℕ × ℕ). preorder l t c.1) (children t x) (once_sorted (children t x) (sorted x))
        (λ e h. once_preorder l e.1 (suc m) (up_first (parent_of t) m e.1 x (ap parent_in (in_child x e h)) ∙ root))
        (λ a b y h k p q.
        let down = in_below l a.1 y p in
        let other = in_below l b.1 y q in
        same_child x a b h k (one_way m down.0 other.0 x a.1 b.1 y root (ap parent_in (in_child x a h)) (ap parent_in (in_child x b k)) down.1 other.1)),
  )

  -- ---- as many levels as there are rows are enough

  pub is_row : (x y : ℕ) → parent_of t x ≡ Some y → is_some (get t x) ≡ true
  is_row x y e = elim (get t x) as (λ o. parent_in (place o) ≡ Some y → is_some o ≡ true) [
    | None ↦ λ p. absurd (let z : ◌≡◌ {A = Option ℕ} None (Some y) = p in cc)
    | Some r ↦ λ p. refl
  ] e

  pub row_chain : (m x : ℕ) → is_some (get t x) ≡ true → up (parent_of t) m x ≡ Some 0 → Chain (parent_of t) t m x
  row_chain zero x there p = there
  row_chain (suc m) x there p = (
    there,
    elim (parent_of t x) as (λ o. parent_of t x ≡ o → (y : ℕ) × (o ≡ Some y) × Chain (parent_of t) t m y) [
      | None ↦ λ e. absurd (let z : ◌≡◌ {A = Option ℕ} None (Some 0) = sym (up_last (parent_of t) m x e) ∙ p in cc)
      | Some y ↦ λ e.
          let w = parent_entry (place_of t x) y e in
          (y, refl, dir_chain t tree m y (tree.parents x y w.0 w.1) (sym (up_first (parent_of t) m x y e) ∙ p))
    ] refl,
  )

  pub root_row : is_some (get t 0) ≡ true
  root_row = ap (λ o. is_some o) tree.root.1

  pub rooted_in : (m x : ℕ) → is_some (get t x) ≡ true → up (parent_of t) m x ≡ Some 0 → In (preorder (len t) t 0) x
  rooted_in m x there p =
      let short : m < len t = chain_short (parent_of t) 0 (root_top t tree) m t x p (row_chain m x there p) in
      below_in (len t) m 0 x (omega arith) p
