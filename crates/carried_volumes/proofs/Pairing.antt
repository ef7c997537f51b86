-- How many rows there are, told by pairing them with other rows.
use Rattle.std.proofs.Common.{◌≡◌, ◌≢◌, ℕ, zero, suc, ◌+◌, ◌-◌, ◌≤◌, ◌<◌, [], refl, sym, ap, subst, ◌∙◌, inl, inr, arith}
use Rattle.std.specs.Prelude.{true, false, cond, nat_lt, is_some, Option, Some, None}
use Rattle.std.specs.Ordering.{nat_cmp}
use Rattle.std.specs.Cmp.{nat_cmp_total, unsigned_tied}
use Rattle.std.specs.FinMap.{get, remove, len, empty, get-remove, get-empty, len-remove, len-empty, len-insert, empty_of_len, same_map, nat_cmp-IsAntisymmetric}
use Rattle.std.proofs.lemmas.Bool.{cases_eq, cases_lt, cases_Bool, eq-eqb, ne_eqb, lt-ltb, le-ltb}
use Rattle.tree_model.specs.declared.rows.Body.TheVariants.{File}
use Rattle.tree_model.specs.declared.rows.Row.{Row}
use Rattle.tree_model.specs.Rows.{Rows}
use Rattle.image_model.specs.Trees.{rows_below}
use Rattle.image_model.proofs.RowsBelow.{rows_are_those}

-- ---- a row less

pub taken : (t : Rows) (x : ℕ) → get (remove t x) x ≡ None
taken t x = get-remove nat_cmp_total t x x ∙ ap (λ b. cond b None (get t x)) (unsigned_tied x x ∙ eq-eqb x x refl)

pub beside : (t : Rows) (x y : ℕ) → y ≢ x → get (remove t x) y ≡ get t y
beside t x y ne = get-remove nat_cmp_total t x y ∙ ap (λ b. cond b None (get t y)) (unsigned_tied y x ∙ ne_eqb y x ne)

-- a row that is left is another one
pub left_is_other : (t : Rows) (x y : ℕ) → is_some (get (remove t x) y) ≡ true → y ≢ x
left_is_other t x y there e = absurd (let z : false ≡ true = sym (ap (λ o. is_some o) (ap (get (remove t x)) e ∙ taken t x)) ∙ there in cc)

some_rows : (t : Rows) (x : ℕ) → is_some (get t x) ≡ true → 0 < len t
some_rows t x there = elim (cases_eq (len t) 0) [
  | inl e ↦ absurd (let q : t ≡ empty = empty_of_len t e in let z : false ≡ true = sym (ap (λ o. is_some o) (ap (λ m. get m x) q ∙ get-empty nat_cmp x)) ∙ there in cc)
  | inr ne ↦ omega arith
]

pub without : (t : Rows) (x : ℕ) → is_some (get t x) ≡ true → len (remove t x) + 1 ≡ len t
without t x there =
    let some = some_rows t x there in
    let less : len (remove t x) ≡ len t - 1 = len-remove nat_cmp_total t x ∙ ap (λ b. cond b (len t - 1) (len t)) there in
    omega arith

-- ---- no more rows than others

no_rows : (t : Rows) → ((x : ℕ) → get t x ≡ None) → len t ≡ 0
no_rows t none = ap len (same_map nat_cmp_total nat_cmp-IsAntisymmetric t empty (λ q. none q ∙ sym (get-empty nat_cmp q))) ∙ len-empty nat_cmp Row

pub not_there : (o : Option Row) → is_some o ≡ false → o ≡ None
not_there None e = refl
not_there (Some r) e = absurd (let z : true ≡ false = e in cc)

-- Each row of t is paired with a row of u, and no two with the same one.
pub record ArePaired (pair : ℕ → ℕ → Type 0) (t u : Rows) : Type 0 where
  pub each : (x : ℕ) → is_some (get t x) ≡ true → (y : ℕ) × ((is_some (get u y) ≡ true) × pair x y)
  pub once : (x z y : ℕ) → pair x y → pair z y → x ≡ z

-- rows below k that are paired with rows of u are no more than these
pub fits : (pair : ℕ → ℕ → Type 0) (k : ℕ) (t u : Rows) → ((x : ℕ) → k ≤ x → get t x ≡ None) → ArePaired pair t u → len t ≤ len u
fits pair zero t u past p = let none = no_rows t (λ x. past x (omega arith)) in omega arith
fits pair (suc k) t u past p = elim (cases_Bool (is_some (get t k))) [
  | inl there ↦
      let w = p.each k there in
      let y : ℕ = w.0 in
      let rest : len (remove t k) ≤ len (remove u y) = fits pair k (remove t k) (remove u y)
      (λ x low. elim (cases_eq x k) [
        | inl e ↦ ap (get (remove t k)) e ∙ taken t k
        | inr ne ↦ beside t k x ne ∙ past x (omega arith)
      ])
      (record {
        each = λ x left.
            let ne : x ≢ k = left_is_other t k x left in
            let v = p.each x (ap (λ o. is_some o) (sym (beside t k x ne)) ∙ left) in
            (v.0, (ap (λ o. is_some o) (beside u y v.0 (λ e. ne (p.once x k y (subst (pair x) e v.1.1) w.1.1))) ∙ v.1.0, v.1.1));
        once = p.once;
      }) in
      let a : len (remove t k) + 1 ≡ len t = without t k there in
      let b : len (remove u y) + 1 ≡ len u = without u y w.1.0 in
      omega arith
  | inr none ↦ fits pair k t u (λ x low. elim (cases_eq x k) [
    | inl e ↦ ap (get t) e ∙ not_there (get t k) none
    | inr ne ↦ past x (omega arith)
  ]) p
]

-- ---- a row for each number below n

abbrev any_row : Row
any_row = record { parent = None; name = []; body = File [] }

abbrev pub full : ℕ → Rows
full n = rows_below (λ i. Some any_row) n

pub full_there : (n x : ℕ) → x < n → is_some (get (full n) x) ≡ true
full_there n x h = ap (λ o. is_some o) (rows_are_those (λ i. Some any_row) n x ∙ ap (λ b. cond b (Some any_row) None) (lt-ltb x n h))

pub full_past : (n x : ℕ) → n ≤ x → get (full n) x ≡ None
full_past n x h = rows_are_those (λ i. Some any_row) n x ∙ ap (λ b. cond b (Some any_row) None) (le-ltb x n h)

pub full_below : (n x : ℕ) → is_some (get (full n) x) ≡ true → x < n
full_below n x there = elim (cases_lt x n) [
  | inl below ↦ below
  | inr above ↦ absurd (let z : false ≡ true = sym (ap (λ o. is_some o) (full_past n x above)) ∙ there in cc)
]

pub full_len : (n : ℕ) → len (full n) ≡ n
full_len zero = len-empty nat_cmp Row
full_len (suc n) =
    let before : len (full n) ≡ n = full_len n in
    let new : len (full (suc n)) ≡ len (full n) + 1 =
    len-insert nat_cmp_total (full n) n any_row ∙ ap (λ o. cond (is_some o) (len (full n)) (len (full n) + 1)) (full_past n n (omega arith)) in
    omega arith

-- ---- rows of all numbers below n

-- there are n rows where just the numbers below n have one
pub len_of : (n : ℕ) (t : Rows) → ((x : ℕ) → is_some (get t x) ≡ nat_lt x n) → len t ≡ n
len_of n t just =
    let none : (x : ℕ) → n ≤ x → get t x ≡ None = λ x above. not_there (get t x) (just x ∙ le-ltb x n above) in
    let most : len t ≤ len (full n) = fits (λ x y. x ≡ y) n t (full n) none (record {
      each = λ x there. elim (cases_lt x n) [
        | inl below ↦ (x, (full_there n x below, refl))
        | inr above ↦ absurd (let z : false ≡ true = sym (ap (λ o. is_some o) (none x above)) ∙ there in cc)
      ];
      once = λ x z y a b. a ∙ sym b;
    }) in
    let least : len (full n) ≤ len t = fits (λ x y. x ≡ y) n (full n) t (full_past n) (record {
      each = λ x there. (x, (just x ∙ lt-ltb x n (full_below n x there), refl));
      once = λ x z y a b. a ∙ sym b;
    }) in
    let all : len (full n) ≡ n = full_len n in
    omega arith
