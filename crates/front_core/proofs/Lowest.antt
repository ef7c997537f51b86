-- The lowest of numbers with a property, and of the inodes that are free once streams are sealed.
use Rattle.std.proofs.Common.{◌≡◌, ◌⊎◌, inl, inr, ℕ, ◌+◌, ◌<◌, ◌≤◌, List, [], ◌∷◌, ◌++◌, min, refl, sym, ap, subst, ◌∙◌, arith}
use Rattle.std.specs.Prelude.{true, false, Option, None, Some, MatchOption}
use Rattle.std.proofs.lemmas.Bool.{cases_eq, cases_lt}
use Rattle.free_maps.specs.Maps.{is_set}
use Rattle.cross_dep.specs.Books.{has_bit}
use Rattle.front_laws.specs.Inodes.{has}
use Rattle.front_core.specs.Free.{Taken, IsLowestOf, IsThisOrIn, given_at}
use Rattle.front_core.proofs.Given.{in_and_out}
use Rattle.front_core.proofs.Lists.{has_last, has_more, has_the_last}

-- ---- lowest numbers

-- two properties of the same numbers
pub lowest_same : (P Q : ℕ → Type 0) (found : Option ℕ) → ((i : ℕ) → P i → Q i) → ((i : ℕ) → Q i → P i) → IsLowestOf P found → IsLowestOf Q found
lowest_same P Q None forth back is = λ i q. is i (back i q)
lowest_same P Q (Some low) forth back is = (forth low is.0, λ i q. is.1 i (back i q))

-- the lowest of the first one and of a list, where the first is the lowest with a property
pub lowest_more : (P : ℕ → Type 0) (first found : Option ℕ) (list : List ℕ) → IsLowestOf P first → IsLowestOf (IsThisOrIn first list) found
    → IsLowestOf (λ i. P i ⊎ (has i list ≡ true)) found
lowest_more P None None list out is = λ i e. elim e [ inl p ↦ out i p | inr q ↦ is i (inr q) ]
lowest_more P (Some f) None list one is = absurd (is f (inl refl))
lowest_more P None (Some low) list out is = (
  elim is.0 [ inl e ↦ absurd (let z : ◌≡◌ {A = Option ℕ} None (Some low) = e in cc) | inr q ↦ inr q ],
  λ i e. elim e [ inl p ↦ absurd (out i p) | inr q ↦ is.1 i (inr q) ],
)
lowest_more P (Some f) (Some low) list one is = (
  elim is.0 [ inl e ↦ inl (let z : f ≡ low = cc in subst P z one.0) | inr q ↦ inr q ],
  λ i e. elim e [ inl p ↦ (let a : f ≤ i = one.1 i p in let b : low ≤ f = is.1 f (inl refl) in omega arith) | inr q ↦ is.1 i (inr q) ],
)

-- ---- as a list is walked through

-- one more number of the list
pub lowest_later : (first before : Option ℕ) (list : List ℕ) (x new : ℕ) → MatchOption before (new ≡ x) (λ low. new ≡ min low x)
    → IsLowestOf (IsThisOrIn first list) before → IsLowestOf (IsThisOrIn first (list ++ x ∷ [])) (Some new)
lowest_later first None list x new e out = (
  inr (has_the_last new list x (sym e)),
  λ i q. elim q [
    | inl p ↦ absurd (out i (inl p))
    | inr p ↦ elim (has_last i list x p) [ inl r ↦ absurd (out i (inr r)) | inr r ↦ omega (arith, e, r) ]
  ],
)
lowest_later first (Some low) list x new e is = (
  elim (cases_lt low x) [
    | inl l ↦ (let same : low ≡ new = omega (arith, e, l) in elim is.0 [
      | inl p ↦ inl (p ∙ ap (λ z. Some z) same)
      | inr p ↦ inr (has_more new list x (subst (λ z. has z list ≡ true) same p))
    ])
    | inr l ↦ inr (has_the_last new list x (omega (arith, e, l)))
  ],
  λ i q. elim q [
    | inl p ↦ (let m : low ≤ i = is.1 i (inl p) in omega (arith, e, m))
    | inr p ↦ elim (has_last i list x p) [ inl r ↦ (let m : low ≤ i = is.1 i (inr r) in omega (arith, e, m)) | inr r ↦ omega (arith, e, r) ]
  ],
)

-- ---- inodes that are free once streams are sealed

-- the bit of an inode from 2 on is clear, or a stream below n that is to be sealed gave the inode up
abbrev pub IsOpenBelow : Taken → ℕ → ℕ → ℕ → Type 0
IsOpenBelow taken sealed n i =
    ((2 ≤ i) × (i < taken.count) × (is_set taken.bits i ≡ false)) ⊎ ((s : ℕ) × (s < n) × (has_bit sealed s ≡ true) × (has i (given_at taken s) ≡ true))

-- one more stream that is to be sealed
pub lowest_next : (taken : Taken) (sealed n : ℕ) (first found : Option ℕ) → has_bit sealed n ≡ true → IsLowestOf (IsOpenBelow taken sealed n) first
    → IsLowestOf (IsThisOrIn first (given_at taken n)) found → IsLowestOf (IsOpenBelow taken sealed (n + 1)) found
lowest_next taken sealed n first found on before is =
    lowest_same (λ i. IsOpenBelow taken sealed n i ⊎ (has i (given_at taken n) ≡ true)) (IsOpenBelow taken sealed (n + 1)) found forth back
    (lowest_more (IsOpenBelow taken sealed n) first found (given_at taken n) before is)
  where
    forth : (i : ℕ) → IsOpenBelow taken sealed n i ⊎ (has i (given_at taken n) ≡ true) → IsOpenBelow taken sealed (n + 1) i
    forth i (inl (inl p)) = inl p
    forth i (inl (inr q)) = inr (q.0, omega (arith, q.1), q.2, q.3)
    forth i (inr q) = inr (n, omega arith, on, q)

    back : (i : ℕ) → IsOpenBelow taken sealed (n + 1) i → IsOpenBelow taken sealed n i ⊎ (has i (given_at taken n) ≡ true)
    back i (inl p) = inl (inl p)
    back i (inr q) = elim (cases_eq q.0 n) [
      | inl e ↦ inr (subst (λ z. has i (given_at taken z) ≡ true) e q.3)
      | inr ne ↦ inl (inr (q.0, omega (arith, q.1, ne), q.2, q.3))
    ]

-- and one more that isn't
pub lowest_skip : (taken : Taken) (sealed n : ℕ) (found : Option ℕ) → has_bit sealed n ≡ false → IsLowestOf (IsOpenBelow taken sealed n) found
    → IsLowestOf (IsOpenBelow taken sealed (n + 1)) found
lowest_skip taken sealed n found off is = lowest_same (IsOpenBelow taken sealed n) (IsOpenBelow taken sealed (n + 1)) found forth back is
  where
    forth : (i : ℕ) → IsOpenBelow taken sealed n i → IsOpenBelow taken sealed (n + 1) i
    forth i (inl p) = inl p
    forth i (inr q) = inr (q.0, omega (arith, q.1), q.2, q.3)

    back : (i : ℕ) → IsOpenBelow taken sealed (n + 1) i → IsOpenBelow taken sealed n i
    back i (inl p) = inl p
    back i (inr q) = elim (cases_eq q.0 n) [
      | inl e ↦ in_and_out (has_bit sealed n) (subst (λ z. has_bit sealed z ≡ true) e q.2) off
      | inr ne ↦ inr (q.0, omega (arith, q.1, ne), q.2, q.3)
    ]
