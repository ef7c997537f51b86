-- Streams in rising order: those below a number that pass a test.
use Rattle.std.proofs.Common.{◌≡◌, ℕ, zero, suc, ◌+◌, ◌<◌, [], ◌∷◌, ◌++◌, length, refl, ap, subst, ◌∙◌, arith}
use Rattle.std.specs.Prelude.{Bool, true, false, cond, filter}
use Rattle.std.specs.List.{range_with_len}
use Rattle.std.proofs.lemmas.List.{append-nil, length-append}

pub filter_more : (p : ℕ → Bool) (a n : ℕ) → filter p (range_with_len a (suc n)) ≡ filter p (range_with_len a n) ++ cond (p (a + n)) ((a + n) ∷ []) []
filter_more p a zero = subst (λ z. cond (p a) (a ∷ []) [] ≡ cond (p z) (z ∷ []) []) (let e : a ≡ a + 0 = omega arith in e) refl
filter_more p a (suc n) =
    let h = filter_more p (a + 1) n in
    let e : (a + 1) + n ≡ a + suc n = omega arith in
    elim (p a) as (λ b. cond b (a ∷ filter p (range_with_len (a + 1) (suc n))) (filter p (range_with_len (a + 1) (suc n)))
    ≡ cond b (a ∷ filter p (range_with_len (a + 1) n)) (filter p (range_with_len (a + 1) n)) ++ cond (p (a + suc n)) ((a + suc n) ∷ []) []) [
      | true ↦ ap (λ z. a ∷ z) (h ∙ ap (λ k. filter p (range_with_len (a + 1) n) ++ cond (p k) (k ∷ []) []) e)
      | false ↦ h ∙ ap (λ k. filter p (range_with_len (a + 1) n) ++ cond (p k) (k ∷ []) []) e
    ]

-- one stream more
pub below_more : (p : ℕ → Bool) (r : ℕ) → filter p (range_with_len 0 (r + 1)) ≡ filter p (range_with_len 0 r) ++ cond (p r) (r ∷ []) []
below_more p r =
    let e : r + 1 ≡ suc r = omega arith in
    let z : 0 + r ≡ r = omega arith in
    ap (λ k. filter p (range_with_len 0 k)) e ∙ filter_more p 0 r ∙ ap (λ k. filter p (range_with_len 0 r) ++ cond (p k) (k ∷ []) []) z

-- it passes
pub below_on : (p : ℕ → Bool) (r : ℕ) → p r ≡ true → filter p (range_with_len 0 (r + 1)) ≡ filter p (range_with_len 0 r) ++ r ∷ []
below_on p r on = below_more p r ∙ ap (λ b. filter p (range_with_len 0 r) ++ cond b (r ∷ []) []) on

-- it doesn't
pub below_off : (p : ℕ → Bool) (r : ℕ) → p r ≡ false → filter p (range_with_len 0 (r + 1)) ≡ filter p (range_with_len 0 r)
below_off p r off = below_more p r ∙ ap (λ b. filter p (range_with_len 0 r) ++ cond b (r ∷ []) []) off ∙ append-nil (filter p (range_with_len 0 r))

pub counted_on : (p : ℕ → Bool) (r : ℕ) → p r ≡ true → length (filter p (range_with_len 0 (r + 1))) ≡ length (filter p (range_with_len 0 r)) + 1
counted_on p r on = ap length (below_on p r on) ∙ length-append (filter p (range_with_len 0 r)) (r ∷ [])

pub counted_off : (p : ℕ → Bool) (r : ℕ) → p r ≡ false → length (filter p (range_with_len 0 (r + 1))) ≡ length (filter p (range_with_len 0 r))
counted_off p r off = ap length (below_off p r off)

pub filter_same_from : (p q : ℕ → Bool) (a n : ℕ) → ((r : ℕ) → r < a + n → p r ≡ q r) → filter p (range_with_len a n) ≡ filter q (range_with_len a n)
filter_same_from p q a zero f = refl
filter_same_from p q a (suc n) f =
    let h = filter_same_from p q (a + 1) n (λ r l. f r (omega arith)) in
    let e : p a ≡ q a = f a (omega arith) in
    ap (λ z. cond z (a ∷ filter p (range_with_len (a + 1) n)) (filter p (range_with_len (a + 1) n))) e ∙ ap (λ z. cond (q a) (a ∷ z) z) h
