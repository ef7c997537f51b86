-- Numbers for each stream, with one of them changed.
use Rattle.std.proofs.Common.{◌≡◌, ℕ, suc, ◌≤◌, ◌≢◌, inl, inr, refl, ap, subst, arith}
use Rattle.std.specs.Prelude.{cond}
use Rattle.std.proofs.lemmas.Bool.{eq-eqb, ne_eqb, cases_eq}
use Rattle.stream_cuts.specs.Streams.{with_count, one_more}

pub one_more_here : (f : ℕ → ℕ) (s : ℕ) → one_more f s s ≡ suc (f s)
one_more_here f s = ap (λ b. cond b (suc (f s)) (f s)) (eq-eqb s s refl)

pub one_more_apart : (f : ℕ → ℕ) (s q : ℕ) → s ≢ q → one_more f s q ≡ f q
one_more_apart f s q ne = ap (λ b. cond b (suc (f s)) (f q)) (ne_eqb s q ne)

pub one_more_above : (f : ℕ → ℕ) (s q : ℕ) → f q ≤ one_more f s q
one_more_above f s q = elim (cases_eq s q) [
  | inl e ↦ subst (λ r. f r ≤ one_more f s r) e (let h = one_more_here f s in omega arith)
  | inr ne ↦ let h = one_more_apart f s q ne in omega arith
]

pub with_count_here : (f : ℕ → ℕ) (s n : ℕ) → with_count f s n s ≡ n
with_count_here f s n = ap (λ b. cond b n (f s)) (eq-eqb s s refl)

pub with_count_apart : (f : ℕ → ℕ) (s n q : ℕ) → s ≢ q → with_count f s n q ≡ f q
with_count_apart f s n q ne = ap (λ b. cond b n (f q)) (ne_eqb s q ne)

-- sealing a stream leaves the sealed counts at most those seen
pub with_count_below : (c seen : ℕ → ℕ) (s : ℕ) → ((q : ℕ) → c q ≤ seen q) → (q : ℕ) → with_count c s (seen s) q ≤ seen q
with_count_below c seen s le q = elim (cases_eq s q) [
  | inl e ↦ subst (λ r. with_count c s (seen s) r ≤ seen r) e (let h = with_count_here c s (seen s) in omega arith)
  | inr ne ↦ let h = with_count_apart c s (seen s) q ne in let g = le q in omega arith
]

pub with_count_above : (c seen : ℕ → ℕ) (s : ℕ) → ((q : ℕ) → c q ≤ seen q) → (q : ℕ) → c q ≤ with_count c s (seen s) q
with_count_above c seen s le q = elim (cases_eq s q) [
  | inl e ↦ subst (λ r. c r ≤ with_count c s (seen s) r) e (let h = with_count_here c s (seen s) in let g = le s in omega arith)
  | inr ne ↦ let h = with_count_apart c s (seen s) q ne in omega arith
]

pub more_below : (c seen : ℕ → ℕ) (s : ℕ) → ((q : ℕ) → c q ≤ seen q) → (q : ℕ) → c q ≤ one_more seen s q
more_below c seen s le q = let h = one_more_above seen s q in let g = le q in omega arith
