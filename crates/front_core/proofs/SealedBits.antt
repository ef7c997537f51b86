-- The updates that stay unsealed behind a plan's seals, by the bits of the streams that are sealed.
use Rattle.std.proofs.Common.{◌≡◌, ◌≢◌, inl, inr, ℕ, zero, suc, ◌+◌, ◌<◌, ◌≤◌, List, [], ◌∷◌, map, refl, sym, ap, ◌∙◌, arith}
use Rattle.std.specs.Prelude.{Bool, true, false, cond, not, if◌then◌else◌, ◌&&◌, ◌||◌, ◌==◌, filter}
use Rattle.std.specs.List.{AllByRecursion, range_with_len}
use Rattle.std.proofs.Math.Bool.{or_comm}
use Rattle.std.proofs.lemmas.Bool.{cases_eq, eq-eqb, ne_eqb}
use Rattle.std.proofs.lemmas.List.Elements.{filter_agree}
use Rattle.stream_cuts.specs.Streams.{Seal, without, unsealed_after}
use Rattle.stream_cuts.specs.Forced.{streams, Numbered}
use Rattle.cross_dep.specs.Books.{has_bit}
use Rattle.tree_cuts.specs.Calls.{Charged}
use Rattle.front_laws.specs.Inodes.{has}
use Rattle.front_laws.specs.Owned.{Among}
use Rattle.front_laws.proofs.Among.{among_was}
use Rattle.front_core.specs.Free.{but_of}
use Rattle.front_core.specs.Left.{sealed_by}
use Rattle.front_core.specs.declared.planning.Plan.{Plan}
use Rattle.front_core.proofs.Given.{has_append}
use Rattle.front_core.proofs.Listed.{rest_without}

-- an update that is unsealed behind seals was so before them
pub among_behind : (l : List ℕ) (unsealed : List (ℕ × Charged)) (e : ℕ × Charged) → Among e (unsealed_after unsealed (map Seal l)) → Among e unsealed
among_behind [] unsealed e a = a
among_behind (s ∷ l) unsealed e a = (among_was e s unsealed (among_behind l (without s unsealed) e a)).0

-- ---- filters

module _ {A : Type 0} where
  filter_all : (h : List A) → filter (λ e. true) h ≡ h
  filter_all [] = refl
  filter_all (e ∷ h) = ap (λ z. e ∷ z) (filter_all h)

  filter_twice : (p q : A → Bool) (h : List A) → filter p (filter q h) ≡ filter (λ e. q e && p e) h
  filter_twice p q [] = refl
  filter_twice p q (e ∷ h) =
      let rest = filter_twice p q h in
      elim (q e) as (λ b. filter p (cond b (e ∷ filter q h) (filter q h)) ≡ cond (b && p e) (e ∷ filter (λ x. q x && p x) h) (filter (λ x. q x && p x) h)) [
        | true ↦ ap (λ z. cond (p e) (e ∷ z) z) rest
        | false ↦ rest
      ]

  filter_agreed : (p q : A → Bool) (h : List A) → AllByRecursion (λ e. p e ≡ q e) h → filter p h ≡ filter q h
  filter_agreed p q [] a = refl
  filter_agreed p q (e ∷ h) a =
      ap (λ b. cond b (e ∷ filter p h) (filter p h)) a.0 ∙ ap (λ z. cond (q e) (e ∷ z) z) (filter_agreed p q h a.1)

eq_turned : (a b : ℕ) → (a == b) ≡ (b == a)
eq_turned a b = elim (cases_eq a b) [
  | inl e ↦ eq-eqb a b e ∙ sym (eq-eqb b a (sym e))
  | inr n ↦ ne_eqb a b n ∙ sym (ne_eqb b a (λ q. n (sym q)))
]

neither : (a b : Bool) → (not a && not b) ≡ not (a || b)
neither true b = refl
neither false b = refl

-- behind seals just the updates of the other streams are left
left_behind : (l : List ℕ) (h : List (ℕ × Charged)) → unsealed_after h (map Seal l) ≡ filter (λ (e : ℕ × Charged). not (has e.0 l)) h
left_behind [] h = sym (filter_all h)
left_behind (s ∷ l) h =
    left_behind l (without s h)
    ∙ ap (filter (λ (e : ℕ × Charged). not (has e.0 l))) (sym (rest_without s h))
    ∙ filter_twice (λ (e : ℕ × Charged). not (has e.0 l)) (λ (e : ℕ × Charged). not (e.0 == s)) h
    ∙ filter_agree (λ (e : ℕ × Charged). not (e.0 == s) && not (has e.0 l)) (λ (e : ℕ × Charged). not (has e.0 (s ∷ l)))
    (λ (e : ℕ × Charged). neither (e.0 == s) (has e.0 l) ∙ ap (λ b. not (b || has e.0 l)) (eq_turned e.0 s)) h

-- ---- streams by their bits

module _ (p : ℕ → Bool) (s : ℕ) where
  not_here : (a : ℕ) (l : List ℕ) → a ≢ s → has s (filter p (a ∷ l)) ≡ has s (filter p l)
  not_here a l ne = elim (p a) as (λ b. has s (cond b (a ∷ filter p l) (filter p l)) ≡ has s (filter p l)) [
    | true ↦ ap (λ b. b || has s (filter p l)) (ne_eqb a s ne)
    | false ↦ refl
  ]

  just_here : (a : ℕ) (l : List ℕ) → a ≡ s → has s (filter p l) ≡ false → has s (filter p (a ∷ l)) ≡ p a
  just_here a l is none = elim (p a) as (λ b. has s (cond b (a ∷ filter p l) (filter p l)) ≡ b) [
    | true ↦ ap (λ b. b || has s (filter p l)) (eq-eqb a s is)
    | false ↦ none
  ]

  none_below : (a n : ℕ) → s < a → has s (filter p (range_with_len a n)) ≡ false
  none_below a zero l = refl
  none_below a (suc n) l = not_here a (range_with_len (a + 1) n) (λ e. omega (arith, e, l)) ∙ none_below (a + 1) n (omega (arith, l))

  -- a number of a range is among those that pass where it passes
  in_range : (a n : ℕ) → a ≤ s → s < a + n → has s (filter p (range_with_len a n)) ≡ p s
  in_range a zero l m = absurd (omega (arith, l, m))
  in_range a (suc n) l m = elim (cases_eq a s) [
    | inl e ↦ just_here a (range_with_len (a + 1) n) e (none_below (a + 1) n (omega (arith, e))) ∙ ap p e
    | inr ne ↦ not_here a (range_with_len (a + 1) n) ne ∙ in_range (a + 1) n (omega (arith, l, ne)) (omega (arith, m))
  ]

own_here : (r s : ℕ) (own : Bool) → s ≡ r → has s (if own then r ∷ [] else []) ≡ own
own_here r s true e = ap (λ b. b || false) (eq-eqb r s (sym e))
own_here r s false e = refl

own_apart : (r s : ℕ) (own : Bool) → s ≢ r → has s (if own then r ∷ [] else []) ≡ false
own_apart r s true ne = ap (λ b. b || false) (ne_eqb r s (λ q. ne (sym q)))
own_apart r s false ne = refl

module _ (plan : Plan) (sealed : ℕ) (forced_apart : has_bit plan.forced plan.stream ≡ false) (own : has_bit sealed plan.stream ≡ plan.own)
    (others : (s : ℕ) → (s ≡ plan.stream → ⊥) → has_bit sealed s ≡ has_bit plan.forced s) where
  -- a stream is among those that a plan seals where its bit is set
  bit_told : (s : ℕ) → s < 64 → has s (sealed_by plan) ≡ has_bit sealed s
  bit_told s l =
      let tail : List ℕ = if plan.own then plan.stream ∷ [] else [] in
      let first : has s (sealed_by plan) ≡ (has_bit plan.forced s || has s tail)
      = has_append s (filter (has_bit plan.forced) streams) tail ∙ ap (λ b. b || has s tail) (in_range (has_bit plan.forced) s 0 64 (omega arith) (omega (arith, l))) in
      elim (cases_eq s plan.stream) [
        | inl e ↦ first ∙ ap (λ b. b || has s tail) (ap (has_bit plan.forced) e ∙ forced_apart) ∙ own_here plan.stream s plan.own e ∙ sym own ∙ ap (has_bit sealed) (sym e)
        | inr ne ↦ first ∙ ap (λ b. has_bit plan.forced s || b) (own_apart plan.stream s plan.own ne) ∙ or_comm (has_bit plan.forced s) false ∙ sym (others s ne)
      ]

  all_told : (h : List (ℕ × Charged)) → Numbered h → AllByRecursion (λ (e : ℕ × Charged). not (has_bit sealed e.0) ≡ not (has e.0 (sealed_by plan))) h
  all_told [] n = tt
  all_told (e ∷ h) n = (ap not (sym (bit_told e.0 n.0)), all_told h n.1)

-- the updates of the streams without a bit are those that are unsealed behind a plan's seals
pub bits_sealed : (plan : Plan) (sealed : ℕ) (unsealed : List (ℕ × Charged)) → Numbered unsealed → plan.stream < 64 → has_bit plan.forced plan.stream ≡ false
    → has_bit sealed plan.stream ≡ plan.own → ((s : ℕ) → (s ≡ plan.stream → ⊥) → has_bit sealed s ≡ has_bit plan.forced s)
    → but_of sealed unsealed ≡ unsealed_after unsealed (map Seal (sealed_by plan))
bits_sealed plan sealed unsealed numbered low forced_apart own others =
    filter_agreed (λ (e : ℕ × Charged). not (has_bit sealed e.0)) (λ (e : ℕ × Charged). not (has e.0 (sealed_by plan))) unsealed
    (all_told plan sealed forced_apart own others unsealed numbered)
    ∙ sym (left_behind (sealed_by plan) unsealed)
