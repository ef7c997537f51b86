-- How a run of calls on a disk goes on.
use Rattle.std.proofs.Common.{inl, inr, ⊎_elim, ℕ, ◌≤◌, List, arith}
use Rattle.disk_model.specs.Moments.{Elapses, Follows}
use Rattle.disk_model.specs.Calls.{Leaves}

module _ {D : Type 0} (moment : D → ℕ) (left_since : D → ℕ → List ℕ → Type 0) where
  pub elapses_start : (d : D) → ((s t : ℕ) (c : List ℕ) → s ≤ t → left_since d t c → left_since d s c) → Elapses (moment d) (moment d) (left_since d) (left_since d)
  elapses_start d law = record { later = omega arith; nothing_else = λ t c le left. inl left; keeps = λ t c le left. left; earlier = law }

  pub elapses_then : (old mid new : D) → Elapses (moment old) (moment mid) (left_since old) (left_since mid) → Elapses (moment mid) (moment new) (left_since mid) (left_since new) → Elapses (moment old) (moment new) (left_since old) (left_since new)
  elapses_then old mid new first second = record {
    later = omega (arith, first.later, second.later);
    nothing_else = λ t c le left. ⊎_elim
        (λ left_mid. ⊎_elim (λ l. inl l) (λ l. inr (second.keeps (moment old) c first.later l)) (first.nothing_else t c le left_mid))
        (λ since_mid. inr (second.earlier (moment old) (moment mid) c first.later since_mid))
        (second.nothing_else t c (omega (arith, le, first.later)) left);
    keeps = λ t c le left. second.keeps t c (omega (arith, le, first.later)) (first.keeps t c le left);
    earlier = second.earlier;
  }

  -- what a run in two parts leaves
  pub each_then : (old mid new : D) (P : List ℕ → Type 0) → Elapses (moment old) (moment mid) (left_since old) (left_since mid) → Elapses (moment mid) (moment new) (left_since mid) (left_since new)
      → ((c : List ℕ) → left_since mid (moment old) c → P c) → ((c : List ℕ) → left_since new (moment mid) c → P c) → (c : List ℕ) → left_since new (moment old) c → P c
  each_then old mid new P first second before now c left = ⊎_elim (before c) (now c) (second.nothing_else (moment old) c first.later left)

  pub leaves_then : (old mid new : D) (P : List ℕ → Type 0) → Leaves moment left_since old mid P → Leaves moment left_since mid new P → Leaves moment left_since old new P
  leaves_then old mid new P first second = record {
    time = elapses_then old mid new first.time second.time;
    each = each_then old mid new P first.time second.time first.each second.each;
  }

  pub leaves_by : (old new : D) (P : List ℕ → Type 0) → Elapses (moment old) (moment new) (left_since old) (left_since new) → ((c : List ℕ) → left_since new (moment old) c → P c) → Leaves moment left_since old new P
  leaves_by old new P time each = record { time = time; each = each }

  pub leaves_weaker : (old new : D) (P Q : List ℕ → Type 0) → Leaves moment left_since old new P → ((c : List ℕ) → P c → Q c) → Leaves moment left_since old new Q
  leaves_weaker old new P Q run so = record { time = run.time; each = λ c left. so c (run.each c left) }

-- After a step of images that have P and one that keeps P, they have P.
pub follows_by : (step : List ℕ → List ℕ → Type 0) (old new P Q : List ℕ → Type 0) → Follows step old new → ((d : List ℕ) → old d → Q d) → ((d c : List ℕ) → Q d → step d c → P c) → (c : List ℕ) → new c → P c
follows_by step old new P Q follows had so c left = let from = follows c left in so from.0 c (had from.0 from.1) from.2

-- two runs, one after the other
pub elapses_join : {a b c : ℕ} {p q r : ℕ → List ℕ → Type 0} → Elapses a b p q → Elapses b c q r → Elapses a c p r
elapses_join {a} {b} {c} {p} {q} {r} first second = record {
  later = omega (arith, first.later, second.later);
  nothing_else = λ t x le left. ⊎_elim
      (λ left_mid. ⊎_elim (λ l. inl l) (λ l. inr (second.keeps a x first.later l)) (first.nothing_else t x le left_mid))
      (λ since_mid. inr (second.earlier a b x first.later since_mid))
      (second.nothing_else t x (omega (arith, le, first.later)) left);
  keeps = λ t x le left. second.keeps t x (omega (arith, le, first.later)) (first.keeps t x le left);
  earlier = second.earlier;
}

-- what two runs leave
pub each_join : {a b c : ℕ} {p q r : ℕ → List ℕ → Type 0} (P : List ℕ → Type 0) → Elapses a b p q → Elapses b c q r
    → ((x : List ℕ) → q a x → P x) → ((x : List ℕ) → r b x → P x) → (x : List ℕ) → r a x → P x
each_join {a} P first second before now x left = ⊎_elim (before x) (now x) (second.nothing_else a x first.later left)

-- a run that began earlier: what was so of all that was left since t stays so
pub since_goes_on : {a b : ℕ} {p q : ℕ → List ℕ → Type 0} (P Q : List ℕ → Type 0) (t : ℕ) → t ≤ a → Elapses a b p q
    → ((x : List ℕ) → p t x → P x) → ((x : List ℕ) → P x → Q x) → ((x : List ℕ) → q a x → Q x) → (x : List ℕ) → q t x → Q x
since_goes_on P Q t le time had widen now x left = ⊎_elim (λ l. widen x (had x l)) (now x) (time.nothing_else t x le left)
