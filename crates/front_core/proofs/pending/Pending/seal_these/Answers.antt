use Rattle.std.proofs.Common.{◌≡◌, ℕ, ◌<◌, ◌≤◌, ◌+◌, true, false, sym, ap, subst, ◌∙◌, arith}
use Rattle.std.specs.List.{filter, range_with_len}
use Rattle.cross_dep.specs.Books.{has_bit}
use Rattle.front_core.specs.Pending.{IsHeld, IsDue, AreSealed}
use Rattle.front_core.specs.declared.pending.Pending.{Pending}
use Rattle.front_core.proofs.Sealing.{sealed_none}
use Rattle.front_core.proofs.SealedBelow.{sealed_on, sealed_off}
use Rattle.front_core.proofs.pending.Pending.seal_these.Goals as goal
use Rattle.front_core.proofs.pending.Pending.seal_these.Goals.{then-has_bit, else-has_bit}

pub loop-stream-init : goal.loop-stream-init
loop-stream-init c = record {
  sealed = sealed_none c.args.self.now;
  held = c.requires.held;
  due = λ s from to on. c.requires.due s to on;
  others = λ s to off due. due;
}

pub seal-requires-clause-due : goal.seal-requires-clause-due
seal-requires-clause-due c =
    let at = c.loop-stream.stream in
    c.loop-stream.invariant.due at (omega arith) (omega (arith, c.loop-stream-test.true)) (sym c.has_bit.ensures ∙ c.if-has_bit.true)

pub loop-stream-preserved : goal.loop-stream-preserved
loop-stream-preserved c =
    let old : Pending = c.args.self.now in
    let now : Pending = c.loop-stream.self in
    let at = c.loop-stream.stream in
    let inv = c.loop-stream.invariant in
    let sealed : AreSealed old (filter (has_bit c.args.sealed) (range_with_len 0 (at + 1))) c.if-has_bit.self
    = elim c.if-has_bit.branch [
      | then-has_bit w ↦ subst (AreSealed old (filter (has_bit c.args.sealed) (range_with_len 0 (at + 1)))) (sym w.self-is)
          (sealed_on old now w.seal.new.self (has_bit c.args.sealed) at (sym c.has_bit.ensures ∙ w.if-has_bit.true) inv.sealed w.seal.ensures.sealed)
      | else-has_bit w ↦ subst (AreSealed old (filter (has_bit c.args.sealed) (range_with_len 0 (at + 1)))) (sym w.self-is)
          (sealed_off old now (has_bit c.args.sealed) at (sym c.has_bit.ensures ∙ w.if-has_bit.false) inv.sealed)
    ] in
    let held : IsHeld c.if-has_bit.self
    = elim c.if-has_bit.branch [
      | then-has_bit w ↦ subst IsHeld (sym w.self-is) (w.seal.ensures.held inv.held)
      | else-has_bit w ↦ subst IsHeld (sym w.self-is) inv.held
    ] in
    let due : (s : ℕ) → at + 1 ≤ s → s < 64 → has_bit c.args.sealed s ≡ true → IsDue c.if-has_bit.self s
    = λ s from to on. elim c.if-has_bit.branch [
      | then-has_bit w ↦ subst (λ z. IsDue z s) (sym w.self-is) (w.seal.ensures.others s (λ e. omega (arith, e, from)) inv.held (inv.due s (omega (arith, from)) to on))
      | else-has_bit w ↦ subst (λ z. IsDue z s) (sym w.self-is) (inv.due s (omega (arith, from)) to on)
    ] in
    let others : (s : ℕ) → s < 64 → has_bit c.args.sealed s ≡ false → IsDue old s → IsDue c.if-has_bit.self s
    = λ s to off was. elim c.if-has_bit.branch [
      | then-has_bit w ↦ subst (λ z. IsDue z s) (sym w.self-is) (w.seal.ensures.others s
          (λ e. absurd (let here = c.has_bit.ensures in let yes = w.if-has_bit.true in let no : has_bit c.args.sealed at ≡ false = ap (has_bit c.args.sealed) (sym e) ∙ off in cc)) inv.held (inv.others s to off was))
      | else-has_bit w ↦ subst (λ z. IsDue z s) (sym w.self-is) (inv.others s to off was)
    ] in
    record { sealed = sealed; held = held; due = due; others = others }

pub returns-clause-sealed : goal.returns-clause-sealed
returns-clause-sealed c =
    let all : c.loop-stream.stream ≡ 64 = omega (arith, c.loop-stream-test.false, c.loop-stream.auto.stream-end) in
    subst (λ k. AreSealed c.args.self.now (filter (has_bit c.args.sealed) (range_with_len 0 k)) c.loop-stream.self) all c.loop-stream.invariant.sealed
