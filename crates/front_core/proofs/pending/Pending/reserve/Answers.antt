use Rattle.std.proofs.Common.{◌≡◌, ℕ, ◌<◌, ◌+◌, true, inl, inr, sym, ap, subst, ◌∙◌, arith}
use Rattle.std.proofs.lemmas.Bool.{cases_eq}
use Rattle.stream_txn.specs.Accounts.{account_at}
use Rattle.cross_dep.specs.Books.{has_bit}
use Rattle.front_core.specs.Pending.{IsAsBefore, IsDue}
use Rattle.front_core.specs.declared.pending.Pending.{Pending}
use Rattle.front_core.proofs.Before.{before_both}
use Rattle.front_core.proofs.pending.Pending.reserve.Goals as goal
use Rattle.front_core.proofs.pending.Pending.reserve.Goals.{then-has_bit+in_ok-reserve_at, else-has_bit}

pub returns-in_err-reserve_at-clause-same : goal.returns-in_err-reserve_at-clause-same
returns-in_err-reserve_at-clause-same c = before_both c.args.self.now c.loop-stream.self c.reserve_at.new.self c.loop-stream.invariant.same c.reserve_at.ensures.same

pub loop-stream-preserved : goal.loop-stream-preserved
loop-stream-preserved c =
    let old : Pending = c.args.self.now in
    let now : Pending = c.loop-stream.self in
    let at = c.loop-stream.stream in
    let same : IsAsBefore old c.if-has_bit.self
    = elim c.if-has_bit.branch [
      | then-has_bit+in_ok-reserve_at w ↦ subst (IsAsBefore old) (sym w.self-is) (before_both old now w.reserve_at.new.self c.loop-stream.invariant.same w.reserve_at.ensures.same)
      | else-has_bit w ↦ subst (IsAsBefore old) (sym w.self-is) c.loop-stream.invariant.same
    ] in
    let placed : (s : ℕ) → s < at + 1 → has_bit c.args.sealed s ≡ true → (account_at old.txns.accounts s).is_open ≡ true → IsDue c.if-has_bit.self s
    = λ s below on is_open. elim c.if-has_bit.branch [
      | then-has_bit+in_ok-reserve_at w ↦ subst (λ z. IsDue z s) (sym w.self-is) (elim (cases_eq s at) [
        | inl e ↦ subst (IsDue w.reserve_at.new.self) (sym e) (w.in_ok-reserve_at.ensures.placed
            (ap (λ z. (account_at z at).is_open) c.loop-stream.invariant.same.accounts ∙ ap (λ z. (account_at old.txns.accounts z).is_open) (sym e) ∙ is_open))
        | inr ne ↦ w.reserve_at.ensures.others s (c.loop-stream.invariant.placed s (omega (arith, below, ne)) on is_open)
      ])
      | else-has_bit w ↦ subst (λ z. IsDue z s) (sym w.self-is) (elim (cases_eq s at) [
        | inl e ↦ absurd (let off = c.has_bit.ensures in let no = w.if-has_bit.false in let yes : has_bit c.args.sealed at ≡ true = ap (has_bit c.args.sealed) (sym e) ∙ on in cc)
        | inr ne ↦ c.loop-stream.invariant.placed s (omega (arith, below, ne)) on is_open
      ])
    ] in
    record { same = same; placed = placed }
