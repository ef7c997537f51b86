use Rattle.std.proofs.Common.{[], ◌∷◌, ◌++◌, sym, subst, ap, ◌∙◌}
use Rattle.std.specs.Prelude.{if◌then◌else◌, filter}
use Rattle.std.proofs.lemmas.List.{append-nil}
use Rattle.stream_cuts.specs.Forced.{streams}
use Rattle.cross_dep.specs.Books.{has_bit}
use Rattle.front_core.specs.Pending.{AreSealed}
use Rattle.front_core.proofs.Sealing.{sealed_more}
use Rattle.front_core.proofs.state.State.seal_planned.Goals as goal

pub returns-then-plan-clause-sealed : goal.returns-then-plan-clause-sealed
returns-then-plan-clause-sealed c =
    let plan = c.args.plan.now in
    let forced = filter (has_bit plan.forced) streams in
    subst (λ b. AreSealed c.args.self.now.pending (forced ++ (if b then plan.stream ∷ [] else [])) c.seal.new.self) (sym c.if-plan.true)
    (sealed_more c.args.self.now.pending c.seal_these.new.self c.seal.new.self forced (plan.stream ∷ []) c.seal_these.ensures.sealed c.seal.ensures.sealed)

pub returns-else-plan-clause-sealed : goal.returns-else-plan-clause-sealed
returns-else-plan-clause-sealed c =
    let plan = c.args.plan.now in
    let forced = filter (has_bit plan.forced) streams in
    subst (λ l. AreSealed c.args.self.now.pending l c.seal_these.new.self)
    (sym (append-nil forced) ∙ ap (λ b. forced ++ (if b then plan.stream ∷ [] else [])) (sym c.if-plan.false))
    c.seal_these.ensures.sealed
