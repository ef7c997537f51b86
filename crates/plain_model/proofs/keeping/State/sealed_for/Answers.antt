use Rattle.std.proofs.Common.{◌++◌, ℕ, List, map, ap, sym, ◌∙◌}
use Rattle.std.proofs.lemmas.List.{append-nil}
use Rattle.std.proofs.lemmas.Result.{IfOk-weaker}
use Rattle.stream_cuts.specs.Streams as streams
use Rattle.tree_model.specs.declared.rows.Update.{Update}
use Rattle.tree_cuts.specs.Calls.{charge, plain, call_steps}
use Rattle.plain_model.specs.Recorded.{entered_step}
use Rattle.plain_model.proofs.Records.{plain_seals, plain_entered_last, call_some, call_none}
use Rattle.plain_model.proofs.keeping.State.sealed_for.Goals as goal

pub returns-in_ok-entering-in-Some : goal.returns-in_ok-entering-in-Some
returns-in_ok-entering-in-Some c =
    let n = c.args.self.now in
    let e = c.args.entry.now in
    let u : Update = c.in-Some.update in
    let l : List ℕ = c.in_ok-entering-in-Some.field-0.sealed.items in
    ap (λ o. map streams.Seal l ++ entered_step e.stream o) c.in-Some.is
    ∙ sym (plain_entered_last l e.stream (u, charge n.tree u))
    ∙ ap plain (c.in_ok-entering-in-Some.ensures.steps ∙ ap (call_steps c.args.sizes.now n.tree n.unsealed) (sym (call_some n e u c.in-Some.is)))

pub returns-in-None : goal.returns-in-None
returns-in-None c =
    let n = c.args.self.now in
    let e = c.args.entry.now in
    IfOk-weaker c.sealed_by.result _ _ (λ all those.
    ap (λ o. map streams.Seal all.items ++ entered_step e.stream o) c.in-None.is ∙ append-nil (map streams.Seal all.items) ∙ sym (plain_seals all.items)
    ∙ ap plain (those c.args.sizes.now ∙ ap (call_steps c.args.sizes.now n.tree n.unsealed) (sym (call_none n e c.in-None.is)))) c.sealed_by.ensures.those
