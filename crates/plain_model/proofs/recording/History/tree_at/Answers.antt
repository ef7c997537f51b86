use Rattle.std.proofs.Common.{List, sym, subst}
use Rattle.stream_cuts.specs.Streams.{entered}
use Rattle.stream_cuts.specs.Cuts.{kept, cut_at}
use Rattle.stream_cuts.specs.States.{AllApply}
use Rattle.tree_model.specs.Updates.{apply}
use Rattle.tree_model.specs.Laws.{Applies}
use Rattle.plain_model.specs.declared.cutting.Step.{Step}
use Rattle.plain_model.specs.Steps.{steps_of}
use Rattle.plain_model.proofs.Records.{kept_applies}
use Rattle.plain_model.proofs.recording.History.tree_at.Goals as goal

pub tree_of_cut-requires : goal.tree_of_cut-requires
tree_of_cut-requires c =
    let i = c.self.inside in
    subst (λ (l : List Step). AllApply Applies apply i.opening (kept (entered (steps_of l)) (cut_at (steps_of l) c.args.n))) (sym c.deref.ensures.value)
    (kept_applies i.sizes i.opening i.state i.entries.items i.steps.items c.self.invariant c.args.n)
