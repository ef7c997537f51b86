use Rattle.std.proofs.Common.{◌≡◌, take, drop}
use Rattle.stream_cuts.specs.Streams.{no_counts, entered, counts_after}
use Rattle.stream_cuts.specs.Cuts.{kept_from, cut_of}
use Rattle.stream_cuts.specs.States.{after, state_at, AllApply}
use Rattle.tree_model.specs.Updates.{apply}
use Rattle.tree_model.specs.Laws.{Applies}
use Rattle.plain_model.specs.Steps.{steps_of}
use Rattle.plain_model.proofs.cutting.tree_of_cut.Given as goal

abbrev pub invariant-loop-i : goal.invariant-loop-i
invariant-loop-i l = record {
  same : after apply l.tree (kept_from (counts_after no_counts (entered (steps_of (take l.i l.steps)))) (cut_of no_counts l.seals.items) (entered (steps_of (drop l.i l.steps)))) ≡ state_at apply l.opening (steps_of l.steps) l.n;
  fit : AllApply Applies apply l.tree (kept_from (counts_after no_counts (entered (steps_of (take l.i l.steps)))) (cut_of no_counts l.seals.items) (entered (steps_of (drop l.i l.steps))));
}
