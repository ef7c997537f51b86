-- The laws of cuts of trees, proved.
use Rattle.std.proofs.Common.{sym, subst}
use Rattle.std.specs.Prelude.{◌≡◌, List, take}
use Rattle.stream_cuts.specs.Streams.{Step, entered}
use Rattle.stream_cuts.specs.Cuts.{kept, seals, cut_at}
use Rattle.stream_cuts.specs.States.{state_at}
use Rattle.stream_cuts.proofs.Laws as cuts
use Rattle.tree_model.specs.declared.rows.Update.{Update}
use Rattle.tree_model.specs.Updates.{apply}
use Rattle.tree_model.specs.Laws.{Applies, Meet}
use Rattle.tree_model.proofs.TreeKept.{keeps}
use Rattle.tree_model.proofs.Swapping.{swaps}
use Rattle.tree_model.proofs.Untouched.{untouched}
use Rattle.tree_cuts.specs.Calls.{steps}
use Rattle.tree_cuts.specs.Runs.{updates_of, cut_after}
use Rattle.tree_cuts.specs.Laws.{CutsAreClosed, KeptUpdatesApply, LongerHistoriesKeep, NextCutIsOneBatchOn, CutsAreTrees, ChangedFilesHaveTheirBytes}
use Rattle.tree_cuts.proofs.Guarded.{run_guarded, run_applies}
use Rattle.tree_cuts.proofs.Running.{added, steps_added}
use Rattle.tree_cuts.proofs.TreesKept.{trees_after, same_bytes}

pub cuts_are_closed : CutsAreClosed
cuts_are_closed sizes t calls n r = cuts.cuts_are_closed Meet (steps sizes t calls) n (run_guarded sizes t calls r)

pub kept_updates_apply : KeptUpdatesApply
kept_updates_apply t h c a k = cuts.kept_apply Applies apply Meet swaps t h c a k

pub longer_histories_keep : LongerHistoriesKeep
longer_histories_keep sizes t calls more n le =
    subst (λ (l : List (Step Update)). (take n (seals l) ≡ take n (seals (steps sizes t calls)))
    × (cut_at l n ≡ cut_at (steps sizes t calls) n)
    × (kept (entered l) (cut_at l n) ≡ kept (entered (steps sizes t calls)) (cut_at (steps sizes t calls) n))
    × (state_at apply t l n ≡ state_at apply t (steps sizes t calls) n))
    (sym (steps_added sizes t calls more)) (cuts.longer_keeps apply t (steps sizes t calls) (added sizes t calls more) n le)

pub the_next_cut_is_one_batch_on : NextCutIsOneBatchOn
the_next_cut_is_one_batch_on sizes t calls n r =
    cuts.next_batch Applies apply Meet swaps t (steps sizes t calls) n (run_applies sizes t calls r) (run_guarded sizes t calls r)

pub cuts_are_trees : CutsAreTrees
cuts_are_trees sizes t calls n tree r =
    let all = kept_updates_apply t (updates_of sizes t calls) (cut_after sizes t calls n) (run_applies sizes t calls r) (cuts_are_closed sizes t calls n r) in
    (trees_after keeps t (kept (updates_of sizes t calls) (cut_after sizes t calls n)) tree all.0, all.0)

pub a_changed_file_has_its_bytes : ChangedFilesHaveTheirBytes
a_changed_file_has_its_bytes t h c a k before rest e x is here changes = same_bytes swaps untouched t h c a k before rest e x is here changes
