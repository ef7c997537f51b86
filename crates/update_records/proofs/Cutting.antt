-- A volume that carries the tree of a cut carries that of the next one, once the records of the batch are put on it.
use Rattle.std.proofs.Common.{◌≡◌, ℕ, List, [], ◌∷◌, refl, sym, subst, ◌∙◌}
use Rattle.std.specs.Prelude.{map}
use Rattle.stream_cuts.specs.States.{after, AllApply}
use Rattle.tree_model.specs.declared.rows.Update.{Update}
use Rattle.tree_model.specs.Rows.{Rows}
use Rattle.tree_model.specs.Updates.{apply}
use Rattle.tree_model.specs.Laws.{Applies}
use Rattle.tree_cuts.specs.Runs.{tree_at_cut, batch_after}
use Rattle.tree_cuts.proofs.Laws.{the_next_cut_is_one_batch_on}
use Rattle.update_records.specs.Batches.{tree_after, AllFit}
use Rattle.update_records.specs.BatchLaws.{Stands, updated, files_updated}
use Rattle.update_records.specs.CutLaws.{batch_updates, CutsAreCarried}
use Rattle.update_records.proofs.Batching.{batches_are_carried}

-- updates with streams fit where they apply, and give the same tree without their streams
all_fit : (t : Rows) (h : List (ℕ × Update)) → AllApply Applies apply t h → AllFit t (map (λ e. e.1) h)
all_fit t [] a = tt
all_fit t (e ∷ h) a = (a.0.1, all_fit (apply t e.1) h a.1)

same_tree : (t : Rows) (h : List (ℕ × Update)) → tree_after t (map (λ e. e.1) h) ≡ after apply t h
same_tree t [] = refl
same_tree t (e ∷ h) = same_tree (apply t e.1) h

pub cuts_are_carried : CutsAreCarried
cuts_are_carried sizes t calls k v files inodes run s named has =
    let now : Rows = tree_at_cut sizes t calls k in
    let batch : List (ℕ × Update) = batch_after sizes t calls k in
    let us : List Update = batch_updates sizes t calls k in
    let next = the_next_cut_is_one_batch_on sizes t calls k run in
    let done = batches_are_carried v files now inodes us s (all_fit now batch next.0) named has in
    (subst (λ (x : Rows). Stands (updated v inodes now us) (files_updated files inodes now us) x inodes) (same_tree now batch ∙ sym next.1) done.0, done.1)
