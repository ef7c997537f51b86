use Rattle.std.proofs.Common.{◌≡◌, ◌++◌, ℕ, List, sym, refl, ap, ◌∙◌, subst}
use Rattle.std.proofs.lemmas.List.{append-nil}
use Rattle.std.specs.declared.result.Result.TheVariants.{Err}
use Rattle.ccfs_top.specs.Ends.{IsPart}
use Rattle.ccfs_top.specs.declared.stop.Stop.{Stop}
use Rattle.ccfs_top.specs.Stops.{Decides, Grew}
use Rattle.tree_model.specs.declared.picturing.Item.{Item}
use Rattle.tree_model.specs.Picture.{picture}
use Rattle.tree_model.specs.Rows.{Rows}
use Rattle.script_text.specs.Trees.{tree_lines}
use Rattle.ccfs_top.specs.Images.{Good, RecoversTo}
use Rattle.ccfs_top.specs.Runs.{printed, over}
use Rattle.ccfs_top.proofs.Ending.{fault_decides, fault_late, open_late}
use Rattle.ccfs_top.proofs.Finishing.{tree_fault, grew_tree, found_by, finds_refused, decides_refused, grew_refused}
use Rattle.ccfs_top.proofs.print.print_tree.Goals as goal

pub returns-in-Err-clause-halts : goal.returns-in-Err-clause-halts
returns-in-Err-clause-halts g c = λ told settled.
    let fault = c.in-Err.fault in
    let is = c.stop_of_open.ensures in
    let old = g.K.Sink.held c.args.out.now in (
      found_by fault,
      finds_refused RecoversTo (g.D.Disk.seen c.args.disk.now) fault (c.in-Err.ensures.says told settled),
      subst (Decides (over printed (found_by fault))) (sym is) (decides_refused printed fault),
      λ _. subst (λ (z : Stop). Grew (over printed (found_by fault)) z 0 old old) (sym is) (grew_refused printed fault old),
    )

pub returns-in-Ok-write_tree-clause-done : goal.returns-in-Ok-write_tree-clause-done
returns-in-Ok-write_tree-clause-done g c = λ told settled.
    let v = c.in-Ok.viewed in
    let old = g.K.Sink.held c.args.out.now in
    let spelled : c.all.result.now ≡ picture v.tree = c.all.ensures ∙ c.in-Ok-picture.ensures in (
      (v.number, v.tree),
      c.in-Ok.ensures.recovers told settled,
      refl,
      λ sink_told. c.in-Ok-write_tree.ensures.text sink_told ∙ ap (λ (z : List Item). old ++ tree_lines v.number z) spelled,
    )

pub returns-clause-halts : goal.returns-clause-halts
returns-clause-halts g c = λ told settled.
    let v = c.in-Ok.viewed in
    let p : ℕ × Rows = (v.number, v.tree) in
    let s = c.in-Err-write_tree.stop in
    let old = g.K.Sink.held c.args.out.now in
    let new = g.K.Sink.held c.write_tree.new.out in
    let spelled : c.all.result.now ≡ picture v.tree = c.all.ensures ∙ c.in-Ok-picture.ensures in
    let fault = tree_fault s c.in-Err-write_tree.ensures.kinds in (
      Good p,
      c.in-Ok.ensures.recovers told settled,
      fault_decides (printed p) s refl fault.0,
      λ sink_told. grew_tree (printed p) s old old new (sym (append-nil old)) fault.0
          (λ is.
          let part = c.in-Err-write_tree.ensures.sink sink_told (ap (λ z. Err z) is) in
          (part.0, part.1, subst (λ (z : List Item). IsPart part.0 (tree_lines v.number z)) spelled part.2))
          (λ not. c.in-Err-write_tree.ensures.unwritten sink_told (ap (λ z. Err z) (fault.1 not))),
    )

pub returns-in-Err-clause-late : goal.returns-in-Err-clause-late
returns-in-Err-clause-late g c = open_late c.stop_of_open.result c.in-Err.fault c.stop_of_open.ensures

pub returns-clause-late : goal.returns-clause-late
returns-clause-late g c = fault_late c.in-Err-write_tree.stop (tree_fault c.in-Err-write_tree.stop c.in-Err-write_tree.ensures.kinds).0
