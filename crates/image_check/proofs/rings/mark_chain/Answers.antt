use Rattle.std.proofs.Common.{sym, ◌∙◌}
use Rattle.image_model.specs.Checks.{parent_at}
use Rattle.image_check.specs.Tables.{seen}
use Rattle.image_check.proofs.Climbing.{a_step, marked_more, walked_more, climbs_on}
use Rattle.image_check.proofs.rings.mark_chain.Goals as goal

pub loop-step-preserved : goal.loop-step-preserved
loop-step-preserved c =
    let t = seen c.args.table.now in
    record {
      here = a_step (parent_at t) c.loop-step._step c.args.inode c.loop-step.at c.up_from-at.result c.loop-step.invariant.here c.up_from-at.ensures;
      marks = marked_more t c.loop-step.marks c.set_mark.new.marks c.loop-step.at c.loop-step.invariant.marks c.set_mark.auto.marks c.set_mark.ensures.kept c.set_mark.ensures.new
          (λ x is. climbs_on t c.loop-step._step c.args.inode x c.requires.below (sym c.loop-step.invariant.here ∙ is));
      walked = walked_more t c.loop-step.marks c.set_mark.new.marks c.loop-step.at c.args.inode c.loop-step._step c.set_mark.auto.marks c.set_mark.ensures.kept c.set_mark.ensures.set c.loop-step.invariant.here c.loop-step.invariant.walked;
    }
