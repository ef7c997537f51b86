use Rattle.std.proofs.Common.{[], ap, sym, subst, ◌∙◌}
use Rattle.tree_model.specs.Rows.{Rows}
use Rattle.plain_model.specs.Recorded.{IsRecorded}
use Rattle.plain_model.proofs.Records.{recorded_none}
use Rattle.plain_model.proofs.recording.History.on.Goals as goal

pub invariant_of-result : goal.invariant_of-result
invariant_of-result c =
    let t = c.args.opening in
    let left = c.of.ensures ∙ ap (λ (t : Rows). record { tree = t; choices = []; handles = []; unsealed = []; next = c.args.next; seals = 0 }) c.in_ok-tree.ensures in
    subst (λ l. IsRecorded c.args.sizes t c.of.result l c.new-2.result.items) (sym c.new.ensures.items)
    (subst (λ l. IsRecorded c.args.sizes t c.of.result [] l) (sym c.new-2.ensures.items) (recorded_none c.args.sizes t c.of.result c.args.next c.is_a_tree.ensures c.requires.files c.requires.next left))
