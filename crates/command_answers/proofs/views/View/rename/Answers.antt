use Rattle.std.proofs.Common.{sym, ◌∙◌}
use Rattle.command_answers.proofs.Passed.{past_row}
use Rattle.command_answers.proofs.views.View.rename.Goals as goal

pub returns-in-Ok : goal.returns-in-Ok
returns-in-Ok c = λ sizes.
    past_row _ _ _ _ c.in-Ok.id _ _ (sym c.is_root.ensures.root ∙ c.if-is_root.false) (sym c.is_root-else-is_root.ensures.root ∙ c.if-is_root-2.false) c.in-Ok.ensures (c.rename_at.ensures sizes)
