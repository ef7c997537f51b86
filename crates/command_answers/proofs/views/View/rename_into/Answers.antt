use Rattle.std.proofs.Common.{◌≡◌, None, Some, false, ap, sym, ◌∙◌}
use Rattle.std.specs.FinMap.{len}
use Rattle.tree_model.specs.declared.rows.Update.TheVariants.{Move}
use Rattle.tree_model.specs.Rows.{place_of}
use Rattle.tree_model.specs.Tests.{is_above}
use Rattle.history_model.specs.Answers.{at_place, does, move_to}
use Rattle.command_answers.specs.Viewing.{left_alone}
use Rattle.command_answers.proofs.Passed.{past}
use Rattle.command_answers.proofs.views.View.rename_into.Goals as goal

pub returns-in-Some : goal.returns-in-Some
returns-in-Some c = λ sizes.
    let t = c.args.self.now.tree.now in
    let clear : is_above (len t) t c.args.id (Some c.args.to_dir) ≡ false
    = ap (λ k. is_above k t c.args.id (Some c.args.to_dir)) (sym c.len.ensures.rows) ∙ sym c.is_above.ensures ∙ c.if-is_above.false in
    c.move_over.ensures sizes ∙ ap (move_to sizes (left_alone t) c.args.id c.args.to_dir c.args.to_name) c.in-Some.ensures ∙ past _ _ _ clear

pub returns-in-None : goal.returns-in-None
returns-in-None c = λ sizes.
    let t = c.args.self.now.tree.now in
    let clear : is_above (len t) t c.args.id (Some c.args.to_dir) ≡ false
    = ap (λ k. is_above k t c.args.id (Some c.args.to_dir)) (sym c.len.ensures.rows) ∙ sym c.is_above.ensures ∙ c.if-is_above.false in
    c.move_row.ensures
    ∙ ap (λ k. at_place (place_of t c.args.id) (λ dir name. does (Move dir name c.args.to_dir c.args.to_name c.args.id k None false))) c.is_dir.ensures
    ∙ ap (move_to sizes (left_alone t) c.args.id c.args.to_dir c.args.to_name) c.in-None.ensures
    ∙ past _ _ _ clear
