use Rattle.std.proofs.Common.{◌≡◌, None, Some, false, ap, sym, ◌∙◌, arith}
use Rattle.std.proofs.lemmas.Grind.{common_steps}
use Rattle.std.specs.FinMap.{len}
use Rattle.tree_model.specs.declared.rows.Update.TheVariants.{Move}
use Rattle.tree_model.specs.Rows.{is_dir_at, place_of}
use Rattle.tree_model.specs.Tests.{is_above}
use Rattle.tree_model.specs.Entries.{entry}
use Rattle.history_model.specs.Answers.{at_place, does, move_to}
use Rattle.plain_model.proofs.Moves.{past}
use Rattle.plain_model.proofs.keeping.State.rename_into.Goals as goal

pub returns-in-Some : goal.returns-in-Some
returns-in-Some c sizes = let e = c.move_over.ensures sizes in let a = c.in-Some.ensures in let b = c.if-is_above in grind (arith, common_steps)

pub returns-in-None : goal.returns-in-None
returns-in-None c sizes =
    let now = c.args.self.now in
    let kind : c.is_dir.result ≡ is_dir_at now.tree c.args.id = c.is_dir.ensures ∙ ap (λ n. is_dir_at n.tree c.args.id) c.self.view_is in
    let clear : is_above (len now.tree) now.tree c.args.id (Some c.args.to_dir) ≡ false
    = ap (λ n. is_above (len n.tree) n.tree c.args.id (Some c.args.to_dir)) (sym c.self.view_is) ∙ ap (λ k. is_above k c.self.inside.tree c.args.id (Some c.args.to_dir)) (sym c.len.ensures.rows)
    ∙ sym c.is_above.ensures ∙ c.if-is_above.false in
    let free : None ≡ entry now.tree c.args.to_dir c.args.to_name = c.in-None.ensures ∙ ap (λ n. entry n.tree c.args.to_dir c.args.to_name) c.self.view_is in
    c.move_row.ensures
    ∙ ap (λ s. at_place (place_of now.tree c.args.id) (λ dir name. does (Move dir name c.args.to_dir c.args.to_name c.args.id s None false))) kind
    ∙ ap (move_to sizes now c.args.id c.args.to_dir c.args.to_name) free
    ∙ past _ _ _ clear
