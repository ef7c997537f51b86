use Rattle.std.proofs.Common.{◌≡◌, ℕ, List, Some, ap, sym, ◌∙◌, arith}
use Rattle.std.proofs.lemmas.Grind.{common_steps}
use Rattle.std.specs.FinMap.{len}
use Rattle.ccfs_base.specs.declared.replies.Refusal.TheVariants.{Loop}
use Rattle.tree_model.specs.Tests.{is_above}
use Rattle.tree_model.specs.Entries.{entry}
use Rattle.tree_model.specs.Walk.{last_of}
use Rattle.history_model.specs.Answers.{Answer, refuses, move_to, from_row}
use Rattle.command_answers.specs.Viewing.{told, left_alone}
use Rattle.command_answers.proofs.views.View.rename_at.Goals as goal

pub returns-in-Ok : goal.returns-in-Ok
returns-in-Ok c = λ sizes.
    let t = c.args.self.now.tree.now in
    let into : ℕ → List ℕ → Answer = λ d n. refuses (is_above (len t) t c.args.id (Some d)) Loop (move_to sizes (left_alone t) c.args.id d n (entry t d n)) in
    let moved : told c.rename_into.result ≡ into c.in-Ok.to_dir c.in-Ok.name = let e = c.rename_into.ensures sizes in grind (arith, common_steps) in
    moved ∙ ap (λ n. into c.in-Ok.to_dir n) (sym c.in-Ok.ensures.ok.1) ∙ ap (λ r. from_row r (λ d. into d (last_of c.args.to.now))) (sym c.in-Ok.ensures.ok.0)
