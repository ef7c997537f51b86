use Rattle.std.proofs.Common.{◌≡◌, ℕ, List, false, not, length, take, drop, map, ap, ◌∙◌, arith}
use Rattle.ccfs_base.specs.declared.replies.Reply.TheVariants.{Listed}
use Rattle.tree_model.specs.Rows.{is_dir_at}
use Rattle.tree_model.specs.Entries.{children}
use Rattle.history_model.specs.Answers.{tells}
use Rattle.command_answers.proofs.Passed.{past}
use Rattle.command_answers.proofs.views.View.list_at.Goals as goal

pub returns : goal.returns
returns c sizes =
    let t = c.args.self.now.tree.now in
    let id = c.args.id in
    let seen : c.window.result.now ≡ take 64 (drop c.args.skip (children t id))
    = c.window.ensures ∙ ap (λ (l : List (List ℕ × ℕ)). take 64 (drop c.args.skip l)) (c.deref.ensures.value ∙ c.in_ok-all.ensures) in
    let named : c.in_ok-names.names ≡ map (λ e. (e.0, is_dir_at t e.1)) (take 64 (drop c.args.skip (children t id)))
    = c.in_ok-names.ensures ∙ ap (λ (l : List (List ℕ × ℕ)). map (λ e. (e.0, is_dir_at t e.1)) l) seen in
    let is : not (is_dir_at t id) ≡ false = let a : c.is_dir.result ≡ is_dir_at t id = c.is_dir.ensures in let f = c.if-not-is_dir.false in grind (arith) in
    c.tells.ensures ∙ ap (λ k. tells (Listed k c.in_ok-names.names)) c.entry_count.ensures ∙ ap (λ ns. tells (Listed (length (children t id)) ns)) named ∙ past _ _ _ is
