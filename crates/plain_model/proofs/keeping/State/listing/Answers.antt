use Rattle.std.proofs.Common.{◌≡◌, ℕ, List, false, arith, not, length, take, drop, map, ap, ◌∙◌}
use Rattle.ccfs_base.specs.declared.replies.Reply.TheVariants.{Listed}
use Rattle.tree_model.specs.Rows.{is_dir_at}
use Rattle.tree_model.specs.Entries.{children}
use Rattle.history_model.specs.Answers.{tells}
use Rattle.plain_model.proofs.Moves.{past}
use Rattle.plain_model.proofs.keeping.State.listing.Goals as goal

pub returns : goal.returns
returns c sizes =
    let now = c.args.self.now in
    let id = c.args.id in
    let kids : c.in_ok-all.all.items ≡ children now.tree id = c.in_ok-all.ensures ∙ ap (λ n. children n.tree id) c.self.view_is in
    let seen : c.window.result.now ≡ take 64 (drop c.args.skip (children now.tree id))
    = c.window.ensures ∙ ap (λ (l : List (List ℕ × ℕ)). take 64 (drop c.args.skip l)) (c.deref.ensures.value ∙ kids) in
    let named : c.in_ok-names.names ≡ map (λ e. (e.0, is_dir_at now.tree e.1)) (take 64 (drop c.args.skip (children now.tree id)))
    = c.in_ok-names.ensures ∙ ap (λ (l : List (List ℕ × ℕ)). map (λ e. (e.0, is_dir_at now.tree e.1)) l) seen in
    let total : c.entry_count.result ≡ length (children now.tree id) = c.entry_count.ensures ∙ ap (λ n. length (children n.tree id)) c.self.view_is in
    let is : not (is_dir_at now.tree id) ≡ false
    = let a : c.is_dir.result ≡ is_dir_at now.tree id = c.is_dir.ensures ∙ ap (λ n. is_dir_at n.tree id) c.self.view_is in let f = c.if-not-is_dir.false in grind (arith) in
    c.tells.ensures ∙ ap (λ k. tells (Listed k c.in_ok-names.names)) total ∙ ap (λ ns. tells (Listed (length (children now.tree id)) ns)) named ∙ past _ _ _ is
