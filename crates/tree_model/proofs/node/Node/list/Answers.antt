use Rattle.std.proofs.Common.{◌≡◌, ◌++◌, ap, sym, ◌∙◌, rules}
use Rattle.std.specs.FinMap.{entries}
use Rattle.std.proofs.lemmas.Cmp.{nat_list_cmp_total}
use Rattle.tree_model.proofs.MapView.{entries_view, bytes_same}
use Rattle.tree_model.proofs.node.Node.list.Goals as goal

pub loop-name-init : goal.loop-name-init
loop-name-init c =
    let held : c.into_iter-name-iterator.result ≡ c.self.inside.entries.entries = search rules in
    let kept : c.self.inside.entries.entries ≡ entries c.args.self.now.1 = sym (entries_view nat_list_cmp_total bytes_same c.self.inside.entries.entries c.iter-name-items.ensures.ordered) ∙ ap (λ k. entries k.1) c.self.view_is in
    ap (λ l. l ++ c.into_iter-name-iterator.result) c.new-all.ensures.items ∙ held ∙ kept
