use Rattle.std.proofs.Common.{◌≡◌, ◌++◌, ap, sym, ◌∙◌, rules}
use Rattle.std.specs.Prelude.{reverse, map}
use Rattle.std.specs.FinMap.{entries}
use Rattle.std.proofs.lemmas.Cmp.{nat_list_cmp_total}
use Rattle.tree_model.proofs.MapView.{entries_view, bytes_same}
use Rattle.tree_model.proofs.node.Node.put_ahead.Goals as goal

pub loop-id-init : goal.loop-id-init
loop-id-init c =
    let held : c.into_iter-id-iterator.result.iter ≡ c.self.inside.entries.entries = search rules in
    let kept : c.self.inside.entries.entries ≡ entries c.args.self.now.1 = sym (entries_view nat_list_cmp_total bytes_same c.self.inside.entries.entries c.iter.ensures.ordered) ∙ ap (λ k. entries k.1) c.self.view_is in
    ap (λ l. c.args.ahead.now.items ++ reverse (map (λ e. (c.args.depth, e.1)) l)) (held ∙ kept)
