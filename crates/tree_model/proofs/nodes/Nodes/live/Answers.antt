use Rattle.std.proofs.Common.{List, ◌≡◌, ℕ, ◌^◌, ◌<◌, length, ap, sym, ◌∙◌, zero-add, rules, arith}
use Rattle.std.specs.FinMap as map
use Rattle.std.specs.List.{sum_by}
use Rattle.std.specs.Cmp.{nat_cmp_total}
use Rattle.ccfs_base.specs.Limits.{blocks}
use Rattle.tree_model.specs.Nodes.{IndexedRow}
use Rattle.tree_model.specs.Weights.{body_bytes}
use Rattle.tree_model.proofs.MapView.{entries_view}
use Rattle.tree_model.proofs.nodes.Nodes.live.Goals as goal

pub loop-node-init : goal.loop-node-init
loop-node-init c =
    let held : c.into_iter-node-iterator.result ≡ c.self.inside.nodes.entries = search rules in
    let kept : c.self.inside.nodes.entries ≡ map.entries c.args.self.now = sym (entries_view nat_cmp_total map.nat_cmp-IsAntisymmetric c.self.inside.nodes.entries c.iter-node-items.ensures.ordered) ∙ ap (λ k. map.entries k) c.self.view_is in
    let size : length c.into_iter-node-iterator.result ≡ map.len c.args.self.now = ap length (held ∙ kept) ∙ sym (map.len-entries c.args.self.now) in
    let few : map.len c.args.self.now < 2 ^ 32 = c.requires in
    record {
      sum = zero-add _ ∙ ap (λ (l : List (ℕ × IndexedRow)). sum_by (λ (e : ℕ × IndexedRow). blocks (length (body_bytes e.1.0.body))) l) (held ∙ kept);
      few = omega arith;
    }
