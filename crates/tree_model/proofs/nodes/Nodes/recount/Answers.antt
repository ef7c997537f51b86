use Rattle.std.proofs.Common.{◌≡◌, ap, sym, ◌∙◌}
use Rattle.std.specs.declared.option.Option.TheVariants.{None, Some}
use Rattle.std.specs.FinMap as map
use Rattle.std.specs.Cmp.{nat_cmp_total}
use Rattle.tree_model.specs.Nodes.{IndexedRow, told, put_at}
use Rattle.tree_model.proofs.MapView.{get_view, written_view}
use Rattle.tree_model.proofs.nodes.Nodes.recount.Goals as goal
use Rattle.tree_model.proofs.nodes.Nodes.recount.Goals.{in-Some, in_default}

pub returns : goal.returns
returns c =
    let f = told c.args.count in
    elim c.match-get_mut.branch [
      | in-Some w ↦
          let was : IndexedRow = w.in-Some.node.now in
          let there : map.get c.args.self.now c.args.id ≡ Some was = sym (ap (λ z. map.get z c.args.id) c.self.view_is) ∙ get_view nat_cmp_total c.self.inside.nodes.entries c.args.id ∙ sym w.in-Some.ensures.value in
          let put = written_view nat_cmp_total map.nat_cmp-IsAntisymmetric c.self.inside.nodes (c.get_mut.follows.lender w.recount.new.self) c.args.id was w.recount.new.self (sym w.in-Some.ensures.value) (c.get_mut.follows.holds w.recount.new.self) in
          ap (λ z. map.from_entries z.nodes.entries) w.self-inside-is ∙ put ∙ ap (λ z. map.insert z c.args.id w.recount.new.self) c.self.view_is
          ∙ ap (map.insert c.args.self.now c.args.id) w.recount.ensures ∙ ap (put_at f c.args.self.now c.args.id) (sym there)
      | in_default w ↦
          let there : map.get c.args.self.now c.args.id ≡ None = sym (ap (λ z. map.get z c.args.id) c.self.view_is) ∙ get_view nat_cmp_total c.self.inside.nodes.entries c.args.id ∙ sym w.in_default.ensures.value in
          ap (λ z. map.from_entries z.nodes.entries) w.self-inside-is ∙ ap (λ z. map.from_entries z.entries) c.get_mut.follows.holds-at-none ∙ c.self.view_is
          ∙ ap (put_at f c.args.self.now c.args.id) (sym there)
    ]
