use Rattle.std.proofs.Common.{◌≡◌, ap, sym, subst, ◌∙◌}
use Rattle.std.specs.Prelude.{OnOk, OnErr}
use Rattle.std.specs.declared.option.Option.TheVariants.{None, Some}
use Rattle.std.specs.FinMap as map
use Rattle.std.specs.Cmp.{nat_cmp_total}
use Rattle.std.proofs.lemmas.Result.{on_ok_weaker, on_err_weaker}
use Rattle.tree_model.specs.Nodes.{IndexedRow, with_entry, on_node, put_at}
use Rattle.tree_model.proofs.MapView.{get_view, written_view, insert_same}
use Rattle.tree_model.proofs.nodes.Nodes.put_entry.Goals as goal
use Rattle.tree_model.proofs.nodes.Nodes.put_entry.Goals.{in-Some, in-None}

pub returns-clause-ok : goal.returns-clause-ok
returns-clause-ok c =
    let f = with_entry c.args.name c.args.id in
    elim c.match-get_mut.branch [
      | in-Some w ↦
          let was : IndexedRow = w.in-Some.node.now in
          let there : map.get c.args.self.now c.args.dir ≡ Some was = sym (ap (λ z. map.get z c.args.dir) c.self.view_is) ∙ get_view nat_cmp_total c.self.inside.nodes.entries c.args.dir ∙ sym w.in-Some.ensures.value in
          let put = written_view nat_cmp_total map.nat_cmp-IsAntisymmetric c.self.inside.nodes (c.get_mut.follows.lender w.put_entry.new.self) c.args.dir was w.put_entry.new.self (sym w.in-Some.ensures.value) (c.get_mut.follows.holds w.put_entry.new.self) in
          subst (λ r. OnOk r (map.from_entries c.match-get_mut.self-inside.nodes.entries ≡ on_node f c.args.self.now c.args.dir)) (sym w.result-is)
          (on_ok_weaker w.put_entry.result (λ is.
          ap (λ z. map.from_entries z.nodes.entries) w.self-inside-is ∙ put ∙ ap (λ z. map.insert z c.args.dir w.put_entry.new.self) c.self.view_is
          ∙ ap (map.insert c.args.self.now c.args.dir) is ∙ ap (put_at f c.args.self.now c.args.dir) (sym there)) w.put_entry.ensures.ok)
      | in-None w ↦
          let there : map.get c.args.self.now c.args.dir ≡ None = sym (ap (λ z. map.get z c.args.dir) c.self.view_is) ∙ get_view nat_cmp_total c.self.inside.nodes.entries c.args.dir ∙ sym w.in-None.ensures.value in
          subst (λ r. OnOk r (map.from_entries c.match-get_mut.self-inside.nodes.entries ≡ on_node f c.args.self.now c.args.dir)) (sym w.result-is)
          (ap (λ z. map.from_entries z.nodes.entries) w.self-inside-is ∙ ap (λ z. map.from_entries z.entries) c.get_mut.follows.holds-at-none ∙ c.self.view_is
          ∙ ap (put_at f c.args.self.now c.args.dir) (sym there))
    ]

pub returns-clause-err : goal.returns-clause-err
returns-clause-err c =
    elim c.match-get_mut.branch [
      | in-Some w ↦
          let was : IndexedRow = w.in-Some.node.now in
          let there : map.get c.args.self.now c.args.dir ≡ Some was = sym (ap (λ z. map.get z c.args.dir) c.self.view_is) ∙ get_view nat_cmp_total c.self.inside.nodes.entries c.args.dir ∙ sym w.in-Some.ensures.value in
          let put = written_view nat_cmp_total map.nat_cmp-IsAntisymmetric c.self.inside.nodes (c.get_mut.follows.lender w.put_entry.new.self) c.args.dir was w.put_entry.new.self (sym w.in-Some.ensures.value) (c.get_mut.follows.holds w.put_entry.new.self) in
          subst (λ r. OnErr r (map.from_entries c.match-get_mut.self-inside.nodes.entries ≡ c.args.self.now)) (sym w.result-is)
          (on_err_weaker w.put_entry.result (λ is.
          ap (λ z. map.from_entries z.nodes.entries) w.self-inside-is ∙ put ∙ ap (λ z. map.insert z c.args.dir w.put_entry.new.self) c.self.view_is
          ∙ ap (map.insert c.args.self.now c.args.dir) is ∙ insert_same nat_cmp_total map.nat_cmp-IsAntisymmetric c.args.self.now c.args.dir was there) w.put_entry.ensures.err)
      | in-None w ↦ subst (λ r. OnErr r (map.from_entries c.match-get_mut.self-inside.nodes.entries ≡ c.args.self.now)) (sym w.result-is) tt
    ]
