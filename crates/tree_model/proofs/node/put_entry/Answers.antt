use Rattle.std.proofs.lemmas.Cmp.{nat_list_cmp_total}
use Rattle.tree_model.proofs.MapView.{inserted_view, bytes_same}
use Rattle.tree_model.proofs.node.put_entry.Goals as goal

pub returns-in-Ok-clause-ok : goal.returns-in-Ok-clause-ok
returns-in-Ok-clause-ok c =
    inserted_view nat_list_cmp_total bytes_same c.args.entries.now.entries c.insert.new.self.entries c.args.name c.args.id c.in-Ok.ensures.updates.0
