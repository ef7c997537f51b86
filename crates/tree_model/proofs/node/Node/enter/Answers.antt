use Rattle.std.proofs.Common.{◌≡◌, ap, ◌∙◌}
use Rattle.tree_model.specs.Updates.{counted}
use Rattle.tree_model.specs.Nodes.{entered, index_of}
use Rattle.tree_model.proofs.node.Node.enter.Goals as goal

pub returns-clause-ok : goal.returns-clause-ok
returns-clause-ok c =
    let old = c.self.inside in
    let body : c.count.new.self ≡ counted old.row.body = c.count.ensures in
    ap (λ z. (record old.row { body = z }, index_of c.put_entry.new.entries.entries)) body
    ∙ ap (λ z. (record old.row { body = counted old.row.body }, z)) c.in_ok-put_entry.ensures.ok
    ∙ ap (entered c.args.name c.args.id) c.self.view_is
