use Rattle.std.proofs.Common.{ap, sym, subst, ◌∙◌}
use Rattle.tree_model.specs.Updates.{recount}
use Rattle.tree_model.specs.Nodes.{AreIndexed, rows_in}
use Rattle.tree_model.proofs.Stays.{told_kept}
use Rattle.tree_model.proofs.keeping.Tree.with_changes.Goals as goal

pub invariant_of-self : goal.invariant_of-self
invariant_of-self c = subst AreIndexed (sym c.recount.ensures) (told_kept c.self.inside.nodes c.self.invariant c.args.id c.args.changes).kept

pub returns : goal.returns
returns c =
    ap rows_in c.recount.ensures ∙ (told_kept c.self.inside.nodes c.self.invariant c.args.id c.args.changes).rows
    ∙ ap (λ t. recount t c.args.id c.args.changes) c.self.view_is
