use Rattle.std.proofs.Common.{◌≡◌, [], ap, sym, subst, ◌∙◌}
use Rattle.std.specs.Prelude.{IfNone}
use Rattle.tree_model.specs.Entries.{children}
use Rattle.tree_model.specs.Picture.{node_of}
use Rattle.tree_model.proofs.Stays.{node_kept, few_there, bare_there}
use Rattle.tree_model.proofs.keeping.Tree.node.Goals as goal

pub returns-clause-node : goal.returns-clause-node
returns-clause-node c = c.get.ensures ∙ sym (node_kept c.self.inside.nodes c.self.invariant c.args.id) ∙ ap (λ t. node_of t c.args.id) c.self.view_is

pub returns-clause-none : goal.returns-clause-none
returns-clause-none c = subst (λ t. IfNone c.get.result (children t c.args.id ≡ [])) c.self.view_is (bare_there c.self.inside.nodes c.self.invariant c.args.id c.get.result c.get.ensures)

pub returns-clause-few : goal.returns-clause-few
returns-clause-few c = few_there c.self.inside.nodes c.self.invariant c.args.id c.get.result c.get.ensures
