use Rattle.std.proofs.Common.{ap, sym, ◌∙◌, length, arith}
use Rattle.tree_model.specs.Entries.{children}
use Rattle.tree_model.proofs.Stays.{children_none, children_some, few_entries}
use Rattle.tree_model.proofs.keeping.Tree.entry_count.Goals as goal

pub overflow_cast-result : goal.overflow_cast-result
overflow_cast-result c =
    let few = few_entries c.self.inside.nodes c.self.invariant c.args.dir c.in-Some.node.now (sym c.in-Some.ensures) in
    omega arith

pub returns-in-Some : goal.returns-in-Some
returns-in-Some c =
    c.len.ensures ∙ sym (children_some c.self.inside.nodes c.self.invariant c.args.dir c.in-Some.node.now (sym c.in-Some.ensures)) ∙ ap (λ t. length (children t c.args.dir)) c.self.view_is

pub returns-in-None : goal.returns-in-None
returns-in-None c =
    sym (children_none c.self.inside.nodes c.self.invariant c.args.dir (sym c.in-None.ensures)) ∙ ap (λ t. length (children t c.args.dir)) c.self.view_is
