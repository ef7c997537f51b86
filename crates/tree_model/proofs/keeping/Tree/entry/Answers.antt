use Rattle.std.proofs.Common.{ap, sym, ◌∙◌}
use Rattle.tree_model.specs.Entries.{entry}
use Rattle.tree_model.proofs.Stays.{entry_none}
use Rattle.tree_model.proofs.keeping.Tree.entry.Goals as goal

pub returns-in-None : goal.returns-in-None
returns-in-None c = sym (sym (ap (λ t. entry t c.args.dir c.args.name.now) c.self.view_is) ∙ entry_none c.self.inside.nodes c.self.invariant c.args.dir c.args.name.now (sym c.in-None.ensures))
