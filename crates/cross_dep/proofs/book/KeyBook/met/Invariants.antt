use Rattle.std.proofs.Common.{not, ◌&&◌, ◌==◌}
use Rattle.tree_model.specs.Keys.{keys_of}
use Rattle.cross_dep.specs.Books.{marks_of}
use Rattle.cross_dep.specs.Held.{any_clashes}
use Rattle.cross_dep.proofs.Told.{TellsBelow}
use Rattle.cross_dep.proofs.book.KeyBook.met.Given as goal

abbrev pub invariant-loop-other : goal.invariant-loop-other
invariant-loop-other l = TellsBelow l.met l.other (λ s. not (s == l.stream) && any_clashes (marks_of l.self s) (keys_of l.update))
