use Rattle.std.specs.List.{list_any}
use Rattle.tree_model.specs.Keys.{clash}
use Rattle.cross_dep.specs.Books.{marks_of}
use Rattle.cross_dep.proofs.Told.{TellsBelow}
use Rattle.cross_dep.proofs.book.KeyBook.changers.Given as goal

abbrev pub invariant-loop-stream : goal.invariant-loop-stream
invariant-loop-stream l = TellsBelow l.changers l.stream (λ s. list_any (clash l.needed) (marks_of l.self s))
