use Rattle.std.proofs.Common.{◌∙◌}
use Rattle.cross_dep.proofs.HeldMarks.{keys_at}
use Rattle.cross_dep.proofs.BookOf.{book_of_none}
use Rattle.cross_dep.proofs.book.KeyBook.new.Goals as goal

pub returns : goal.returns
returns c = book_of_none _ (λ s. keys_at c.no_marks.result s ∙ c.no_marks.ensures s)
