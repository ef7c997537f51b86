use Rattle.batch_ranges.proofs.Numbering.{numbers_are_beside}
use Rattle.batch_ranges.proofs.laws.numbers_are_beside.Goals as goal

pub returns : goal.returns
returns c = numbers_are_beside
