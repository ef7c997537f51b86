use Rattle.batch_ranges.proofs.Putting.{ranges_put_records}
use Rattle.batch_ranges.proofs.laws.ranges_put_records.Goals as goal

pub returns : goal.returns
returns c = ranges_put_records
