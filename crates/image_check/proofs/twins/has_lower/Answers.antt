use Rattle.std.specs.Prelude.{Some, None}
use Rattle.image_check.proofs.Lower.{found_is_lower}
use Rattle.image_check.proofs.twins.has_lower.Goals as goal

pub returns-in-Some : goal.returns-in-Some
returns-in-Some c = found_is_lower c.args.table.now c.args.inode c.args.slot.now (Some c.in-Some.first) c.requires c.in-Some.ensures.least

pub returns-in-None : goal.returns-in-None
returns-in-None c = found_is_lower c.args.table.now c.args.inode c.args.slot.now None c.requires c.in-None.ensures.least
