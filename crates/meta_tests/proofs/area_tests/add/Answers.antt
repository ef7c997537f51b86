use Rattle.std.proofs.Common.{w64, to_z, of_z}
use Rattle.meta_tests.proofs.area_tests.add.Goals as goal

pub add-requires : goal.add-requires
add-requires c = c.may_add.ensures.forth c.if-not-may_add.false (to_z w64 (of_z w64 c.args.by))
