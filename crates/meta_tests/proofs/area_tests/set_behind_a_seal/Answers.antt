use Rattle.std.proofs.Common.{true}
use Rattle.meta_tests.proofs.area_tests.set_behind_a_seal.Goals as goal

pub flip-requires : goal.flip-requires
flip-requires c = c.may_flip.ensures.forth c.if-not-may_flip.false true
