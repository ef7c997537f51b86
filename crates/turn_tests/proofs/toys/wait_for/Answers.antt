use Rattle.std.proofs.Common.{refl}
use Rattle.turn_tests.proofs.toys.wait_for.Goals as goal

pub loop-init : goal.loop-init
loop-init g c = (refl, (c.args.seat.now.me.0.counted, refl))
