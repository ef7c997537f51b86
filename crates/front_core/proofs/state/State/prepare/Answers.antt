use Rattle.front_core.proofs.Before.{before_both}
use Rattle.front_core.proofs.state.State.prepare.Goals as goal

pub returns-in_err-make_room-clause-before : goal.returns-in_err-make_room-clause-before
returns-in_err-make_room-clause-before c = before_both c.args.self.now.pending c.reserve.new.self c.make_room.new.self c.reserve.ensures.same c.make_room.ensures.same

pub returns-in_err-apply-clause-before : goal.returns-in_err-apply-clause-before
returns-in_err-apply-clause-before c = before_both c.args.self.now.pending c.reserve.new.self c.make_room.new.self c.reserve.ensures.same c.make_room.ensures.same

pub returns-clause-before : goal.returns-clause-before
returns-clause-before c = before_both c.args.self.now.pending c.reserve.new.self c.make_room.new.self c.reserve.ensures.same c.make_room.ensures.same
