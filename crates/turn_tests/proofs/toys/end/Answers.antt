use Rattle.std.proofs.Common.{ap, sym, subst}
use Rattle.turn_table.specs.Told.{EndsToo}
use Rattle.turn_table.proofs.Ending.{ends_too}
use Rattle.turn_tests.proofs.toys.end.Goals as goal

pub returns-clause-ended : goal.returns-clause-ended
returns-clause-ended c = subst (EndsToo c.args.caller c.args.first.now.me.0.ended) (sym (ap (λ m. m.0.ended) c.join.ensures.joined)) (ends_too c.args.caller c.args.first.now.me.0 c.args.seat.me.0 c.requires.idle.0)
