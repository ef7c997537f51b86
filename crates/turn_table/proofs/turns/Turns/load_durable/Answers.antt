use Rattle.std.proofs.Common.{rules}
use Rattle.turn_table.proofs.SeatSteps.{looks_at_durable}
use Rattle.turn_table.proofs.turns.Turns.load_durable.Goals as goal

pub load-requires : goal.load-requires
load-requires g c = (c.requires.own, search rules, looks_at_durable _ _ _ _ _ _ _ _)
