use Rattle.std.proofs.Common.{rules}
use Rattle.turn_table.proofs.SeatSteps.{looks_at_calls}
use Rattle.turn_table.proofs.turns.Turns.load_calls.Goals as goal

pub load-requires : goal.load-requires
load-requires g c = (c.requires.own, search rules, looks_at_calls _ _ _ _ _ _ _ _)
