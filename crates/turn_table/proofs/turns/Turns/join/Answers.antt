use Rattle.std.proofs.Common.{rules, ◌∙◌}
use Rattle.turn_table.proofs.SeatSteps.{joins_seat, listens}
use Rattle.turn_table.proofs.turns.Turns.join.Goals as goal

pub join_seat-requires : goal.join_seat-requires
join_seat-requires g c = (c.requires.own, c.requires.theirs, c.requires.free.2, search rules, joins_seat _ _ _ _ _ _ _ _ _ c.requires.free.0 c.requires.free.1 c.requires.part)

pub load-requires : goal.load-requires
load-requires g c = (c.join_seat.ensures.0 ∙ c.requires.own, search rules, listens _ _ _ _ _ _ _ _)
