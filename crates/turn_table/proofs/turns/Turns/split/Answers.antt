use Rattle.std.proofs.Common.{rules, subst}
use Rattle.turn_table.specs.Told.{CanSplit}
use Rattle.turn_table.proofs.SeatSteps.{splits_caller, splits_note}
use Rattle.turn_table.proofs.turns.Turns.split.Goals as goal

pub split_seat-requires : goal.split_seat-requires
split_seat-requires g c = (c.requires.own, search rules, splits_caller _ _ _ _ _ _ c.in-Some.field-0 _ (subst (λ o. CanSplit o c.args.seat.now.me.0.who) c.in-Some.is c.requires.can))

pub split_seat-requires-in-None : goal.split_seat-requires-in-None
split_seat-requires-in-None g c = (c.requires.own, search rules, splits_note _ _ _ _ _ _ _ (search rules))
