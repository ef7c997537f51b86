use Rattle.std.proofs.Common.{◌<◌, length, arith}
use Rattle.tree_model.proofs.Slots.{more_some, more_none}
use Rattle.tree_model.proofs.keys.keys_of.Goals as goal
use Rattle.tree_model.proofs.keys.keys_of.Goals.{in-Some+in_ok-push, in_default}

pub loop-slot-preserved : goal.loop-slot-preserved
loop-slot-preserved c =
    let slots = c.key_slots.result in
    let i = c.loop-slot.slot-index in
    let within : i < length slots = omega (arith, c.type_inv.slot-items, c.loop-slot-test.true) in
    elim c.match-slot.branch [
      | in-Some+in_ok-push w ↦ let more = more_some slots i c.slot-item.result w.in-Some.key within w.in-Some.is in cc (w.keys-is, w.in_ok-push.ensures.items, more, c.loop-slot.invariant)
      | in_default w ↦ let more = more_none slots i c.slot-item.result within w.in_default.is in cc (w.keys-is, more, c.loop-slot.invariant)
    ]
