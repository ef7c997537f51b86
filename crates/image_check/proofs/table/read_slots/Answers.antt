use Rattle.std.proofs.Common.{◌+◌, sym, subst, ◌∙◌, arith}
use Rattle.image_model.specs.Reading.{table_in}
use Rattle.image_check.proofs.Reading.{AreSlotsBelow, no_slots, one_slot, no_slot, all_slots}
use Rattle.image_check.proofs.table.read_slots.Goals.{in-Some+in_ok-put, in_default}
use Rattle.image_check.proofs.table.read_slots.Goals as goal

pub loop-inode-init : goal.loop-inode-init
loop-inode-init c = let t = table_in c.args.geometry.now c.args.volume.now in subst (λ m. AreSlotsBelow t m 0) (sym c.new-slots.ensures) (no_slots t)

pub loop-inode-preserved : goal.loop-inode-preserved
loop-inode-preserved c =
    let t = table_in c.args.geometry.now c.args.volume.now in
    elim c.match-slot_kept.branch [
      | in-Some+in_ok-put w ↦
          subst (λ m. AreSlotsBelow t m (c.loop-inode.inode + 1)) (sym (w.slots-is ∙ w.in_ok-put.ensures.ok))
          (one_slot t c.loop-inode.slots c.loop-inode.inode w.in-Some.slot c.loop-inode.invariant (sym c.slot_kept.ensures ∙ w.in-Some.is))
      | in_default w ↦
          subst (λ m. AreSlotsBelow t m (c.loop-inode.inode + 1)) (sym w.slots-is)
          (no_slot t c.loop-inode.slots c.loop-inode.inode c.loop-inode.invariant (sym c.slot_kept.ensures ∙ w.in_default.is))
    ]

pub returns : goal.returns
returns c = all_slots (table_in c.args.geometry.now c.args.volume.now) c.loop-inode.slots c.loop-inode.inode c.loop-inode.invariant (omega arith)
