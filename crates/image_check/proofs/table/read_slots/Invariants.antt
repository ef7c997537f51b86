use Rattle.image_model.specs.Reading.{table_in}
use Rattle.image_check.proofs.Reading.{AreSlotsBelow}
use Rattle.image_check.proofs.table.read_slots.Given as goal

-- the slots of all inodes so far are there
abbrev pub invariant-loop-inode : goal.invariant-loop-inode
invariant-loop-inode l = AreSlotsBelow (table_in l.geometry l.volume) l.slots l.inode
