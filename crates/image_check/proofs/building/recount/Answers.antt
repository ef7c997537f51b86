use Rattle.std.proofs.Common.{◌≡◌, length, ap, subst, arith}
use Rattle.image_model.specs.Carrying.{inode_in}
use Rattle.image_check.proofs.Remade.{one_told, all_told, AreTold}
use Rattle.image_check.proofs.building.recount.Goals as goal

pub overflow_cast-serial : goal.overflow_cast-serial
overflow_cast-serial c =
    let long : length c.all-inode-items.result.now ≡ length c.args.inodes.now = ap (λ l. length l) c.all-inode-items.ensures in
    let few = c.requires.1.few in omega arith

pub loop-serial-preserved : goal.loop-serial-preserved
loop-serial-preserved c t spelled made =
    let long : length c.all-inode-items.result.now ≡ length c.args.inodes.now = ap (λ l. length l) c.all-inode-items.ensures in
    one_told c.args.table.now c.args.inodes.now t spelled c.loop-serial.tree c.with_changes.new.self c.loop-serial.serial _ c.changes_told.result
    (c.loop-serial.invariant t spelled made) (omega arith) (ap (λ l. inode_in l c.loop-serial.serial) c.all-inode-items.ensures) c.changes_told.ensures c.with_changes.ensures

pub returns : goal.returns
returns c t spelled made =
    let long : length c.all-inode-items.result.now ≡ length c.args.inodes.now = ap (λ l. length l) c.all-inode-items.ensures in
    all_told c.args.table.now c.args.inodes.now t spelled c.loop-serial.tree (subst (AreTold c.args.table.now c.args.inodes.now t spelled c.loop-serial.tree) (omega arith) (c.loop-serial.invariant t spelled made))
