use Rattle.std.proofs.Common.{◌≡◌, length, sym, ap, ◌∙◌, arith}
use Rattle.image_model.specs.Carrying.{inode_in}
use Rattle.image_check.proofs.Remade.{first_made, update_fits, update_made, none_made}
use Rattle.image_check.proofs.building.make_rows.Goals.{in-Some+in_ok-apply+in-Write-1, in-Some+in_ok-apply+in-Make-1, in_default}
use Rattle.image_check.proofs.building.make_rows.Goals as goal

pub loop-serial-init : goal.loop-serial-init
loop-serial-init c t spelled = first_made c.args.table.now c.args.inodes.now t spelled c.in_ok-tree.tree c.in_ok-tree.ensures

pub overflow_cast-serial : goal.overflow_cast-serial
overflow_cast-serial c =
    let long : length c.all-inode-items.result.now ≡ length c.args.inodes.now = ap (λ l. length l) c.all-inode-items.ensures in
    let few = c.requires.spelled.1.few in omega arith

pub apply-requires : goal.apply-requires
apply-requires c =
    let long : length c.all-inode-items.result.now ≡ length c.args.inodes.now = ap (λ l. length l) c.all-inode-items.ensures in
    let w = c.requires.spelled in
    update_fits c.args.table.now c.args.inodes.now w.0 w.1 c.args.serials.now c.loop-serial.tree c.loop-serial.serial _ c.in-Some.update c.requires.serials (c.loop-serial.invariant w.0 w.1) (omega arith) (ap (λ l. inode_in l c.loop-serial.serial) c.all-inode-items.ensures) (sym c.making.ensures ∙ c.in-Some.is)

pub loop-serial-preserved : goal.loop-serial-preserved
loop-serial-preserved c t spelled =
    let long : length c.all-inode-items.result.now ≡ length c.args.inodes.now = ap (λ l. length l) c.all-inode-items.ensures in
    let so_far = c.loop-serial.invariant t spelled in
    elim c.match-making.branch [
      | in-Some+in_ok-apply+in-Write-1 w ↦ update_made c.args.table.now c.args.inodes.now t spelled c.args.serials.now c.loop-serial.tree c.match-making.tree c.loop-serial.serial _ w.in-Some.update c.requires.serials so_far (omega arith) (ap (λ l. inode_in l c.loop-serial.serial) c.all-inode-items.ensures)
          (sym c.making.ensures ∙ w.in-Some.is) (w.tree-is ∙ w.in_ok-apply.ensures.ok)
      | in-Some+in_ok-apply+in-Make-1 w ↦ update_made c.args.table.now c.args.inodes.now t spelled c.args.serials.now c.loop-serial.tree c.match-making.tree c.loop-serial.serial _ w.in-Some.update c.requires.serials so_far (omega arith) (ap (λ l. inode_in l c.loop-serial.serial) c.all-inode-items.ensures)
          (sym c.making.ensures ∙ w.in-Some.is) (w.tree-is ∙ w.in_ok-apply.ensures.ok)
      | in_default w ↦ none_made c.args.table.now c.args.inodes.now t spelled c.args.serials.now c.loop-serial.tree c.match-making.tree c.loop-serial.serial _ c.requires.serials so_far (omega arith) (ap (λ l. inode_in l c.loop-serial.serial) c.all-inode-items.ensures)
          (sym c.making.ensures ∙ w.in_default.is) w.tree-is
    ]
