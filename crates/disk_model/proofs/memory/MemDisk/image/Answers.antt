use Rattle.std.proofs.Common.{subst, sym}
use Rattle.disk_model.specs.HistoryView.{past_of, images_of}
use Rattle.disk_model.proofs.Pick.{picked_is_image}
use Rattle.disk_model.proofs.memory.MemDisk.image.Goals as goal

pub returns-clause-image : goal.returns-clause-image
returns-clause-image c =
    let h = c.args.self.now.history in
    subst (images_of h) (sym c.in_ok-history.ensures.now)
    (picked_is_image h.start.items (past_of h) _ c.in_ok-bytes.bytes.items h.inside c.in_ok-bytes.ensures)
