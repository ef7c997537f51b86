-- What the record of a disk in memory tells.
use Rattle.std.proofs.Common.{sym, subst}
use Rattle.disk_model.specs.History.{Images}
use Rattle.disk_model.specs.HistoryView.{past_of, images_of}
use Rattle.disk_model.specs.Past.{Images-contents}
use Rattle.disk_model.specs.declared.history.History.{History}

-- the contents now are an image
pub bytes_are_image : (history : History) → images_of history history.bytes.items
bytes_are_image history = subst (Images history.start.items (past_of history)) (sym history.kept) (Images-contents history.start.items (past_of history) history.inside)
