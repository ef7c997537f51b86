-- Calls that change nothing of a disk in memory.
use Rattle.std.proofs.Common.{◌≡◌, length, ap}
use Rattle.disk_model.specs.History.{Images, LeftSince}
use Rattle.disk_model.specs.HistoryView.{Stays}
use Rattle.disk_model.specs.Memory.{written_of, Undisturbed}
use Rattle.disk_model.specs.declared.memory.MemDisk.{MemDisk}
use Rattle.disk_model.proofs.Crash.{stays_keeps, stays_backs}

pub undisturbed : (old new : MemDisk) → Stays old.history new.history → written_of new ≡ written_of old → Undisturbed old new
undisturbed old new stays written = record {
  seen = stays.bytes;
  written = written;
  moment = ap length stays.past;
  images = λ c. (stays_backs (λ start past. Images start past c) old.history new.history stays, stays_keeps (λ start past. Images start past c) old.history new.history stays);
  since = λ t c. (stays_backs (λ start past. LeftSince start past t c) old.history new.history stays, stays_keeps (λ start past. LeftSince start past t c) old.history new.history stays);
}
