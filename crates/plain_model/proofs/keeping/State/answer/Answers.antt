use Rattle.std.proofs.Common.{◌≡◌, ap, sym, ◌∙◌}
use Rattle.tree_cuts.specs.Calls.{SyncStream, SyncAll}
use Rattle.history_model.specs.State.{stream_in, file_in}
use Rattle.history_model.specs.Answers.{answer, synced, at_path, at_handle, read, listing}
use Rattle.plain_model.proofs.Moves.{at_these}
use Rattle.plain_model.proofs.keeping.State.answer.Goals as goal

pub returns-in-Unlink : goal.returns-in-Unlink
returns-in-Unlink c = c.unlink.ensures c.args.sizes.now ∙ ap (answer c.args.sizes.now c.args.self.now c.args.actor) (sym c.in-Unlink.is)

pub returns-in-Rmdir : goal.returns-in-Rmdir
returns-in-Rmdir c = c.rmdir.ensures c.args.sizes.now ∙ ap (answer c.args.sizes.now c.args.self.now c.args.actor) (sym c.in-Rmdir.is)

pub returns-in-Close : goal.returns-in-Close
returns-in-Close c = c.close_handle.ensures c.args.sizes.now ∙ ap (answer c.args.sizes.now c.args.self.now c.args.actor) (sym c.in-Close.is)

pub returns-in-Stat : goal.returns-in-Stat
returns-in-Stat c = c.stat_path.ensures c.args.sizes.now ∙ ap (answer c.args.sizes.now c.args.self.now c.args.actor) (sym c.in-Stat.is)

pub returns-in-Flush : goal.returns-in-Flush
returns-in-Flush c = c.flush.ensures c.args.sizes.now ∙ ap (answer c.args.sizes.now c.args.self.now c.args.actor) (sym c.in-Flush.is)

pub returns-in-Read : goal.returns-in-Read
returns-in-Read c = at_these c.read_path.result c.args.sizes.now (λ s. at_path c.args.self.now.tree c.in-Read.path (read s c.args.self.now c.in-Read.off c.in-Read.len)) (answer c.args.sizes.now c.args.self.now c.args.actor c.args.command.now) (ap (answer c.args.sizes.now c.args.self.now c.args.actor) (sym c.in-Read.is)) c.read_path.ensures

pub returns-in-HRead : goal.returns-in-HRead
returns-in-HRead c = at_these c.read_handle.result c.args.sizes.now (λ s. at_handle (file_in c.args.self.now.handles c.args.actor c.in-HRead.handle) (read s c.args.self.now c.in-HRead.off c.in-HRead.len)) (answer c.args.sizes.now c.args.self.now c.args.actor c.args.command.now) (ap (answer c.args.sizes.now c.args.self.now c.args.actor) (sym c.in-HRead.is)) c.read_handle.ensures

pub returns-in-List : goal.returns-in-List
returns-in-List c = at_these c.list_path.result c.args.sizes.now (λ s. at_path c.args.self.now.tree c.in-List.path (listing s c.args.self.now c.in-List.skip)) (answer c.args.sizes.now c.args.self.now c.args.actor c.args.command.now) (ap (answer c.args.sizes.now c.args.self.now c.args.actor) (sym c.in-List.is)) c.list_path.ensures

pub returns-in-Sync : goal.returns-in-Sync
returns-in-Sync c = at_these c.all_sync.result c.args.sizes.now (λ s. synced s c.args.self.now SyncAll) (answer c.args.sizes.now c.args.self.now c.args.actor c.args.command.now) (ap (answer c.args.sizes.now c.args.self.now c.args.actor) (sym c.in-Sync.is)) c.all_sync.ensures

pub returns-in-StreamSync : goal.returns-in-StreamSync
returns-in-StreamSync c =
    let own : c.stream_in-stream.result ≡ stream_in c.args.self.now.choices c.args.actor
    = c.stream_in-stream.ensures ∙ ap (λ l. stream_in l c.args.actor) (c.deref.ensures.value ∙ ap (λ n. n.choices) c.self.view_is) in
    at_these c.stream_sync.result c.args.sizes.now (λ s. synced s c.args.self.now (SyncStream c.stream_in-stream.result)) (answer c.args.sizes.now c.args.self.now c.args.actor c.args.command.now)
    (ap (λ r. synced c.args.sizes.now c.args.self.now (SyncStream r)) own ∙ ap (answer c.args.sizes.now c.args.self.now c.args.actor) (sym c.in-StreamSync.is)) c.stream_sync.ensures
