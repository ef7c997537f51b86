use Rattle.disk_model.specs.declared.operation.Operation.TheVariants.{Sync}
use Rattle.disk_model.proofs.Crash.{stays_same, stays_time, stays_crash, goes_time, sync_crash}
use Rattle.disk_model.proofs.memory.MemDiskDisk.sync.Goals as goal

pub returns-then-next-clause-time : goal.returns-then-next-clause-time
returns-then-next-clause-time c = let h = c.args.self.now.history in stays_time h h (stays_same h)

pub returns-then-next-clause-crash : goal.returns-then-next-clause-crash
returns-then-next-clause-crash c = let h = c.args.self.now.history in stays_crash h h (stays_same h)

pub returns-in-Ok-clause-time : goal.returns-in-Ok-clause-time
returns-in-Ok-clause-time c = goes_time Sync c.args.self.now.history c.sync.new.self c.in-Ok.ensures.ok

pub returns-in-Ok-clause-crash : goal.returns-in-Ok-clause-crash
returns-in-Ok-clause-crash c = sync_crash c.args.self.now.history c.sync.new.self c.in-Ok.ensures.ok

pub returns-in-Err-clause-time : goal.returns-in-Err-clause-time
returns-in-Err-clause-time c = stays_time c.args.self.now.history c.sync.new.self c.in-Err.ensures.err

pub returns-in-Err-clause-crash : goal.returns-in-Err-clause-crash
returns-in-Err-clause-crash c = stays_crash c.args.self.now.history c.sync.new.self c.in-Err.ensures.err
