use Rattle.disk_model.proofs.Crash.{stays_same, stays_time, stays_crash}
use Rattle.disk_model.proofs.memory.MemDiskDisk.size.Goals as goal

pub returns-then-next-clause-time : goal.returns-then-next-clause-time
returns-then-next-clause-time c = let h = c.args.self.now.history in stays_time h h (stays_same h)

pub returns-then-next-clause-crash : goal.returns-then-next-clause-crash
returns-then-next-clause-crash c = let h = c.args.self.now.history in stays_crash h h (stays_same h)

pub returns-clause-time : goal.returns-clause-time
returns-clause-time c = let h = c.args.self.now.history in stays_time h h (stays_same h)

pub returns-clause-crash : goal.returns-clause-crash
returns-clause-crash c = let h = c.args.self.now.history in stays_crash h h (stays_same h)
