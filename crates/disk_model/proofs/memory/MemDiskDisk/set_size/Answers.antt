use Rattle.disk_model.specs.Past.{Resized-same}
use Rattle.disk_model.specs.declared.operation.Operation.TheVariants.{Resize}
use Rattle.disk_model.proofs.Crash.{stays_same, stays_time, stays_crash, goes_time, resize_crash}
use Rattle.disk_model.proofs.memory.MemDiskDisk.set_size.Goals as goal

pub returns-then-next-clause-time : goal.returns-then-next-clause-time
returns-then-next-clause-time c = let h = c.args.self.now.history in stays_time h h (stays_same h)

pub returns-then-next-clause-crash : goal.returns-then-next-clause-crash
returns-then-next-clause-crash c = λ i left. let h = c.args.self.now.history in (i, stays_crash h h (stays_same h) i left, Resized-same _ i)

pub returns-in-Ok-clause-time : goal.returns-in-Ok-clause-time
returns-in-Ok-clause-time c = goes_time (Resize c.args.bytes) c.args.self.now.history c.resize.new.self c.in-Ok.ensures.ok

pub returns-in-Ok-clause-crash : goal.returns-in-Ok-clause-crash
returns-in-Ok-clause-crash c = resize_crash c.args.bytes c.args.self.now.history c.resize.new.self c.in-Ok.ensures.ok

pub returns-in-Err-clause-time : goal.returns-in-Err-clause-time
returns-in-Err-clause-time c = stays_time c.args.self.now.history c.resize.new.self c.in-Err.ensures.err

pub returns-in-Err-clause-crash : goal.returns-in-Err-clause-crash
returns-in-Err-clause-crash c = λ i left. (i, stays_crash c.args.self.now.history c.resize.new.self c.in-Err.ensures.err i left, Resized-same _ i)
