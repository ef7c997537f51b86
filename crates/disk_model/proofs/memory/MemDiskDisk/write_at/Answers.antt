use Rattle.disk_model.specs.Past.{Torn-same}
use Rattle.disk_model.proofs.Crash.{stays_time, stays_crash, write_time, write_crash}
use Rattle.disk_model.proofs.memory.MemDiskDisk.write_at.Goals as goal

pub returns-in-Err-clause-time : goal.returns-in-Err-clause-time
returns-in-Err-clause-time c = stays_time c.args.self.now.history c.write.new.self c.in-Err.ensures.err

pub returns-in-Err-clause-crash : goal.returns-in-Err-clause-crash
returns-in-Err-clause-crash c = λ i left. (i, stays_crash c.args.self.now.history c.write.new.self c.in-Err.ensures.err i left, Torn-same _ _ i)

pub returns-then-planned-clause-time : goal.returns-then-planned-clause-time
returns-then-planned-clause-time c = write_time c.args.offset c.args.bytes.now c.args.self.now.history c.write.new.self c.in-Ok.ensures.ok

pub returns-then-planned-clause-crash : goal.returns-then-planned-clause-crash
returns-then-planned-clause-crash c = write_crash c.args.offset c.args.bytes.now c.args.self.now.history c.write.new.self c.in-Ok.ensures.ok

pub returns-clause-time : goal.returns-clause-time
returns-clause-time c = write_time c.args.offset c.args.bytes.now c.args.self.now.history c.write.new.self c.in-Ok.ensures.ok

pub returns-clause-crash : goal.returns-clause-crash
returns-clause-crash c = write_crash c.args.offset c.args.bytes.now c.args.self.now.history c.write.new.self c.in-Ok.ensures.ok
