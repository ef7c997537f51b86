-- The numbers that a disk in memory counts its calls by.
use Rattle.std.specs.Prelude.{ℕ}
use Rattle.disk_model.specs.declared.plan.CallKind.{CallKind}
use Rattle.disk_model.specs.declared.plan.CallKind.TheVariants.{Any, Read, Write, Sync}
use Rattle.disk_model.specs.declared.counts.Counts.{Counts}

-- how many calls a kind covered since the plan was set: for `Any` all calls, for `Read` the reads
abbrev pub covered : Counts → CallKind → ℕ
covered counts Any = counts.calls
covered counts Read = counts.reads
covered counts Write = counts.writes
covered counts Sync = counts.syncs
