-- Why a run stops before its end: what it says then, and what was written until then.
use Rattle.std.specs.Prelude.{◌≡◌, ◌⊎◌, ℕ, List, [], ◌++◌, take, Result, IsErrOf}
use Rattle.script_text.specs.Texts.{usage_line, too_long_line, bad_image_line, bad_line_line, not_built_line, script_fault_line, disk_fault_line, memory_fault_line}
use Rattle.ccfs_top.specs.declared.stop.Stop.{Stop}
use Rattle.ccfs_top.specs.declared.stop.Stop.TheVariants.{Usage, Long, BadLine, NotBuilt, Source, Sink, Disk, BadImage, NoMemory}
use Rattle.image_check.specs.Kinds.{kind_name}
use Rattle.recovery.specs.declared.fault.OpenFault.{OpenFault}
use Rattle.recovery.specs.declared.fault.OpenFault.TheVariants as open_fault
use Rattle.ccfs_top.specs.Runs.{Expected, alone}
use Rattle.ccfs_top.specs.Ends.{IsPart, IsSaid, joined, line_behind}

-- the stop of an image that isn't opened or viewed
abbrev pub of_open : OpenFault → Stop
of_open open_fault.Device = Disk
of_open (open_fault.Bad bad) = BadImage bad
of_open open_fault.NoMemory = NoMemory

-- the status of a stop
abbrev pub status_of : Stop → ℕ
status_of Usage = 2
status_of Long = 4
status_of (BadLine line) = 3
status_of (NotBuilt line) = 1
status_of Source = 5
status_of Sink = 6
status_of Disk = 7
status_of (BadImage bad) = 8
status_of NoMemory = 9

-- a run or a part of it stopped since the disk failed
abbrev pub ByDisk : {A : Type 0} → Result A Stop → Type 0
ByDisk result = IsErrOf result Disk

-- its line; that of a failed sink is empty
abbrev pub stop_line : Stop → List ℕ
stop_line Usage = usage_line
stop_line Long = too_long_line
stop_line (BadLine line) = bad_line_line line
stop_line (NotBuilt line) = not_built_line line
stop_line Source = script_fault_line
stop_line Sink = []
stop_line Disk = disk_fault_line
stop_line (BadImage bad) = bad_image_line (kind_name bad.kind) bad.block
stop_line NoMemory = memory_fault_line

-- its line has a number in it, so that it takes memory
abbrev pub TakesMemory : Stop → Type 0
TakesMemory (BadLine line) = Unit {0}
TakesMemory (NotBuilt line) = Unit {0}
TakesMemory Usage = ⊥
TakesMemory Long = ⊥
TakesMemory Source = ⊥
TakesMemory Sink = ⊥
TakesMemory Disk = ⊥
TakesMemory (BadImage bad) = Unit {0}
TakesMemory NoMemory = ⊥

-- the status that is answered: that of the stop, or 9 where there was no memory for its line
abbrev pub Told : Stop → ℕ → Type 0
Told stop code = (code ≡ status_of stop) ⊎ ((code ≡ 9) × TakesMemory stop)

-- what was said of a stop with this status: its line, or that there was no memory for the line; or the front of either,
-- where the sink failed
abbrev pub SaidOf : Type 0 → Stop → ℕ → List ℕ → Type 0
SaidOf sink_failed stop code said = ((code ≡ status_of stop) × IsSaid sink_failed (stop_line stop) said) ⊎ ((code ≡ 9) × TakesMemory stop × IsSaid sink_failed memory_fault_line said)

-- a stop that what is to come decides, and no fault. The sink can fail only where the end is to be status 0: it gets no line before
abbrev pub Decides : Expected → Stop → Type 0
Decides e Usage = e ≡ alone 2 usage_line
Decides e Long = e ≡ alone 4 too_long_line
Decides e (BadLine line) = e ≡ alone 3 (bad_line_line line)
Decides e (NotBuilt line) = e ≡ alone 1 (not_built_line line)
Decides e Source = Unit {0}
Decides e Sink = e.status ≡ 0
Decides e Disk = Unit {0}
Decides e (BadImage bad) = e ≡ alone 8 (bad_image_line (kind_name bad.kind) bad.block)
Decides e NoMemory = Unit {0}

-- so many of the reply lines were written
abbrev pub SomeLines : Expected → ℕ → List ℕ → Type 0
SomeLines e lines written = written ≡ joined (take lines e.replies)

-- the same, and a part of what is to come behind them
pub record Cut (e : Expected) (lines : ℕ) (written : List ℕ) : Type 0 where
  pub said : List ℕ
  pub text : written ≡ joined (take lines e.replies) ++ said
  pub part : IsPart said (line_behind e lines)

-- what was written until a stop, with so many whole reply lines: nothing before there were replies, some of them before a fault,
-- and a part of the rest behind them where the sink failed
abbrev pub Until : Expected → Stop → ℕ → List ℕ → Type 0
Until e Usage lines written = written ≡ []
Until e Long lines written = written ≡ []
Until e (BadLine line) lines written = written ≡ []
Until e (NotBuilt line) lines written = written ≡ []
Until e Source lines written = (lines ≡ 0) × (written ≡ [])
Until e Sink lines written = Cut e lines written
Until e Disk lines written = SomeLines e lines written
Until e (BadImage bad) lines written = written ≡ []
Until e NoMemory lines written = SomeLines e lines written

-- the text grew from old to new until the stop
abbrev pub Grew : Expected → Stop → ℕ → List ℕ → List ℕ → Type 0
Grew e stop lines old new = (written : List ℕ) × (new ≡ old ++ written) × Until e stop lines written

-- a fault of the sink, the disk or of memory, which nothing decides beforehand
abbrev pub IsFaultStop : Stop → Type 0
IsFaultStop Usage = ⊥
IsFaultStop Long = ⊥
IsFaultStop (BadLine line) = ⊥
IsFaultStop (NotBuilt line) = ⊥
IsFaultStop Source = ⊥
IsFaultStop Sink = Unit {0}
IsFaultStop Disk = Unit {0}
IsFaultStop (BadImage bad) = ⊥
IsFaultStop NoMemory = Unit {0}

-- what may stop a run once its script is known to be right: the sink, the disk, an image that holds no tree, or want of memory
abbrev pub IsLate : Stop → Type 0
IsLate Usage = ⊥
IsLate Long = ⊥
IsLate (BadLine line) = ⊥
IsLate (NotBuilt line) = ⊥
IsLate Source = ⊥
IsLate Sink = Unit {0}
IsLate Disk = Unit {0}
IsLate (BadImage bad) = Unit {0}
IsLate NoMemory = Unit {0}

-- what may stop a run before its script is known to be right: the source, a script that is refused, or want of memory
abbrev pub IsOfScript : Stop → Type 0
IsOfScript Usage = ⊥
IsOfScript Long = Unit {0}
IsOfScript (BadLine line) = Unit {0}
IsOfScript (NotBuilt line) = Unit {0}
IsOfScript Source = Unit {0}
IsOfScript Sink = ⊥
IsOfScript Disk = ⊥
IsOfScript (BadImage bad) = ⊥
IsOfScript NoMemory = Unit {0}
