-- How a run ends: as expected, or by a fault; and what was written until then.
use Rattle.std.specs.Prelude.{◌≡◌, ◌⊎◌, ℕ, ◌≤◌, List, [], ◌∷◌, ◌++◌, length, take, drop}
use Rattle.std.specs.List.{flat_map}
use Rattle.script_text.specs.Texts.{script_fault_line, disk_fault_line, memory_fault_line}
use Rattle.ccfs_top.specs.Runs.{Expected}

-- a text is the front of another
abbrev pub IsFront : List ℕ → List ℕ → Type 0
IsFront a b = (rest : List ℕ) × (b ≡ a ++ rest)

-- the whole of a line was written, or its front where the sink failed
abbrev pub IsSaid : Type 0 → List ℕ → List ℕ → Type 0
IsSaid sink_failed line written = (written ≡ line) ⊎ (sink_failed × IsFront written line)

abbrev pub joined : List (List ℕ) → List ℕ
joined lines = flat_map (λ line. line) lines

-- the faults that any run may end with: of the source (5), the sink (6), the disk (7), or want of memory (9)
abbrev pub IsFault : ℕ → Type 0
IsFault status = (status ≡ 5) ⊎ (status ≡ 6) ⊎ (status ≡ 7) ⊎ (status ≡ 9)

-- the line of a fault that has one
abbrev pub HasLine : ℕ → List ℕ → Type 0
HasLine status line = ((status ≡ 5) × (line ≡ script_fault_line)) ⊎ ((status ≡ 7) × (line ≡ disk_fault_line)) ⊎ ((status ≡ 9) × (line ≡ memory_fault_line))

-- a text is the front of another, and lacks its last byte
abbrev pub IsPart : List ℕ → List ℕ → Type 0
IsPart a b = (rest : List ℕ) × (b ≡ a ++ rest) × (1 ≤ length rest)

-- the first of some lines, or this where there is none
abbrev pub first_or : List ℕ → List (List ℕ) → List ℕ
first_or last [] = last
first_or last (line ∷ lines) = line

-- what is to come behind so many reply lines: the next one, or what stands behind them all
abbrev pub line_behind : Expected → ℕ → List ℕ
line_behind e lines = first_or e.last (drop lines e.replies)

-- an end as expected: all reply lines; and with status 0 the whole of the rest, else its front where the sink failed
pub record AsExpected (e : Expected) (sink_failed : Type 0) (lines code : ℕ) (written : List ℕ) : Type 0 where
  pub status : code ≡ e.status
  pub all : lines ≡ length e.replies
  pub said : List ℕ
  pub text : written ≡ joined e.replies ++ said
  pub line : IsSaid sink_failed e.last said
  pub whole : code ≡ 0 → said ≡ e.last

-- an end by the sink: so many whole reply lines, and a part of what is to come behind them
pub record BySink (e : Expected) (sink_failed : Type 0) (lines code : ℕ) (written : List ℕ) : Type 0 where
  pub status : code ≡ 6
  pub failed : sink_failed
  pub said : List ℕ
  pub text : written ≡ joined (take lines e.replies) ++ said
  pub part : IsPart said (line_behind e lines)

-- an end by another fault: so many reply lines, and the fault's line
pub record ByFault (e : Expected) (sink_failed : Type 0) (lines code : ℕ) (written : List ℕ) : Type 0 where
  pub line : List ℕ
  pub fault : HasLine code line
  pub said : List ℕ
  pub text : written ≡ joined (take lines e.replies) ++ said
  pub whole : IsSaid sink_failed line said
  pub script_first : code ≡ 5 → lines ≡ 0

-- the end, and what was written where the sink tells it: so many whole reply lines, and something behind them
abbrev pub Ends : Expected → Type 0 → ℕ → ℕ → List ℕ → Type 0
Ends e sink_failed lines status written = AsExpected e sink_failed lines status written ⊎ BySink e sink_failed lines status written ⊎ ByFault e sink_failed lines status written

-- The end by its status alone, with so many of the reply lines: all of them where it is the expected one. The sink counts as failed
-- only where the end was to be status 0.
pub record EndsWith (e : Expected) (lines code number : ℕ) : Type 0 where
  pub status : (code ≡ e.status) ⊎ IsFault code
  pub batches : code ≡ e.status → number ≡ e.batches
  pub few : lines ≤ length e.replies
  pub all : code ≡ e.status → lines ≡ length e.replies
  pub sink : code ≡ 6 → e.status ≡ 0

-- the text grew from old to new as the end says
abbrev pub Wrote : Expected → Type 0 → ℕ → ℕ → List ℕ → List ℕ → Type 0
Wrote e sink_failed lines status old new = (written : List ℕ) × (new ≡ old ++ written) × Ends e sink_failed lines status written

-- ---- the statuses that there are

-- of an image that is made, of a tree that is printed, and of a script that is run
abbrev pub IsMadeStatus : ℕ → Type 0
IsMadeStatus code = (code ≡ 0) ⊎ (code ≡ 6) ⊎ (code ≡ 7) ⊎ (code ≡ 9)

abbrev pub IsTreeStatus : ℕ → Type 0
IsTreeStatus code = (code ≡ 0) ⊎ ((6 ≤ code) × (code ≤ 9))

abbrev pub IsRunStatus : ℕ → Type 0
IsRunStatus code = (code ≤ 9) × (code ≡ 2 → ⊥)

-- those by which words or a script are refused, or the script isn't read: the disk has no call before
abbrev pub IsEarly : ℕ → Type 0
IsEarly code = (1 ≤ code) × (code ≤ 5)

-- those by which a script is refused: a line that isn't built, one that isn't a command, or too many bytes
abbrev pub IsRefusal : ℕ → Type 0
IsRefusal code = (code ≡ 1) ⊎ (code ≡ 3) ⊎ (code ≡ 4)

-- those that a script may end with that can't be performed: the one that was to come, a fault of the source, or want of memory
abbrev pub IsRefusedWith : Expected → ℕ → Type 0
IsRefusedWith e code = (code ≡ e.status) ⊎ (code ≡ 5) ⊎ (code ≡ 9)
