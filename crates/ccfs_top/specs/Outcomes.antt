-- What the rows of the command line leave on the disk, at any moment and in the end.
use Rattle.std.specs.Prelude.{◌≡◌, ◌⊎◌, ℕ, ◌+◌, ◌≤◌, Some, List, ◌++◌, length}
use Rattle.disk_model.specs.declared.disk.Disk.{Ghosts}
use Rattle.disk_model.specs.Moments.{Only}
use Rattle.block_layout.specs.declared.geometry.Geometry.{Geometry}
use Rattle.recovery.specs.Fresh.{IsFresh}
use Rattle.script_text.specs.Scripts.{calls_of}
use Rattle.tree_model.specs.Rows.{Rows}
use Rattle.tree_model.specs.declared.rows.Entry.{Entry}
use Rattle.tree_model.specs.Picture.{picture}
use Rattle.history_model.specs.Histories.{start, seal_count, tree_at, durable}
use Rattle.script_text.specs.declared.scripts.Call.{Call}
use Rattle.gate_journal.specs.Runs.{LeavesBy, Quiet}
use Rattle.atomic_volume.specs.Opened.{IsSettled}
use Rattle.atomic_volume.specs.Opening.{Contents}
use Rattle.recovery.specs.Opens as opens
use Rattle.recovery.specs.Bad.{Says}
use Rattle.recovery.specs.declared.fault.OpenFault.{OpenFault}
use Rattle.recovery.specs.declared.fault.OpenFault.TheVariants as open_fault
use Rattle.recovery.specs.Recovering.{shown_for_now}
use Rattle.ccfs_top.specs.declared.stop.Stop.{Stop}
use Rattle.ccfs_top.specs.Found.{IsFound}
use Rattle.ccfs_top.specs.Images.{Image, IsImage, Finding, Good, Spoilt, Unread, Finds, RecoversTo}
use Rattle.ccfs_top.specs.Runs.{Expected, further, ran, calls_in, expected, over, printed, final_number, final_tree}
use Rattle.ccfs_top.specs.Ends.{EndsWith, Wrote, joined}
use Rattle.ccfs_top.specs.Stops.{Decides, Grew, status_of}
use Rattle.ccfs_top.specs.Reached.{history_to}

-- Bytes within a history over an image: they show the picture of the tree after one of its seals, with the number of that
-- seal behind the image's. The first `least` seals are in it. With `least` 1, two seals, and an image with the number 5, the
-- number is 6 or 7.
pub record Within (image : Image) (h : List Entry) (least : ℕ) (c : List ℕ) : Type 0 where
  pub cut : ℕ
  pub enough : least ≤ cut
  pub few : cut ≤ seal_count image.sizes (start image.tree) h
  pub shows : shown_for_now c ≡ Some (further image.number cut, picture (tree_at image.sizes (start image.tree) h cut))

-- the history of the first of these calls over an image
abbrev pub first_history : Image → List Call → ℕ → List Entry
first_history image calls i = history_to image.sizes (start image.tree) calls i

-- What a session that opened leaves, where so many whole reply lines were written. At every moment a crash leaves what it
-- might have left at the start, or an image within the history of the calls up to the one behind those lines. In the end it
-- leaves one with each sync that those lines acknowledge.
pub record CrashSafe {X : Type 0} (d : Ghosts X) (old new : X) (image : Image) (calls : List Call) (lines : ℕ) : Type 0 where
  pub ever : LeavesBy d old new (λ c. d.may_leave old c ⊎ Within image (first_history image calls (lines + 1)) 0 c)
  pub now : (c : List ℕ) → d.may_leave new c → Within image (first_history image calls (lines + 1)) (durable (first_history image calls lines)) c

-- the statuses of a disk that failed and of want of memory
abbrev pub IsDiskEnd : ℕ → Type 0
IsDiskEnd code = (code ≡ 7) ⊎ (code ≡ 9)

-- These bytes were found, and their batches went home, or some: each image left since the start is one of the start, or recovers to
-- the number and the tree that the found bytes recover to.
pub record Homed {X : Type 0} (d : Ghosts X) (old new : X) (found : List ℕ) : Type 0 where
  pub home : Contents
  pub to : ℕ × Rows
  pub finds : opens.Finds d old new home to
  pub same : finds.contents ≡ found

-- what a run leaves that ends with this status and came to no session, though the image isn't bad: it only read, or the disk failed
-- or memory was wanting once batches went home
abbrev pub Unopened : {X : Type 0} → Ghosts X → X → X → List ℕ → ℕ → Type 0
Unopened d old new found code = Quiet d old new ⊎ (IsDiskEnd code × Homed d old new found)

-- A run left a bad image as it was: it only read, and the disk holds what was found, in no doubt, so that a crash leaves that alone.
pub record Unmoved {X : Type 0} (d : Ghosts X) (old new : X) (found : List ℕ) : Type 0 where
  pub quiet : Quiet d old new
  pub settled : IsSettled d old new
  pub same : d.seen new ≡ found

-- what a refusal leaves: only of a good image it can be more than readings
abbrev pub LeftBy : {X : Type 0} → Ghosts X → X → X → List ℕ → OpenFault → Type 0
LeftBy d old new found open_fault.Device = Unopened d old new found 7
LeftBy d old new found (open_fault.Bad bad) = Unmoved d old new found
LeftBy d old new found open_fault.NoMemory = Unopened d old new found 9

-- A disk that wasn't opened: what was found on it, which is bad as the fault says, and what is left.
pub record IsShut {X : Type 0} (d : Ghosts X) (old new : X) (fault : OpenFault) : Type 0 where
  pub found : List ℕ
  pub from_start : IsFound (d.may_leave old) (d.in_doubt old) (d.seen old) found
  pub says : Says found fault
  pub left : LeftBy d old new found fault

-- what a run leaves that ends with this status, by what it found; so many whole reply lines were written
abbrev pub Leaves : {X : Type 0} → Ghosts X → X → X → List Call → List ℕ → Finding Image → ℕ → ℕ → Type 0
Leaves d old new calls found (Good image) code lines = CrashSafe d old new image calls lines
Leaves d old new calls found (Spoilt kind block) code lines = Unmoved d old new found
Leaves d old new calls found Unread code lines = Unopened d old new found code

-- A stop of a run: what was expected has it, so many whole reply lines were written, and so much is left then.
pub record Halts (e : Expected) (stop : Stop) (Left : ℕ → Type 0) (sink_tells : Type 0) (text0 text1 : List ℕ) : Type 0 where
  pub lines : ℕ
  pub few : lines ≤ length e.replies
  pub decides : Decides e stop
  pub leaves : Left lines
  pub grew : sink_tells → Grew e stop lines text0 text1

-- each image that a crash now leaves shows what these calls made durable over an image, and no more
abbrev pub ShowsFinal : {X : Type 0} → Ghosts X → X → Image → List Call → Type 0
ShowsFinal d new image calls = (c : List ℕ) → d.may_leave new c → shown_for_now c ≡ Some (final_number image calls, picture (final_tree image calls))

-- the same over what a run found, which was good
abbrev pub LeavesFinal : {X : Type 0} → Ghosts X → X → List Call → Finding Image → Type 0
LeavesFinal d new calls (Good image) = ShowsFinal d new image calls
LeavesFinal d new calls (Spoilt kind block) = ⊥
LeavesFinal d new calls Unread = ⊥

-- A run over an image that came to its end, with this number.
pub record Done {X : Type 0} (d : Ghosts X) (old new : X) (calls : List Call) (image : Image) (number : ℕ) (sink_tells : Type 0) (text0 text1 : List ℕ) : Type 0 where
  pub batches : number ≡ (ran image calls).batches
  pub kept : CrashSafe d old new image calls (length (ran image calls).replies)
  pub exact : ShowsFinal d new image calls
  pub text : sink_tells → text1 ≡ text0 ++ (joined (ran image calls).replies ++ (ran image calls).last)

-- The same over the image that was found on a disk.
pub record DoneOn {X : Type 0} (d : Ghosts X) (old new : X) (calls : List Call) (number : ℕ) (sink_tells : Type 0) (text0 text1 : List ℕ) : Type 0 where
  pub found : List ℕ
  pub from_start : IsFound (d.may_leave old) (d.in_doubt old) (d.seen old) found
  pub image : Image
  pub finds : IsImage image found
  pub done : Done d old new calls image number sink_tells text0 text1

-- A stop of a run over a disk, where this is to come of what is found.
pub record HaltsOn {X : Type 0} (d : Ghosts X) (old new : X) (calls : List Call) (to_come : Finding Image → Expected) (stop : Stop) (sink_tells : Type 0) (text0 text1 : List ℕ) : Type 0 where
  pub found : List ℕ
  pub from_start : IsFound (d.may_leave old) (d.in_doubt old) (d.seen old) found
  pub seen : Finding Image
  pub finds : Finds IsImage found seen
  pub halts : Halts (to_come seen) stop (Leaves d old new calls found seen (status_of stop)) sink_tells text0 text1

-- A run of a script: what it found on the disk, how it ended, what it left there, and what it wrote.
pub record Ran {X : Type 0} (d : Ghosts X) (old new : X) (script : List ℕ) (sink_tells sink_failed : Type 0) (code number : ℕ) (text0 text1 : List ℕ) : Type 0 where
  pub found : List ℕ
  pub from_start : IsFound (d.may_leave old) (d.in_doubt old) (d.seen old) found
  pub seen : Finding Image
  pub finds : Finds IsImage found seen
  pub lines : ℕ
  pub ends : EndsWith (expected script seen) lines code number
  pub leaves : Leaves d old new (calls_in (calls_of script)) found seen code lines
  pub exact : code ≡ 0 → LeavesFinal d new (calls_in (calls_of script)) seen
  pub wrote : sink_tells → Wrote (expected script seen) sink_failed lines code text0 text1

-- A tree that is printed, or why it isn't, where these were the contents of the disk.
pub record Printed (contents : List ℕ) (sink_tells sink_failed : Type 0) (code number : ℕ) (text0 text1 : List ℕ) : Type 0 where
  pub seen : Finding (ℕ × Rows)
  pub finds : Finds RecoversTo contents seen
  pub ends : EndsWith (over printed seen) 0 code number
  pub wrote : sink_tells → Wrote (over printed seen) sink_failed 0 code text0 text1

-- A stable image of so many blocks and inodes with no open batch, which recovers to the root alone with the number 0: a crash
-- leaves it and nothing else.
pub record IsNew {X : Type 0} (d : Ghosts X) (disk : X) (blocks inodes : ℕ) : Type 0 where
  pub geometry : Geometry
  pub blocks_are : geometry.blocks ≡ blocks
  pub inodes_are : geometry.inodes ≡ inodes
  pub fresh : IsFresh geometry (d.seen disk)
  pub stable : Only (d.seen disk) (d.may_leave disk)
