-- The laws of what images mean.
use Rattle.std.specs.Prelude.{◌≡◌, ℕ, ◌+◌, ◌-◌, ◌≤◌, Some, List, [], ◌++◌}
use Rattle.std.specs.List.{AllByRecursion}
use Rattle.std.specs.FinMap.{len}
use Rattle.disk_model.specs.declared.disk.Disk.{Ghosts}
use Rattle.tree_model.specs.Rows.{Rows, IsTree}
use Rattle.tree_model.specs.Weights.{live}
use Rattle.tree_model.specs.declared.rows.Entry.{Entry}
use Rattle.tree_cuts.specs.Calls.{Sizes}
use Rattle.history_model.specs.State.{Now}
use Rattle.history_model.specs.Histories.{start, MayCall, IsLegal, durable}
use Rattle.history_laws.specs.Laws.{IsSized}
use Rattle.script_text.specs.declared.scripts.Call.{Call}
use Rattle.recovery.specs.Recovering.{recovered, recovered_for_now}
use Rattle.ccfs_top.specs.Images.{Image, IsImage}
use Rattle.ccfs_top.specs.Reached.{history_to}
use Rattle.ccfs_top.specs.Outcomes.{Within, first_history, CrashSafe}
use Rattle.crash_meaning.specs.Meaning.{Means, calls_asked, answered, under_way, MeansRun}

-- ---- images

-- what an image recovers to is a tree
abbrev pub ImagesRecoverToTrees : Type 0
ImagesRecoverToTrees = (c : List ℕ) (p : ℕ × Rows) → recovered c ≡ Some p → IsTree p.1

-- the same until files have bytes and may stay open without a name
abbrev pub TheseForNow : Type 0
TheseForNow = (c : List ℕ) (p : ℕ × Rows) → recovered_for_now c ≡ Some p → IsTree p.1

-- A tree keeps within an image of these sizes: no file is too long, its blocks are at most the data blocks, and its rows at most
-- the inodes less one. That is what the laws of histories ask of a tree of opening.
pub record KeepsWithin (sizes : Sizes) (t : Rows) : Type 0 where
  pub tree : IsTree t
  pub sized : IsSized t
  pub blocks : live t ≤ sizes.data_blocks
  pub rows : len t ≤ sizes.inodes - 1

-- the tree of an image that was found does
abbrev pub FoundTreesKeepWithin : Type 0
FoundTreesKeepWithin = (image : Image) (found : List ℕ)
    → IsImage image found → KeepsWithin image.sizes image.tree

-- ---- scripts

-- a call of a script may be made: that of `63 setstream 63` may, and no line has `64 sync`
abbrev pub MayBeMade : Call → Type 0
MayBeMade call = MayCall call.actor call.command

-- each call that a script asks for may be made
abbrev pub CallsMayBeMade : Type 0
CallsMayBeMade = (script : List ℕ) → AllByRecursion MayBeMade (calls_asked script)

-- the history of its first calls is legal, however many they are
abbrev pub ScriptsAreLegal : Type 0
ScriptsAreLegal = (sizes : Sizes) (n : Now) (script : List ℕ) (i : ℕ)
    → IsLegal sizes n (history_to sizes n (calls_asked script) i)

-- with one call more, over an image, it has the entry of that call behind
abbrev pub CallsGoOn : Type 0
CallsGoOn = (image : Image) (calls : List Call) (i : ℕ)
    → first_history image calls (i + 1)
    ≡ first_history image calls i ++ under_way image calls i

-- ---- cuts

-- Bytes within a legal history mean a cut of it, where all is in them that was durable behind the answered calls.
abbrev pub CrashesMeanCuts : Type 0
CrashesMeanCuts = (image : Image) (h more : List Entry) (c : List ℕ)
    → IsTree image.tree → IsLegal image.sizes (start image.tree) (h ++ more)
    → Within image (h ++ more) (durable h) c → Means image h more c

-- Bytes within a legal history mean a cut of it, also where nothing need be in them.
abbrev pub MomentsMeanCuts : Type 0
MomentsMeanCuts = (image : Image) (h : List Entry) (c : List ℕ)
    → IsTree image.tree → IsLegal image.sizes (start image.tree) h
    → Within image h 0 c → Means image [] h c

-- Such bytes behind so many answered calls of a script, over an image that was found.
abbrev pub ScriptCrashesMeanCuts : Type 0
ScriptCrashesMeanCuts = (image : Image) (found script : List ℕ) (lines : ℕ) (c : List ℕ)
    → IsImage image found
    → Within image (answered image script (lines + 1)) (durable (answered image script lines)) c
    → Means image (answered image script lines) (under_way image (calls_asked script) lines) c

-- The same at each moment of a script's first calls.
abbrev pub ScriptMomentsMeanCuts : Type 0
ScriptMomentsMeanCuts = (image : Image) (found script : List ℕ) (i : ℕ) (c : List ℕ)
    → IsImage image found → Within image (answered image script i) 0 c
    → Means image [] (answered image script i) c

-- What a run of a script leaves on a disk means this.
abbrev pub RunsMeanCuts : {X : Type 0} → Ghosts X → Type 0
RunsMeanCuts {X} d = (old new : X) (image : Image) (found script : List ℕ) (lines : ℕ)
    → IsImage image found → CrashSafe d old new image (calls_asked script) lines
    → MeansRun d old new image (calls_asked script) lines
