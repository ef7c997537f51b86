-- What the rows of the command line do one behind the other on one disk: an image is made, a script is run, and its tree is printed.
use Rattle.std.specs.Prelude.{◌≡◌, ℕ, ◌-◌, false, List, ◌++◌}
use Rattle.fault_counts.specs.Counts.{Rose}
use Rattle.ccfs_base.specs.declared.edges.Sink as sink
use Rattle.disk_model.specs.declared.disk.Disk.{Ghosts}
use Rattle.tree_model.specs.Rows.{alone}
use Rattle.block_layout.specs.Sizes.{data_start}
use Rattle.ccfs_top.specs.Ends.{joined}
use Rattle.ccfs_top.specs.Images.{Image}
use Rattle.ccfs_top.specs.Outcomes.{IsNew, Ran, Printed}
use Rattle.ccfs_top.specs.Runs.{Expected, ran}
use Rattle.crash_meaning.specs.Meaning.{calls_asked}

-- an image of so many blocks and inodes that was just made: the root alone, under the number 0
abbrev pub new_image : ℕ → ℕ → Image
new_image blocks inodes = record {
  number = 0;
  tree = alone 0;
  sizes = record { data_blocks = blocks - data_start inodes; inodes = inodes };
}

-- what is to come of a script's calls on it
abbrev pub ran_on_new : ℕ → ℕ → List ℕ → Expected
ran_on_new blocks inodes script = ran (new_image blocks inodes) (calls_asked script)

-- A run on a new image, and a tree behind it, by their numbers and by how the texts of both grew: the run writes its replies and
-- its tree, and the tree that is printed behind it is the same one, under the same number.
pub record IsPrintedAgain (e : Expected) (tells : Type 0) (number again : ℕ) (text0 text1 text2 text3 : List ℕ) : Type 0 where
  pub number_is : number ≡ e.batches
  pub same : again ≡ number
  pub run : tells → text1 ≡ text0 ++ (joined e.replies ++ e.last)
  pub tree : tells → text3 ≡ text2 ++ e.last

-- An image is made, and then a script is run and a tree printed, each with status 0 and on the disk that the row before it left. The
-- run writes to one sink, and the tree is printed to it or to another.
abbrev pub RowsCompose : {X K : Type 0} → Ghosts X → sink.Ghosts K → Type 0
RowsCompose {X} {K} d k = (made done : X) (blocks inodes : ℕ) (script : List ℕ) (number again : ℕ) (out0 out1 out2 out3 : K)
    → d.tells → IsNew d made blocks inodes → d.in_doubt made ≡ false
    → Ran d made done script k.tells (Rose (k.faults out0) (k.faults out1)) 0 number (k.held out0) (k.held out1)
    → d.in_doubt done ≡ false
    → Printed (d.seen done) k.tells (Rose (k.faults out2) (k.faults out3)) 0 again (k.held out2) (k.held out3)
    → IsPrintedAgain (ran_on_new blocks inodes script) k.tells number again (k.held out0) (k.held out1) (k.held out2) (k.held out3)
