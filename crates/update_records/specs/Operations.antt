-- The operations on the contents of files that updates make.
use Rattle.std.specs.Prelude.{ℕ, Bool, true, false, Option, None, Some, List, [], ◌∷◌}
use Rattle.file_bodies.specs.declared.ops.BodyOp.{BodyOp}
use Rattle.file_bodies.specs.declared.ops.BodyOp.TheVariants as ops
use Rattle.tree_model.specs.declared.rows.Update.{Update}
use Rattle.tree_model.specs.declared.rows.Update.TheVariants.{Make, Write, Resize, Remove, Move, Release}
use Rattle.image_model.specs.Carrying.{inode_in}

-- a file that is made gets contents, of no bytes; a directory has none
abbrev pub ops_of_made : ℕ → Bool → List BodyOp
ops_of_made inode true = []
ops_of_made inode false = ops.Grow inode 0 ∷ []

-- a row that is dropped has no contents any more, whether it was a file or not; one that stays keeps them
abbrev pub ops_of_left : ℕ → Bool → List BodyOp
ops_of_left inode true = []
ops_of_left inode false = ops.Drop inode ∷ []

abbrev pub ops_of_replaced : List ℕ → Option ℕ → Bool → List BodyOp
ops_of_replaced inodes None stays = []
ops_of_replaced inodes (Some x) stays = ops_of_left (inode_in inodes x) stays

-- the operations of an update, where `inodes` has the inode of each serial. Making `/a/f` with the inode 7 is Grow 7 0, and removing it
-- Drop 7. Those of writing and resizing aren't built
abbrev pub ops_of : List ℕ → Update → List BodyOp
ops_of inodes (Make dir name id is_dir) = ops_of_made (inode_in inodes id) is_dir
ops_of inodes (Write id off bytes) = []
ops_of inodes (Resize id len) = []
ops_of inodes (Remove dir name id stays) = ops_of_left (inode_in inodes id) stays
ops_of inodes (Move dir name to_dir to_name id is_dir replaced stays) = ops_of_replaced inodes replaced stays
ops_of inodes (Release id) = ops.Drop (inode_in inodes id) ∷ []
