-- The two directories that every volume has.
use Rattle.std.proofs.Common.{◌≡◌, ℕ, List}
use Rattle.std.specs.Prelude.{true}
use Rattle.std.proofs.lemmas.Bool.{and_parts}
use Rattle.tree_model.specs.Rows.{Rows}
use Rattle.image_model.specs.Volumes.{Volume, table_of}
use Rattle.image_model.specs.Files.{is_dir_at}
use Rattle.image_model.specs.Carrying.{CarriesRows}
use Rattle.image_model.proofs.Halves.{right}
use Rattle.carried_volumes.specs.Carried.{no_bytes}

pub roots : (w : Volume) (t : Rows) (inodes : List ℕ) → CarriesRows w no_bytes t inodes → (is_dir_at (table_of w) 0 ≡ true) × (is_dir_at (table_of w) 1 ≡ true)
roots w t inodes c = and_parts (is_dir_at (table_of w) 0) (is_dir_at (table_of w) 1) (right _ 263 c.roots)
