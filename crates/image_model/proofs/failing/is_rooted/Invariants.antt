use Rattle.std.proofs.Common.{◌≡◌}
use Rattle.std.specs.Prelude.{None}
use Rattle.tree_model.specs.Rows.{up}
use Rattle.image_model.specs.Lowest.{lowest}
use Rattle.image_model.specs.Checks.{parent_at, is_root_above}
use Rattle.image_model.specs.Reading.{table_in}
use Rattle.image_model.proofs.failing.is_rooted.Given as goal

-- so many steps up don't lead to the root, and the last of them led here
abbrev pub invariant-loop-steps : goal.invariant-loop-steps
invariant-loop-steps l = record {
  here : l.at ≡ up (parent_at (table_in l.geometry l.bytes)) l._steps l.inode;
  not_yet : lowest (is_root_above (table_in l.geometry l.bytes) l.inode) l._steps ≡ None;
}
