-- Whether an update applies, as it is computed.
use Rattle.std.specs.Prelude.{ℕ, zero, suc, ◌+◌, Bool, false, not, ◌&&◌, ◌||◌, ◌==◌, nat_le, length, is_none, List}
use Rattle.std.specs.declared.option.Option.{Option}
use Rattle.std.specs.declared.option.Option.TheVariants.{None, Some}
use Rattle.std.specs.FinMap.{get, len}
use Rattle.ccfs_base.specs.Limits.{file_max}
use Rattle.tree_model.specs.declared.rows.Update.{Update}
use Rattle.tree_model.specs.declared.rows.Update.TheVariants.{Make, Write, Resize, Remove, Move, Release}
use Rattle.tree_model.specs.Rows.{Rows, is_kind, kind_of, place_of, parent_of, is_dir_at}
use Rattle.tree_model.specs.Entries.{entry, children}

-- whether there is a serial, and it is x
abbrev pub is_it : Option ℕ → ℕ → Bool
is_it None x = false
is_it (Some y) x = y == x

-- whether x is a file
abbrev pub is_file_at : Rows → ℕ → Bool
is_file_at t x = is_kind (kind_of t x) false

-- whether x has no entry
abbrev pub is_empty_at : Rows → ℕ → Bool
is_empty_at t x = length (children t x) == 0

-- whether x is at that row or above it, at most so many steps up: the root is above `/a/f` in 2 steps, and `/b` is not
abbrev pub is_above : ℕ → Rows → ℕ → Option ℕ → Bool
is_above steps t x None = false
is_above zero t x (Some d) = d == x
is_above (suc steps) t x (Some d) = d == x || is_above steps t x (parent_of t d)

-- whether a row, a directory or a file, may be moved to that entry, where this file is replaced or none
abbrev pub may_replace : Rows → ℕ → List ℕ → Bool → Option ℕ → Bool
may_replace t dir name is_dir None = is_none (entry t dir name)
may_replace t dir name is_dir (Some x) = is_it (entry t dir name) x && (is_file_at t x && not is_dir)

-- whether an update applies. No chain of parents is longer than there are rows
abbrev pub applies : Rows → Update → Bool
applies t (Make dir name id is_dir) = is_dir_at t dir && (is_none (entry t dir name) && is_none (get t id))
applies t (Write id off bytes) = is_file_at t id && (not (length bytes == 0) && nat_le (off + length bytes) file_max)
applies t (Resize id len) = is_file_at t id && nat_le len file_max
applies t (Remove dir name id stays) = is_it (entry t dir name) id && (not (is_dir_at t id) || (is_empty_at t id && not stays))
applies t (Move dir name to_dir to_name id is_dir replaced stays) =
    is_it (entry t dir name) id && (is_kind (kind_of t id) is_dir && (is_dir_at t to_dir && (not (is_it replaced id)
    && (may_replace t to_dir to_name is_dir replaced && not (is_above (len t) t id (Some to_dir))))))
applies t (Release id) = is_file_at t id && is_none (place_of t id)
