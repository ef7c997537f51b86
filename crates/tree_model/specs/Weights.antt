-- The blocks that the files of a tree take, and what an update weighs.
use Rattle.std.specs.Prelude.{ℕ, ◌+◌, ◌-◌, ◌*◌, cond, nat_le, length, List, []}
use Rattle.std.specs.List.{sum_by}
use Rattle.std.specs.declared.option.Option.{Option}
use Rattle.std.specs.declared.option.Option.TheVariants.{None, Some}
use Rattle.std.specs.FinMap.{get, entries}
use Rattle.ccfs_base.specs.Limits.{rounded, blocks}
use Rattle.tree_model.specs.declared.rows.Body.{Body}
use Rattle.tree_model.specs.declared.rows.Body.TheVariants.{Dir, File}
use Rattle.tree_model.specs.declared.rows.Row.{Row}
use Rattle.tree_model.specs.declared.rows.Update.{Update}
use Rattle.tree_model.specs.declared.rows.Update.TheVariants.{Make, Write, Resize, Remove, Move, Release}
use Rattle.tree_model.specs.Rows.{Rows}
use Rattle.tree_model.specs.Updates.{apply}

-- the bytes of a file; a directory has none
abbrev pub body_bytes : Body → List ℕ
body_bytes (Dir changes) = []
body_bytes (File bytes) = bytes

abbrev pub row_bytes : Option Row → List ℕ
row_bytes None = []
row_bytes (Some r) = body_bytes r.body

-- the bytes of the file x, and their number
abbrev pub bytes_at : Rows → ℕ → List ℕ
bytes_at t x = row_bytes (get t x)

abbrev pub length_at : Rows → ℕ → ℕ
length_at t x = length (bytes_at t x)

-- the blocks of all files, also of those without a name
abbrev pub live : Rows → ℕ
live t = sum_by (λ e. blocks (length (body_bytes e.1.body))) (entries t)

-- the blocks that an update adds to those of all files, and those that it gives up
abbrev pub gained : Rows → Update → ℕ
gained t u = live (apply t u) - live t

abbrev pub given_up : Rows → Update → ℕ
given_up t u = live t - live (apply t u)

abbrev pub lower : ℕ → ℕ → ℕ
lower a b = cond (nat_le a b) a b

-- how many of the places from a to b, without b, lie below the end of the last page of a file of that length
abbrev pub landed : ℕ → ℕ → ℕ → ℕ
landed len a b = lower b (rounded len) - lower a (rounded len)

-- the bytes that an update puts below the end of the file's last page, zeros of a gap or of a greater length included:
-- lengthening a file of 1 byte to 5,000 puts 4,095 there
abbrev pub landed_by : Rows → Update → ℕ
landed_by t (Make dir name id is_dir) = 0
landed_by t (Write id off bytes) = landed (length_at t id) (lower off (length_at t id)) (off + length bytes)
landed_by t (Resize id len) = landed (length_at t id) (length_at t id) len
landed_by t (Remove dir name id stays) = 0
landed_by t (Move dir name to_dir to_name id is_dir replaced stays) = 0
landed_by t (Release id) = 0

-- what an update weighs, in bytes: 512, the bytes that it puts into pages that the file has already, and 32 for each block
-- that it adds or gives up
abbrev pub weight : Rows → Update → ℕ
weight t u = 512 + landed_by t u + 32 * (gained t u + given_up t u)
