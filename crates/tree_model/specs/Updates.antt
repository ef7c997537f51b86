-- When an update applies to a tree, and what it does.
use Rattle.std.specs.Prelude.{◌≡◌, ℕ, ◌≢◌, ◌+◌, ◌≤◌, ◌%◌, ◌^◌, Bool, true, false, List, [], ◌∷◌, ◌++◌, length}
use Rattle.std.specs.declared.option.Option.{Option}
use Rattle.std.specs.declared.option.Option.TheVariants.{None, Some}
use Rattle.std.specs.FinMap.{get, insert, remove}
use Rattle.ccfs_base.specs.Contents.{resized, written}
use Rattle.ccfs_base.specs.Limits.{file_max}
use Rattle.tree_model.specs.declared.rows.Body.{Body}
use Rattle.tree_model.specs.declared.rows.Body.TheVariants.{Dir, File}
use Rattle.tree_model.specs.declared.rows.Row.{Row}
use Rattle.tree_model.specs.declared.rows.Update.{Update}
use Rattle.tree_model.specs.declared.rows.Update.TheVariants.{Make, Write, Resize, Remove, Move, Release}
use Rattle.tree_model.specs.Rows.{Rows, kind_of, IsDir, IsFile, IsEntry, IsVacant, IsEmpty, IsGone, IsClear}

-- a change of one row
pub data Edit : Type 0 where
  -- a row becomes what f makes of it, or of no row: another, or none
  Rework : (Option Row → Option Row) → Edit
  -- a file's bytes become what f makes of them
  Refill : (List ℕ → List ℕ) → Edit
  -- a row stands in this directory under this name now
  Place : (dir : ℕ) (name : List ℕ) → Edit
  -- a directory's count of changes grows by 1
  Count : Edit

-- a file's bytes as f makes them
abbrev pub refilled : (List ℕ → List ℕ) → Body → Body
refilled f (Dir changes) = Dir changes
refilled f (File bytes) = File (f bytes)

-- a directory's count of changes, 1 higher modulo 2^64: 4 becomes 5
abbrev pub counted : Body → Body
counted (Dir changes) = Dir ((changes + 1) % 2 ^ 64)
counted (File bytes) = File bytes

-- a directory's count of changes as it is told
abbrev pub recounted : ℕ → Body → Body
recounted n (Dir changes) = Dir n
recounted n (File bytes) = File bytes

-- what f makes of a row, where there is one
abbrev pub on_row : (Row → Row) → Option Row → Option Row
on_row f None = None
on_row f (Some r) = Some (f r)

-- a row with what f makes of its body, where there is a row
abbrev pub on_body : (Body → Body) → Option Row → Option Row
on_body f o = on_row (λ r. record r { body = f r.body }) o

-- what an edit makes of a row, or of none
abbrev pub change : Edit → Option Row → Option Row
change (Rework f) o = f o
change (Refill f) o = on_body (refilled f) o
change (Place dir name) o = on_row (λ r. record r { parent = Some dir; name = name }) o
change Count o = on_body counted o

-- the rows with this one at the serial x, or with none there
abbrev pub store : Rows → ℕ → Option Row → Rows
store t x None = remove t x
store t x (Some r) = insert t x r

-- the rows after edits at these serials, first to last
abbrev pub edited : List (ℕ × Edit) → Rows → Rows
edited [] t = t
edited (e ∷ es) t = edited es (store t e.0 (change e.1 (get t e.0)))

-- the rows with the count of changes of the directory x as it is told
abbrev pub recount : Rows → ℕ → ℕ → Rows
recount t x n = store t x (on_body (recounted n) (get t x))

-- the body of a new row: of a directory that was never changed, or of a file without bytes
abbrev pub new_body : Bool → Body
new_body true = Dir 0
new_body false = File []

-- a row that stands nowhere any more: without directory and name
abbrev pub unplaced : Option Row → Option Row
unplaced o = on_row (λ r. record r { parent = None; name = [] }) o

-- what is left of a removed row: where it stays a file without a name, else nothing
abbrev pub left_of : Bool → Option Row → Option Row
left_of true o = unplaced o
left_of false o = None

-- what a move does to the file that it replaces
abbrev pub replacing : Option ℕ → Bool → List (ℕ × Edit)
replacing None stays = []
replacing (Some x) stays = (x, Rework (left_of stays)) ∷ []

-- what an update does, row by row: making `/a/f` puts a row in and counts a change of `/a`; moving it to `/b/g`, which
-- is removed, takes that row out, gives the moved one its new place, and counts a change of `/a` and one of `/b`
abbrev pub edits : Update → List (ℕ × Edit)
edits (Make dir name id is_dir) = (id, Rework (λ o. Some (record { parent = Some dir; name = name; body = new_body is_dir }))) ∷ (dir, Count) ∷ []
edits (Write id off bytes) = (id, Refill (written off bytes)) ∷ []
edits (Resize id len) = (id, Refill (resized len)) ∷ []
edits (Remove dir name id stays) = (id, Rework (left_of stays)) ∷ (dir, Count) ∷ []
edits (Move dir name to_dir to_name id is_dir replaced stays) = replacing replaced stays ++ (id, Place to_dir to_name) ∷ (dir, Count) ∷ (to_dir, Count) ∷ []
edits (Release id) = (id, Rework (left_of false)) ∷ []

-- the rows after an update
abbrev pub apply : Rows → Update → Rows
apply t u = edited (edits u) t

-- what may stand where a row is moved to: nothing, or the file that is replaced, by a file
abbrev pub MayReplace : Rows → ℕ → List ℕ → Bool → Option ℕ → Type 0
MayReplace t to_dir to_name is_dir None = IsVacant t to_dir to_name
MayReplace t to_dir to_name is_dir (Some x) = IsEntry t to_dir to_name x × IsFile t x × (is_dir ≡ false)

-- when an update applies
abbrev pub Fits : Rows → Update → Type 0
-- a row is made in a directory, where it has no entry of that name, under a free serial
Fits t (Make dir name id is_dir) = IsDir t dir × IsVacant t dir name × (get t id ≡ None)
-- some bytes are written into a file, and end within the greatest length
Fits t (Write id off bytes) = IsFile t id × (bytes ≢ []) × (off + length bytes ≤ file_max)
-- a file gets at most the greatest length
Fits t (Resize id len) = IsFile t id × (len ≤ file_max)
-- an entry is removed: a file, or a directory without entries, which doesn't stay
Fits t (Remove dir name id stays) = IsEntry t dir name id × (kind_of t id ≡ Some true → IsEmpty t id × (stays ≡ false))
-- an entry is moved into a directory that is neither itself nor below it, to a name that may be taken by another file
Fits t (Move dir name to_dir to_name id is_dir replaced stays) =
    IsEntry t dir name id × (kind_of t id ≡ Some is_dir) × IsDir t to_dir × (replaced ≢ Some id)
    × MayReplace t to_dir to_name is_dir replaced × IsClear t id to_dir
-- a file without a name is dropped
Fits t (Release id) = IsGone t id
