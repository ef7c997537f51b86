-- What the words of the command line ask for.
use Rattle.std.specs.Prelude.{◌≡◌, ℕ, ◌≤◌, ◌^◌, Bool, false, eqb, ◌&&◌, cond, Option, Some, None, List, length, codes, String, string_bytes, bytes_eq, slice_get}
use Rattle.std.specs.declared.alloc.Global.{Global}
use Rattle.block_layout.specs.Sizes.{good_blocks, good_inodes}
use Rattle.script_text.specs.Numbers.{number_of}
use Rattle.ccfs_top.specs.Ends.{IsMadeStatus, IsTreeStatus, IsRunStatus}
use Rattle.ccfs_top.specs.declared.words.Row.{Row}
use Rattle.ccfs_top.specs.declared.words.Row.TheVariants as row

-- an image of so many blocks and inodes is made, a script is run, or a tree is printed
pub data Asked : Type 0 where
  Mkfs : (blocks inodes : ℕ) → Asked
  Run : Asked
  Tree : Asked

-- whether a word has these bytes
abbrev pub is_word : List ℕ → Option (String Global) → Bool
is_word text None = false
is_word text (Some word) = bytes_eq (string_bytes word) text

-- whether there are so many words, of which the second has these bytes: of `ccfs tree a` it is so for 3 and `tree`
abbrev pub is_row : ℕ → List ℕ → List (String Global) → Bool
is_row count name words = eqb (length words) count && is_word name (slice_get words 1)

-- the number that a word spells
abbrev pub number_in : Option (String Global) → Option ℕ
number_in None = None
number_in (Some word) = number_of (string_bytes word)

-- the word is no number, or one past 32 bits: no image has that size
abbrev pub IsNoSize : Option ℕ → Type 0
IsNoSize None = Unit {0}
IsNoSize (Some size) = 2 ^ 32 ≤ size

-- an image with these numbers of blocks and inodes, where there is one
abbrev pub mkfs_of : Option ℕ → Option ℕ → Option Asked
mkfs_of None inodes = None
mkfs_of (Some blocks) None = None
mkfs_of (Some blocks) (Some inodes) = cond (good_blocks blocks && good_inodes blocks inodes) (Some (Mkfs blocks inodes)) None

-- what the words ask for: `ccfs tree IMAGE`, `ccfs run IMAGE SCRIPT` or `ccfs mkfs IMAGE BLOCKS INODES`, and nothing where they
-- are none of these or there is no image of those sizes
abbrev pub asked_by : List (String Global) → Option Asked
asked_by words =
    cond (is_row 3 (codes "tree") words) (Some Tree)
    (cond (is_row 4 (codes "run") words) (Some Run)
    (cond (is_row 5 (codes "mkfs") words) (mkfs_of (number_in (slice_get words 3)) (number_in (slice_get words 4))) None))

-- the row by its sizes alone
abbrev pub asked_of : Row → Asked
asked_of row.Run = Run
asked_of row.Tree = Tree
asked_of (row.Mkfs geometry) = Mkfs geometry.blocks geometry.inodes

-- the statuses that a call may end with, by what the words ask for
abbrev pub IsStatusOf : Option Asked → ℕ → Type 0
IsStatusOf None code = code ≡ 2
IsStatusOf (Some (Mkfs blocks inodes)) code = IsMadeStatus code
IsStatusOf (Some Run) code = IsRunStatus code
IsStatusOf (Some Tree) code = IsTreeStatus code
