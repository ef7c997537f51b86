-- Walks along names.
use Rattle.std.specs.Prelude.{ℕ, cond, List, [], ◌∷◌}
use Rattle.std.specs.declared.option.Option.{Option}
use Rattle.std.specs.declared.option.Option.TheVariants.{None, Some}
use Rattle.std.specs.declared.result.Result.{Result}
use Rattle.std.specs.declared.result.Result.TheVariants.{Ok, Err}
use Rattle.ccfs_base.specs.declared.replies.Refusal.{Refusal}
use Rattle.ccfs_base.specs.declared.replies.Refusal.TheVariants.{NoEntry, NotDir}
use Rattle.tree_model.specs.Rows.{Rows, is_dir_at}
use Rattle.tree_model.specs.Entries.{entry}

-- what was found, or `NoEntry`
abbrev pub found : Option ℕ → Result ℕ Refusal
found None = Err NoEntry
found (Some x) = Ok x

-- one step from x to its entry n: `NotDir` where x is no directory, `NoEntry` where it has no such entry
abbrev pub step : Rows → ℕ → List ℕ → Result ℕ Refusal
step t x n = cond (is_dir_at t x) (found (entry t x n)) (Err NotDir)

-- what f answers at the row that was found
abbrev pub from_there : {X : Type 0} → (ℕ → Result X Refusal) → Result ℕ Refusal → Result X Refusal
from_there f (Ok x) = f x
from_there f (Err e) = Err e

-- the walk from x along names, first to last: from the root along `a` and `f` the serial of `/a/f`
abbrev pub walk : Rows → List (List ℕ) → ℕ → Result ℕ Refusal
walk t [] x = Ok x
walk t (n ∷ names) x = from_there (walk t names) (step t x n)

-- all names but the last: `a` of `a` and `f`
abbrev pub front_of : List (List ℕ) → List (List ℕ)
front_of [] = []
front_of (n ∷ []) = []
front_of (n ∷ m ∷ names) = n ∷ front_of (m ∷ names)

-- the last name: `f` of `a` and `f`
abbrev pub last_of : List (List ℕ) → List ℕ
last_of [] = []
last_of (n ∷ []) = n
last_of (n ∷ m ∷ names) = last_of (m ∷ names)

-- a row that has to be a directory
abbrev pub only_dir : Rows → ℕ → Result ℕ Refusal
only_dir t x = cond (is_dir_at t x) (Ok x) (Err NotDir)

-- the directory that the last name is to stand in: the walk from the root along all names but the last, which has to
-- end at a directory
abbrev pub parent_walk : Rows → List (List ℕ) → Result ℕ Refusal
parent_walk t names = from_there (only_dir t) (walk t (front_of names) 0)

-- that directory with the last name
abbrev pub parent_and_name : Rows → List (List ℕ) → Result (ℕ × List ℕ) Refusal
parent_and_name t names = from_there (λ x. Ok (x, last_of names)) (parent_walk t names)
