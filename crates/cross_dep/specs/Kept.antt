-- What the memory of one stream holds.
use Rattle.std.specs.Prelude.{◌≡◌, ℕ, ◌+◌, ◌≤◌, ◌||◌, List, length}
use Rattle.std.specs.List.{list_any}
use Rattle.tree_model.specs.declared.rows.Update.{Update}
use Rattle.tree_model.specs.declared.keys.Key.{Key}
use Rattle.tree_model.specs.Keys.{clash, touches}

-- The marks of a stream, and how many its memory has places for.
pub record Held : Type 0 where
  pub keys : List Key
  pub places : ℕ

-- Marks with those of one more update: one of them clashes with a key exactly where one did before or the update touches the
-- key. An update has six keys at most, so there are six more marks at most.
pub record IsMarked (old : List Key) (update : Update) (new : List Key) : Type 0 where
  pub tells : (key : Key) → list_any (clash key) new ≡ (list_any (clash key) old || touches update key)
  pub few : length new ≤ length old + 6
