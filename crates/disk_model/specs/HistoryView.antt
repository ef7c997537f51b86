-- The record that a disk in memory keeps, and its steps.
use Rattle.std.specs.Prelude.{◌≡◌, ℕ, List, ◌∷◌, reverse, length}
use Rattle.disk_model.specs.History.{Images, LeftSince}
use Rattle.disk_model.specs.declared.operation.Operation.{Operation}
use Rattle.disk_model.specs.declared.history.History.{History}

-- the operations, the newest first
abbrev pub past_of : History → List Operation
past_of history = reverse history.operations.items

-- the images of a crash now
abbrev pub images_of : History → List ℕ → Type 0
images_of history = Images history.start.items (past_of history)

-- how many operations were performed
abbrev pub clock_of : History → ℕ
clock_of history = length (past_of history)

-- the images of crashes from the t-th operation on
abbrev pub left_of : History → ℕ → List ℕ → Type 0
left_of history = LeftSince history.start.items (past_of history)

-- one operation more: a sync after a write
pub record Goes (operation : Operation) (old new : History) : Type 0 where
  pub start : new.start.items ≡ old.start.items
  pub past : past_of new ≡ operation ∷ past_of old

-- the same record: after an operation that found no memory
pub record Stays (old new : History) : Type 0 where
  pub start : new.start.items ≡ old.start.items
  pub bytes : new.bytes.items ≡ old.bytes.items
  pub past : past_of new ≡ past_of old
