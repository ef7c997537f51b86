-- Laws of histories.
use Rattle.std.specs.Prelude.{◌≡◌, ℕ, ◌+◌, ◌≤◌, List, [], ◌++◌, map}
use Rattle.std.specs.List.{AllByRecursion}
use Rattle.ccfs_base.specs.declared.commands.Command.{Command}
use Rattle.tree_model.specs.declared.rows.Entry.{Entry}
use Rattle.tree_cuts.specs.Calls.{Sizes, steps_from}
use Rattle.history_model.specs.State.{Now}
use Rattle.history_model.specs.Histories.{MayCall, IsLegal, hist, now_after, calls_by, charged_in, seal_count, tree_at}

-- the tree of a cut stays as it is when more happens
abbrev pub LongerKeepsTrees : Type 0
LongerKeepsTrees = (sizes : Sizes) (n : Now) (h g : List Entry) (d : ℕ) → d ≤ seal_count sizes n h → tree_at sizes n (h ++ g) d ≡ tree_at sizes n h d

-- where nothing is unsealed, the cut after all seals has every update
abbrev pub LastCutIsWhole : Type 0
LastCutIsWhole = (sizes : Sizes) (n : Now) (h : List Entry) → n.unsealed ≡ [] → (now_after sizes n h).unsealed ≡ [] → tree_at sizes n h (seal_count sizes n h) ≡ (now_after sizes n h).tree

-- what a history left counts its seals
abbrev pub SealsAreCounted : Type 0
SealsAreCounted = (sizes : Sizes) (n : Now) (h : List Entry) → (now_after sizes n h).seals ≡ n.seals + seal_count sizes n h

-- what a history does to the streams is what its calls do
abbrev pub StepsAreOfCalls : Type 0
StepsAreOfCalls = (sizes : Sizes) (n : Now) (h : List Entry) → charged_in sizes n h ≡ steps_from sizes n.tree n.unsealed (calls_by sizes n h)

-- the calls of a history: of the entries of `0 mkdir /a` and `1 streamsync` these two, each with its actor
abbrev pub calls_in : List Entry → List (ℕ × Command)
calls_in h = map (λ e. (e.actor, e.command)) h

-- a legal history is the one that its calls have
abbrev pub LegalIsUnique : Type 0
LegalIsUnique = (sizes : Sizes) (n : Now) (h : List Entry) → IsLegal sizes n h → h ≡ hist sizes n (calls_in h)

-- the history of calls is legal, and is one of these calls
pub record HistIsLegal : Type 0 where
  pub legal : (sizes : Sizes) (n : Now) (cs : List (ℕ × Command)) → AllByRecursion (λ c. MayCall c.0 c.1) cs → IsLegal sizes n (hist sizes n cs)
  pub calls : (sizes : Sizes) (n : Now) (cs : List (ℕ × Command)) → calls_in (hist sizes n cs) ≡ cs
