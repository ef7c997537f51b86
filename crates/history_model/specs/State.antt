-- What a history leaves: the tree, the actors' streams and handles, what is unsealed, and two counts.
use Rattle.std.specs.Prelude.{ℕ, zero, suc, Bool, false, cond, not, ◌&&◌, ◌==◌, is_none, List, [], ◌∷◌, filter}
use Rattle.std.specs.List.{list_any}
use Rattle.std.specs.declared.option.Option.{Option}
use Rattle.std.specs.declared.option.Option.TheVariants.{None, Some}
use Rattle.tree_model.specs.Rows.{Rows}
use Rattle.tree_cuts.specs.Calls.{Charged}

-- what an actor chose last: its stream, and whether fsync is ignored
pub record Choice : Type 0 where
  pub actor : ℕ
  pub stream : ℕ
  pub ignore : Bool

-- an open handle: actor 3 may have handle 0 open on the file 7
pub record Opened : Type 0 where
  pub actor : ℕ
  pub number : ℕ
  pub file : ℕ

-- what a history leaves
pub record Now : Type 0 where
  -- the tree of opening with all updates made
  pub tree : Rows
  -- what the actors chose, the newest first
  pub choices : List Choice
  -- the open handles, the newest first
  pub handles : List Opened
  -- the updates that no seal covers yet, each with its stream and what it was charged, the newest first
  pub unsealed : List (ℕ × Charged)
  -- the serial of the next new row
  pub next : ℕ
  -- the number of seals so far
  pub seals : ℕ

-- the stream that an actor's updates belong to: stream 0, where it chose none
abbrev pub stream_in : List Choice → ℕ → ℕ
stream_in [] actor = 0
stream_in (c ∷ cs) actor = cond (c.actor == actor) c.stream (stream_in cs actor)

-- whether fsync of an actor is ignored: it isn't, where the actor chose nothing
abbrev pub ignores_in : List Choice → ℕ → Bool
ignores_in [] actor = false
ignores_in (c ∷ cs) actor = cond (c.actor == actor) c.ignore (ignores_in cs actor)

-- whether a handle is that of this actor with this number
abbrev pub is_handle : ℕ → ℕ → Opened → Bool
is_handle actor number o = o.actor == actor && o.number == number

-- the file of an actor's handle, if it is open
abbrev pub file_in : List Opened → ℕ → ℕ → Option ℕ
file_in [] actor number = None
file_in (o ∷ os) actor number = cond (is_handle actor number o) (Some o.file) (file_in os actor number)

-- whether a handle of any actor is open on a file
abbrev pub is_open_on : List Opened → ℕ → Bool
is_open_on os x = list_any (λ o. o.file == x) os

-- the handles without one of an actor
abbrev pub closed : List Opened → ℕ → ℕ → List Opened
closed os actor number = filter (λ o. not (is_handle actor number o)) os

-- the lowest of so many handles of an actor, from this one on, that isn't open: of 16 from 0 on, handle 1 where 0 and 2
-- are open
abbrev pub lowest_free : List Opened → ℕ → ℕ → ℕ → Option ℕ
lowest_free os actor number zero = None
lowest_free os actor number (suc more) = cond (is_none (file_in os actor number)) (Some number) (lowest_free os actor (suc number) more)
