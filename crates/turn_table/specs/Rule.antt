-- The rule of the turns.
-- Word 0 is 1 while the front turn is held and word 2 while the back turn is; word 1 is the number
-- of entries, and word 3 that of written batches. Slot 0 has the front value while its turn is
-- free, and slot 1 the back value.
use Rattle.std.specs.Prelude.{◌≡◌, ◌⊎◌, ℕ, ◌≤◌, ◌<◌, Bool, true, false, List, [], length, slice_index, Option, Some, None}
use mathlib.Core.Option.{some}
use mathlib.Core.List.{IsPrefix}
use lib.ListN.{get_elem?}
use Rattle.atomic_table.specs.Table.{State}
use Rattle.turn_table.specs.declared.view.Place.{Place}
use Rattle.turn_table.specs.declared.view.Place.TheVariants.{Front, Back}
use Rattle.turn_table.specs.declared.view.Who.{Who}
use Rattle.turn_table.specs.declared.view.Who.TheVariants.{First, Caller, Note, Spent}
use Rattle.turn_table.specs.declared.view.FrontPhase.{FrontPhase}
use Rattle.turn_table.specs.declared.view.FrontPhase.TheVariants.{Away, Holds}
use Rattle.turn_table.specs.declared.view.BackPhase.{BackPhase}
use Rattle.turn_table.specs.declared.view.BackPhase.TheVariants.{Rests, Writes}
use Rattle.turn_table.specs.declared.view.Ended.{Ended}
use Rattle.turn_table.specs.declared.view.View.{View}
use Rattle.turn_table.specs.Values.{Each, FrontMeaning, BackMeaning, calls_of}

-- What the rule alone knows.
pub record Hidden (E : Type 0) : Type 0 where
  -- all entries, in their order
  pub log : List E
  -- the failed number of the front value
  pub fail : ℕ
  -- the seat that holds the front turn
  pub holder : Option ℕ
  -- what the back value heard of
  pub heard : List E
  -- how many batches the back value wrote
  pub written : ℕ
  -- the failed number of the back value
  pub back_fail : ℕ
  -- how many batches the front handed over to the back
  pub due : ℕ
  -- the seat that holds the back turn
  pub writer : Option ℕ
  -- how many callers were given seats
  pub given : ℕ
  -- whose seats ended in others
  pub over : ℕ → Bool
  -- the seat of each caller
  pub seat : ℕ → ℕ

-- the table of the turns as plain data
abbrev pub TurnState : Type 0 → Type 0 → Type 0 → Type 0
TurnState F B E = State (Place F B) (View F B E)

abbrev pub IsCaller : Who → Type 0
IsCaller w = (c : ℕ) × (w ≡ Caller c)

module _ {E : Type 0} (h : Hidden E) where
  -- a failed number that a view may have
  abbrev pub IsFailure : ℕ → Type 0
  IsFailure n = (n ≡ 0) ⊎ ((n ≡ h.fail) ⊎ (n ≡ h.back_fail))

  abbrev pub FrontFits : ℕ → Who → FrontPhase E → Type 0
  FrontFits id who Away = Unit {0}
  FrontFits id who (Holds list fail handed) =
      (h.holder ≡ Some id)
      × (list ≡ h.log)
      × (fail ≡ h.fail)
      × (handed ≡ h.due)
      × IsCaller who

  abbrev pub BackFits : ℕ → Who → BackPhase E → Type 0
  BackFits id who Rests = Unit {0}
  BackFits id who (Writes heard written fail due) =
      (h.writer ≡ Some id)
      × (heard ≡ h.heard)
      × (written ≡ h.written)
      × (fail ≡ h.back_fail)
      × (due ≡ h.due)
      × IsCaller who

-- A turn with its word, its slot and the kind of its value. While it is free its word is 0, and its
-- slot has a value that stands for what is known; while a seat holds it its word is 1, and the view
-- of that seat keeps what is known.
abbrev pub IsTurn : {S V X : Type 0} → ℕ → ℕ → (X → S) → (X → Type 0) → (V → Type 0) → State S V → Option ℕ → Type 0
IsTurn {X = X} word slot place Stands Keeps s None =
    (slice_index s.words word ≡ 0)
    × ((x : X) × (get_elem? s.homes slot ≡ some (some (place x))) × Stands x)
IsTurn {V = V} word slot place Stands Keeps s (Some id) =
    (slice_index s.words word ≡ 1)
    × ((v : V) × (get_elem? s.views id ≡ some v) × Keeps v)

module _ {F B E : Type 0} (M : FrontMeaning F E) (caller : E → ℕ) (N : BackMeaning B E) (first_front : F) (first_back : B) where
  -- the view keeps the values that the turns began with
  abbrev pub IsOfThese : Option F → Option B → Type 0
  IsOfThese opening rear = (opening ≡ Some first_front) × (rear ≡ Some first_back)

  module _ (h : Hidden E) where
    -- whose seat it is: a caller has one seat while it lasts, and its own entries are those in the
    -- log
    abbrev pub WhoFits : ℕ → Option F → Option B → List E → Who → Type 0
    WhoFits id opening rear mine (First n) = (id ≡ 0) × (n ≡ h.given) × IsOfThese opening rear
    WhoFits id opening rear mine (Caller c) =
        (c < h.given)
        × (h.over c ≡ false)
        × (h.seat c ≡ id)
        × (calls_of M caller first_front c h.log ≡ mine)
        × IsOfThese opening rear
    WhoFits id opening rear mine Note = IsOfThese opening rear
    WhoFits id opening rear mine Spent = Unit {0}

    -- what is kept of a caller whose seat ended
    abbrev pub EndedFits : Ended E → Type 0
    EndedFits e =
        (e.caller < h.given)
        × (h.over e.caller ≡ true)
        × (calls_of M caller first_front e.caller h.log ≡ e.mine)
        × IsPrefix e.seen h.log
        × (e.known ≤ h.written)
        × IsFailure h e.failed

    -- what a view knows
    pub record Fits (id : ℕ) (v : View F B E) : Type 0 where
      pub seen : IsPrefix v.seen h.log
      pub heard_of : IsPrefix v.heard_of h.log
      pub counted : v.counted ≤ length h.log
      pub known : v.known ≤ h.written
      pub failed : IsFailure h v.failed
      pub who : WhoFits id v.opening v.rear v.mine v.who
      pub front : FrontFits h id v.who v.front
      pub back : BackFits h id v.who v.back
      pub ended : Each EndedFits v.ended

    -- the front value stands for the log
    abbrev pub FrontStands : F → Type 0
    FrontStands f =
        (M.entries f ≡ h.log)
        × (M.fault f ≡ h.fail)
        × (M.handed f ≡ h.due)
        × M.kin first_front f

    abbrev pub BackStands : B → Type 0
    BackStands b =
        (N.heard b ≡ h.heard)
        × (N.written b ≡ h.written)
        × (N.fault b ≡ h.back_fail)
        × (N.due b ≡ h.due)
        × N.kin first_back b

    abbrev pub FrontTurn : TurnState F B E → Option ℕ → Type 0
    FrontTurn s o = IsTurn 0 0 Front FrontStands (λ v. v.front ≡ Holds h.log h.fail h.due) s o

    abbrev pub BackTurn : TurnState F B E → Option ℕ → Type 0
    BackTurn s o = IsTurn 2 1 Back BackStands (λ v. v.back ≡ Writes h.heard h.written h.back_fail h.due) s o

    -- the two words that count
    abbrev pub Counts : List ℕ → Type 0
    Counts words = (slice_index words 1 ≡ length h.log) × (slice_index words 3 ≡ h.written)

    -- The log goes on from that of the first value and has what the back heard of; of the batches
    -- that are due the back wrote some; a caller that was not given a seat has no entry.
    abbrev pub IsSound : Type 0
    IsSound =
        IsPrefix (M.entries first_front) h.log
        × IsPrefix h.heard h.log
        × (h.written ≤ h.due)
        × ((c : ℕ) → h.given ≤ c → (calls_of M caller first_front c h.log ≡ []) × (h.over c ≡ false))

  pub record Ruled (s : TurnState F B E) : Type 0 where
    pub h : Hidden E
    pub sized : (length s.words ≡ 4) × (length s.homes ≡ 2)
    pub front : FrontTurn h s h.holder
    pub back : BackTurn h s h.writer
    pub counts : Counts h s.words
    pub sound : IsSound h
    pub each : (id : ℕ) (v : View F B E) → get_elem? s.views id ≡ some v → Fits h id v
