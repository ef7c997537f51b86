-- What each step tells the seat that makes it, and what the calls ask.
use Rattle.std.specs.Prelude.{◌≡◌, ◌≢◌, ◌⊎◌, ℕ, ◌≤◌, ◌<◌, List, [], ◌∷◌, ◌++◌, length, Option, Some, None}
use mathlib.Core.List.{IsPrefix}
use Rattle.atomic_table.specs.Table.{Me, rest}
use Rattle.turn_table.specs.declared.view.Place.{Place}
use Rattle.turn_table.specs.declared.view.Place.TheVariants.{Front, Back, Empty}
use Rattle.turn_table.specs.declared.view.Who.{Who}
use Rattle.turn_table.specs.declared.view.Who.TheVariants.{First, Caller, Note, Spent}
use Rattle.turn_table.specs.declared.view.FrontPhase.{FrontPhase}
use Rattle.turn_table.specs.declared.view.FrontPhase.TheVariants.{Away, Holds}
use Rattle.turn_table.specs.declared.view.BackPhase.{BackPhase}
use Rattle.turn_table.specs.declared.view.BackPhase.TheVariants.{Rests, Writes}
use Rattle.turn_table.specs.declared.view.Ended.{Ended}
use Rattle.turn_table.specs.declared.view.Firsts.{Firsts}
use Rattle.turn_table.specs.declared.view.View.{View}
use Rattle.turn_table.specs.Values.{Each, FrontMeaning, BackMeaning, calls_of}
use Rattle.turn_table.specs.Views.{kept, kept_fail, kept_handed, kept_heard, kept_written, kept_back_fail, kept_due, given_of, holding, writing, away, resting, met_front, met_back, met_front_by, met_back_by, told, informed, hears, entered, wrote}

-- a seat of the turns: what it knows, and the slots that are out with it
abbrev pub TurnMe : Type 0 → Type 0 → Type 0 → Type 0
TurnMe F B E = Me (Place F B) (View F B E)

-- a front value that was taken, beside what a seat with the back turn keeps
abbrev pub FrontBeside : {E : Type 0} → BackPhase E → List E → ℕ → Type 0
FrontBeside Rests entries handed = Unit {0}
FrontBeside (Writes heard written fail due) entries handed = (handed ≡ due) × IsPrefix heard entries

-- a back value that was taken, beside what a seat with the front turn keeps
abbrev pub BackBeside : {E : Type 0} → FrontPhase E → List E → ℕ → Type 0
BackBeside Away heard due = Unit {0}
BackBeside (Holds list fail handed) heard due = (handed ≡ due) × IsPrefix heard list

module _ {F B E : Type 0} where
  -- what a front value shows to the seat that takes it
  pub record ShowsFront (M : FrontMeaning F E) (caller : E → ℕ) (v : View F B E) (f : F) : Type 0 where
    pub seen : IsPrefix v.seen (M.entries f)
    pub counted : v.counted ≤ length (M.entries f)
    pub kin : (o : F) → v.opening ≡ Some o → M.kin o f
    pub mine : (o : F) (c : ℕ) → v.opening ≡ Some o → v.who ≡ Caller c → calls_of M caller o c (M.entries f) ≡ v.mine
    pub beside : FrontBeside v.back (M.entries f) (M.handed f)

  -- what a back value shows to the seat that takes it
  pub record ShowsBack (N : BackMeaning B E) (v : View F B E) (b : B) : Type 0 where
    pub known : v.known ≤ N.written b
    pub owed : N.written b ≤ N.due b
    pub kin : (o : B) → v.rear ≡ Some o → N.kin o b
    pub beside : BackBeside v.front (N.heard b) (N.due b)

  -- the turn was free, and the seat has its value; or it was held, and was met once more
  abbrev pub took_front : FrontMeaning F E → (E → ℕ) → TurnMe F B E → ℕ → TurnMe F B E → Type 0
  took_front M caller m n m' =
      (n ≡ 0 → (f : F) × (m'.1 ≡ (0, Front f) ∷ m.1) × (m'.0 ≡ holding M m.0 f) × ShowsFront M caller m.0 f)
      × (n ≢ 0 → m' ≡ (met_front m.0, m.1))

  abbrev pub took_back : BackMeaning B E → TurnMe F B E → ℕ → TurnMe F B E → Type 0
  took_back N m n m' =
      (n ≡ 0 → (b : B) × (m'.1 ≡ (1, Back b) ∷ m.1) × (m'.0 ≡ writing N m.0 b) × ShowsBack N m.0 b)
      × (n ≢ 0 → m' ≡ (met_back m.0, m.1))

  -- the value in the slot is entered, and the seat's own entries are those of its caller
  abbrev pub stored_front : FrontMeaning F E → (E → ℕ) → TurnMe F B E → ℕ → TurnMe F B E → Type 0
  stored_front M caller m n m' = (f : F) → m.1 ≡ (0, Front f) ∷ rest m.1
      → (m' ≡ (entered M m.0 f, m.1)) × ((o : F) (c : ℕ) → m.0.opening ≡ Some o → m.0.who ≡ Caller c → calls_of M caller o c m'.0.seen ≡ m'.0.mine)

  abbrev pub stored_back : BackMeaning B E → TurnMe F B E → ℕ → TurnMe F B E → Type 0
  stored_back N m n m' = (b : B) → m.1 ≡ (1, Back b) ∷ rest m.1 → m' ≡ (wrote N m.0 b, m.1)

  abbrev pub gave_front : TurnMe F B E → ℕ → TurnMe F B E → Type 0
  gave_front m n m' = m' ≡ (away m.0, rest m.1)

  abbrev pub gave_back : TurnMe F B E → ℕ → TurnMe F B E → Type 0
  gave_back m n m' = m' ≡ (resting m.0, rest m.1)

  abbrev pub looked_at_calls : TurnMe F B E → ℕ → TurnMe F B E → Type 0
  looked_at_calls m n m' = (m' ≡ (told m.0 n, m.1)) × (m.0.counted ≤ n) × (length m.0.seen ≤ n)

  abbrev pub looked_at_durable : TurnMe F B E → ℕ → TurnMe F B E → Type 0
  looked_at_durable m n m' = (m' ≡ (informed m.0 n, m.1)) × (m.0.known ≤ n)

  abbrev pub listened : TurnMe F B E → ℕ → TurnMe F B E → Type 0
  listened m n m' =
      (m' ≡ (hears m.0, m.1))
      × IsPrefix m.0.seen m'.0.seen
      × IsPrefix m.0.heard_of m'.0.seen

  -- the seat of this caller, which holds no turn
  abbrev pub IsIdle : ℕ → TurnMe F B E → Type 0
  IsIdle c m = (m.0.who ≡ Caller c) × (m.0.front ≡ Away) × (m.0.back ≡ Rests) × (m.1 ≡ [])

  -- the seat has the front turn, and its value is out of the slot that was taken last
  abbrev pub HasFront : TurnMe F B E → Type 0
  HasFront m =
      (m.0.front ≡ Holds (kept m.0.front) (kept_fail m.0.front) (kept_handed m.0.front))
      × (m.1 ≡ (0, Empty) ∷ rest m.1)

  -- the seat has the back turn, and its value is out of the slot that was taken last
  abbrev pub HasBack : TurnMe F B E → Type 0
  HasBack m =
      (m.0.back ≡ Writes (kept_heard m.0.back) (kept_written m.0.back) (kept_back_fail m.0.back) (kept_due m.0.back))
      × (m.1 ≡ (1, Empty) ∷ rest m.1)

  -- the value adds entries of the seat's caller alone to the list that the seat keeps
  abbrev pub Adds : FrontMeaning F E → (E → ℕ) → View F B E → F → Type 0
  Adds M caller v f =
      (c : ℕ)
      × (v.who ≡ Caller c)
      × ((more : List E) × (M.entries f ≡ kept v.front ++ more) × Each (λ e. caller e ≡ c) more)

  -- a failure that is known of a held front turn stays
  abbrev pub KeepsFrontFault : FrontMeaning F E → View F B E → F → Type 0
  KeepsFrontFault M v f = (kept_fail v.front ≡ 0) ⊎ (M.fault f ≡ kept_fail v.front)

  -- a failure that is known of a held back turn stays
  abbrev pub KeepsBackFault : BackMeaning B E → View F B E → B → Type 0
  KeepsBackFault N v b = (kept_back_fail v.back ≡ 0) ⊎ (N.fault b ≡ kept_back_fail v.back)

  -- the value is as it was taken, for all that is kept of it
  abbrev pub IsSameFront : FrontMeaning F E → View F B E → F → Type 0
  IsSameFront M v f =
      (M.entries f ≡ kept v.front)
      × (M.fault f ≡ kept_fail v.front)
      × (M.handed f ≡ kept_handed v.front)

  abbrev pub IsSameBack : BackMeaning B E → View F B E → B → Type 0
  IsSameBack N v b =
      (N.heard b ≡ kept_heard v.back)
      × (N.written b ≡ kept_written v.back)
      × (N.fault b ≡ kept_back_fail v.back)
      × (N.due b ≡ kept_due v.back)

  -- the value wrote some more of the batches that are due, and heard of no more than the seat has
  -- seen
  abbrev pub WritesOn : BackMeaning B E → View F B E → B → Type 0
  WritesOn N v b =
      (kept_written v.back ≤ N.written b)
      × (N.written b ≤ N.due b)
      × (N.due b ≡ kept_due v.back)
      × (IsPrefix (N.heard b) v.seen ⊎ (N.heard b ≡ kept_heard v.back))

  -- the seat's own entries are those of its caller in what it has seen
  abbrev pub IsMine : FrontMeaning F E → (E → ℕ) → F → View F B E → Type 0
  IsMine M caller first v = (c : ℕ) → v.who ≡ Caller c → calls_of M caller first c v.seen ≡ v.mine

  -- the same of a seat that knows the first value, which the key has
  abbrev pub KeepsMine : FrontMeaning F E → (E → ℕ) → Firsts F B → TurnMe F B E → Type 0
  KeepsMine M caller key m =
      m.0.opening ≡ Some key.front.value → IsMine M caller key.front.value m.0

  -- the front turn was free: the seat has its value, and the slot is out with it
  abbrev pub TookFront : FrontMeaning F E → TurnMe F B E → F → TurnMe F B E → Type 0
  TookFront M m f m' = m' ≡ (holding M m.0 f, (0, Empty) ∷ m.1)

  abbrev pub TookBack : BackMeaning B E → TurnMe F B E → B → TurnMe F B E → Type 0
  TookBack N m b m' = m' ≡ (writing N m.0 b, (1, Empty) ∷ m.1)

  -- the same after some tries that found the turn held
  abbrev pub TookFrontLate : FrontMeaning F E → TurnMe F B E → F → TurnMe F B E → Type 0
  TookFrontLate M m f m' =
      (n : ℕ) × (m' ≡ (holding M (met_front_by m.0 n) f, (0, Empty) ∷ m.1)) × (m.0.met_front ≤ n)

  abbrev pub TookBackLate : BackMeaning B E → TurnMe F B E → B → TurnMe F B E → Type 0
  TookBackLate N m b m' =
      (n : ℕ) × (m' ≡ (writing N (met_back_by m.0 n) b, (1, Empty) ∷ m.1)) × (m.0.met_back ≤ n)

  -- the value is in the slot of the turn that was taken last
  abbrev pub LaidFront : TurnMe F B E → F → TurnMe F B E → Type 0
  LaidFront m f m' = m' ≡ (m.0, (0, Front f) ∷ rest m.1)

  abbrev pub LaidBack : TurnMe F B E → B → TurnMe F B E → Type 0
  LaidBack m b m' = m' ≡ (m.0, (1, Back b) ∷ rest m.1)

  -- the turn is free again, with this value and its entries
  abbrev pub EnteredFront : FrontMeaning F E → TurnMe F B E → F → TurnMe F B E → Type 0
  EnteredFront M m f m' = m' ≡ (away (entered M m.0 f), rest m.1)

  abbrev pub WroteBack : BackMeaning B E → TurnMe F B E → B → TurnMe F B E → Type 0
  WroteBack N m b m' = m' ≡ (resting (wrote N m.0 b), rest m.1)

  -- the seat holds no turn
  abbrev pub IsFree : TurnMe F B E → Type 0
  IsFree m = (m.0.front ≡ Away) × (m.0.back ≡ Rests) × (m.1 ≡ [])

-- How many batches the front value may have handed over when it is put back: as many as before, or
-- also more where the seat has the back turn too.
abbrev pub Hands : {E : Type 0} → BackPhase E → ℕ → ℕ → Type 0
Hands Rests before handed = handed ≡ before
Hands (Writes heard written fail due) before handed = before ≤ handed

abbrev pub HandsOver : {F B E : Type 0} → FrontMeaning F E → View F B E → F → Type 0
HandsOver M v f = Hands v.back (kept_handed v.front) (M.handed f)

-- a seat that is neither the first one nor spent
abbrev pub IsPart : Who → Type 0
IsPart (First n) = ⊥
IsPart (Caller c) = Unit {0}
IsPart Note = Unit {0}
IsPart Spent = ⊥

-- The first seat gives callers their seats, from 0 on, each once; every seat that isn't spent gives
-- notes theirs.
abbrev pub CanSplit : Option ℕ → Who → Type 0
CanSplit (Some c) who = who ≡ First c
CanSplit None (First n) = Unit {0}
CanSplit None (Caller c) = Unit {0}
CanSplit None Note = Unit {0}
CanSplit None Spent = ⊥

-- the caller's seat ended in this one
abbrev pub HasEnded : {E : Type 0} → ℕ → List (Ended E) → Type 0
HasEnded c [] = ⊥
HasEnded c (e ∷ es) = (e.caller ≡ c) ⊎ HasEnded c es

-- the caller's seat ended, and those of others that had ended still have
abbrev pub EndsToo : {E : Type 0} → ℕ → List (Ended E) → List (Ended E) → Type 0
EndsToo c before after = HasEnded c after × ((d : ℕ) → HasEnded d before → HasEnded d after)

-- the first seat, in which each caller's seat ended
abbrev pub AllEnded : {F B E : Type 0} → View F B E → Type 0
AllEnded v = (n : ℕ) × (v.who ≡ First n) × ((c : ℕ) → c < n → HasEnded c v.ended)

-- the two values that the turns began with
abbrev pub IsFirst : {F B : Type 0} → Firsts F B → F → B → Type 0
IsFirst key front back = (key.front.value ≡ front) × (key.back.value ≡ back)

-- a failed number that the two values have
abbrev pub IsFailureOf : {F B E : Type 0} → FrontMeaning F E → BackMeaning B E → F → B → ℕ → Type 0
IsFailureOf M N f b n = (n ≡ 0) ⊎ ((n ≡ M.fault f) ⊎ (n ≡ N.fault b))

-- two values that the turns can begin with
abbrev pub CanStart : {F B E : Type 0} → FrontMeaning F E → BackMeaning B E → F → B → Type 0
CanStart M N f b =
    M.kin f f
    × N.kin b b
    × IsPrefix (N.heard b) (M.entries f)
    × (N.written b ≤ N.due b)
    × (N.due b ≡ M.handed f)

-- what the last values show to the first seat, in which all callers ended
pub record Closes {F B E : Type 0} (M : FrontMeaning F E) (caller : E → ℕ) (N : BackMeaning B E) (front : F) (back : B) (v : View F B E) (f : F) (b : B) : Type 0 where
  pub kin : M.kin front f × N.kin back b
  pub begun : IsPrefix (M.entries front) (M.entries f)
  pub seen : IsPrefix v.seen (M.entries f)
  pub counted : v.counted ≤ length (M.entries f)
  pub known : v.known ≤ N.written b
  pub failed : IsFailureOf M N f b v.failed
  pub heard : IsPrefix (N.heard b) (M.entries f)
  pub numbers : (N.written b ≤ N.due b) × (N.due b ≡ M.handed f)
  pub ended : Each (λ e. (calls_of M caller front e.caller (M.entries f) ≡ e.mine) × IsPrefix e.seen (M.entries f) × (e.known ≤ N.written b) × IsFailureOf M N f b e.failed) v.ended
  pub others : (c : ℕ) → given_of v.who ≤ c → calls_of M caller front c (M.entries f) ≡ []

-- the same, where the key has the first values
abbrev pub ClosesOver : {F B E : Type 0} → FrontMeaning F E → (E → ℕ) → BackMeaning B E → Firsts F B → View F B E → F × B → Type 0
ClosesOver M caller N key v both = Closes M caller N key.front.value key.back.value v both.0 both.1
