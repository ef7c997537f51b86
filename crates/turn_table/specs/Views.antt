-- How the view of a seat changes.
use Rattle.std.specs.Prelude.{ℕ, ◌+◌, List, [], ◌∷◌, ◌++◌, length, drop, max, Option, Some, None}
use Rattle.turn_table.specs.declared.view.Who.{Who}
use Rattle.turn_table.specs.declared.view.Who.TheVariants.{First, Caller, Note, Spent}
use Rattle.turn_table.specs.declared.view.FrontPhase.{FrontPhase}
use Rattle.turn_table.specs.declared.view.FrontPhase.TheVariants.{Away, Holds}
use Rattle.turn_table.specs.declared.view.BackPhase.{BackPhase}
use Rattle.turn_table.specs.declared.view.BackPhase.TheVariants.{Rests, Writes}
use Rattle.turn_table.specs.declared.view.Ended.{Ended}
use Rattle.turn_table.specs.declared.view.View.{View}
use Rattle.turn_table.specs.Values.{FrontMeaning, BackMeaning, longer, or_else}

-- what a held front turn keeps
abbrev pub kept : {E : Type 0} → FrontPhase E → List E
kept Away = []
kept (Holds list fail handed) = list

abbrev pub kept_fail : {E : Type 0} → FrontPhase E → ℕ
kept_fail Away = 0
kept_fail (Holds list fail handed) = fail

abbrev pub kept_handed : {E : Type 0} → FrontPhase E → ℕ
kept_handed Away = 0
kept_handed (Holds list fail handed) = handed

-- what a held back turn keeps
abbrev pub kept_heard : {E : Type 0} → BackPhase E → List E
kept_heard Rests = []
kept_heard (Writes heard written fail due) = heard

abbrev pub kept_written : {E : Type 0} → BackPhase E → ℕ
kept_written Rests = 0
kept_written (Writes heard written fail due) = written

abbrev pub kept_back_fail : {E : Type 0} → BackPhase E → ℕ
kept_back_fail Rests = 0
kept_back_fail (Writes heard written fail due) = fail

abbrev pub kept_due : {E : Type 0} → BackPhase E → ℕ
kept_due Rests = 0
kept_due (Writes heard written fail due) = due

-- a held back turn with another number of due batches
abbrev pub with_due : {E : Type 0} → BackPhase E → ℕ → BackPhase E
with_due Rests due = Rests
with_due (Writes heard written fail before) due = Writes heard written fail due

-- how many callers the first seat gave seats to
abbrev pub given_of : Who → ℕ
given_of (First n) = n
given_of (Caller c) = 0
given_of Note = 0
given_of Spent = 0

-- whose seat it is after it gave a caller a seat
abbrev pub one_more : Who → Who
one_more (First n) = First (n + 1)
one_more (Caller c) = Caller c
one_more Note = Note
one_more Spent = Spent

-- whose seat is split off
abbrev pub split_who : Option ℕ → Who
split_who (Some c) = Caller c
split_who None = Note

module _ {F B E : Type 0} where
  -- the view of the first seat at the start
  abbrev pub first_view : FrontMeaning F E → BackMeaning B E → F → B → View F B E
  first_view M N front back = record {
    opening = Some front;
    rear = Some back;
    who = First 0;
    ended = [];
    front = Away;
    back = Rests;
    seen = M.entries front;
    heard_of = [];
    mine = [];
    counted = length (M.entries front);
    known = N.written back;
    failed = 0;
    met_front = 0;
    met_back = 0;
  }

  -- what a join leaves of the seat that ended
  abbrev pub spent_view : View F B E
  spent_view = record {
    opening = None;
    rear = None;
    who = Spent;
    ended = [];
    front = Away;
    back = Rests;
    seen = [];
    heard_of = [];
    mine = [];
    counted = 0;
    known = 0;
    failed = 0;
    met_front = 0;
    met_back = 0;
  }

  -- the front turn is held, and this value was in its slot
  abbrev pub holding : FrontMeaning F E → View F B E → F → View F B E
  holding M v f = record v { front = Holds (M.entries f) (M.fault f) (M.handed f) }

  -- the back turn is held, and this value was in its slot
  abbrev pub writing : BackMeaning B E → View F B E → B → View F B E
  writing M v b = record v { back = Writes (M.heard b) (M.written b) (M.fault b) (M.due b) }

  -- the front turn is free again
  abbrev pub away : View F B E → View F B E
  away v = record v { front = Away }

  -- the back turn is free again
  abbrev pub resting : View F B E → View F B E
  resting v = record v { back = Rests }

  -- once more the front turn was found held
  abbrev pub met_front : View F B E → View F B E
  met_front v = record v { met_front = v.met_front + 1 }

  -- once more the back turn was found held
  abbrev pub met_back : View F B E → View F B E
  met_back v = record v { met_back = v.met_back + 1 }

  -- the front turn was found held as often as this
  abbrev pub met_front_by : View F B E → ℕ → View F B E
  met_front_by v n = record v { met_front = n }

  -- the back turn was found held as often as this
  abbrev pub met_back_by : View F B E → ℕ → View F B E
  met_back_by v n = record v { met_back = n }

  -- the number of entries was read
  abbrev pub told : View F B E → ℕ → View F B E
  told v n = record v { counted = n }

  -- the number of written batches was read
  abbrev pub informed : View F B E → ℕ → View F B E
  informed v n = record v { known = n }

  -- what was set aside by a join is seen
  abbrev pub hears : View F B E → View F B E
  hears v = record v { seen = longer v.seen v.heard_of; heard_of = [] }

  -- the number of entries of this front value was stored
  abbrev pub entered : FrontMeaning F E → View F B E → F → View F B E
  entered M v f = record v {
    front = Holds (M.entries f) (M.fault f) (M.handed f);
    back = with_due v.back (M.handed f);
    seen = M.entries f;
    mine = v.mine ++ drop (length (kept v.front)) (M.entries f);
    failed = or_else (M.fault f) v.failed;
  }

  -- the number of written batches of this back value was stored
  abbrev pub wrote : BackMeaning B E → View F B E → B → View F B E
  wrote M v b = record v {
    back = Writes (M.heard b) (M.written b) (M.fault b) (M.due b);
    known = M.written b;
    failed = or_else (M.fault b) v.failed;
  }

  -- the next caller was given a seat
  abbrev pub gives_seat : View F B E → View F B E
  gives_seat v = record v { who = one_more v.who }

  -- a new seat, which knows what this one knows
  abbrev pub newcomer : Who → View F B E → View F B E
  newcomer who v = record v { who = who; ended = []; front = Away; back = Rests; heard_of = []; mine = []; met_front = 0; met_back = 0 }

  -- the seat of the next caller
  abbrev pub next_caller : View F B E → View F B E
  next_caller v = newcomer (Caller (given_of v.who)) v

  -- the seat of a note
  abbrev pub noted : View F B E → View F B E
  noted v = newcomer Note v

  -- the seat that was split, after it gave a seat to this caller or to a note
  abbrev pub after_split : Option ℕ → View F B E → View F B E
  after_split (Some c) v = gives_seat v
  after_split None v = v

  -- what is kept of callers when a seat ends in another
  abbrev pub ended_of : Who → View F B E → List (Ended E)
  ended_of (Caller c) w = record { caller = c; mine = w.mine; seen = w.seen; known = w.known; failed = w.failed } ∷ w.ended
  ended_of (First n) w = w.ended
  ended_of Note w = w.ended
  ended_of Spent w = w.ended

  -- the seat of w ended in that of v
  abbrev pub joined : View F B E → View F B E → View F B E
  joined v w = record v {
    ended = ended_of w.who w ++ v.ended;
    heard_of = w.seen;
    counted = max v.counted w.counted;
    known = max v.known w.known;
    failed = or_else v.failed w.failed;
  }
