-- The calls of the room stay served, and what a call and a hand-out leave of the logs.
use Rattle.std.proofs.Common.{◌≡◌, ◌≢◌, ℕ, suc, ◌+◌, ◌<◌, ◌≤◌, inl, inr, List, [], ◌∷◌, ◌++◌, length, max, set, drop, get_or, refl, sym, ap, subst, ◌∙◌, arith, length-append, vec_capacity}
use Rattle.std.specs.Prelude.{Some, slice_get}
use Rattle.std.proofs.lemmas.Bool.{cases_eq}
use Rattle.std.proofs.lemmas.List.{get_or-set_same, get_or-set_other}
use Rattle.ccfs_base.specs.declared.records.Rec.{Rec}
use Rattle.ccfs_base.specs.Rooms.{IsFirst}
use Rattle.ccfs_base.specs.Logs.{Call, IsLogged, IsCalled, IsTaken}
use Rattle.record_logs.specs.declared.logs.RoomCall.{RoomCall}
use Rattle.record_logs.specs.Kept.{call_by, LogLists, logs_of}
use Rattle.record_logs.specs.Held.{list_at, number_at, with_last, NoneFell, calls_of, kept_in, IsServed, AreServed}

-- ---- the room

pub length-calls : (room : List RoomCall) → length (calls_of room) ≡ length room
length-calls [] = refl
length-calls (call ∷ rest) = ap suc (length-calls rest)

pub calls_more : (room : List RoomCall) (call : RoomCall) → calls_of (room ++ call ∷ []) ≡ calls_of room ++ call_by call.stream call.rec ∷ []
calls_more [] call = refl
calls_more (first ∷ rest) call = ap (λ z. call_by first.stream first.rec ∷ z) (calls_more rest call)

-- the room before its first call was taken out of it
used_room : (room rest : List RoomCall) (call : RoomCall) → 0 < length room → rest ≡ drop 1 room → call ≡ get_or room 0 call → room ≡ call ∷ rest
used_room [] rest call l e f = absurd (omega arith)
used_room (first ∷ more) rest call l e f = ap (λ z. z ∷ more) (sym f) ∙ ap (λ z. call ∷ z) (sym e)

-- the room before its first call was taken out of it, and that this call and the others are served
pub first_out : (logs : List (List Rec)) (spaces : List ℕ) (room rest : List RoomCall) (call : RoomCall) (was : LogLists) → kept_in logs room ≡ was
    → 0 < length was.room → rest ≡ drop 1 room → call ≡ get_or room 0 call → AreServed logs spaces 0 room
    → (room ≡ call ∷ rest) × AreServed logs spaces 0 (call ∷ rest)
first_out logs spaces room rest call was e some f g h =
    let all : room ≡ call ∷ rest = used_room room rest call (omega (arith, ap (λ (z : LogLists). length z.room) e, length-calls room)) f g in
    (all, subst (λ z. AreServed logs spaces 0 z) all h)

-- ---- calls that stay served

-- all calls are served, where each is
all_served : (logs new : List (List Rec)) (spaces more : List ℕ) (fewer : ℕ)
    → ((call : RoomCall) (before : ℕ) → IsServed logs spaces (before + fewer) call → IsServed new more before call)
    → (room : List RoomCall) (old before : ℕ) → old ≡ before + fewer → AreServed logs spaces old room → AreServed new more before room
all_served logs new spaces more fewer f [] old before e h = tt
all_served logs new spaces more fewer f (call ∷ rest) old before e h = (
  f call before (subst (λ z. IsServed logs spaces z call) e h.0),
  all_served logs new spaces more fewer f rest (old + 1) (before + 1) (omega arith) h.1,
)

-- the memory grew
pub served_grown : (logs new : List (List Rec)) (spaces more : List ℕ) (room : List RoomCall) → new ≡ logs → NoneFell spaces more
    → AreServed logs spaces 0 room → AreServed new more 0 room
served_grown logs new spaces more room same grown h = all_served logs new spaces more 0
    (λ call before s.
    let had : length (list_at logs call.stream) + (before + 0) < max (number_at spaces call.stream) (vec_capacity call.place) = s.log in
    let own : before + 0 < vec_capacity call.place = s.own in
    let grew : number_at spaces call.stream ≤ number_at more call.stream = grown call.stream in
    let long : length (list_at new call.stream) ≡ length (list_at logs call.stream) = ap (λ z. length (list_at z call.stream)) same in
    record { stream = s.stream; empty = s.empty; own = omega arith; log = omega arith })
    room 0 0 refl h

-- the first call was used
pub served_used : (logs new : List (List Rec)) (spaces more : List ℕ) (call : RoomCall) (rest : List RoomCall)
    → call.stream < length logs → new ≡ with_last logs call.stream call.rec → NoneFell spaces more
    → AreServed logs spaces 0 (call ∷ rest) → AreServed new more 0 rest
served_used logs new spaces more used rest l is grown h = all_served logs new spaces more 1
    (λ call before s.
    let had : length (list_at logs call.stream) + (before + 1) < max (number_at spaces call.stream) (vec_capacity call.place) = s.log in
    let own : before + 1 < vec_capacity call.place = s.own in
    let grew : number_at spaces call.stream ≤ number_at more call.stream = grown call.stream in
    let long : length (list_at new call.stream) ≤ length (list_at logs call.stream) + 1 = one_more call.stream in
    record { stream = s.stream; empty = s.empty; own = omega arith; log = omega arith })
    rest 1 0 (omega arith) h.1
  where
    one_more : (s : ℕ) → length (list_at new s) ≤ length (list_at logs s) + 1
    one_more s = elim (cases_eq s used.stream) [
      | inl e ↦
          let own : list_at new s ≡ list_at logs s ++ used.rec ∷ []
          = subst (λ z. list_at new z ≡ list_at logs z ++ used.rec ∷ []) (sym e)
          (ap (λ z. list_at z used.stream) is ∙ get_or-set_same logs used.stream (list_at logs used.stream ++ used.rec ∷ []) [] l) in
          omega (arith, ap length own, length-append (list_at logs s) (used.rec ∷ []))
      | inr n ↦
          let other : list_at new s ≡ list_at logs s
          = ap (λ z. list_at z s) is ∙ get_or-set_other logs used.stream s (list_at logs used.stream ++ used.rec ∷ []) [] n in
          omega (arith, ap length other)
    ]

-- a log was handed out, and the memory of the others stayed
pub served_taken : (logs new : List (List Rec)) (spaces more : List ℕ) (room : List RoomCall) (stream : ℕ)
    → stream < length logs → new ≡ set logs stream [] → ((other : ℕ) → other ≢ stream → number_at more other ≡ number_at spaces other)
    → AreServed logs spaces 0 room → AreServed new more 0 room
served_taken logs new spaces more room stream l is kept h = all_served logs new spaces more 0
    (λ call before s.
    let had : length (list_at logs call.stream) + (before + 0) < max (number_at spaces call.stream) (vec_capacity call.place) = s.log in
    let own : before + 0 < vec_capacity call.place = s.own in
    record {
      stream = s.stream;
      empty = s.empty;
      own = omega arith;
      log = elim (cases_eq call.stream stream) [
        | inl e ↦
            let none : list_at new call.stream ≡ [] = ap (list_at new) e ∙ ap (λ z. list_at z stream) is ∙ get_or-set_same logs stream [] [] l in
            omega (arith, ap length none)
        | inr n ↦
            let same : list_at new call.stream ≡ list_at logs call.stream
            = ap (λ z. list_at z call.stream) is ∙ get_or-set_other logs stream call.stream [] [] n in
            omega (arith, ap length same, kept call.stream n)
      ];
    })
    room 0 0 refl h

-- a call was put at the end of the room
pub served_last : (logs : List (List Rec)) (spaces : List ℕ) (call : RoomCall) (room : List RoomCall) (before : ℕ)
    → AreServed logs spaces before room → IsServed logs spaces (before + length room) call → AreServed logs spaces before (room ++ call ∷ [])
served_last logs spaces call [] before h one =
    let e : before + 0 ≡ before = omega arith in (subst (λ z. IsServed logs spaces z call) e one, tt)
served_last logs spaces call (first ∷ rest) before h one =
    let e : before + suc (length rest) ≡ before + 1 + length rest = omega arith in
    (h.0, served_last logs spaces call rest (before + 1) h.1 (subst (λ z. IsServed logs spaces z call) e one))

-- ---- the logs

-- a list with one more record is a log with that record
pub logged : (logs new : List (List Rec)) (stream : ℕ) (rec : Rec) → stream < length logs → new ≡ with_last logs stream rec
    → IsLogged (list_at logs) (call_by stream rec) (list_at new)
logged logs new stream rec l is = record {
  own = ap (λ z. list_at z stream) is ∙ get_or-set_same logs stream (list_at logs stream ++ rec ∷ []) [] l;
  others = λ (s : ℕ) (n : s ≢ stream). ap (λ z. list_at z s) is ∙ get_or-set_other logs stream s (list_at logs stream ++ rec ∷ []) [] n;
}

-- an emptied list is a log that was handed out
pub emptied : (logs new : List (List Rec)) (stream : ℕ) → stream < length logs → new ≡ set logs stream [] → IsTaken (list_at logs) stream (list_at new)
emptied logs new stream l is = record {
  own = ap (λ z. list_at z stream) is ∙ get_or-set_same logs stream [] [] l;
  others = λ (s : ℕ) (n : s ≢ stream). ap (λ z. list_at z s) is ∙ get_or-set_other logs stream s [] [] n;
}

-- the first call of the room was made
pub called : (old new : List (List Rec)) (used : RoomCall) (rest : List RoomCall) → used.stream < length old → new ≡ with_last old used.stream used.rec
    → (call : Call) → IsFirst call (calls_of (used ∷ rest)) → IsCalled (logs_of (kept_in old (used ∷ rest))) call (logs_of (kept_in new rest))
called old new used rest l is call first =
    let same : call_by used.stream used.rec ≡ call = (cc first.1) in
    subst (λ z. IsCalled (logs_of (kept_in old (used ∷ rest))) z (logs_of (kept_in new rest))) same (record {
      log = logged old new used.stream used.rec l is;
      room = record {
        first = λ (more : List Call) (e : calls_of (used ∷ rest) ≡ call_by used.stream used.rec ∷ more). cc e;
        other = λ (n : IsFirst (call_by used.stream used.rec) (calls_of (used ∷ rest)) → ⊥). absurd (n (calls_of rest, refl));
      };
    })

-- the first call of what was held was made
pub called_from : (old new : List (List Rec)) (room rest : List RoomCall) (used : RoomCall) (was : LogLists) → kept_in old room ≡ was → room ≡ used ∷ rest
    → used.stream < length old → new ≡ with_last old used.stream used.rec
    → (call : Call) → IsFirst call was.room → IsCalled (logs_of was) call (logs_of (kept_in new rest))
called_from old new room rest used was e f l is call =
    subst (λ (z : LogLists). IsFirst call z.room → IsCalled (logs_of z) call (logs_of (kept_in new rest)))
    (ap (λ z. kept_in old z) (sym f) ∙ e) (called old new used rest l is call)

-- the first call of a list of calls
first_of_list : (room : List RoomCall) (call : RoomCall) → Some call ≡ slice_get room 0 → IsFirst (call_by call.stream call.rec) (calls_of room)
first_of_list [] call e = absurd (cc e)
first_of_list (first ∷ rest) call e =
    let same : first ≡ call = (cc e) in
    (calls_of rest, ap (λ (z : RoomCall). call_by z.stream z.rec ∷ calls_of rest) same)

-- the first call of the room, as the code sees the room
pub first_seen : (old : List (List Rec)) (room seen : List RoomCall) (call : RoomCall) (was : LogLists) → kept_in old room ≡ was → seen ≡ room
    → Some call ≡ slice_get seen 0 → IsFirst (call_by call.stream call.rec) was.room
first_seen old room seen call was e f g =
    subst (λ (z : LogLists). IsFirst (call_by call.stream call.rec) z.room) e (first_of_list room call (g ∙ ap (λ z. slice_get z 0) f))
