-- What a call leaves of two logs with one room.
use Rattle.std.proofs.Common.{◌≡◌, Bool, true, false, List, [], ◌∷◌, ◌++◌, sym, subst, ◌∙◌}
use Rattle.ccfs_base.specs.declared.records.Rec.{Rec}
use Rattle.ccfs_base.specs.Logs.{Call, IsLogged}
use Rattle.ccfs_base.specs.Rooms.{IsFirst, IsUsed}
use Rattle.range_log.specs.Ranges.{is_range}
use Rattle.delta_log.specs.Deltas.{is_delta}
use Rattle.shared_meta.specs.declared.logs.Kind.{Kind}
use Rattle.shared_meta.specs.declared.logs.Kind.TheVariants as kinds
use Rattle.shared_meta.specs.Area.{AreKept, IsLoggedWhere}
use Rattle.shared_meta.specs.Merged.{Both, list_at, merged, AreMerged, IsCalledIn}
use Rattle.shared_meta.proofs.Merged.{range_lost, delta_lost, range_more, delta_more}

used_up : {call : Call} {room : List Call} (order : List Kind) (ranges deltas : List Call) → order ≡ [] → IsUsed call room [] → IsUsed call room (merged order ranges deltas)
used_up {call} {room} order ranges deltas e h = subst (λ (o : List Kind). IsUsed call room (merged o ranges deltas)) (sym e) h

-- a range that isn't the first call of the room: all of the room is emptied
pub range_loses : (ranges deltas ranges1 ranges2 deltas2 : List (List Rec)) (order order2 : List Kind) (rroom droom rroom2 droom2 : List Call) (call : Call) (old : Both)
    → is_range call.rec ≡ true → is_delta call.rec ≡ false → record { ranges = ranges; deltas = deltas; room = merged order rroom droom } ≡ old
    → AreMerged order rroom droom → (IsFirst kinds.Range order → IsFirst call rroom → ⊥)
    → IsLogged (list_at ranges) call (list_at ranges1) → AreKept (list_at ranges1) (list_at ranges2) → AreKept (list_at deltas) (list_at deltas2) → order2 ≡ []
    → IsCalledIn old call (record { ranges = ranges2; deltas = deltas2; room = merged order2 rroom2 droom2 })
range_loses ranges deltas ranges1 ranges2 deltas2 order order2 rroom droom rroom2 droom2 call old k j v m n logged kept same e =
    let new : Both = record { ranges = ranges2; deltas = deltas2; room = merged order2 rroom2 droom2 } in
    let got : IsLogged (list_at ranges) call (list_at ranges2) = record { own = kept call.stream ∙ logged.own; others = λ s d. kept s ∙ logged.others s d } in
    subst (λ (b : Both). IsCalledIn b call new) v (record {
      ranges = subst (λ (b : Bool). IsLoggedWhere b (list_at ranges) call (list_at ranges2)) (sym k) got;
      deltas = subst (λ (b : Bool). IsLoggedWhere b (list_at deltas) call (list_at deltas2)) (sym j) same;
      room = used_up order2 rroom2 droom2 e (range_lost order rroom droom call k m n);
    })

pub delta_loses : (ranges deltas deltas1 ranges2 deltas2 : List (List Rec)) (order order2 : List Kind) (rroom droom rroom2 droom2 : List Call) (call : Call) (old : Both)
    → is_delta call.rec ≡ true → is_range call.rec ≡ false → record { ranges = ranges; deltas = deltas; room = merged order rroom droom } ≡ old
    → AreMerged order rroom droom → (IsFirst kinds.Delta order → IsFirst call droom → ⊥)
    → IsLogged (list_at deltas) call (list_at deltas1) → AreKept (list_at deltas1) (list_at deltas2) → AreKept (list_at ranges) (list_at ranges2) → order2 ≡ []
    → IsCalledIn old call (record { ranges = ranges2; deltas = deltas2; room = merged order2 rroom2 droom2 })
delta_loses ranges deltas deltas1 ranges2 deltas2 order order2 rroom droom rroom2 droom2 call old k j v m n logged kept same e =
    let new : Both = record { ranges = ranges2; deltas = deltas2; room = merged order2 rroom2 droom2 } in
    let got : IsLogged (list_at deltas) call (list_at deltas2) = record { own = kept call.stream ∙ logged.own; others = λ s d. kept s ∙ logged.others s d } in
    subst (λ (b : Both). IsCalledIn b call new) v (record {
      ranges = subst (λ (b : Bool). IsLoggedWhere b (list_at ranges) call (list_at ranges2)) (sym j) same;
      deltas = subst (λ (b : Bool). IsLoggedWhere b (list_at deltas) call (list_at deltas2)) (sym k) got;
      room = used_up order2 rroom2 droom2 e (delta_lost order rroom droom call k m n);
    })

-- a call put last in the room
pub range_pushed : (order order1 order2 : List Kind) (rroom rroom2 droom : List Call) (call : Call) → is_range call.rec ≡ true → AreMerged order rroom droom
    → order1 ≡ order → order2 ≡ order1 ++ kinds.Range ∷ [] → rroom2 ≡ rroom ++ call ∷ []
    → AreMerged order2 rroom2 droom × (merged order2 rroom2 droom ≡ merged order rroom droom ++ call ∷ [])
range_pushed order order1 order2 rroom rroom2 droom call k m e f g =
    rw (f, e, g) (range_more order rroom droom call k m)

pub delta_pushed : (order order1 order2 : List Kind) (rroom droom droom2 : List Call) (call : Call) → is_delta call.rec ≡ true → AreMerged order rroom droom
    → order1 ≡ order → order2 ≡ order1 ++ kinds.Delta ∷ [] → droom2 ≡ droom ++ call ∷ []
    → AreMerged order2 rroom droom2 × (merged order2 rroom droom2 ≡ merged order rroom droom ++ call ∷ [])
delta_pushed order order1 order2 rroom droom droom2 call k m e f g =
    rw (f, e, g) (delta_more order rroom droom call k m)
