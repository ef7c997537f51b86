use Rattle.std.proofs.Common.{refl}
use Rattle.shared_meta.specs.Area.{area}
use Rattle.front_core.specs.declared.pending.Pending.{Pending}
use Rattle.front_core.proofs.SoFar as areas
use Rattle.front_core.proofs.Before.{AreLogsKept, as_before, logs_before, txns_same, txns_roomed}
use Rattle.front_core.proofs.pending.Pending.make_room.Goals as goal

pub returns-in_err-room_for_all-clause-same : goal.returns-in_err-room_for_all-clause-same
returns-in_err-room_for_all-clause-same c =
    let a = c.args.self.now in
    let b : Pending = record { meta = c.room_for_all.new.meta; txns = a.txns; keys = a.keys; free = a.free } in
    let logs : AreLogsKept (area a.meta) (area b.meta)
    = logs_before (area a.meta) (area b.meta) (areas.as_before (area a.meta) (area c.clear_room.new.self) (area b.meta) c.clear_room.ensures.kept c.room_for_all.ensures.kept) in
    as_before a b logs (txns_same a.txns b.txns refl) refl (λ count inodes t unsealed taken. taken)

pub returns-in_err-reserve_ops-clause-same : goal.returns-in_err-reserve_ops-clause-same
returns-in_err-reserve_ops-clause-same c =
    let a = c.args.self.now in
    let b : Pending = record { meta = c.room_for_all.new.meta; txns = c.reserve_ops.new.self; keys = a.keys; free = a.free } in
    let logs : AreLogsKept (area a.meta) (area b.meta)
    = logs_before (area a.meta) (area b.meta) (areas.as_before (area a.meta) (area c.clear_room.new.self) (area b.meta) c.clear_room.ensures.kept c.room_for_all.ensures.kept) in
    as_before a b logs (txns_roomed a.txns b.txns b.txns.spaces c.reserve_ops.ensures.same) refl (λ count inodes t unsealed taken. taken)

pub returns-in_err-reserve-clause-same : goal.returns-in_err-reserve-clause-same
returns-in_err-reserve-clause-same c =
    let a = c.args.self.now in
    let b : Pending = record { meta = c.room_for_all.new.meta; txns = c.reserve_ops.new.self; keys = c.reserve.new.self; free = a.free } in
    let logs : AreLogsKept (area a.meta) (area b.meta)
    = logs_before (area a.meta) (area b.meta) (areas.as_before (area a.meta) (area c.clear_room.new.self) (area b.meta) c.clear_room.ensures.kept c.room_for_all.ensures.kept) in
    as_before a b logs (txns_roomed a.txns b.txns b.txns.spaces c.reserve_ops.ensures.same) c.reserve.ensures.marks (λ count inodes t unsealed taken. taken)

pub returns-clause-same : goal.returns-clause-same
returns-clause-same c =
    let a = c.args.self.now in
    let b : Pending = record { meta = c.room_for_all.new.meta; txns = c.reserve_ops.new.self; keys = c.reserve.new.self; free = c.reserve-2.new.self } in
    let logs : AreLogsKept (area a.meta) (area b.meta)
    = logs_before (area a.meta) (area b.meta) (areas.as_before (area a.meta) (area c.clear_room.new.self) (area b.meta) c.clear_room.ensures.kept c.room_for_all.ensures.kept) in
    as_before a b logs (txns_roomed a.txns b.txns b.txns.spaces c.reserve_ops.ensures.same) c.reserve.ensures.marks c.reserve-2.ensures.taken
