use Rattle.std.proofs.Common.{inl, inr, refl, sym, ◌∙◌, arith, rules}
use Rattle.atomic_volume.proofs.Steady.{unless_ok}
use Rattle.front_core.specs.Fronts.{seals_of}
use Rattle.ccfs_top.specs.Sessions.{ShowsOneOf}
use Rattle.ccfs_top.proofs.JournalSpaces.{none_taken}
use Rattle.ccfs_top.proofs.Committing.{settled_shows}
use Rattle.ccfs_top.proofs.Leaving.{stays_shown, leaves_wider}
use Rattle.ccfs_top.proofs.Stepping.{settled_acted, settled_asked, asked_of, shows_acted, stepped_sync, stepped_other}
use Rattle.ccfs_top.proofs.session.Session.step.Goals as goal

-- ---- where the front refuses

pub returns-in-Err-NotBuilt-clause-moments : goal.returns-in-Err-NotBuilt-clause-moments
returns-in-Err-NotBuilt-clause-moments g c = λ told.
    let s = c.args.self.now in let v = s.volume in let actor = c.args.actor in let command = c.args.command.now in
    let there = settled_asked v.geometry v.volume.items s.metadata s.front s.first s.written actor command c.requires.settled in
    stays_shown g.D.Disk v.geometry v.half v.volume.items (asked_of s.front actor command) s.first s.written
    (settled_shows v.geometry v.half v.volume.items s.metadata (asked_of s.front actor command) s.first s.written there c.requires.last)
    v.disk (v.sound told c.requires.working) s.written (seals_of (asked_of s.front actor command)) (omega arith) there.few (g.met.D.Disk.earlier told v.disk) (g.met.D.Disk.only_now told v.disk)

pub returns-in-Err-NoMemory-clause-moments : goal.returns-in-Err-NoMemory-clause-moments
returns-in-Err-NoMemory-clause-moments g c = λ told.
    let s = c.args.self.now in let v = s.volume in let actor = c.args.actor in let command = c.args.command.now in
    let there = settled_asked v.geometry v.volume.items s.metadata s.front s.first s.written actor command c.requires.settled in
    stays_shown g.D.Disk v.geometry v.half v.volume.items (asked_of s.front actor command) s.first s.written
    (settled_shows v.geometry v.half v.volume.items s.metadata (asked_of s.front actor command) s.first s.written there c.requires.last)
    v.disk (v.sound told c.requires.working) s.written (seals_of (asked_of s.front actor command)) (omega arith) there.few (g.met.D.Disk.earlier told v.disk) (g.met.D.Disk.only_now told v.disk)

pub returns-in_default-clause-moments : goal.returns-in_default-clause-moments
returns-in_default-clause-moments g c = λ told.
    let s = c.args.self.now in let v = s.volume in let actor = c.args.actor in let command = c.args.command.now in
    let there = settled_asked v.geometry v.volume.items s.metadata s.front s.first s.written actor command c.requires.settled in
    stays_shown g.D.Disk v.geometry v.half v.volume.items (asked_of s.front actor command) s.first s.written
    (settled_shows v.geometry v.half v.volume.items s.metadata (asked_of s.front actor command) s.first s.written there c.requires.last)
    v.disk (v.sound told c.requires.working) s.written (seals_of (asked_of s.front actor command)) (omega arith) there.few (g.met.D.Disk.earlier told v.disk) (g.met.D.Disk.only_now told v.disk)

pub returns-in-Err-NotBuilt-clause-unbuilt : goal.returns-in-Err-NotBuilt-clause-unbuilt
returns-in-Err-NotBuilt-clause-unbuilt g c = λ _. c.act.ensures.unbuilt (search rules)

-- the history isn't full
pub unreachable-requires : goal.unreachable-requires
unreachable-requires g c =
    let full = (c.act.ensures.full c.in-Err-HistoryFull.field-0-0 (search rules)).0 in let room = c.requires.room in
    omega (arith, full, room)

-- ---- a call that isn't a sync form

pub returns-then-not-is_sync_form-clause-stepped : goal.returns-then-not-is_sync_form-clause-stepped
returns-then-not-is_sync_form-clause-stepped g c =
    let s = c.args.self.now in
    stepped_other s.front c.act.new.self s.written c.args.actor c.args.command.now c.in-Ok.reply c.in-Ok.ensures.acted c.in-Ok.ensures.reply c.requires.handed
    (sym c.is_sync_form.ensures ∙ c.if-not-is_sync_form.true)

pub returns-then-not-is_sync_form-clause-settled : goal.returns-then-not-is_sync_form-clause-settled
returns-then-not-is_sync_form-clause-settled g c =
    let s = c.args.self.now in let v = s.volume in
    settled_acted v.geometry v.volume.items s.metadata s.front c.act.new.self s.first s.written c.args.actor c.args.command.now c.in-Ok.ensures.acted c.requires.settled

pub returns-then-not-is_sync_form-clause-journal : goal.returns-then-not-is_sync_form-clause-journal
returns-then-not-is_sync_form-clause-journal g c =
    let s = c.args.self.now in
    none_taken c.act.new.self s.written s.volume.half

pub returns-then-not-is_sync_form-clause-moments : goal.returns-then-not-is_sync_form-clause-moments
returns-then-not-is_sync_form-clause-moments g c = λ told.
    let s = c.args.self.now in let v = s.volume in let actor = c.args.actor in let command = c.args.command.now in
    let there = settled_asked v.geometry v.volume.items s.metadata s.front s.first s.written actor command c.requires.settled in
    stays_shown g.D.Disk v.geometry v.half v.volume.items (asked_of s.front actor command) s.first s.written
    (settled_shows v.geometry v.half v.volume.items s.metadata (asked_of s.front actor command) s.first s.written there c.requires.last)
    v.disk (v.sound told c.requires.working) s.written (seals_of (asked_of s.front actor command)) (omega arith) there.few (g.met.D.Disk.earlier told v.disk) (g.met.D.Disk.only_now told v.disk)

-- ---- a sync form

pub write_all-requires-clause-settled : goal.write_all-requires-clause-settled
write_all-requires-clause-settled g c =
    let s = c.args.self.now in let v = s.volume in
    settled_acted v.geometry v.volume.items s.metadata s.front c.act.new.self s.first s.written c.args.actor c.args.command.now c.in-Ok.ensures.acted c.requires.settled

pub write_all-requires-clause-handed : goal.write_all-requires-clause-handed
write_all-requires-clause-handed g c = c.in-Ok.ensures.acted.handed ∙ c.requires.handed

pub returns-in_err-write_all-clause-moments : goal.returns-in_err-write_all-clause-moments
returns-in_err-write_all-clause-moments g c = λ told.
    let s = c.args.self.now in let mid = c.act.new.self in let n = c.write_all.new.self in
    let asked = asked_of s.front c.args.actor c.args.command.now in
    leaves_wider g.D.Disk s.volume.disk n.volume.disk (ShowsOneOf mid s.first s.written (seals_of mid)) (ShowsOneOf asked s.first s.written (seals_of asked))
    (λ x. shows_acted s.front mid s.first s.written (seals_of mid) c.args.actor c.args.command.now x c.in-Ok.ensures.acted (omega arith)) (c.write_all.ensures.moments told)

pub returns-in_err-write_all-clause-device : goal.returns-in_err-write_all-clause-device
returns-in_err-write_all-clause-device g c = λ is. c.write_all.ensures.device (search rules)

pub returns-clause-stepped : goal.returns-clause-stepped
returns-clause-stepped g c =
    let s = c.args.self.now in let n = c.write_all.new.self in
    stepped_sync s.front c.act.new.self n.front s.written n.written c.args.actor c.args.command.now c.in-Ok.reply c.in-Ok.ensures.acted c.in-Ok.ensures.reply
    c.write_all.ensures.front c.in_ok-write_all.ensures.written (sym c.is_sync_form.ensures ∙ c.if-not-is_sync_form.false)

pub returns-clause-moments : goal.returns-clause-moments
returns-clause-moments g c = λ told.
    let s = c.args.self.now in let mid = c.act.new.self in let n = c.write_all.new.self in
    let asked = asked_of s.front c.args.actor c.args.command.now in
    leaves_wider g.D.Disk s.volume.disk n.volume.disk (ShowsOneOf mid s.first s.written (seals_of mid)) (ShowsOneOf asked s.first s.written (seals_of asked))
    (λ x. shows_acted s.front mid s.first s.written (seals_of mid) c.args.actor c.args.command.now x c.in-Ok.ensures.acted (omega arith)) (c.write_all.ensures.moments told)

pub returns-clause-steady : goal.returns-clause-steady
returns-clause-steady g c = λ _. unless_ok _ _ c.in_ok-write_all.ensures.steady

-- ---- want of memory: before anything is written, or before a batch

pub returns-in-Err-NoMemory-clause-undone : goal.returns-in-Err-NoMemory-clause-undone
returns-in-Err-NoMemory-clause-undone g c = λ _. inl refl

pub returns-in_default-clause-undone : goal.returns-in_default-clause-undone
returns-in_default-clause-undone g c = λ _. inl refl

pub returns-in_err-write_all-clause-undone : goal.returns-in_err-write_all-clause-undone
returns-in_err-write_all-clause-undone g c = λ _. inr c.in_err-write_all.ensures.undone
