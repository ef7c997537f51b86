use Rattle.std.proofs.Common.{◌≡◌, ⊎_elim, ℕ, ◌+◌, ◌≤◌, true, List, length, arith, rules, refl, sym, ap, ◌∙◌, subst}
use Rattle.std.proofs.lemmas.Bool.{eq-eqb}
use Rattle.std.specs.declared.result.Result.{Result}
use Rattle.std.specs.declared.result.Result.TheVariants.{Err}
use Rattle.ccfs_top.specs.declared.session.StepFault.{StepFault}
use Rattle.ccfs_base.specs.declared.records.Rec.{Rec}
use Rattle.ccfs_base.specs.Records.{AreInside}
use Rattle.gate_journal.specs.declared.batches.Batch.{Batch}
use Rattle.gate_journal.specs.Batches.{batch_bytes}
use Rattle.gate_journal.specs.Journal.{Journal}
use Rattle.gate_journal.specs.Halves.{size_of, journal_of, fits, with_batch}
use Rattle.atomic_volume.specs.Opening.{Contents, put_on}
use Rattle.atomic_volume.specs.declared.fault.VolumeFault.TheVariants.{Device, NoMemory}
use Rattle.image_model.specs.Volumes.{volume_of}
use Rattle.image_model.specs.Checks.{is_last}
use Rattle.batch_ranges.specs.Ranges.{batch_size, AreSome}
use Rattle.ccfs_top.specs.Runs.{further}
use Rattle.ccfs_top.specs.JournalSpace.{recs_at, journal_for, size_at}
use Rattle.ccfs_top.proofs.JournalSpaces.{size_is, is_light, fits_for, last_for, room_left}
use Rattle.ccfs_top.proofs.Committing.{next_number, may_follow_on, is_next, hand_after, recs_inside, hand_enough, hand_some, recs_some, settled_on, settled_at}
use Rattle.ccfs_top.proofs.Writing.{few_seals}
use Rattle.ccfs_top.proofs.Commits.{still_shown, room_shown, commit_left}
use Rattle.ccfs_top.proofs.session.Session.commit.Goals as goal

apart : Device ≡ NoMemory → ⊥
apart is = cc is

told_step : {x y : StepFault} → ◌≡◌ {A = Result (Unit {0}) StepFault} (Err x) (Err y) → x ≡ y
told_step is = cc is

-- ---- the batch

pub batch-requires-clause-inside : goal.batch-requires-clause-inside
batch-requires-clause-inside g c =
    let s = c.args.self.now in let v = s.volume in
    subst (λ (z : List Rec). AreInside (length s.metadata) z) (ap (λ z. z.recs) (sym c.requires.next))
    (recs_inside v.geometry v.volume.items s.metadata s.front s.first s.written c.requires.settled c.is_kept.ensures.kept c.requires.more)

pub batch-requires-clause-number : goal.batch-requires-clause-number
batch-requires-clause-number g c =
    let s = c.args.self.now in let v = s.volume in
    hand_some v.geometry v.volume.items s.metadata s.front s.first s.written c.requires.settled c.is_kept.ensures.kept c.requires.more

pub returns-in_default-clause-moments : goal.returns-in_default-clause-moments
returns-in_default-clause-moments g c = λ told.
    let s = c.args.self.now in let v = s.volume in
    still_shown g.D.Disk v.disk v.geometry v.half v.volume.items s.metadata s.front s.first s.written
    (record { settled = c.requires.settled; last = c.requires.last; sound = v.sound told c.requires.working })
    (g.met.D.Disk.earlier told v.disk) (g.met.D.Disk.only_now told v.disk)

-- ---- room for it

pub make_space-requires-clause-follows : goal.make_space-requires-clause-follows
make_space-requires-clause-follows g c =
    let s = c.args.self.now in let v = s.volume in let f = s.front in let b = c.in-Ok.batch in
    let size : size_of v.half ≡ length v.volume.items = search (rules, v.size_is) in
    let enough : length s.metadata ≤ size_of v.half = omega (arith, size, hand_enough v.geometry v.volume.items s.metadata f s.first s.written c.requires.settled c.is_kept.ensures.kept c.requires.more) in
    let some : AreSome c.args.sealed.now.recs = subst (λ (z : List Rec). AreSome z) (ap (λ z. z.recs) (sym c.requires.next)) (recs_some f.sizes f.opening f.inodes f.entries s.written c.is_kept.ensures.kept) in
    may_follow_on (size_of v.half) (journal_of v.half) b s.first s.written c.requires.last (c.in-Ok.ensures.number ∙ next_number s.first s.written) (c.in-Ok.ensures.stands some (size_of v.half) enough)

pub returns-in_err-make_space-clause-moments : goal.returns-in_err-make_space-clause-moments
returns-in_err-make_space-clause-moments g c = λ told.
    let s = c.args.self.now in let v = s.volume in
    room_shown g.D.Disk v.disk v.geometry v.half v.volume.items s.metadata s.front s.first s.written
    (record { settled = c.requires.settled; last = c.requires.last; sound = v.sound told c.requires.working })
    c.make_space.new.volume.disk (c.make_space.ensures.any_moment told)

pub commit-requires-clause-fits : goal.commit-requires-clause-fits
commit-requires-clause-fits g c =
    let s = c.args.self.now in let v = s.volume in let n = length (batch_bytes c.in-Ok.batch) in
    let size : n ≡ batch_size (recs_at s.front s.written) = c.in-Ok.ensures.size ∙ ap batch_size (ap (λ z. z.recs) c.requires.next) in
    let light = is_light s.front s.written (volume_of v.geometry v.volume.items) c.is_kept.ensures.kept c.requires.more c.requires.settled.carried in
    ap (λ (j : Journal). fits j n) c.in_ok-make_space.ensures.journal ∙ fits_for (journal_of v.half) n (omega (arith, size, light))

pub commit-requires-clause-follows : goal.commit-requires-clause-follows
commit-requires-clause-follows g c =
    let s = c.args.self.now in let v = s.volume in let m = c.make_space.new.volume in let f = s.front in let b = c.in-Ok.batch in
    let size : size_of m.half ≡ length m.volume.items = search (rules, m.size_is) in
    let bytes = ap length c.make_space.ensures.bytes in
    let enough : length s.metadata ≤ size_of m.half =
    omega (arith, size, bytes, hand_enough v.geometry v.volume.items s.metadata f s.first s.written c.requires.settled c.is_kept.ensures.kept c.requires.more) in
    let some : AreSome c.args.sealed.now.recs = subst (λ (z : List Rec). AreSome z) (ap (λ z. z.recs) (sym c.requires.next)) (recs_some f.sizes f.opening f.inodes f.entries s.written c.is_kept.ensures.kept) in
    let last : is_last (journal_of m.half).last (further s.first s.written) ≡ true =
    ap (λ (j : Journal). is_last j.last (further s.first s.written)) c.in_ok-make_space.ensures.journal ∙ last_for (journal_of v.half) (length (batch_bytes b)) (further s.first s.written) c.requires.last in
    may_follow_on (size_of m.half) (journal_of m.half) b s.first s.written last (c.in-Ok.ensures.number ∙ next_number s.first s.written) (c.in-Ok.ensures.stands some (size_of m.half) enough)

-- ---- once it is committed

pub returns-in-Ok-commit-clause-settled : goal.returns-in-Ok-commit-clause-settled
returns-in-Ok-commit-clause-settled g c =
    let s = c.args.self.now in let v = s.volume in let m = c.make_space.new.volume in let n = c.commit.new.self in let b = c.in-Ok.batch in
    let number = next_number s.first s.written in let same = ap (λ z. z.recs) c.requires.next in
    let next = is_next s.metadata s.front s.first s.written b c.args.sealed.now.recs _ same number c.in-Ok.ensures.number c.in-Ok.ensures.ranges in
    let hand = hand_after s.metadata c.batch.new.self s.front s.first s.written c.args.sealed.now.recs _ same number c.in-Ok.ensures.left in
    let on = settled_on v.geometry v.volume.items s.metadata s.front s.first s.written c.requires.settled c.is_kept.ensures.kept c.requires.more b.ranges c.batch.new.self (ap (λ (z : Batch). z.ranges) next) hand in
    settled_at v.geometry n.geometry (put_on v.volume.items b.ranges) n.volume.items c.batch.new.self s.front s.front s.first s.first (s.written + 1) (s.written + 1)
    (c.commit.ensures.geometry ∙ c.make_space.ensures.geometry)
    (ap (λ (z : Contents). z.bytes) c.in-Ok-commit.ensures.done ∙ ap (λ (z : List ℕ). put_on z b.ranges) c.make_space.ensures.bytes) refl refl refl on

pub returns-in-Ok-commit-clause-journal : goal.returns-in-Ok-commit-clause-journal
returns-in-Ok-commit-clause-journal g c =
    let s = c.args.self.now in let v = s.volume in let b = c.in-Ok.batch in
    let next = is_next s.metadata s.front s.first s.written b c.args.sealed.now.recs _ (ap (λ z. z.recs) c.requires.next) (next_number s.first s.written) c.in-Ok.ensures.number c.in-Ok.ensures.ranges in
    c.in-Ok-commit.ensures.journal ∙ ap (λ (j : Journal). with_batch j b) c.in_ok-make_space.ensures.journal
    ∙ ap (λ (z : Batch). with_batch (journal_for (journal_of v.half) (length (batch_bytes z))) z) next

pub returns-in-Ok-commit-clause-taken : goal.returns-in-Ok-commit-clause-taken
returns-in-Ok-commit-clause-taken g c =
    let s = c.args.self.now in let v = s.volume in let b = c.in-Ok.batch in
    room_left (journal_of v.half) (journal_of c.commit.new.self.half) b (size_at s.front s.written)
    (c.in-Ok-commit.ensures.journal ∙ ap (λ (j : Journal). with_batch j b) c.in_ok-make_space.ensures.journal)
    (c.in-Ok.ensures.size ∙ ap batch_size (ap (λ z. z.recs) c.requires.next) ∙ size_is s.front s.written c.is_kept.ensures.kept)

pub returns-in-Ok-commit-clause-last : goal.returns-in-Ok-commit-clause-last
returns-in-Ok-commit-clause-last g c =
    let s = c.args.self.now in
    let k = further s.first (s.written + 1) in
    ap (λ (j : Journal). is_last j.last k) c.in-Ok-commit.ensures.journal ∙ eq-eqb c.in-Ok.batch.number k (c.in-Ok.ensures.number ∙ next_number s.first s.written)

pub returns-in-Ok-commit-clause-moments : goal.returns-in-Ok-commit-clause-moments
returns-in-Ok-commit-clause-moments g c = λ told.
    let s = c.args.self.now in let v = s.volume in let m = c.make_space.new.volume in let b = c.in-Ok.batch in
    let number = next_number s.first s.written in let same = ap (λ z. z.recs) c.requires.next in
    let next = is_next s.metadata s.front s.first s.written b c.args.sealed.now.recs _ same number c.in-Ok.ensures.number c.in-Ok.ensures.ranges in
    let hand = hand_after s.metadata c.batch.new.self s.front s.first s.written c.args.sealed.now.recs _ same number c.in-Ok.ensures.left in
    commit_left g.D.Disk v.disk m.disk c.commit.new.self.disk v.geometry m.geometry v.half m.half v.volume.items m.volume.items s.metadata c.batch.new.self s.front s.first s.written (length (batch_bytes b)) b
    (record { settled = c.requires.settled; last = c.requires.last; sound = v.sound told c.requires.working }) c.is_kept.ensures.kept c.requires.more
    c.make_space.ensures.geometry c.make_space.ensures.bytes c.in_ok-make_space.ensures.journal (m.sound told c.in_ok-make_space.ensures.working) next hand
    (c.make_space.ensures.any_moment told) (c.commit.ensures.any_moment told)

pub returns-clause-moments : goal.returns-clause-moments
returns-clause-moments g c = λ told.
    let s = c.args.self.now in let v = s.volume in let m = c.make_space.new.volume in let b = c.in-Ok.batch in
    let number = next_number s.first s.written in let same = ap (λ z. z.recs) c.requires.next in
    let next = is_next s.metadata s.front s.first s.written b c.args.sealed.now.recs _ same number c.in-Ok.ensures.number c.in-Ok.ensures.ranges in
    let hand = hand_after s.metadata c.batch.new.self s.front s.first s.written c.args.sealed.now.recs _ same number c.in-Ok.ensures.left in
    commit_left g.D.Disk v.disk m.disk c.commit.new.self.disk v.geometry m.geometry v.half m.half v.volume.items m.volume.items s.metadata c.batch.new.self s.front s.first s.written (length (batch_bytes b)) b
    (record { settled = c.requires.settled; last = c.requires.last; sound = v.sound told c.requires.working }) c.is_kept.ensures.kept c.requires.more
    c.make_space.ensures.geometry c.make_space.ensures.bytes c.in_ok-make_space.ensures.journal (m.sound told c.in_ok-make_space.ensures.working) next hand
    (c.make_space.ensures.any_moment told) (c.commit.ensures.any_moment told)

pub returns-clause-device : goal.returns-clause-device
returns-clause-device g c = λ is.
    let before = c.make_space.ensures.later in
    let made = c.stop_of_commit.ensures.told (told_step is) in
    ⊎_elim (λ failed. let rose = failed.2 in omega (arith, rose, before)) (λ wanting. absurd (apart (sym made ∙ wanting.0))) c.in-Err.ensures.faults

pub returns-clause-steady : goal.returns-clause-steady
returns-clause-steady g c = λ not.
    ⊎_elim (λ failed. absurd (not (ap (λ (z : StepFault). Err z) (c.stop_of_commit.ensures.device failed.0))))
    (λ wanting. ap g.D.Disk.faults wanting.2 ∙ c.in_ok-make_space.ensures.steady) c.in-Err.ensures.faults

pub returns-clause-unfailed : goal.returns-clause-unfailed
returns-clause-unfailed g c = λ not.
    ⊎_elim (λ failed. absurd (not (ap (λ (z : StepFault). Err z) (c.stop_of_commit.ensures.device failed.0)))) (λ wanting. wanting.1) c.in-Err.ensures.faults

pub overflow_add-self : goal.overflow_add-self
overflow_add-self g c =
    let few = few_seals c.args.self.now.front c.is_kept.ensures.kept c.is_kept.ensures.few in
    let more = c.requires.more in
    omega (arith, few, more)
