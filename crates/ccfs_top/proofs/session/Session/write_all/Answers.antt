use Rattle.std.proofs.Common.{◌≡◌, ◌+◌, ◌<◌, ℕ, refl, sym, ap, ◌∙◌, subst, arith, rules}
use Rattle.gate_journal.specs.Halves.{journal_of}
use Rattle.flat_dirs.proofs.Listing.{on_err}
use Rattle.atomic_volume.proofs.Steady.{unless_ok}
use Rattle.front_core.specs.Fronts.{Fronted, seals_of}
use Rattle.ccfs_top.specs.JournalSpace.{space_used, taken_by, size_at, HasTaken}
use Rattle.ccfs_top.specs.Sessions.{Settled, ShowsOneOf}
use Rattle.ccfs_top.proofs.JournalSpaces.{none_taken, one_taken}
use Rattle.ccfs_top.proofs.Committing.{settled_shows}
use Rattle.ccfs_top.proofs.Leaving.{stays_shown, leaves_join, leaves_wider}
use Rattle.ccfs_top.proofs.Writing.{settled_handed, taken_handed, shows_all, next_is, next_more, all_written}
use Rattle.ccfs_top.proofs.session.Session.write_all.Goals as goal

pub loop-batch-init : goal.loop-batch-init
loop-batch-init g c =
    let s = c.args.self.now in let v = s.volume in let n = seals_of s.front in
    let left = c.take_sealed-sealed.ensures.left in
    record {
      front = left;
      first = refl;
      written = omega arith;
      settled = subst (λ (z : Fronted). Settled v.geometry v.volume.items s.metadata z s.first s.written) (sym left) (settled_handed v.geometry v.volume.items s.metadata s.front n s.first s.written c.requires.settled);
      taken = none_taken s.front s.written v.half;
      last = c.requires.last;
      working = c.requires.working;
      geometry = refl;
      moments = λ told. stays_shown g.D.Disk v.geometry v.half v.volume.items s.front s.first s.written
          (settled_shows v.geometry v.half v.volume.items s.metadata s.front s.first s.written c.requires.settled c.requires.last)
          v.disk (v.sound told c.requires.working) s.written n (omega arith) c.requires.settled.few (g.met.D.Disk.earlier told v.disk) (g.met.D.Disk.only_now told v.disk);
      later = omega arith;
      steady = refl;
    }

pub commit-requires-clause-next : goal.commit-requires-clause-next
commit-requires-clause-next g c =
    let s = c.args.self.now in let l = c.loop-batch in
    next_is s.front l.self.front c.deref-batch-items.result.now c.batch-item.result s.written l.self.written l.batch-index l.invariant.front c.requires.handed l.invariant.written (c.deref-batch-items.ensures.value ∙ c.take_sealed-sealed.ensures.taken) c.loop-batch-test.true c.batch-item.is

pub commit-requires-clause-more : goal.commit-requires-clause-more
commit-requires-clause-more g c =
    let s = c.args.self.now in let l = c.loop-batch in
    next_more s.front l.self.front c.deref-batch-items.result.now s.written l.self.written l.batch-index l.invariant.front c.requires.handed l.invariant.written (c.deref-batch-items.ensures.value ∙ c.take_sealed-sealed.ensures.taken) c.loop-batch-test.true

-- the run so far, and the batch
pub returns-in_err-commit-clause-moments : goal.returns-in_err-commit-clause-moments
returns-in_err-commit-clause-moments g c = λ told.
    let s = c.args.self.now in let l = c.loop-batch in let n = c.commit.new.self in
    let more = next_more s.front l.self.front c.deref-batch-items.result.now s.written l.self.written l.batch-index l.invariant.front c.requires.handed l.invariant.written (c.deref-batch-items.ensures.value ∙ c.take_sealed-sealed.ensures.taken) c.loop-batch-test.true in
    leaves_join g.D.Disk s.volume.disk l.self.volume.disk n.volume.disk (ShowsOneOf s.front s.first s.written (seals_of s.front)) (l.invariant.moments told)
    (leaves_wider g.D.Disk l.self.volume.disk n.volume.disk (ShowsOneOf l.self.front l.self.first l.self.written (l.self.written + 1)) (ShowsOneOf s.front s.first s.written (seals_of s.front))
    (λ x. shows_all s.front l.self.front s.first l.self.first s.written l.self.written l.batch-index x l.invariant.front l.invariant.first l.invariant.written more) (c.commit.ensures.moments told))

pub returns-in_err-commit-clause-device : goal.returns-in_err-commit-clause-device
returns-in_err-commit-clause-device g c = λ is.
    let rose = c.commit.ensures.device (search rules) in let before = c.loop-batch.invariant.later in
    omega (arith, rose, before)

pub returns-in_err-commit-clause-undone : goal.returns-in_err-commit-clause-undone
returns-in_err-commit-clause-undone g c =
    let s = c.args.self.now in let l = c.loop-batch in let n = c.commit.new.self in
    let more = next_more s.front l.self.front c.deref-batch-items.result.now s.written l.self.written l.batch-index l.invariant.front c.requires.handed l.invariant.written (c.deref-batch-items.ensures.value ∙ c.take_sealed-sealed.ensures.taken) c.loop-batch-test.true in
    let same = c.in_err-commit.ensures.unwritten in
    on_err c.from_residual.result (subst (λ (z : Fronted). n.written < seals_of z) (sym c.commit.ensures.front) (omega (arith, more, same)))

pub loop-batch-preserved : goal.loop-batch-preserved
loop-batch-preserved g c =
    let s = c.args.self.now in let l = c.loop-batch in let n = c.commit.new.self in
    let more = next_more s.front l.self.front c.deref-batch-items.result.now s.written l.self.written l.batch-index l.invariant.front c.requires.handed l.invariant.written (c.deref-batch-items.ensures.value ∙ c.take_sealed-sealed.ensures.taken) c.loop-batch-test.true in
    record {
      front = c.commit.ensures.front ∙ l.invariant.front;
      first = c.commit.ensures.first ∙ l.invariant.first;
      written = let one = c.in_ok-commit.ensures.written in let so_far = l.invariant.written in omega (arith, one, so_far);
      settled = c.in_ok-commit.ensures.settled;
      taken =
          let so_far = l.invariant.written in
          let one : space_used (journal_of n.volume.half) ≡ taken_by (space_used (journal_of l.self.volume.half)) (size_at s.front l.self.written) =
          c.in_ok-commit.ensures.taken ∙ ap (λ (z : Fronted). taken_by (space_used (journal_of l.self.volume.half)) (size_at z l.self.written)) l.invariant.front in
          subst (λ (z : ℕ). HasTaken s.front s.written z s.volume.half n.volume.half) (sym c.in_ok-commit.ensures.written)
          (one_taken s.front s.written l.self.written s.volume.half l.self.volume.half n.volume.half (omega (arith, so_far)) l.invariant.taken one);
      last = c.in_ok-commit.ensures.last;
      working = c.in_ok-commit.ensures.working;
      geometry = c.commit.ensures.geometry ∙ l.invariant.geometry;
      moments = λ told. leaves_join g.D.Disk s.volume.disk l.self.volume.disk n.volume.disk (ShowsOneOf s.front s.first s.written (seals_of s.front)) (l.invariant.moments told)
          (leaves_wider g.D.Disk l.self.volume.disk n.volume.disk (ShowsOneOf l.self.front l.self.first l.self.written (l.self.written + 1)) (ShowsOneOf s.front s.first s.written (seals_of s.front))
          (λ x. shows_all s.front l.self.front s.first l.self.first s.written l.self.written l.batch-index x l.invariant.front l.invariant.first l.invariant.written more) (c.commit.ensures.moments told));
      later = let now = c.commit.ensures.later in let before = l.invariant.later in omega (arith, now, before);
      steady = unless_ok _ _ c.in_ok-commit.ensures.steady ∙ l.invariant.steady;
    }

pub returns-clause-written : goal.returns-clause-written
returns-clause-written g c =
    let s = c.args.self.now in let l = c.loop-batch in
    all_written s.front c.take_sealed-sealed.result.items s.written l.self.written l.batch-index c.requires.handed c.requires.settled.few l.invariant.written c.take_sealed-sealed.ensures.taken (omega arith)

pub returns-clause-journal : goal.returns-clause-journal
returns-clause-journal g c =
    let s = c.args.self.now in let l = c.loop-batch in
    taken_handed s.front l.self.front (seals_of s.front) s.written l.self.written s.volume.half l.self.volume.half l.invariant.front l.invariant.taken
