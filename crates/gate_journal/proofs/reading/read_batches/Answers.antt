use Rattle.std.proofs.Common.{◌≡◌, ℕ, ◌-◌, List, length, refl, subst, arith}
use Rattle.gate_journal.specs.Reading.{IsRead}
use Rattle.gate_journal.proofs.ReadSteps.{so_far_more, so_far_breaks, so_far_read, so_far_stands, so_far_bytes, rest_within}
use Rattle.gate_journal.proofs.reading.read_batches.Goals as goal

pub overflow_sub-place : goal.overflow_sub-place
overflow_sub-place c = rest_within c.args.size c.loop-batch.batch c.args.area.now c.loop-batch.ranges c.loop-batch.last c.loop-batch.rest.now c.loop-batch.invariant

pub returns-in_default-clause-read : goal.returns-in_default-clause-read
returns-in_default-clause-read c =
    (c.loop-batch-test.true, so_far_breaks c.args.size c.loop-batch.batch (length c.args.area.now - length c.loop-batch.rest.now) c.args.area.now c.loop-batch.ranges c.loop-batch.last c.loop-batch.rest.now c.loop-batch.invariant (rw c.in_default.is at c.in_ok-number.ensures) refl)

pub loop-batch-preserved : goal.loop-batch-preserved
loop-batch-preserved c =
    so_far_more c.args.size c.loop-batch.batch c.args.area.now c.loop-batch.ranges c.read_batch.new.ranges c.loop-batch.last c.loop-batch.rest.now c.in-Some.number c.in-Some.behind.now c.loop-batch.invariant (rw c.in-Some.is at c.in_ok-number.ensures)

pub overflow_sub-used : goal.overflow_sub-used
overflow_sub-used c = rest_within c.args.size c.loop-batch.batch c.args.area.now c.loop-batch.ranges c.loop-batch.last c.loop-batch.rest.now c.loop-batch.invariant

pub returns-clause-read : goal.returns-clause-read
returns-clause-read c =
    let area : List ℕ = c.args.area.now in
    let rest : List ℕ = c.loop-batch.rest.now in
    let all : c.loop-batch.batch ≡ c.args.count = omega arith in
    subst (λ n. IsRead c.args.size n area (record { ranges = c.loop-batch.ranges; used = length area - length rest; last = c.loop-batch.last })) all
    (so_far_read c.args.size c.loop-batch.batch (length area - length rest) area c.loop-batch.ranges c.loop-batch.last rest c.loop-batch.invariant refl)

pub returns-clause-stand : goal.returns-clause-stand
returns-clause-stand c = so_far_stands c.args.size c.loop-batch.batch c.args.area.now c.loop-batch.ranges c.loop-batch.last c.loop-batch.rest.now c.loop-batch.invariant

pub returns-clause-bytes : goal.returns-clause-bytes
returns-clause-bytes c = so_far_bytes c.args.size c.loop-batch.batch (length c.args.area.now - length c.loop-batch.rest.now) c.args.area.now c.loop-batch.ranges c.loop-batch.last c.loop-batch.rest.now c.loop-batch.invariant refl
