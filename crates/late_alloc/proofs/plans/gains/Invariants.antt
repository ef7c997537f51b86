use Rattle.std.proofs.Common.{◌≡◌, ◌≤◌, ◌++◌, drop, length}
use Rattle.late_alloc.specs.Gaining.{gains_by}
use Rattle.late_alloc.specs.Reaches.{news}
use Rattle.late_alloc.proofs.plans.gains.Given as goal

abbrev pub invariant-loop-reach : goal.invariant-loop-reach
invariant-loop-reach l = record {
  gained : l.gained.items ++ gains_by (drop l.reach-index l.reaches) l.rest ≡ gains_by l.reaches l.initial.rest;
  enough : length (news (drop l.reach-index l.reaches)) ≤ length l.rest;
}
