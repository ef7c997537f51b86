use Rattle.std.proofs.Common.{◌≡◌, ◌≤◌, ◌+◌, ◌*◌, length, drop}
use Rattle.late_alloc.specs.Reaches.{news}
use Rattle.late_alloc.proofs.plans.needed.Given as goal

abbrev pub invariant-loop-reach : goal.invariant-loop-reach
invariant-loop-reach l = record {
  count : l.need + length (news (drop l.reach-index l.reaches)) ≡ length (news l.reaches);
  few : l.need ≤ 1049 * l.reach-index;
}
