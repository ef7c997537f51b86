use Rattle.std.proofs.Common.{◌≡◌, ◌+◌, ◌++◌, drop}
use Rattle.block_maps.specs.Uses.{block_count}
use Rattle.late_alloc.specs.Gaining.{gains_from}
use Rattle.late_alloc.proofs.plans.add_gains.Given as goal

abbrev pub invariant-loop-block : goal.invariant-loop-block
invariant-loop-block l = record {
  gained : l.gained.items ++ gains_from l.reach.inode l.place (drop l.block-index l.new) ≡ l.initial.gained.items ++ gains_from l.reach.inode (block_count l.reach.least) l.new;
  place : l.place ≡ block_count l.reach.least + l.block-index;
}
