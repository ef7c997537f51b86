use Rattle.std.proofs.Common.{◌≡◌, ◌++◌, take}
use Rattle.block_maps.specs.Plans.{blocks_of}
use Rattle.block_maps.proofs.maps.FileMap.placed.Given as goal

abbrev pub invariant-loop-gain : goal.invariant-loop-gain
invariant-loop-gain l = l.blocks.items ≡ l.initial.blocks.items ++ blocks_of (take l.gain-index l.gained)
