use Rattle.std.proofs.Common.{◌≡◌, ◌*◌, min}
use Rattle.free_maps.specs.Maps.{clear_below}
use Rattle.free_maps.proofs.maps.BitMap.clear_count.Given as goal

-- the free items before this byte are counted
abbrev pub invariant-loop-at : goal.invariant-loop-at
invariant-loop-at l = l.clear ≡ clear_below l.self-inside.bits.items (min l.self-inside.items (8 * l.at))
