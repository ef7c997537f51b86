use Rattle.std.proofs.Common.{◌≡◌, ◌*◌, ◌<◌, ◌≤◌, ℕ, true}
use Rattle.free_maps.specs.Maps.{is_set}
use Rattle.free_maps.proofs.maps.BitMap.lowest_clear.Given as goal

-- all items from the start on are used, as far as the bytes before this one go
abbrev pub invariant-loop-at : goal.invariant-loop-at
invariant-loop-at l = (i : ℕ) → l.start ≤ i → i < 8 * l.at → is_set l.self.bytes i ≡ true
