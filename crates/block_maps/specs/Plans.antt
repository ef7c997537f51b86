-- What a plan says of its new blocks.
use Rattle.std.specs.Prelude.{ℕ, Option, List, map}
use Rattle.block_maps.specs.declared.plans.Gain.{Gain}

-- what a new block is for
abbrev pub use_of : Gain → ℕ × Option ℕ
use_of gain = (gain.inode, gain.page)

-- the new blocks
abbrev pub blocks_of : List Gain → List ℕ
blocks_of gained = map (λ gain. gain.block) gained
