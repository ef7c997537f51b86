-- How new blocks go to the files of a batch.
use Rattle.std.specs.Prelude.{ℕ, ◌+◌, List, [], ◌∷◌, ◌++◌, take, drop}
use Rattle.block_maps.specs.declared.plans.Gain.{Gain}
use Rattle.block_maps.specs.Uses.{block_count, new_count, use_at}
use Rattle.late_alloc.specs.declared.changes.Reach.{Reach}

-- blocks for one file, from a place in the order of uses on: 7 and 9 from 23 on are 7 for page 23 and 9 for the indirect block
abbrev pub gains_from : ℕ → ℕ → List ℕ → List Gain
gains_from inode place [] = []
gains_from inode place (block ∷ rest) = record { inode = inode; page = use_at place; block = block } ∷ gains_from inode (place + 1) rest

-- blocks for one file, those of its pages from its least ones on
abbrev pub own_gains : Reach → List ℕ → List Gain
own_gains reach blocks = gains_from reach.inode (block_count reach.least) blocks

-- blocks for files, of which each takes as many as it needs
abbrev pub gains_by : List Reach → List ℕ → List Gain
gains_by [] blocks = []
gains_by (reach ∷ rest) blocks =
    let n : ℕ = new_count reach.least reach.end in
    own_gains reach (take n blocks) ++ gains_by rest (drop n blocks)
