-- Which blocks a batch gains and gives up.
use Rattle.std.specs.Prelude.{◌≡◌, ℕ, ◌+◌, ◌<◌, ◌≤◌, Bool, false, not, ◌&&◌, Result, Ok, Err, List, length, map, filter, take, slice_index_or}
use Rattle.std.specs.List.{range_with_len}
use Rattle.file_bodies.specs.declared.ops.BodyOp.{BodyOp}
use Rattle.free_maps.specs.Maps.{Map, is_set}
use Rattle.block_maps.specs.declared.plans.Plan.{Plan}
use Rattle.block_maps.specs.Maps.{Mapped}
use Rattle.block_maps.specs.Plans.{use_of, blocks_of}
use Rattle.late_alloc.specs.declared.fault.PlanFault.{PlanFault}
use Rattle.late_alloc.specs.declared.fault.PlanFault.TheVariants.{Short, NoMemory}
use Rattle.late_alloc.specs.Reaches.{news_of, given_of}

-- whether the data block with this number among the data blocks is neither used nor held, `first` being the first data block
abbrev pub is_unheld : Map → List Bool → ℕ → ℕ → Bool
is_unheld map held first item = not (is_set map.bytes item) && not (slice_index_or held (first + item) false)

-- the blocks among so many data blocks that are neither used nor held, the lowest first: where data block 1 is used and block 102
-- held, of four data blocks from block 100 on they are 100 and 103
abbrev pub unheld_below : Map → List Bool → ℕ → ℕ → List ℕ
unheld_below bits held first n = map (λ item. first + item) (filter (is_unheld bits held first) (range_with_len 0 n))

-- all of them
abbrev pub unheld : Map → List Bool → ℕ → List ℕ
unheld bits held first = unheld_below bits held first bits.count

-- A batch gains just the blocks that it needs, the lowest of those that stand, and gives up just those that it leaves.
pub record IsPlan (files : List Mapped) (ops : List BodyOp) (stand : List ℕ) (plan : Plan) : Type 0 where
  pub uses : map use_of plan.gained.items ≡ news_of files ops
  pub blocks : blocks_of plan.gained.items ≡ take (length (news_of files ops)) stand
  pub enough : length (news_of files ops) ≤ length stand
  pub given : plan.given.items ≡ given_of files ops

-- what is answered: a plan; or so many blocks are needed, and fewer stand; or memory was wanting
abbrev pub IsAnswer : List Mapped → List BodyOp → List ℕ → Result Plan PlanFault → Type 0
IsAnswer files ops stand (Ok plan) = IsPlan files ops stand plan
IsAnswer files ops stand (Err (Short need free)) = (need ≡ length (news_of files ops)) × (free ≡ length stand) × (free < need)
IsAnswer files ops stand (Err NoMemory) = Unit {0}
