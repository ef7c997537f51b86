-- The records of unsealed updates in the logs of their streams.
use Rattle.std.specs.Prelude.{◌≡◌, ℕ, ◌-◌, ◌*◌, List, [], ◌∷◌, reverse}
use Rattle.block_layout.specs.Sizes.{block_size, volume_start, data_start}
use Rattle.stream_cuts.specs.Streams.{of_stream}
use Rattle.ccfs_base.specs.declared.records.Rec.{Rec}
use Rattle.record_logs.specs.Kept.{call_by}
use Rattle.delta_log.specs.Laws.{ranges_of, deltas_of}
use Rattle.shared_meta.specs.Area.{Area, MayLog, IsLoggedIn}
use Rattle.tree_cuts.specs.Calls.{Charged}
use Rattle.front_laws.specs.Batches.{records_of_all}

-- the bytes of the metadata of an image with so many inodes: of 32 inodes six blocks
abbrev pub metadata_size : ℕ → ℕ
metadata_size count = block_size * (data_start count - volume_start)

-- each stream has logged the records of its unsealed updates, which come here the last first
pub record AreLogsOf (count : ℕ) (inodes : List ℕ) (a : Area) (unsealed : List (ℕ × Charged)) : Type 0 where
  pub ranges : (s : ℕ) → a.ranges s ≡ ranges_of (records_of_all count inodes (reverse (of_stream s unsealed)))
  pub deltas : (s : ℕ) → a.deltas s ≡ deltas_of (records_of_all count inodes (reverse (of_stream s unsealed)))

-- records may be logged for a stream, one after another
abbrev pub MayLogAll : Area → ℕ → List Rec → Type 0
MayLogAll a s [] = Unit {0}
MayLogAll a s (rec ∷ rest) = MayLog a (call_by s rec) × ((b : Area) → IsLoggedIn a (call_by s rec) b → MayLogAll b s rest)
