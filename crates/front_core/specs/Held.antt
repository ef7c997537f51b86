-- What a front holds of its history.
use Rattle.std.specs.Prelude.{◌≡◌, ℕ, ◌+◌, ◌-◌, ◌≤◌, true, List, length}
use Rattle.block_layout.specs.Sizes.{good_inodes}
use Rattle.tree_model.specs.declared.rows.Entry.{Entry}
use Rattle.tree_model.specs.Rows.{Rows}
use Rattle.tree_cuts.specs.Calls.{Sizes}
use Rattle.history_model.specs.Histories.{start, seal_count}
use Rattle.front_laws.specs.Kept.{IsKept, now_of}
use Rattle.front_laws.specs.Batches.{batches_from}
use Rattle.front_core.specs.Left.{IsLeft}
use Rattle.front_core.specs.declared.state.State.{State}

-- Its history is kept on the tree of opening, its state is what the history left, and the batches that weren't handed out wait. The next
-- serial is at most 8,192, the most rows of an opening, and one for each call.
pub record IsFrontOf (sizes : Sizes) (limit : ℕ) (t : Rows) (h : List Entry) (handed : ℕ) (s : State) : Type 0 where
  pub kept : IsKept sizes t s.inodes.items h
  pub left : IsLeft sizes (now_of sizes t h) s
  pub queue : s.pending.txns.queue ≡ batches_from sizes t s.inodes.items h handed (seal_count sizes (start t) h - handed)
  pub handed_out : handed ≤ seal_count sizes (start t) h
  pub good : (blocks : ℕ) × (good_inodes blocks sizes.inodes ≡ true)
  pub few : length h ≤ limit
  pub short : s.next ≤ 8192 + length h
  pub limited : limit ≤ 1048576
