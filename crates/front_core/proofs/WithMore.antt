-- What is kept of unsealed updates stays as more inodes come behind the others.
use Rattle.std.proofs.Common.{◌≡◌, inl, inr, ℕ, ◌<◌, ◌≤◌, List, [], ◌∷◌, ◌++◌, length, refl, sym, ap, subst, ◌∙◌, arith, length-append}
use Rattle.std.specs.Prelude.{Some, reverse}
use Rattle.std.specs.FinMap.{get}
use Rattle.std.specs.List.{AllByRecursion}
use Rattle.stream_cuts.specs.Streams.{of_stream}
use Rattle.delta_log.specs.Laws.{ranges_of, deltas_of}
use Rattle.stream_txn.specs.Kept.{AreTxnsOf}
use Rattle.tree_model.specs.declared.rows.Row.{Row}
use Rattle.tree_model.specs.Rows.{Rows, IsTree}
use Rattle.tree_cuts.specs.Calls.{Charged}
use Rattle.image_model.specs.Carrying.{inode_in}
use Rattle.carried_volumes.specs.Carried.{HaveInodes}
use Rattle.update_records.specs.Operations.{ops_of}
use Rattle.front_laws.specs.Inodes.{has, given_by, given, IsLowestFree}
use Rattle.front_laws.specs.Owned.{Among, IsRow, AreOwned}
use Rattle.front_laws.specs.Batches.{its_records, records_of_all}
use Rattle.front_laws.specs.Laws.{IsLight}
use Rattle.front_laws.proofs.Among.{at_among}
use Rattle.front_laws.proofs.MoreInodes.{in_more, more_inodes_leave_updates}
use Rattle.front_core.specs.Pending.{txn_of, txns_of, IsPendingOf}
use Rattle.front_core.specs.declared.pending.Pending.{Pending}
use Rattle.front_core.proofs.Given.{of_among}
use Rattle.front_core.proofs.Listed.{txns_more}
use Rattle.front_core.proofs.Longer.{reversed_flat, all_given, taken_longer, longer_free, shorter_free}

module _ (count : ℕ) (inodes more : List ℕ) (t : Rows) (unsealed : List (ℕ × Charged)) (have : HaveInodes count inodes t)
    (light : AllByRecursion (IsLight (length inodes)) unsealed) where
  -- what an unsealed update is told by stays
  same_told : (e : ℕ × Charged) → Among e unsealed
      → (its_records count (inodes ++ more) e.1.0 ≡ its_records count inodes e.1.0) × (ops_of (inodes ++ more) e.1.0 ≡ ops_of inodes e.1.0) × (given_by (inodes ++ more) e.1.0 ≡ given_by inodes e.1.0)
  same_told e a = let l = at_among (IsLight (length inodes)) e unsealed light a in more_inodes_leave_updates count inodes more e.1.0 l.built l.below

  same_by : (e : ℕ × Charged) → Among e unsealed → given_by (inodes ++ more) e.1.0 ≡ given_by inodes e.1.0
  same_by e a = (same_told e a).2

  -- the records of a stream
  same_records : (s : ℕ) → records_of_all count (inodes ++ more) (reverse (of_stream s unsealed)) ≡ records_of_all count inodes (reverse (of_stream s unsealed))
  same_records s =
      reversed_flat (λ (e : ℕ × Charged). its_records count (inodes ++ more) e.1.0) (λ (e : ℕ × Charged). its_records count inodes e.1.0) (of_stream s unsealed)
      (λ (e : ℕ × Charged) (a : Among e (of_stream s unsealed)). (same_told e (of_among e s unsealed a).0).0)

  -- and the updates as the transactions keep them
  same_txn : (e : ℕ × Charged) → Among e unsealed → txn_of (inodes ++ more) e ≡ txn_of inodes e
  same_txn e a =
      let ops = (same_told e a).1 in
      λ i. record { stream = e.0; weight = e.1.1.weight; gave_blocks = e.1.1.gave_blocks; gave_rows = e.1.1.gave_rows; ops = ops i }

  same_txns : (h : List (ℕ × Charged)) → ((e : ℕ × Charged) → Among e h → Among e unsealed) → txns_of (inodes ++ more) h ≡ txns_of inodes h
  same_txns [] all = refl
  same_txns (e ∷ h) all =
      txns_more (inodes ++ more) e h
      ∙ ap (λ z. z ++ txn_of (inodes ++ more) e ∷ []) (same_txns h (λ (d : ℕ × Charged) (a : Among d h). all d (inr a)))
      ∙ ap (λ z. txns_of inodes h ++ z ∷ []) (same_txn e (all e (inl refl)))
      ∙ sym (txns_more inodes e h)

  -- the parts keep the same updates
  pub pending_more : (p : Pending) → IsPendingOf count inodes t unsealed p → IsPendingOf count (inodes ++ more) t unsealed p
  pending_more p of = record {
    logs = record {
      ranges = λ s. of.logs.ranges s ∙ ap ranges_of (sym (same_records s));
      deltas = λ s. of.logs.deltas s ∙ ap deltas_of (sym (same_records s));
    };
    sized = of.sized;
    txns = subst (AreTxnsOf p.txns) (sym (same_txns unsealed (λ (e : ℕ × Charged) (a : Among e unsealed). a))) of.txns;
    book = of.book;
    taken = taken_longer count inodes more t unsealed have same_by p.free of.taken;
  }

  row_stays : (s : ℕ) (r : Row) → get t s ≡ Some r → inode_in (inodes ++ more) s ≡ inode_in inodes s
  row_stays s r g = in_more inodes more s (have.listed s r g)

  -- the streams own what they did
  pub owned_more : AreOwned inodes t unsealed → AreOwned (inodes ++ more) t unsealed
  owned_more o = record {
    held = λ (x : ℕ) (row : IsRow t x).
        ap (λ z. has z (given (inodes ++ more) unsealed)) (row_stays x row.0 row.1) ∙ ap (has (inode_in inodes x)) (all_given count inodes more t unsealed have same_by) ∙ o.held x row;
    nodes = o.nodes;
    entries = o.entries;
    numbered = o.numbered;
  }

  -- the rows have their inodes
  pub have_more : IsTree t → HaveInodes count (inodes ++ more) t
  have_more tree =
      let long = length-append inodes more in
      let root = tree.root in
      record {
        listed = λ s r e. (let lt = have.listed s r e in omega arith);
        there = λ s r e. subst (λ z. z < count) (sym (row_stays s r e)) (have.there s r e);
        root = row_stays 0 _ root.1 ∙ have.root;
        high = λ s r ne e. subst (λ z. 2 ≤ z) (sym (row_stays s r e)) (have.high s r ne e);
        apart = λ s u r q e f p. have.apart s u r q e f (sym (row_stays s r e) ∙ p ∙ row_stays u q f);
        few = have.few;
      }

  -- and the lowest inode that is free beside some of the updates is the same
  pub lowest_more : (rest : List (ℕ × Charged)) → ((e : ℕ × Charged) → Among e rest → Among e unsealed) → (i : ℕ) → IsLowestFree count inodes t rest i
      → IsLowestFree count (inodes ++ more) t rest i
  lowest_more rest all i low =
      let same : (e : ℕ × Charged) → Among e rest → given_by (inodes ++ more) e.1.0 ≡ given_by inodes e.1.0 = λ (e : ℕ × Charged) (a : Among e rest). same_by e (all e a) in
      record {
        high = low.high;
        there = low.there;
        free = longer_free count inodes more t rest have same i low.free;
        lowest = λ j a b f. low.lowest j a b (shorter_free count inodes more t rest have same j f);
      }
