-- What a front holds: once it was just made, once its batches were handed out, and where a call found no memory.
use Rattle.std.proofs.Common.{◌≡◌, ℕ, ◌+◌, ◌-◌, ◌%◌, ◌<◌, ◌≤◌, List, [], length, refl, sym, ap, subst, ◌∙◌, arith}
use Rattle.std.specs.Prelude.{true, Some, None, slice_index, slice_index_or}
use Rattle.std.specs.FinMap.{get}
use Rattle.std.proofs.lemmas.Bool.{and_from, le-leb, eq-eqb}
use Rattle.block_layout.specs.Sizes.{data_start, good_inodes}
use Rattle.block_layout.specs.declared.geometry.Geometry.{Geometry}
use Rattle.shared_meta.specs.Area.{area, area_of, AreSameAreas}
use Rattle.stream_txn.specs.Kept.{TxnLists, AreTxnsOf, handed_out}
use Rattle.cross_dep.specs.Books.{IsBookOf}
use Rattle.tree_model.specs.declared.rows.Entry.{Entry}
use Rattle.tree_model.specs.Rows.{Rows}
use Rattle.tree_cuts.specs.Calls.{Sizes}
use Rattle.history_model.specs.Histories.{start, seal_count}
use Rattle.carried_volumes.specs.Plain.{IsPlain, IsDense}
use Rattle.carried_volumes.specs.Carried.{HaveInodes}
use Rattle.front_laws.specs.Kept.{IsKept, now_of}
use Rattle.front_laws.specs.Batches.{batches_from}
use Rattle.front_laws.specs.Logging.{metadata_size}
use Rattle.front_core.specs.Free.{Taken, AreTaken}
use Rattle.front_core.specs.Fronts.{sizes_of}
use Rattle.front_core.specs.Pending.{txns_of, IsPendingOf}
use Rattle.front_core.specs.Left.{IsStateOf, IsSameState}
use Rattle.front_core.specs.Held.{IsFrontOf}
use Rattle.front_core.specs.declared.pending.Pending.{Pending}
use Rattle.front_core.specs.declared.state.State.{State}
use Rattle.front_core.proofs.Laws.{empty_kept}
use Rattle.front_core.proofs.Fronting.{counted}
use Rattle.front_core.proofs.Next.{few_serials}

-- ---- a front that was just made

-- the sizes of a geometry are good ones
pub good_told : (g : Geometry) → good_inodes g.blocks g.inodes ≡ true
good_told g =
    let at = g.first_data_place in
    let all = g.data_to_the_end in
    let least = g.least_data in
    and_from _ _ (and_from _ _ (and_from _ _ (le-leb 32 g.inodes g.least_inodes) (le-leb g.inodes 8192 g.most_inodes)) (eq-eqb (g.inodes % 32) 0 g.inodes_in_steps))
    (le-leb (data_start g.inodes + 64) g.blocks (omega (arith, at, all, least)))

-- so an opening has at most 8,192 serials
pub short_list : (g : Geometry) (t : Rows) (inodes : List ℕ) → HaveInodes g.inodes inodes t → IsDense t (length inodes) → length inodes ≤ 8192
short_list g t inodes have dense = few_serials g.blocks g.inodes t inodes (good_told g) have dense

-- where all serials of the list have rows, all its inodes are below the count
pub listed_below : (count : ℕ) (inodes : List ℕ) (t : Rows) → HaveInodes count inodes t → IsDense t (length inodes) → (i : ℕ) → i < length inodes → slice_index_or inodes i 0 < count
listed_below count inodes t have dense i here = row (get t i) (dense.below i here) refl
  where
    row : (o : _) → (o ≡ None → ⊥) → get t i ≡ o → slice_index_or inodes i 0 < count
    row None not_none is = absurd (not_none refl)
    row (Some r) not_none is = have.there i r is

-- so told of a list that is the same
pub taken_by : (count : ℕ) (inodes all : List ℕ) (t : Rows) (free : Taken) → all ≡ inodes → HaveInodes count inodes t → IsDense t (length inodes)
    → ((t : Rows) → HaveInodes count all t → IsDense t (length all) → AreTaken count all t [] free) → AreTaken count inodes t [] free
taken_by count inodes all t free is have dense told =
    subst (λ z. (t : Rows) → HaveInodes count z t → IsDense t (length z) → AreTaken count z t [] free) is told t have dense

-- with nothing unsealed the parts are those that were just made
pub none_pending : (count : ℕ) (inodes : List ℕ) (t : Rows) (bytes : List ℕ) (p : Pending) → AreSameAreas (area_of bytes) (area p.meta) → length bytes ≡ metadata_size count
    → AreTxnsOf p.txns [] → IsBookOf p.keys [] → AreTaken count inodes t [] p.free → IsPendingOf count inodes t [] p
none_pending count inodes t bytes p same sized txns book taken = record {
  logs = record { ranges = same.0.ranges; deltas = same.0.deltas };
  sized = ap length same.0.base ∙ sized;
  txns = txns;
  book = book;
  taken = taken;
}

pub front_of : (g : Geometry) (limit : ℕ) (t : Rows) (inodes : List ℕ) (h : List Entry) (s : State) → IsPlain t → HaveInodes g.inodes inodes t → IsDense t (length inodes) → limit ≤ 1048576
    → h ≡ [] → s.tree ≡ t → s.next ≡ length inodes → ((actor : ℕ) → actor < 64 → slice_index s.streams actor ≡ 0) → s.inodes.items ≡ inodes
    → IsPendingOf g.inodes inodes t [] s.pending → s.pending.txns.seals ≡ 0 → s.pending.txns.queue ≡ []
    → IsFrontOf (sizes_of g) limit t h 0 s
front_of g limit t inodes h s plain have dense limited empty tree next streams listed pending seals queue =
    let kept : IsKept (sizes_of g) t inodes [] = empty_kept (sizes_of g) t inodes plain have dense in
    subst (λ z. IsFrontOf (sizes_of g) limit t z 0 s) (sym empty) (record {
      kept = subst (λ z. IsKept (sizes_of g) t z []) (sym listed) kept;
      left = record {
        tree = tree;
        next = next ∙ kept.listed;
        streams = streams;
        pending = subst (λ z. IsPendingOf g.inodes z t [] s.pending) (sym listed) pending;
        seals = seals;
      };
      queue = queue;
      handed_out = omega arith;
      good = (g.blocks, good_told g);
      few = omega arith;
      short = (let few = short_list g t inodes have dense in omega (arith, next, few));
      limited = limited;
    })

-- ---- what it tells

module _ (sizes : Sizes) (limit : ℕ) (t : Rows) (h : List Entry) (handed : ℕ) where
  pub state_of : (s : State) → IsFrontOf sizes limit t h handed s → IsStateOf sizes t h s
  state_of s front =
      let few = front.few in
      let limited = front.limited in
      record { kept = front.kept; left = front.left; few = omega (arith, few, limited); short = front.short; good = front.good }

  -- the number of seals
  pub seals_told : (s : State) → IsFrontOf sizes limit t h handed s → s.pending.txns.seals ≡ seal_count sizes (start t) h
  seals_told s front = front.left.seals ∙ counted sizes t h

  -- where only rooms and places are others it is a front as before
  pub same_front : (old new : State) → IsFrontOf sizes limit t h handed old → IsSameState old new → IsFrontOf sizes limit t h handed new
  same_front old new front same =
      let n = now_of sizes t h in
      let left = front.left in
      let short = front.short in
      let next = same.next in
      record {
        kept = subst (λ z. IsKept sizes t z h) (sym same.inodes) front.kept;
        left = record {
          tree = same.tree ∙ left.tree;
          next = same.next ∙ left.next;
          streams = λ actor below. ap (λ z. slice_index z actor) same.streams ∙ left.streams actor below;
          pending = subst (λ z. IsPendingOf sizes.inodes z n.tree n.unsealed new.pending) (sym same.inodes)
              (same.pending.kept sizes.inodes old.inodes.items n.tree n.unsealed left.pending);
          seals = same.pending.seals ∙ left.seals;
        };
        queue = same.pending.queue ∙ front.queue ∙ ap (λ z. batches_from sizes t z h handed (seal_count sizes (start t) h - handed)) (sym same.inodes);
        handed_out = front.handed_out;
        good = front.good;
        few = front.few;
        short = omega (arith, short, next);
        limited = front.limited;
      }

  -- once all batches were handed out
  pub handed_all : (s : State) (txns : TxnLists) (seals : ℕ) → IsFrontOf sizes limit t h handed s → txns ≡ handed_out s.pending.txns → seals ≡ txns.seals
      → IsFrontOf sizes limit t h seals (record {
        tree = s.tree;
        next = s.next;
        streams = s.streams;
        inodes = s.inodes;
        pending = record { meta = s.pending.meta; txns = txns; keys = s.pending.keys; free = s.pending.free };
      })
  handed_all s txns seals front is told =
      let n = now_of sizes t h in
      let pending = front.left.pending in
      let all : seals ≡ seal_count sizes (start t) h = told ∙ ap (λ (k : TxnLists). k.seals) is ∙ seals_told s front in
      let none : seal_count sizes (start t) h - seals ≡ 0 = omega (arith, all) in
      record {
        kept = front.kept;
        left = record {
          tree = front.left.tree;
          next = front.left.next;
          streams = front.left.streams;
          pending = record {
            logs = pending.logs;
            sized = pending.sized;
            txns = subst (λ k. AreTxnsOf k (txns_of s.inodes.items n.unsealed)) (sym is) pending.txns;
            book = pending.book;
            taken = pending.taken;
          };
          seals = ap (λ (k : TxnLists). k.seals) is ∙ front.left.seals;
        };
        queue = ap (λ (k : TxnLists). k.queue) is ∙ sym (ap (batches_from sizes t s.inodes.items h seals) none);
        handed_out = omega (arith, all);
        good = front.good;
        few = front.few;
        short = front.short;
        limited = front.limited;
      }
