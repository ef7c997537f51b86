-- Seals of streams, one after the other, and what the parts keep then.
use Rattle.std.proofs.Common.{◌≡◌, ℕ, suc, ◌+◌, ◌^◌, ◌<◌, inl, inr, List, [], ◌∷◌, ◌++◌, length, map, refl, sym, ap, subst, ◌∙◌, arith, append_assoc}
use Rattle.std.specs.Prelude.{reverse}
use Rattle.std.proofs.lemmas.Bool.{cases_eq}
use Rattle.std.proofs.lemmas.List.{append-nil, length-append}
use Rattle.stream_cuts.specs.Streams.{Seal, of_stream, without, unsealed_after}
use Rattle.stream_cuts.proofs.OfSeal.{none_of_stream, other_stream}
use Rattle.ccfs_base.specs.Logs.{IsTaken}
use Rattle.ccfs_base.specs.declared.records.Rec.{Rec}
use Rattle.delta_log.specs.Laws.{ranges_of, deltas_of}
use Rattle.shared_meta.specs.Area as areas
use Rattle.shared_meta.specs.Area.{Area, area, log_of}
use Rattle.stream_txn.specs.declared.updates.Unsealed.{Unsealed}
use Rattle.stream_txn.specs.Updates as txns
use Rattle.stream_txn.specs.Kept.{AreTxnsOf, batch_of, next}
use Rattle.cross_dep.specs.Books as books
use Rattle.file_bodies.specs.declared.batches.Sealed.{Sealed}
use Rattle.file_bodies.specs.declared.ops.BodyOp.{BodyOp}
use Rattle.tree_model.specs.Rows.{Rows}
use Rattle.tree_cuts.specs.Calls.{Charged}
use Rattle.front_laws.specs.Batches.{records_of_all, weight_of_all, sealed_of, sealed_in}
use Rattle.front_laws.specs.Owned.{AreOwned}
use Rattle.front_laws.specs.Logging.{AreLogsOf}
use Rattle.front_core.specs.Free.{AreTaken}
use Rattle.front_core.specs.Pending.{txn_of, txns_of, all_noted, IsPendingOf, IsSameRoom, AreSealed}
use Rattle.front_core.specs.declared.pending.Pending.{Pending}
use Rattle.front_core.proofs.Laws.{owned_sealed}
use Rattle.front_core.proofs.Listed.{txns_without, txns_of_stream, noted_without, weights_of, operations_of}

-- ---- lists

pub seals_joined : (h : List (ℕ × Charged)) (l m : List ℕ) → unsealed_after h (map Seal (l ++ m)) ≡ unsealed_after (unsealed_after h (map Seal l)) (map Seal m)
seals_joined h [] m = refl
seals_joined h (s ∷ l) m = seals_joined (without s h) l m

pub batches_joined : (count : ℕ) (inodes : List ℕ) (k : ℕ) (h : List (ℕ × Charged)) (l m : List ℕ)
    → sealed_in count inodes k h (map Seal (l ++ m)) ≡ sealed_in count inodes k h (map Seal l) ++ sealed_in count inodes (k + length l) (unsealed_after h (map Seal l)) (map Seal m)
batches_joined count inodes k h [] m = let e : k ≡ k + 0 = omega arith in ap (λ z. sealed_in count inodes z h (map Seal m)) e
batches_joined count inodes k h (s ∷ l) m =
    let e : suc k + length l ≡ k + suc (length l) = omega arith in
    ap (λ z. sealed_of count inodes s (suc k) (reverse (of_stream s h)) ∷ z)
    (batches_joined count inodes (suc k) (without s h) l m
    ∙ ap (λ z. sealed_in count inodes (suc k) (without s h) (map Seal l) ++ sealed_in count inodes z (unsealed_after (without s h) (map Seal l)) (map Seal m)) e)

pub owned_after : (inodes : List ℕ) (t : Rows) (h : List (ℕ × Charged)) (l : List ℕ) → AreOwned inodes t h → AreOwned inodes t (unsealed_after h (map Seal l))
owned_after inodes t h [] o = o
owned_after inodes t h (s ∷ l) o = owned_after inodes t (without s h) l (owned_sealed inodes t h s o)

-- ---- seals after each other

same_room : (a b c : Pending) → IsSameRoom a b → IsSameRoom b c → IsSameRoom a c
same_room a b c r q = record { meta = q.meta ∙ r.meta; txns = λ s n h. q.txns s n (r.txns s n h); keys = λ s n h. q.keys s n (r.keys s n h); places = q.places ∙ r.places; count = q.count ∙ r.count }

pub sealed_none : (p : Pending) → AreSealed p [] p
sealed_none p = record {
  kept = λ count inodes t unsealed own of. of;
  queue = λ count inodes t unsealed own of few. sym (append-nil p.txns.queue);
  seals = λ few. (let e : p.txns.seals ≡ p.txns.seals + 0 = omega arith in e);
  room = record { meta = refl; txns = λ s n h. h; keys = λ s n h. h; places = refl; count = refl };
}

pub sealed_more : (a b c : Pending) (l m : List ℕ) → AreSealed a l b → AreSealed b m c → AreSealed a (l ++ m) c
sealed_more a b c l m x y =
    let long : length (l ++ m) ≡ length l + length m = length-append l m in
    let first : a.txns.seals + length (l ++ m) < 2 ^ 64 → a.txns.seals + length l < 2 ^ 64 = λ few. omega (arith, long, few) in
    let second : a.txns.seals + length (l ++ m) < 2 ^ 64 → b.txns.seals + length m < 2 ^ 64 = λ few. (let e = x.seals (first few) in omega (arith, long, few, e)) in
    record {
      kept = λ count inodes t unsealed own of.
          subst (λ z. IsPendingOf count inodes t z c) (sym (seals_joined unsealed l m))
          (y.kept count inodes t (unsealed_after unsealed (map Seal l)) (owned_after inodes t unsealed l own) (x.kept count inodes t unsealed own of));
      queue = λ count inodes t unsealed own of few.
          y.queue count inodes t (unsealed_after unsealed (map Seal l)) (owned_after inodes t unsealed l own) (x.kept count inodes t unsealed own of) (second few)
          ∙ ap (λ z. z ++ sealed_in count inodes b.txns.seals (unsealed_after unsealed (map Seal l)) (map Seal m)) (x.queue count inodes t unsealed own of (first few))
          ∙ append_assoc a.txns.queue (sealed_in count inodes a.txns.seals unsealed (map Seal l)) (sealed_in count inodes b.txns.seals (unsealed_after unsealed (map Seal l)) (map Seal m))
          ∙ ap (λ z. a.txns.queue ++ (sealed_in count inodes a.txns.seals unsealed (map Seal l) ++ sealed_in count inodes z (unsealed_after unsealed (map Seal l)) (map Seal m))) (x.seals (first few))
          ∙ ap (λ z. a.txns.queue ++ z) (sym (batches_joined count inodes a.txns.seals unsealed l m));
      seals = λ few. (let e = x.seals (first few) in let f = y.seals (second few) in omega (arith, long, e, f));
      room = same_room a b c x.room y.room;
    }

-- ---- one seal, part by part

logs_sealed : (count : ℕ) (inodes : List ℕ) (a b : Area) (s : ℕ) (h : List (ℕ × Charged)) → AreLogsOf count inodes a h → IsTaken a.ranges s b.ranges → IsTaken a.deltas s b.deltas
    → AreLogsOf count inodes b (without s h)
logs_sealed count inodes a b s h l r d = record {
  ranges = λ q. part ranges_of a.ranges b.ranges l.ranges r q refl;
  deltas = λ q. part deltas_of a.deltas b.deltas l.deltas d q refl;
}
  where
    part : (of : List Rec → List Rec) (old new : ℕ → List Rec) → ((q : ℕ) → old q ≡ of (records_of_all count inodes (reverse (of_stream q h)))) → IsTaken old s new
        → (q : ℕ) → of [] ≡ [] → new q ≡ of (records_of_all count inodes (reverse (of_stream q (without s h))))
    part of old new was taken q none = elim (cases_eq q s) [
      | inl e ↦ subst (λ z. new z ≡ of (records_of_all count inodes (reverse (of_stream z (without s h))))) (sym e)
          (taken.own ∙ sym none ∙ ap (λ z. of (records_of_all count inodes (reverse z))) (sym (none_of_stream s h)))
      | inr ne ↦ taken.others q ne ∙ was q ∙ ap (λ z. of (records_of_all count inodes (reverse z))) (sym (other_stream q s h ne))
    ]

abbrev as_batch : ℕ → ℕ → ℕ → List Rec → List BodyOp → Sealed
as_batch s number weight recs ops = record { stream = s; number = number; weight = weight; recs = recs; ops = ops }

-- the batch is that of the stream's updates
batch_told : (count : ℕ) (inodes : List ℕ) (s number : ℕ) (recs : List Rec) (a : Area) (h : List (ℕ × Charged)) → AreLogsOf count inodes a h → recs ≡ log_of a s
    → batch_of s number recs (txns.of_stream s (txns_of inodes h)) ≡ sealed_of count inodes s number (reverse (of_stream s h))
batch_told count inodes s number recs a h l told =
    let us = reverse (of_stream s h) in
    let all : recs ≡ ranges_of (records_of_all count inodes us) ++ deltas_of (records_of_all count inodes us)
    = told ∙ ap (λ z. z ++ a.deltas s) (l.ranges s) ∙ ap (λ z. ranges_of (records_of_all count inodes us) ++ z) (l.deltas s) in
    ap (λ z. batch_of s number recs z) (txns_of_stream inodes s h)
    ∙ ap (λ z. batch_of s number z (map (txn_of inodes) us)) all
    ∙ ap (λ z. as_batch s number z (ranges_of (records_of_all count inodes us) ++ deltas_of (records_of_all count inodes us)) (txns.ops_of (map (txn_of inodes) us))) (weights_of inodes us)
    ∙ ap (λ z. as_batch s number (weight_of_all us) (ranges_of (records_of_all count inodes us) ++ deltas_of (records_of_all count inodes us)) z) (operations_of inodes us)

next_number : (k : ℕ) → k + 1 < 2 ^ 64 → next k ≡ suc k
next_number k l = omega arith

-- a stream was sealed in each part
pub sealed_one : (old new : Pending) (s : ℕ) (recs : List Rec)
    → recs ≡ log_of (area old.meta) s
    → areas.IsSealed (area old.meta) s (area new.meta)
    → length new.meta.base ≡ length old.meta.base
    → ((us : List Unsealed) → AreTxnsOf old.txns us → AreTxnsOf new.txns (txns.without s us))
    → ((us : List Unsealed) → AreTxnsOf old.txns us → new.txns.queue ≡ old.txns.queue ++ batch_of s (next old.txns.seals) recs (txns.of_stream s us) ∷ [])
    → new.txns.seals ≡ next old.txns.seals
    → ((us : List books.Call) → books.IsBookOf old.keys us → books.IsBookOf new.keys (books.without s us))
    → ((count : ℕ) (inodes : List ℕ) (t : Rows) (unsealed : List (ℕ × Charged)) → AreOwned inodes t unsealed → AreTaken count inodes t unsealed old.free → AreTaken count inodes t (without s unsealed) new.free)
    → IsSameRoom old new
    → AreSealed old (s ∷ []) new
sealed_one old new s recs told meta base kept queue seals book taken room = record {
  kept = λ count inodes t unsealed own of. record {
    logs = logs_sealed count inodes (area old.meta) (area new.meta) s unsealed of.logs meta.ranges meta.deltas;
    sized = base ∙ of.sized;
    txns = subst (AreTxnsOf new.txns) (txns_without inodes s unsealed) (kept (txns_of inodes unsealed) of.txns);
    book = subst (books.IsBookOf new.keys) (noted_without s unsealed) (book (all_noted unsealed) of.book);
    taken = taken count inodes t unsealed own of.taken;
  };
  queue = λ count inodes t unsealed own of few.
      queue (txns_of inodes unsealed) of.txns
      ∙ ap (λ z. old.txns.queue ++ z ∷ []) (batch_told count inodes s (next old.txns.seals) recs (area old.meta) unsealed of.logs told
      ∙ ap (λ z. sealed_of count inodes s z (reverse (of_stream s unsealed))) (next_number old.txns.seals few));
  seals = λ few. seals ∙ next_number old.txns.seals few ∙ (let e : suc old.txns.seals ≡ old.txns.seals + 1 = omega arith in e);
  room = room;
}
