-- What steps leave of the memory of the updates and of the queue.
use Rattle.std.proofs.Common.{◌≡◌, ℕ, ◌+◌, ◌<◌, ◌≤◌, max, true, false, List, [], ◌∷◌, ◌++◌, length, map, set, get_or, refl, sym, ap, subst, arith, length-append, Vec}
use Rattle.std.proofs.lemmas.List.{length-set}
use Rattle.std.specs.Prelude.{Option, None, is_some}
use Rattle.file_bodies.specs.declared.batches.Sealed.{Sealed}
use Rattle.stream_txn.specs.declared.updates.Unsealed.{Unsealed}
use Rattle.stream_txn.specs.Kept.{TxnLists, AreTxnsOf, next, AreInOrder}
use Rattle.stream_txn.specs.Space.{IsPlace, count, IsHeld}
use Rattle.stream_txn.proofs.Queue.{count_within, count_less, in_order_last, length-seen, place_gone, place_made}

module _ {Z : Type 0} where
  -- the sums changed
  pub held_added : (kept new : TxnLists) (places : List (Option (Vec Sealed Z))) (capacity : ℕ) → IsHeld kept places capacity
      → (unsealed : List Unsealed) → AreTxnsOf new unsealed → length new.ops ≡ 64 → new.queue ≡ kept.queue → new.seals ≡ kept.seals → new.places ≡ kept.places
      → IsHeld new places capacity
  held_added kept new places capacity h unsealed sums streams queue seals same = record {
    streams = streams;
    sums = (unsealed, sums);
    order = (h.order.0, subst (λ (z : List Sealed). AreInOrder h.order.0 z new.seals) (sym queue) (subst (AreInOrder h.order.0 kept.queue) (sym seals) h.order.1));
    own = h.own;
    room =
        let had : length kept.queue + count kept.places ≤ max capacity 64 = h.room in
        omega (arith, ap (λ (z : List Sealed). length z) queue, ap count same);
  }

  -- what waited was handed out
  pub held_out : (kept new : TxnLists) (places : List (Option (Vec Sealed Z))) (capacity left : ℕ) → IsHeld kept places capacity
      → (unsealed : List Unsealed) → AreTxnsOf new unsealed → length new.ops ≡ 64 → new.queue ≡ [] → new.places ≡ map (λ place. is_some place) places → length places ≡ 64
      → IsHeld new places left
  held_out kept new places capacity left h unsealed sums streams queue same long = record {
    streams = streams;
    sums = (unsealed, sums);
    order = (new.seals, subst (λ (z : List Sealed). AreInOrder new.seals z new.seals) (sym queue) refl);
    own = h.own;
    room = omega (arith, ap (λ (z : List Sealed). length z) queue, count_within new.places, ap length same, length-seen places);
  }

  -- a stream with a place has memory for a batch
  pub has_room : (kept : TxnLists) (places : List (Option (Vec Sealed Z))) (capacity own stream : ℕ) → IsHeld kept places capacity
      → get_or kept.places stream false ≡ true → 64 ≤ own → length kept.queue < max capacity own
  has_room kept places capacity own stream h e l =
      let had : length kept.queue + count kept.places ≤ max capacity 64 = h.room in
      let less : count (set kept.places stream false) + 1 ≡ count kept.places = count_less kept.places stream e in
      omega arith

  -- a stream was sealed
  pub held_sealed : (kept new : TxnLists) (places : List (Option (Vec Sealed Z))) (capacity grown stream : ℕ) (batch : Sealed) → IsHeld kept places capacity
      → get_or kept.places stream false ≡ true → (unsealed : List Unsealed) → AreTxnsOf new unsealed → length new.ops ≡ 64
      → new.queue ≡ kept.queue ++ batch ∷ [] → batch.number ≡ next kept.seals → new.seals ≡ batch.number → new.places ≡ set kept.places stream false → capacity ≤ grown
      → IsHeld new (set places stream None) grown
  held_sealed kept new places capacity grown stream batch h e unsealed sums streams queue number seals same more = record {
    streams = streams;
    sums = (unsealed, sums);
    order = (
      h.order.0,
      subst (λ (z : List Sealed). AreInOrder h.order.0 z new.seals) (sym queue)
          (subst (AreInOrder h.order.0 (kept.queue ++ batch ∷ [])) (sym seals) (in_order_last h.order.0 kept.queue kept.seals batch h.order.1 number)),
    );
    own = place_gone places stream h.own;
    room =
        let had : length kept.queue + count kept.places ≤ max capacity 64 = h.room in
        let less : count (set kept.places stream false) + 1 ≡ count kept.places = count_less kept.places stream e in
        omega (arith, ap (λ (z : List Sealed). length z) queue, length-append kept.queue (batch ∷ []), ap count same);
  }

  -- a place was made
  pub held_placed : (kept new : TxnLists) (places : List (Option (Vec Sealed Z))) (capacity grown stream : ℕ) (place : Option (Vec Sealed Z)) → IsHeld kept places capacity
      → (unsealed : List Unsealed) → AreTxnsOf new unsealed → length new.ops ≡ 64 → new.queue ≡ kept.queue → new.seals ≡ kept.seals
      → new.places ≡ map (λ p. is_some p) (set places stream place) → length places ≡ 64 → stream < 64 → IsPlace place → length kept.queue + 64 ≤ grown
      → IsHeld new (set places stream place) grown
  held_placed kept new places capacity grown stream place h unsealed sums streams queue seals same long below own room = record {
    streams = streams;
    sums = (unsealed, sums);
    order = (h.order.0, subst (λ (z : List Sealed). AreInOrder h.order.0 z new.seals) (sym queue) (subst (AreInOrder h.order.0 kept.queue) (sym seals) h.order.1));
    own = place_made places stream place (omega arith) own h.own;
    room = omega (arith, ap (λ (z : List Sealed). length z) queue, count_within new.places, ap length same, length-seen (set places stream place), length-set places stream place);
  }

  -- nothing is there yet
  pub held_none : (kept : TxnLists) (places : List (Option (Vec Sealed Z))) (capacity : ℕ) → AreTxnsOf kept [] → length kept.ops ≡ 64 → kept.queue ≡ []
      → kept.places ≡ map (λ place. is_some place) places → length places ≡ 64 → ((s : ℕ) → get_or places s None ≡ None) → IsHeld kept places capacity
  held_none kept places capacity sums streams queue same long none = record {
    streams = streams;
    sums = ([], sums);
    order = (kept.seals, subst (λ (z : List Sealed). AreInOrder kept.seals z kept.seals) (sym queue) refl);
    own = λ s. subst (λ (p : Option (Vec Sealed Z)). IsPlace p) (sym (none s)) tt;
    room = omega (arith, ap (λ (z : List Sealed). length z) queue, count_within kept.places, ap length same, length-seen places);
  }
