-- What stays as only rooms and places change, and which streams may be sealed still.
use Rattle.std.proofs.Common.{◌≡◌, ◌≢◌, ℕ, List, [], ◌∷◌, refl, sym, ap, subst, ◌∙◌}
use Rattle.std.specs.Prelude.{Bool, true, false, cond, not, ◌==◌, filter, slice_set}
use Rattle.std.proofs.lemmas.Bool.{eqb-true, ne_eqb}
use Rattle.std.proofs.lemmas.List.{get_or-set_other}
use Rattle.shared_meta.specs.Area as areas
use Rattle.shared_meta.specs.Area.{Area, area, AreKept, AreAsBefore}
use Rattle.stream_txn.specs.declared.updates.Unsealed.{Unsealed}
use Rattle.stream_txn.specs.Updates.{of_stream, without, has_any}
use Rattle.stream_txn.specs.Accounts.{account_at}
use Rattle.stream_txn.specs.Kept as txns
use Rattle.stream_txn.specs.Kept.{AreTxnsOf, roomed}
use Rattle.cross_dep.specs.Books as books
use Rattle.tree_model.specs.Rows.{Rows}
use Rattle.tree_cuts.specs.Calls.{Charged}
use Rattle.front_core.specs.Free.{AreTaken}
use Rattle.front_core.specs.Pending.{txns_of, all_noted, IsHeld, IsDue, IsAsBefore}
use Rattle.front_core.specs.declared.pending.Pending.{Pending}

-- transactions with other places and other memory for operations
pub record AreTxnsKept (old new : txns.TxnLists) : Type 0 where
  pub accounts : new.accounts ≡ old.accounts
  pub ops : new.ops ≡ old.ops
  pub gave_blocks : new.gave_blocks ≡ old.gave_blocks
  pub gave_rows : new.gave_rows ≡ old.gave_rows
  pub seals : new.seals ≡ old.seals
  pub queue : new.queue ≡ old.queue

pub txns_same : (old new : txns.TxnLists) → new ≡ old → AreTxnsKept old new
txns_same old new e = record {
  accounts = ap (λ z. z.accounts) e;
  ops = ap (λ z. z.ops) e;
  gave_blocks = ap (λ z. z.gave_blocks) e;
  gave_rows = ap (λ z. z.gave_rows) e;
  seals = ap (λ z. z.seals) e;
  queue = ap (λ z. z.queue) e;
}

pub txns_roomed : (old new : txns.TxnLists) (spaces : List ℕ) → new ≡ roomed old spaces → AreTxnsKept old new
txns_roomed old new spaces e = record {
  accounts = ap (λ z. z.accounts) e;
  ops = ap (λ z. z.ops) e;
  gave_blocks = ap (λ z. z.gave_blocks) e;
  gave_rows = ap (λ z. z.gave_rows) e;
  seals = ap (λ z. z.seals) e;
  queue = ap (λ z. z.queue) e;
}

txns_kept : (old new : txns.TxnLists) (us : List Unsealed) → AreTxnsKept old new → AreTxnsOf old us → AreTxnsOf new us
txns_kept old new us k a = record {
  own = λ s. subst (λ z. Rattle.stream_txn.specs.Accounts.IsSumOf (account_at z s) (Rattle.stream_txn.specs.Held.ops_at new.ops s) (of_stream s us)) (sym k.accounts)
      (subst (λ z. Rattle.stream_txn.specs.Accounts.IsSumOf (account_at old.accounts s) (Rattle.stream_txn.specs.Held.ops_at z s) (of_stream s us)) (sym k.ops) (a.own s));
  gave_blocks = k.gave_blocks ∙ a.gave_blocks;
  gave_rows = k.gave_rows ∙ a.gave_rows;
}

pub book_kept : (old new : books.Book) (us : List books.Call) → new.marks ≡ old.marks → books.IsBookOf old us → books.IsBookOf new us
book_kept old new us e b = record { tells = λ s key l. ap (λ (z : List (List Rattle.tree_model.specs.declared.keys.Key.Key)). Rattle.std.specs.List.list_any (Rattle.tree_model.specs.Keys.clash key) (Rattle.std.specs.Prelude.slice_index_or z s [])) e ∙ b.tells s key l }

-- no log changed
pub record AreLogsKept (old new : Area) : Type 0 where
  pub base : new.base ≡ old.base
  pub ranges : AreKept old.ranges new.ranges
  pub deltas : AreKept old.deltas new.deltas

pub logs_before : (old new : Area) → AreAsBefore old new → AreLogsKept old new
logs_before old new b = record { base = b.base; ranges = b.ranges; deltas = b.deltas }

pub as_before : (old new : Pending) → AreLogsKept (area old.meta) (area new.meta) → AreTxnsKept old.txns new.txns → new.keys.marks ≡ old.keys.marks
    → ((count : ℕ) (inodes : List ℕ) (t : Rows) (unsealed : List (ℕ × Charged)) → AreTaken count inodes t unsealed old.free → AreTaken count inodes t unsealed new.free)
    → IsAsBefore old new
as_before old new logs txns marks taken = record {
  kept = λ count inodes t unsealed of. record {
    logs = record { ranges = λ s. logs.ranges s ∙ of.logs.ranges s; deltas = λ s. logs.deltas s ∙ of.logs.deltas s };
    sized = ap Rattle.std.proofs.Common.length logs.base ∙ of.sized;
    txns = txns_kept old.txns new.txns (txns_of inodes unsealed) txns of.txns;
    book = book_kept old.keys new.keys (all_noted unsealed) marks of.book;
    taken = taken count inodes t unsealed of.taken;
  };
  held = λ us a. txns_kept old.txns new.txns us txns a;
  accounts = txns.accounts;
  queue = txns.queue;
  seals = txns.seals;
}

pub before_both : (a b c : Pending) → IsAsBefore a b → IsAsBefore b c → IsAsBefore a c
before_both a b c x y = record {
  kept = λ count inodes t unsealed of. y.kept count inodes t unsealed (x.kept count inodes t unsealed of);
  held = λ us a. y.held us (x.held us a);
  accounts = y.accounts ∙ x.accounts;
  queue = y.queue ∙ x.queue;
  seals = y.seals ∙ x.seals;
}

-- ---- as another stream is sealed

in_step : (p : Unsealed → Bool) (x : Unsealed) (keeps passes : Bool) (rest all : List Unsealed) → p x ≡ passes → (passes ≡ true → keeps ≡ true) → filter p rest ≡ filter p all
    → filter p (cond keeps (x ∷ rest) rest) ≡ filter p (x ∷ all)
in_step p x true passes rest all e n h = ap (λ z. cond (p x) (x ∷ z) z) h
in_step p x false true rest all e n h = absurd (let never = n refl in cc)
in_step p x false false rest all e n h = h ∙ sym (ap (λ (z : Bool). cond z (x ∷ filter p all) (filter p all)) e)

-- all are left that pass
filter_in : (p q : Unsealed → Bool) → ((x : Unsealed) → p x ≡ true → q x ≡ true) → (xs : List Unsealed) → filter p (filter q xs) ≡ filter p xs
filter_in p q h [] = refl
filter_in p q h (x ∷ xs) = in_step p x (q x) (p x) (filter q xs) xs refl (h x) (filter_in p q h xs)

others_left : (us : List Unsealed) (s r : ℕ) → r ≢ s → of_stream r (without s us) ≡ of_stream r us
others_left us s r n = filter_in (λ (u : Unsealed). u.stream == r) (λ (u : Unsealed). not (u.stream == s))
    (λ u e. ap not (ne_eqb u.stream s (λ f. n (sym (eqb-true u.stream r e) ∙ f)))) us

pub held_sealed : (old new : Pending) (s : ℕ) → ((us : List Unsealed) → AreTxnsOf old.txns us → AreTxnsOf new.txns (without s us)) → IsHeld old → IsHeld new
held_sealed old new s f h = (without s h.0, f h.0 h.1)

pub due_sealed : (old new : Pending) (s r : ℕ) → r ≢ s → ((us : List Unsealed) → AreTxnsOf old.txns us → AreTxnsOf new.txns (without s us))
    → new.txns.places ≡ slice_set old.txns.places s false → areas.IsPlaceGone (area old.meta).places s (area new.meta).places → IsHeld old → IsDue old r → IsDue new r
due_sealed old new s r ne f places gone held due = record {
  open_ = ((f held.0 held.1).own r).is_open ∙ ap has_any (others_left held.0 s r ne) ∙ sym (held.1.own r).is_open ∙ due.open_;
  log = gone.others r ne ∙ due.log;
  batch = ap (λ z. Rattle.std.specs.Prelude.slice_index_or z r false) places ∙ get_or-set_other old.txns.places s r false false ne ∙ due.batch;
}
