-- An update enters a stream: what the parts keep then.
use Rattle.std.proofs.Common.{◌≡◌, ◌≢◌, ℕ, inl, inr, List, [], ◌∷◌, ◌++◌, length, refl, sym, ap, subst, ◌∙◌}
use Rattle.std.specs.Prelude.{Bool, not, reverse, filter}
use Rattle.std.proofs.lemmas.Bool.{cases_eq, eq-eqb, ne_eqb}
use Rattle.std.proofs.lemmas.Grind.{reverse_onto}
use Rattle.std.proofs.lemmas.List.{flat_map_more}
use Rattle.std.proofs.lemmas.List.Elements.{filter-append}
use Rattle.stream_cuts.specs.Streams.{keep_if, of_stream}
use Rattle.ccfs_base.specs.declared.records.Rec.{Rec}
use Rattle.delta_log.specs.Deltas.{is_delta}
use Rattle.shared_meta.specs.Area.{Area, area}
use Rattle.file_bodies.specs.declared.ops.BodyOp.{BodyOp}
use Rattle.stream_txn.specs.declared.updates.Unsealed.{Unsealed}
use Rattle.stream_txn.specs.Updates.{update_of}
use Rattle.stream_txn.specs.Kept.{AreTxnsOf}
use Rattle.cross_dep.specs.Books as books
use Rattle.tree_model.specs.declared.rows.Update.{Update}
use Rattle.tree_model.specs.Rows.{Rows}
use Rattle.tree_model.specs.Updates.{apply}
use Rattle.tree_cuts.specs.Calls.{Charge, Charged}
use Rattle.update_records.specs.Operations.{ops_of}
use Rattle.front_laws.specs.Batches.{its_records, records_of_all}
use Rattle.front_laws.specs.Logging.{AreLogsOf}
use Rattle.front_core.specs.Free.{AreTaken}
use Rattle.front_core.specs.Logged.{AreLogged}
use Rattle.front_core.specs.Entering.{weight_kept}
use Rattle.front_core.specs.Pending.{txn_of, txns_of, all_noted, IsPendingOf}
use Rattle.front_core.specs.declared.pending.Pending.{Pending}
use Rattle.front_core.proofs.Listed.{txns_more, noted_more}

module _ (count : ℕ) (inodes : List ℕ) where
  own_last : (s : ℕ) (x : Charged) (h : List (ℕ × Charged)) → reverse (of_stream s ((s, x) ∷ h)) ≡ reverse (of_stream s h) ++ (s, x) ∷ []
  own_last s x h = ap (λ b. reverse (keep_if b (s, x) (of_stream s h))) (eq-eqb s s refl) ∙ reverse_onto (of_stream s h) (s, x) []

  other_last : (s r : ℕ) (x : Charged) (h : List (ℕ × Charged)) → r ≢ s → of_stream r ((s, x) ∷ h) ≡ of_stream r h
  other_last s r x h ne = ap (λ b. keep_if b (s, x) (of_stream r h)) (ne_eqb s r (λ e. ne (sym e)))

  records_last : (us : List (ℕ × Charged)) (e : ℕ × Charged) → records_of_all count inodes (us ++ e ∷ []) ≡ records_of_all count inodes us ++ its_records count inodes e.1.0
  records_last us e = sym (flat_map_more (λ (e : ℕ × Charged). its_records count inodes e.1.0) [] us e)

  part : (p : Rec → Bool) (old new : ℕ → List Rec) (s : ℕ) (u : Update) (cost : Charge) (recs : List Rec) (h : List (ℕ × Charged))
      → ((q : ℕ) → old q ≡ filter p (records_of_all count inodes (reverse (of_stream q h)))) → recs ≡ its_records count inodes u
      → new s ≡ old s ++ filter p recs → ((q : ℕ) → q ≢ s → new q ≡ old q)
      → (q : ℕ) → new q ≡ filter p (records_of_all count inodes (reverse (of_stream q ((s, (u, cost)) ∷ h))))
  part p old new s u cost recs h was told own others q =
      let us = reverse (of_stream s h) in
      let here : new s ≡ filter p (records_of_all count inodes (reverse (of_stream s ((s, (u, cost)) ∷ h))))
      = own ∙ ap (λ z. z ++ filter p recs) (was s) ∙ ap (λ z. filter p (records_of_all count inodes us) ++ filter p z) told
      ∙ sym (filter-append p (records_of_all count inodes us) (its_records count inodes u))
      ∙ ap (filter p) (sym (records_last us (s, (u, cost))))
      ∙ ap (λ z. filter p (records_of_all count inodes z)) (sym (own_last s (u, cost) h)) in
      elim (cases_eq q s) [
        | inl e ↦ subst (λ z. new z ≡ filter p (records_of_all count inodes (reverse (of_stream z ((s, (u, cost)) ∷ h))))) (sym e) here
        | inr ne ↦ others q ne ∙ was q ∙ ap (λ z. filter p (records_of_all count inodes (reverse z))) (sym (other_last s q (u, cost) h ne))
      ]

  logs_entered : (a b : Area) (s : ℕ) (u : Update) (cost : Charge) (recs : List Rec) (h : List (ℕ × Charged)) → AreLogsOf count inodes a h → AreLogged a s recs b
      → recs ≡ its_records count inodes u → AreLogsOf count inodes b ((s, (u, cost)) ∷ h)
  logs_entered a b s u cost recs h l g told = record {
    ranges = part (λ rec. not (is_delta rec)) a.ranges b.ranges s u cost recs h l.ranges told g.ranges g.other_ranges;
    deltas = part is_delta a.deltas b.deltas s u cost recs h l.deltas told g.deltas g.other_deltas;
  }

  pub entered : (old new : Pending) (t : Rows) (h : List (ℕ × Charged)) (s : ℕ) (u : Update) (cost : Charge) (recs : List Rec) (ops : List BodyOp) (rows : ℕ)
      → AreLogged (area old.meta) s recs (area new.meta)
      → ((us : List Unsealed) → AreTxnsOf old.txns us → AreTxnsOf new.txns (us ++ update_of s 512 0 rows ops ∷ []))
      → ((us : List books.Call) → books.IsBookOf old.keys us → books.IsBookOf new.keys (us ++ (s, u) ∷ []))
      → (AreTaken count inodes t h old.free → AreTaken count inodes (apply t u) ((s, (u, cost)) ∷ h) new.free)
      → weight_kept cost rows → recs ≡ its_records count inodes u → ops ≡ ops_of inodes u
      → IsPendingOf count inodes t h old → IsPendingOf count inodes (apply t u) ((s, (u, cost)) ∷ h) new
  entered old new t h s u cost recs ops rows logged txns book taken weighs told operations of =
      let last : update_of s 512 0 rows ops ≡ txn_of inodes (s, (u, cost))
      = ap (update_of s 512 0 rows) operations ∙ ap (λ (c : Charge). txn_of inodes (s, (u, c))) (sym weighs) in
      record {
        logs = logs_entered (area old.meta) (area new.meta) s u cost recs h of.logs logged told;
        sized = ap length logged.base ∙ of.sized;
        txns = subst (AreTxnsOf new.txns) (ap (λ z. txns_of inodes h ++ z ∷ []) last ∙ sym (txns_more inodes (s, (u, cost)) h)) (txns (txns_of inodes h) of.txns);
        book = subst (books.IsBookOf new.keys) (sym (noted_more (s, (u, cost)) h)) (book (all_noted h) of.book);
        taken = taken of.taken;
      }
