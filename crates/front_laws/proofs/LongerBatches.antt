-- More calls, and more inodes behind the others, leave a batch.
use Rattle.std.proofs.Common.{◌≡◌, ℕ, suc, ◌<◌, ◌≤◌, List, [], ◌∷◌, ◌++◌, length, refl, ap, ◌∙◌, arith, ltb, append-nil}
use Rattle.std.specs.Prelude.{true, false, not, ◌&&◌}
use Rattle.std.specs.List.{AllByRecursion}
use Rattle.std.specs.declared.option.Option.{Option}
use Rattle.std.specs.declared.option.Option.TheVariants.{None, Some}
use Rattle.std.proofs.lemmas.Bool.{le-ltb}
use Rattle.std.proofs.lemmas.List.{get_or_append_left}
use Rattle.stream_cuts.specs.Streams.{Step, Enter, Seal, no_counts, one_more, entered, counts_after, keep_if}
use Rattle.stream_cuts.specs.Cuts.{between_from, seals_from, seals, cut_at, batch}
use Rattle.stream_cuts.proofs.Counts.{more_below}
use Rattle.stream_cuts.proofs.Closed.{cut_below}
use Rattle.stream_cuts.proofs.Longer.{entered_append, seals_append, cut_at_longer}
use Rattle.delta_log.specs.Laws.{ranges_of, deltas_of}
use Rattle.tree_model.specs.declared.rows.Entry.{Entry}
use Rattle.tree_model.specs.declared.rows.Update.{Update}
use Rattle.tree_model.specs.Rows.{Rows}
use Rattle.tree_cuts.specs.Calls.{Sizes, Charged, plain}
use Rattle.tree_cuts.proofs.Plain.{plain_append}
use Rattle.history_model.specs.Histories.{start, now_after, charged_in}
use Rattle.history_model.proofs.Longer.{charged_append}
use Rattle.update_records.specs.Built.{is_built, AreSerialsBelow}
use Rattle.front_laws.specs.Batches.{records_of_all, ops_of_all, weight_of_all, sealed_of, stream_at}
use Rattle.front_laws.specs.Kept.{IsKept, IsTame}
use Rattle.front_laws.specs.Laws.{LongerKeepsBatches}
use Rattle.front_laws.proofs.Entering.{IfUpdate, Holds, all_entered, all_batch}
use Rattle.front_laws.proofs.Below.{serials_below}
use Rattle.front_laws.proofs.MoreInodes.{more_inodes_leave_updates}

-- the seals of steps are told without their charges
pub same_seals : (seen : ℕ → ℕ) (l : List (Step Charged)) → seals_from seen (plain l) ≡ seals_from seen l
same_seals seen [] = refl
same_seals seen (Enter s u ∷ l) = same_seals (one_more seen s) l
same_seals seen (Seal s ∷ l) = ap (λ z. (s, seen s) ∷ z) (same_seals seen l)

-- ---- more steps leave what lies between two cuts

module _ {U : Type 0} where
  between_append : (seen c d : ℕ → ℕ) (h g : List (ℕ × U)) → between_from seen c d (h ++ g) ≡ between_from seen c d h ++ between_from (counts_after seen h) c d g
  between_append seen c d [] g = refl
  between_append seen c d (e ∷ h) g =
      let ih = between_append (one_more seen e.0) c d h g in
      elim (ltb (seen e.0) (d e.0) && not (ltb (seen e.0) (c e.0)))
      as (λ b. keep_if b e (between_from (one_more seen e.0) c d (h ++ g)) ≡ keep_if b e (between_from (one_more seen e.0) c d h) ++ between_from (counts_after (one_more seen e.0) h) c d g) [
        | true ↦ ap (λ z. e ∷ z) ih
        | false ↦ ih
      ]

  between_none : (seen c d : ℕ → ℕ) (h : List (ℕ × U)) → ((q : ℕ) → d q ≤ seen q) → between_from seen c d h ≡ []
  between_none seen c d [] le = refl
  between_none seen c d (e ∷ h) le =
      ap (λ b. keep_if (b && not (ltb (seen e.0) (c e.0))) e (between_from (one_more seen e.0) c d h)) (le-ltb (seen e.0) (d e.0) (le e.0))
      ∙ between_none (one_more seen e.0) c d h (more_below d seen e.0 le)

  pub batch_longer : (l k : List (Step U)) (n : ℕ) → n < length (seals l) → batch (l ++ k) n ≡ batch l n
  batch_longer l k n lt =
      let c : ℕ → ℕ = cut_at l n in
      let d : ℕ → ℕ = cut_at l (suc n) in
      ap (λ z. between_from no_counts z (cut_at (l ++ k) (suc n)) (entered (l ++ k))) (cut_at_longer l k n (omega arith))
      ∙ ap (λ z. between_from no_counts c z (entered (l ++ k))) (cut_at_longer l k (suc n) (omega arith))
      ∙ ap (between_from no_counts c d) (entered_append l k)
      ∙ between_append no_counts c d (entered l) (entered k)
      ∙ ap (λ z. between_from no_counts c d (entered l) ++ z)
      (between_none (counts_after no_counts (entered l)) c d (entered k) (cut_below no_counts no_counts (suc n) l (λ q. let z : 0 ≤ no_counts q = omega arith in z)))
      ∙ append-nil (between_from no_counts c d (entered l))

stream_longer : (l k : List (Step Charged)) (n : ℕ) → n < length (seals (plain l)) → stream_at (seals (plain (l ++ k))) n ≡ stream_at (seals (plain l)) n
stream_longer l k n lt =
    let tail : List (ℕ × ℕ) = seals_from (counts_after no_counts (entered (plain l))) (plain k) in
    ap (λ z. stream_at (seals z) n) (plain_append l k) ∙ ap (λ z. stream_at z n) (seals_append (plain l) (plain k))
    ∙ ap (λ (z : ℕ × ℕ). z.0) (get_or_append_left (seals (plain l)) tail (0, 0) n lt)

-- ---- more inodes leave what updates are told by

-- a built update whose serials have inodes in the list
abbrev IsListed : List ℕ → Update → Type 0
IsListed inodes u = (is_built u ≡ true) × AreSerialsBelow (length inodes) u

module _ (count : ℕ) (inodes more : List ℕ) where
  records_stay : (us : List (ℕ × Charged)) → AllByRecursion (Holds (IsListed inodes)) us → records_of_all count (inodes ++ more) us ≡ records_of_all count inodes us
  records_stay [] a = refl
  records_stay (e ∷ us) a =
      let head = (more_inodes_leave_updates count inodes more e.1.0 a.0.0 a.0.1).0 in
      let tail = records_stay us a.1 in
      λ i. head i ++ tail i

  ops_stay : (us : List (ℕ × Charged)) → AllByRecursion (Holds (IsListed inodes)) us → ops_of_all (inodes ++ more) us ≡ ops_of_all inodes us
  ops_stay [] a = refl
  ops_stay (e ∷ us) a =
      let head = (more_inodes_leave_updates count inodes more e.1.0 a.0.0 a.0.1).1 in
      let tail = ops_stay us a.1 in
      λ i. head i ++ tail i

  sealed_stays : (stream number : ℕ) (us : List (ℕ × Charged)) → AllByRecursion (Holds (IsListed inodes)) us
      → sealed_of count (inodes ++ more) stream number us ≡ sealed_of count inodes stream number us
  sealed_stays stream number us a =
      let records = records_stay us a in
      let ops = ops_stay us a in
      λ i. record { stream = stream; number = number; weight = weight_of_all us; recs = ranges_of (records i) ++ deltas_of (records i); ops = ops i }

-- ---- a kept history

pub all_built : (h : List Entry) → AllByRecursion (λ e. IsTame e.update) h → AllByRecursion (λ e. IfUpdate (λ u. is_built u ≡ true) e.update) h
all_built [] a = tt
all_built (e ∷ h) a = (by e.update a.0, all_built h a.1)
  where
    by : (o : Option Update) → IsTame o → IfUpdate (λ u. is_built u ≡ true) o
    by None t = tt
    by (Some u) t = t.0

both_hold : (P Q : Update → Type 0) (us : List (ℕ × Charged)) → AllByRecursion (Holds P) us → AllByRecursion (Holds Q) us → AllByRecursion (Holds (λ u. P u × Q u)) us
both_hold P Q [] a b = tt
both_hold P Q (e ∷ us) a b = ((a.0, b.0), both_hold P Q us a.1 b.1)

all_listed : (sizes : Sizes) (t : Rows) (inodes : List ℕ) (h : List Entry) → IsKept sizes t inodes h
    → AllByRecursion (Holds (IsListed inodes)) (entered (charged_in sizes (start t) h))
all_listed sizes t inodes h kept = both_hold (λ u. is_built u ≡ true) (AreSerialsBelow (length inodes)) (entered (charged_in sizes (start t) h))
    (all_entered sizes (λ u. is_built u ≡ true) (start t) h (all_built h kept.tame)) (serials_below sizes t inodes h kept)

pub longer_keeps_batches : LongerKeepsBatches
longer_keeps_batches sizes t inodes more h g k kept lt =
    let l : List (Step Charged) = charged_in sizes (start t) h in
    let m : List (Step Charged) = charged_in sizes (now_after sizes (start t) h) g in
    let seals_there : length (seals (plain l)) ≡ length (seals l) = ap length (same_seals no_counts l) in
    ap (λ z. sealed_of sizes.inodes (inodes ++ more) (stream_at (seals (plain z)) k) (suc k) (batch z k)) (charged_append sizes (start t) h g)
    ∙ ap (λ z. sealed_of sizes.inodes (inodes ++ more) z (suc k) (batch (l ++ m) k)) (stream_longer l m k lt)
    ∙ ap (λ z. sealed_of sizes.inodes (inodes ++ more) (stream_at (seals (plain l)) k) (suc k) z) (batch_longer l m k (omega (arith, lt, seals_there)))
    ∙ sealed_stays sizes.inodes inodes more (stream_at (seals (plain l)) k) (suc k) (batch l k)
    (all_batch (Holds (IsListed inodes)) l k (all_listed sizes t inodes h kept))
