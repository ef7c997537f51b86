-- The size of the tree at the cut after all seals, and what the updates that it loses gained, stay within the limit.
use Rattle.std.proofs.Common.{◌≡◌, ℕ, ◌+◌, ◌-◌, ◌≤◌, List, [], ◌∷◌, ◌++◌, refl, sym, ap, arith, ◌∙◌, ltb, length, take}
use Rattle.std.specs.Prelude.{true, false, cond, not}
use Rattle.stream_cuts.specs.Streams.{Step, Enter, Seal, no_counts, one_more, entered, keep_if, unsealed_after}
use Rattle.stream_cuts.specs.Cuts.{lost_from, seals_from, seals, cut_of, cut_at}
use Rattle.stream_cuts.specs.States.{after}
use Rattle.stream_cuts.specs.Amounts.{sum_over, lost_total_from, lost_total, gained, given, Steady}
use Rattle.stream_cuts.proofs.Longer.{entered_append}
use Rattle.stream_cuts.proofs.Laws.{unsealed_are_lost, amounts_at_cut}
use Rattle.tree_model.specs.declared.rows.Update.{Update}
use Rattle.tree_model.specs.Rows.{Rows}
use Rattle.tree_model.specs.Updates.{apply}
use Rattle.tree_model.specs.Laws.{Applies, Meet}
use Rattle.tree_model.proofs.Swapping.{swaps}
use Rattle.tree_cuts.specs.Calls.{Sizes, Charge, Charged, Call, Accepted, SyncStream, SyncFile, SyncAll, Other, charge, plain, seals_own, call_steps, steps_from, charged_steps, tree_after, tree_after_all}
use Rattle.tree_cuts.specs.Runs.{IsRun, updates_of, seal_count, cut_after, tree_at_cut}
use Rattle.tree_cuts.proofs.Plain.{bare, plain_entered}
use Rattle.tree_cuts.proofs.Guarded.{entry_of, call_enters, run_applies, run_ends}
use Rattle.tree_cuts.proofs.Laws.{cuts_are_closed}
use Rattle.history_laws.proofs.Room.{AllLetIn, room}

-- the updates of calls with their charges
abbrev charged_of : Rows → List Call → List (ℕ × Charged)
charged_of t [] = []
charged_of t (call ∷ calls) = entry_of t call ++ charged_of (tree_after t call) calls

entered_is : (sizes : Sizes) (t : Rows) (h : List (ℕ × Charged)) (calls : List Call) → entered (steps_from sizes t h calls) ≡ charged_of t calls
entered_is sizes t h [] = refl
entered_is sizes t h (call ∷ calls) =
    let l : List (Step Charged) = call_steps sizes t h call in
    let k : List (Step Charged) = steps_from sizes (tree_after t call) (unsealed_after h l) calls in
    entered_append l k ∙ ap (λ z. z ++ entered k) (call_enters sizes t h call) ∙ ap (λ z. entry_of t call ++ z) (entered_is sizes (tree_after t call) (unsealed_after h l) calls)

same_seals : (seen : ℕ → ℕ) (l : List (Step Charged)) → seals_from seen (plain l) ≡ seals_from seen l
same_seals seen [] = refl
same_seals seen (Enter s u ∷ l) = same_seals (one_more seen s) l
same_seals seen (Seal s ∷ l) = ap (λ z. (s, seen s) ∷ z) (same_seals seen l)

module _ (sizes : Sizes) (size : Rows → ℕ) (limit : ℕ) (gave : Charge → ℕ)
    (charged : (t : Rows) (u : Update) → gave (charge t u) ≡ size t - size (apply t u))
    (sealed : (t : Rows) (h : List (ℕ × Charged)) (s : ℕ) (u : Update) → seals_own sizes t h s u ≡ false → size (apply t u) + sum_over (λ e. gave e.1.1) h ≤ limit)
    (steady : Steady apply size Applies Meet) where
  -- what those gave up that a cut loses, by their charges
  lost_charges : (seen c : ℕ → ℕ) (t : Rows) (calls : List Call)
      → lost_total_from apply (given apply size) seen c t (bare (charged_of t calls)) ≡ sum_over (λ e. gave e.1.1) (lost_from seen c (charged_of t calls))
  lost_charges seen c t [] = refl
  lost_charges seen c t (Accepted s u ∷ calls) =
      let h = lost_charges (one_more seen s) c (apply t u) calls in
      let g = charged t u in
      elim (ltb (seen s) (c s)) as (λ b. cond b 0 (size t - size (apply t u)) + lost_total_from apply (given apply size) (one_more seen s) c (apply t u) (bare (charged_of (apply t u) calls))
      ≡ sum_over (λ e. gave e.1.1) (keep_if (not b) (s, (u, charge t u)) (lost_from (one_more seen s) c (charged_of (apply t u) calls)))) [
        | true ↦ omega (arith, h)
        | false ↦ omega (arith, h, g)
      ]
  lost_charges seen c t (SyncStream s ∷ calls) = lost_charges seen c t calls
  lost_charges seen c t (SyncFile x ∷ calls) = lost_charges seen c t calls
  lost_charges seen c t (SyncAll ∷ calls) = lost_charges seen c t calls
  lost_charges seen c t (Other ∷ calls) = lost_charges seen c t calls

  pub balance : (t : Rows) (calls : List Call) → IsRun t calls → AllLetIn sizes size limit gave charged sealed t [] calls → size t ≤ limit
      → size (tree_at_cut sizes t calls (seal_count sizes t calls)) + lost_total apply (gained apply size) (cut_after sizes t calls (seal_count sizes t calls)) t (updates_of sizes t calls) ≤ limit
  balance t calls run let_in few =
      let l : List (Step Charged) = charged_steps sizes t calls in
      let n : ℕ = seal_count sizes t calls in
      let c : ℕ → ℕ = cut_after sizes t calls n in
      let same : entered l ≡ charged_of t calls = entered_is sizes t [] calls in
      let cut : c ≡ cut_at l (length (seals l)) = ap (λ z. cut_of no_counts (take (length z) z)) (same_seals no_counts l) in
      let lost_gave : lost_total apply (given apply size) c t (updates_of sizes t calls) ≡ sum_over (λ e. gave e.1.1) (unsealed_after [] l) =
      ap (λ z. lost_total apply (given apply size) c t z) (plain_entered l ∙ ap bare same)
      ∙ lost_charges no_counts c t calls
      ∙ ap (λ z. sum_over (λ e. gave e.1.1) (lost_from no_counts c z)) (sym same)
      ∙ ap (λ z. sum_over (λ e. gave e.1.1) (lost_from no_counts z (entered l))) cut
      ∙ sym (unsealed_are_lost Charged (λ e. gave e.1.1) l) in
      let amounts = amounts_at_cut Applies apply Meet swaps size steady t (updates_of sizes t calls) c (run_applies sizes t calls run) (cuts_are_closed sizes t calls n run) in
      let ends : size (after apply t (updates_of sizes t calls)) ≡ size (tree_after_all t calls) = ap size (run_ends sizes t calls) in
      let fits = room sizes size limit gave charged sealed t [] calls let_in (omega (arith, few)) in
      omega (arith, lost_gave, amounts, ends, fits)
