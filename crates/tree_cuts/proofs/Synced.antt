-- What a sync seals is kept by the cut after all seals so far.
use Rattle.std.proofs.Common.{◌≡◌, ℕ, ◌+◌, ◌<◌, ◌≢◌, ◌⊎◌, inl, inr, List, [], ◌∷◌, ◌++◌, refl, sym, ap, subst, arith, ◌∙◌, eqb, length}
use Rattle.std.specs.Prelude.{Bool, true, false, cond, ◌&&◌}
use Rattle.std.specs.List.{AllByRecursion, filter, list_any}
use Rattle.std.proofs.lemmas.Bool.{eqb-true, eqb-false, eq-eqb, and_from}
use Rattle.std.proofs.lemmas.List.{append-nil}
use Rattle.stream_cuts.specs.Streams.{Step, entered, unsealed_after}
use Rattle.stream_cuts.specs.Cuts.{lost, seals, cut_at}
use Rattle.stream_cuts.specs.States.{after}
use Rattle.stream_cuts.specs.Forced.{streams, Numbered, is_open, sealing}
use Rattle.stream_cuts.specs.Amounts.{sum_over}
use Rattle.stream_cuts.proofs.Closedness.{All_both}
use Rattle.stream_cuts.proofs.Forcing.{Among, among_filter, among_range, all_closed, each_of, seals_leave, sealing_all}
use Rattle.stream_cuts.proofs.Longer.{unsealed_append}
use Rattle.stream_cuts.proofs.Laws.{all_is_kept, unsealed_are_lost}
use Rattle.tree_model.specs.declared.rows.Update.{Update}
use Rattle.tree_model.specs.Rows.{Rows}
use Rattle.tree_model.specs.Updates.{apply}
use Rattle.tree_model.specs.Laws.{changes_node}
use Rattle.tree_cuts.specs.Calls.{Sizes, Charged, Call, SyncStream, SyncFile, SyncAll, changers, tree_after, tree_after_all, call_steps, steps_from, steps}
use Rattle.tree_cuts.specs.Runs.{unsealed_of, lost_so_far}
use Rattle.tree_cuts.specs.Laws.{SyncedStreamsAreKept, SyncedFilesAreKept, SyncOfAllKeepsAll}
use Rattle.tree_cuts.proofs.Plain.{bare, plain_unsealed}
use Rattle.tree_cuts.proofs.Guarded.{run_numbered, run_ends}
use Rattle.tree_cuts.proofs.Running.{steps_longer}

module _ {U : Type 0} where
  abbrev one_if : ((ℕ × U) → Bool) → (ℕ × U) → ℕ
  one_if test e = cond (test e) 1 0

  sum_of_none : (test : (ℕ × U) → Bool) (h : List (ℕ × U)) → AllByRecursion (λ e. test e ≡ false) h → sum_over (one_if test) h ≡ 0
  sum_of_none test [] a = refl
  sum_of_none test (e ∷ h) a = let ih = sum_of_none test h a.1 in ap (λ b. cond b 1 0 + sum_over (one_if test) h) a.0 ∙ (let z : 0 + sum_over (one_if test) h ≡ 0 = omega arith in z)

  none_of_sum : (test : (ℕ × U) → Bool) (h : List (ℕ × U)) → sum_over (one_if test) h ≡ 0 → AllByRecursion (λ e. test e ≡ false) h
  none_of_sum test [] s = tt
  none_of_sum test (e ∷ h) s = elim (test e) as (λ b. test e ≡ b → cond b 1 0 + sum_over (one_if test) h ≡ 0 → (test e ≡ false) × AllByRecursion (λ d. test d ≡ false) h) [
    | true ↦ λ p r. absurd (omega arith)
    | false ↦ λ p r. (p, none_of_sum test h (let z : sum_over (one_if test) h ≡ 0 = omega arith in z))
  ] refl s

  -- what no unsealed update is, no lost one is
  none_lost : (test : (ℕ × U) → Bool) (l : List (Step U)) → AllByRecursion (λ e. test e ≡ false) (unsealed_after [] l) → AllByRecursion (λ e. test e ≡ false) (lost (entered l) (cut_at l (length (seals l))))
  none_lost test l a = none_of_sum test (lost (entered l) (cut_at l (length (seals l)))) (sym (unsealed_are_lost U (one_if test) l) ∙ sum_of_none test (unsealed_after [] l) a)

  -- sealing streams leaves what holds of each update that isn't of one of them
  left_by : (Q : (ℕ × U) → Type 0) (rs : List ℕ) (h : List (ℕ × U)) → ((e : ℕ × U) → ((test : (ℕ × U) → Bool) → test e ≡ true → list_any test h ≡ true) → Q e ⊎ Among e.0 (filter (is_open h) rs))
      → AllByRecursion Q (unsealed_after h (sealing rs h))
  left_by Q rs h f = subst (AllByRecursion Q) (sym (seals_leave (filter (is_open h) rs) h))
      (all_closed Q (filter (is_open h) rs) h (each_of (λ e. Q e ⊎ Among e.0 (filter (is_open h) rs)) h h (λ test p. p) f))

all_bare : (P : (ℕ × Update) → Type 0) (h : List (ℕ × Charged)) → AllByRecursion (λ e. P (e.0, e.1.0)) h → AllByRecursion P (bare h)
all_bare P [] a = tt
all_bare P (e ∷ h) a = (a.0, all_bare P h a.1)

module _ (sizes : Sizes) where
  -- what a last call leaves unsealed
  last_call : (t : Rows) (calls : List Call) (call : Call) → unsealed_of sizes t (calls ++ call ∷ []) ≡ unsealed_after (unsealed_of sizes t calls) (call_steps sizes (tree_after_all t calls) (unsealed_of sizes t calls) call)
  last_call t calls call =
      let h : List (ℕ × Charged) = unsealed_of sizes t calls in
      let l : List (Step Charged) = call_steps sizes (tree_after_all t calls) h call in
      ap (unsealed_after []) (steps_longer sizes t [] calls (call ∷ []) ∙ ap (λ z. steps_from sizes t [] calls ++ z) (append-nil l))
      ∙ unsealed_append [] (steps_from sizes t [] calls) l

  -- where each update that a last sync leaves unsealed fails a test, so does each that the cut loses
  lost_after : (test : (ℕ × Update) → Bool) (t : Rows) (calls : List Call) → AllByRecursion (λ e. test (e.0, e.1.0) ≡ false) (unsealed_of sizes t calls)
      → AllByRecursion (λ e. test e ≡ false) (lost_so_far sizes t calls)
  lost_after test t calls a = none_lost test (steps sizes t calls)
      (subst (AllByRecursion (λ e. test e ≡ false)) (sym (plain_unsealed [] (steps_from sizes t [] calls))) (all_bare (λ e. test e ≡ false) (unsealed_of sizes t calls) a))

  stream_left : (s : ℕ) (h : List (ℕ × Charged)) → AllByRecursion (λ e. eqb e.0 s ≡ false) (unsealed_after h (sealing (s ∷ []) h))
  stream_left s h = left_by (λ e. eqb e.0 s ≡ false) (s ∷ []) h (λ e sure. elim (eqb e.0 s) as (λ b. eqb e.0 s ≡ b → (b ≡ false) ⊎ Among e.0 (filter (is_open h) (s ∷ []))) [
    | false ↦ λ p. inl refl
    | true ↦ λ p. inr (among_filter (is_open h) e.0 (s ∷ []) (sure (λ d. eqb d.0 e.0) (eq-eqb e.0 e.0 refl)) (inl (sym (eqb-true e.0 s p))))
  ] refl)

  file_left : (x : ℕ) (h : List (ℕ × Charged)) → Numbered h → AllByRecursion (λ e. changes_node x e.1.0 ≡ false) (unsealed_after h (sealing (changers x h) h))
  file_left x h n =
      let rs : List ℕ = filter (is_open h) (changers x h) in
      subst (AllByRecursion (λ e. changes_node x e.1.0 ≡ false)) (sym (seals_leave rs h))
      (all_closed (λ e. changes_node x e.1.0 ≡ false) rs h
      (All_both (λ e. e.0 < 64) (λ e. e.0 < 64 → (changes_node x e.1.0 ≡ false) ⊎ Among e.0 rs) (λ e. (changes_node x e.1.0 ≡ false) ⊎ Among e.0 rs) (λ e lt f. f lt) h n
      (each_of (λ e. e.0 < 64 → (changes_node x e.1.0 ≡ false) ⊎ Among e.0 rs) h h (λ test p. p)
      (λ e sure lt. elim (changes_node x e.1.0) as (λ b. changes_node x e.1.0 ≡ b → (b ≡ false) ⊎ Among e.0 rs) [
        | false ↦ λ p. inl refl
        | true ↦ λ p. inr (among_filter (is_open h) e.0 (changers x h) (sure (λ d. eqb d.0 e.0) (eq-eqb e.0 e.0 refl))
            (among_filter (λ s. list_any (λ d. eqb d.0 s && changes_node x d.1.0) h) e.0 streams
            (sure (λ d. eqb d.0 e.0 && changes_node x d.1.0) (and_from (eqb e.0 e.0) (changes_node x e.1.0) (eq-eqb e.0 e.0 refl) p))
            (among_range 64 0 e.0 (omega arith) (omega arith))))
      ] refl))))

pub synced_streams_are_kept : SyncedStreamsAreKept
synced_streams_are_kept sizes t calls s =
    let a = lost_after sizes (λ e. eqb e.0 s) t (calls ++ SyncStream s ∷ [])
    (subst (AllByRecursion (λ e. eqb e.0 s ≡ false)) (sym (last_call sizes t calls (SyncStream s))) (stream_left sizes s (unsealed_of sizes t calls))) in
    All_both (λ e. eqb e.0 s ≡ false) (λ e. eqb e.0 s ≡ false) (λ e. e.0 ≢ s) (λ e p q. eqb-false e.0 s p) (lost_so_far sizes t (calls ++ SyncStream s ∷ [])) a a

pub synced_files_are_kept : SyncedFilesAreKept
synced_files_are_kept sizes t calls x r = lost_after sizes (λ e. changes_node x e.1) t (calls ++ SyncFile x ∷ [])
    (subst (AllByRecursion (λ e. changes_node x e.1.0 ≡ false)) (sym (last_call sizes t calls (SyncFile x))) (file_left sizes x (unsealed_of sizes t calls) (run_numbered sizes t calls r)))

pub sync_of_all_keeps_all : SyncOfAllKeepsAll
sync_of_all_keeps_all sizes t calls r =
    let none : unsealed_of sizes t (calls ++ SyncAll ∷ []) ≡ [] = last_call sizes t calls SyncAll ∙ sealing_all (unsealed_of sizes t calls) (run_numbered sizes t calls r) in
    ap (after apply t) (all_is_kept Update (steps sizes t (calls ++ SyncAll ∷ [])) (plain_unsealed [] (steps_from sizes t [] (calls ++ SyncAll ∷ [])) ∙ ap bare none))
    ∙ run_ends sizes t (calls ++ SyncAll ∷ [])
    ∙ after_sync t calls
  where
    after_sync : (t : Rows) (calls : List Call) → tree_after_all t (calls ++ SyncAll ∷ []) ≡ tree_after_all t calls
    after_sync t [] = refl
    after_sync t (call ∷ calls) = after_sync (tree_after t call) calls
