-- The steps of a run are guarded, and enter its updates, which apply.
use Rattle.std.proofs.Common.{◌≡◌, ℕ, List, [], ◌∷◌, ◌++◌, refl, sym, ap, subst, ◌∙◌}
use Rattle.std.specs.List.{filter}
use Rattle.stream_cuts.specs.Streams.{Step, entered, unsealed_after, IsGuarded}
use Rattle.stream_cuts.specs.States.{after, AllApply}
use Rattle.stream_cuts.specs.Forced.{streams, Numbered, is_open}
use Rattle.stream_cuts.proofs.Longer.{entered_append, unsealed_append}
use Rattle.stream_cuts.proofs.Forcing.{entering_guarded, guarded_append, seals_guarded, numbered_after, entered_entering, entered_sealing}
use Rattle.tree_model.specs.declared.rows.Update.{Update}
use Rattle.tree_model.specs.Rows.{Rows}
use Rattle.tree_model.specs.Updates.{apply}
use Rattle.tree_model.specs.Laws.{Applies, Meet}
use Rattle.tree_cuts.specs.Calls.{Sizes, Charged, charged_meets, Call, Accepted, SyncStream, SyncFile, SyncAll, Other, charge, changers, tree_after, tree_after_all, seals_own, call_steps, steps_from, steps}
use Rattle.tree_cuts.specs.Runs.{IsRun, MayHappen, updates_of, unsealed_of}
use Rattle.tree_cuts.proofs.Plain.{ChargedMeet, bare, plain_entered, plain_guarded}

-- the one update that a call may enter
abbrev pub entry_of : Rows → Call → List (ℕ × Charged)
entry_of t (Accepted s u) = (s, (u, charge t u)) ∷ []
entry_of t (SyncStream s) = []
entry_of t (SyncFile x) = []
entry_of t SyncAll = []
entry_of t Other = []

module _ (sizes : Sizes) where
  pub call_enters : (t : Rows) (h : List (ℕ × Charged)) (call : Call) → entered (call_steps sizes t h call) ≡ entry_of t call
  call_enters t h (Accepted s u) = entered_entering charged_meets s (u, charge t u) (seals_own sizes t h s u) h
  call_enters t h (SyncStream s) = entered_sealing (s ∷ []) h
  call_enters t h (SyncFile x) = entered_sealing (changers x h) h
  call_enters t h SyncAll = entered_sealing streams h
  call_enters t h Other = refl

  entry_numbered : (t : Rows) (call : Call) → MayHappen t call → Numbered (entry_of t call)
  entry_numbered t (Accepted s u) r = (r.0, tt)
  entry_numbered t (SyncStream s) r = tt
  entry_numbered t (SyncFile x) r = tt
  entry_numbered t SyncAll r = tt
  entry_numbered t Other r = tt

  call_guarded : (t : Rows) (h : List (ℕ × Charged)) (call : Call) → Numbered h → IsGuarded ChargedMeet h (call_steps sizes t h call)
  call_guarded t h (Accepted s u) n = entering_guarded charged_meets s (u, charge t u) (seals_own sizes t h s u) h n
  call_guarded t h (SyncStream s) n = seals_guarded ChargedMeet h (filter (is_open h) (s ∷ []))
  call_guarded t h (SyncFile x) n = seals_guarded ChargedMeet h (filter (is_open h) (changers x h))
  call_guarded t h SyncAll n = seals_guarded ChargedMeet h (filter (is_open h) streams)
  call_guarded t h Other n = tt

  call_numbered : (t : Rows) (h : List (ℕ × Charged)) (call : Call) → MayHappen t call → Numbered h → Numbered (unsealed_after h (call_steps sizes t h call))
  call_numbered t h call r n = numbered_after h (call_steps sizes t h call) n (subst Numbered (sym (call_enters t h call)) (entry_numbered t call r))

  pub steps_guarded : (t : Rows) (h : List (ℕ × Charged)) (calls : List Call) → IsRun t calls → Numbered h → IsGuarded ChargedMeet h (steps_from sizes t h calls)
  steps_guarded t h [] r n = tt
  steps_guarded t h (call ∷ calls) r n =
      let g : List (ℕ × Charged) = unsealed_after h (call_steps sizes t h call) in
      guarded_append ChargedMeet h (call_steps sizes t h call) (steps_from sizes (tree_after t call) g calls) (call_guarded t h call n)
      (steps_guarded (tree_after t call) g calls r.1 (call_numbered t h call r.0 n))

  -- the steps of a run are guarded
  pub run_guarded : (t : Rows) (calls : List Call) → IsRun t calls → IsGuarded Meet [] (steps sizes t calls)
  run_guarded t calls r = plain_guarded [] (steps_from sizes t [] calls) (steps_guarded t [] calls r tt)

  bare_append : (h g : List (ℕ × Charged)) → bare (h ++ g) ≡ bare h ++ bare g
  bare_append [] g = refl
  bare_append (e ∷ h) g = ap (λ z. (e.0, e.1.0) ∷ z) (bare_append h g)

  entry_applies : (t : Rows) (call : Call) (h : List (ℕ × Update)) → MayHappen t call → AllApply Applies apply (tree_after t call) h
      → AllApply Applies apply t (bare (entry_of t call) ++ h)
  entry_applies t (Accepted s u) h r a = (r.1, a)
  entry_applies t (SyncStream s) h r a = a
  entry_applies t (SyncFile x) h r a = a
  entry_applies t SyncAll h r a = a
  entry_applies t Other h r a = a

  steps_apply : (t : Rows) (h : List (ℕ × Charged)) (calls : List Call) → IsRun t calls → AllApply Applies apply t (bare (entered (steps_from sizes t h calls)))
  steps_apply t h [] r = tt
  steps_apply t h (call ∷ calls) r =
      let l : List (Step Charged) = call_steps sizes t h call in
      let k : List (Step Charged) = steps_from sizes (tree_after t call) (unsealed_after h l) calls in
      let split : bare (entered (l ++ k)) ≡ bare (entry_of t call) ++ bare (entered k) =
      ap bare (entered_append l k) ∙ bare_append (entered l) (entered k) ∙ ap (λ z. bare z ++ bare (entered k)) (call_enters t h call) in
      subst (AllApply Applies apply t) (sym split) (entry_applies t call (bare (entered k)) r.0 (steps_apply (tree_after t call) (unsealed_after h l) calls r.1))

  -- the updates of a run apply, each at its place
  pub run_applies : (t : Rows) (calls : List Call) → IsRun t calls → AllApply Applies apply t (updates_of sizes t calls)
  run_applies t calls r = subst (AllApply Applies apply t) (sym (plain_entered (steps_from sizes t [] calls))) (steps_apply t [] calls r)

  steps_numbered : (t : Rows) (h : List (ℕ × Charged)) (calls : List Call) → IsRun t calls → Numbered h → Numbered (unsealed_after h (steps_from sizes t h calls))
  steps_numbered t h [] r n = n
  steps_numbered t h (call ∷ calls) r n =
      let g : List (ℕ × Charged) = unsealed_after h (call_steps sizes t h call) in
      subst Numbered (sym (unsealed_append h (call_steps sizes t h call) (steps_from sizes (tree_after t call) g calls)))
      (steps_numbered (tree_after t call) g calls r.1 (call_numbered t h call r.0 n))

  -- what a run leaves unsealed is in numbered streams
  pub run_numbered : (t : Rows) (calls : List Call) → IsRun t calls → Numbered (unsealed_of sizes t calls)
  run_numbered t calls r = steps_numbered t [] calls r tt

  after_entry : (t : Rows) (call : Call) (h : List (ℕ × Update)) → after apply t (bare (entry_of t call) ++ h) ≡ after apply (tree_after t call) h
  after_entry t (Accepted s u) h = refl
  after_entry t (SyncStream s) h = refl
  after_entry t (SyncFile x) h = refl
  after_entry t SyncAll h = refl
  after_entry t Other h = refl

  steps_end : (t : Rows) (h : List (ℕ × Charged)) (calls : List Call) → after apply t (bare (entered (steps_from sizes t h calls))) ≡ tree_after_all t calls
  steps_end t h [] = refl
  steps_end t h (call ∷ calls) =
      let l : List (Step Charged) = call_steps sizes t h call in
      let k : List (Step Charged) = steps_from sizes (tree_after t call) (unsealed_after h l) calls in
      ap (after apply t) (ap bare (entered_append l k) ∙ bare_append (entered l) (entered k) ∙ ap (λ z. bare z ++ bare (entered k)) (call_enters t h call))
      ∙ after_entry t call (bare (entered k)) ∙ steps_end (tree_after t call) (unsealed_after h l) calls

  -- the updates of a history make its tree
  pub run_ends : (t : Rows) (calls : List Call) → after apply t (updates_of sizes t calls) ≡ tree_after_all t calls
  run_ends t calls = ap (after apply t) (plain_entered (steps_from sizes t [] calls)) ∙ steps_end t [] calls
