-- What holds of each update of a history holds of those of its batches.
use Rattle.std.proofs.Common.{◌≡◌, ℕ, suc, List, [], ◌∷◌, ◌++◌, refl, sym, subst, ltb}
use Rattle.std.specs.Prelude.{Bool, true, false, not, ◌&&◌}
use Rattle.std.specs.List.{AllByRecursion}
use Rattle.std.specs.declared.option.Option.{Option}
use Rattle.std.specs.declared.option.Option.TheVariants.{None, Some}
use Rattle.stream_cuts.specs.Streams.{Step, entered, one_more, keep_if}
use Rattle.stream_cuts.specs.Cuts.{between_from, cut_at, batch}
use Rattle.stream_cuts.specs.Streams.{no_counts}
use Rattle.stream_cuts.specs.Forced.{streams}
use Rattle.stream_cuts.proofs.Longer.{entered_append}
use Rattle.stream_cuts.proofs.Forcing.{entered_entering, entered_sealing}
use Rattle.ccfs_base.specs.declared.commands.Command.{Command}
use Rattle.ccfs_base.specs.declared.commands.Command.TheVariants as command
use Rattle.ccfs_base.specs.declared.replies.Reply.{Reply}
use Rattle.tree_model.specs.declared.rows.Entry.{Entry}
use Rattle.tree_model.specs.declared.rows.Update.{Update}
use Rattle.tree_model.specs.Rows.{Rows}
use Rattle.tree_cuts.specs.Calls.{Sizes, Charged, charge, charged_meets, changers, seals_own, call_steps}
use Rattle.history_model.specs.State.{Now, ignores_in, file_in, stream_in}
use Rattle.history_model.specs.Histories.{file_call, sync_call, steps_by, entered_by, charged_in}

module _ {U : Type 0} (P : (ℕ × U) → Type 0) where
  all_append : (h g : List (ℕ × U)) → AllByRecursion P h → AllByRecursion P g → AllByRecursion P (h ++ g)
  all_append [] g a b = b
  all_append (e ∷ h) g a b = (a.0, all_append h g a.1 b)

  pub all_between : (seen c d : ℕ → ℕ) (h : List (ℕ × U)) → AllByRecursion P h → AllByRecursion P (between_from seen c d h)
  all_between seen c d [] a = tt
  all_between seen c d (e ∷ h) a =
      let rest : AllByRecursion P (between_from (one_more seen e.0) c d h) = all_between (one_more seen e.0) c d h a.1 in
      elim (ltb (seen e.0) (d e.0) && not (ltb (seen e.0) (c e.0))) as (λ b. AllByRecursion P (keep_if b e (between_from (one_more seen e.0) c d h))) [
        | true ↦ (a.0, rest)
        | false ↦ rest
      ]

  pub all_batch : (l : List (Step U)) (k : ℕ) → AllByRecursion P (entered l) → AllByRecursion P (batch l k)
  all_batch l k a = all_between no_counts (cut_at l k) (cut_at l (suc k)) (entered l) a

-- ---- a call without an update enters none

module _ (sizes : Sizes) (t : Rows) (h : List (ℕ × Charged)) where
  file_enters : (b : Bool) (o : Option ℕ) → entered (call_steps sizes t h (file_call b o)) ≡ []
  file_enters true o = refl
  file_enters false None = refl
  file_enters false (Some x) = entered_sealing (changers x h) h

  pub sync_enters : (n : Now) (actor : ℕ) (c : Command) → entered (call_steps sizes t h (sync_call n actor c)) ≡ []
  sync_enters n actor command.StreamSync = entered_sealing (stream_in n.choices actor ∷ []) h
  sync_enters n actor (command.Fsync handle) = file_enters (ignores_in n.choices actor) (file_in n.handles actor handle)
  sync_enters n actor command.Sync = entered_sealing streams h
  sync_enters n actor c = refl

-- an entry enters its update, if it has one, with what it is charged on the tree there
pub entry_enters : (sizes : Sizes) (Q : ℕ × Charged → Type 0) (n : Now) (actor stream : ℕ) (c : Command) (r : Reply) (u : Option Update)
    → ((v : Update) → u ≡ Some v → Q (stream, (v, charge n.tree v)))
    → AllByRecursion Q (entered (steps_by sizes n (record { actor = actor; stream = stream; command = c; reply = r; update = u })))
entry_enters sizes Q n actor stream c r None f = subst (AllByRecursion Q) (sym (sync_enters sizes n.tree n.unsealed n actor c)) tt
entry_enters sizes Q n actor stream c r (Some u) f =
    subst (AllByRecursion Q) (sym (entered_entering charged_meets stream (u, charge n.tree u) (seals_own sizes n.tree n.unsealed stream u) n.unsealed)) (f u refl, tt)

-- what holds of an update, or there is none
abbrev pub IfUpdate : (Update → Type 0) → Option Update → Type 0
IfUpdate P None = Unit {0}
IfUpdate P (Some u) = P u

-- what holds of the update of a step
abbrev pub Holds : (Update → Type 0) → ℕ × Charged → Type 0
Holds P e = P e.1.0

module _ (sizes : Sizes) (P : Update → Type 0) where
  in_update : (o : Option Update) → IfUpdate P o → (v : Update) → o ≡ Some v → P v
  in_update o holds v is = subst (IfUpdate P) is holds

  pub all_entered : (n : Now) (h : List Entry) → AllByRecursion (λ e. IfUpdate P e.update) h → AllByRecursion (Holds P) (entered (charged_in sizes n h))
  all_entered n [] a = tt
  all_entered n (e ∷ h) a =
      subst (AllByRecursion (Holds P)) (sym (entered_append (steps_by sizes n e) (charged_in sizes (entered_by sizes n e) h)))
      (all_append (Holds P) (entered (steps_by sizes n e)) (entered (charged_in sizes (entered_by sizes n e) h))
      (entry_enters sizes (Holds P) n e.actor e.stream e.command e.reply e.update (in_update e.update a.0)) (all_entered (entered_by sizes n e) h a.1))
