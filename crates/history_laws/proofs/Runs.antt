-- The calls of a legal history are a run, and each state on its way is sound.
use Rattle.std.proofs.Common.{◌≡◌, ℕ, ◌≤◌, ◌<◌, List, [], ◌∷◌, refl, sym, ap, subst, arith, ◌∙◌, leb}
use Rattle.std.specs.Prelude.{Bool, true, false, cond, ◌==◌}
use Rattle.std.specs.List.{AllByRecursion}
use Rattle.std.specs.declared.option.Option.{Option}
use Rattle.std.specs.declared.option.Option.TheVariants.{None, Some}
use Rattle.std.specs.Ordering.{nat_cmp}
use Rattle.std.specs.Cmp.{unsigned_tied}
use Rattle.std.specs.FinMap.{find, entries, get-entries}
use Rattle.std.proofs.lemmas.Bool.{ne_eqb, leb-true, leb-false}
use Rattle.ccfs_base.specs.declared.commands.Command.{Command}
use Rattle.ccfs_base.specs.declared.commands.Command.TheVariants as command
use Rattle.tree_model.specs.declared.rows.Row.{Row}
use Rattle.tree_model.specs.declared.rows.Update.{Update}
use Rattle.tree_model.specs.declared.rows.Entry.{Entry}
use Rattle.tree_model.specs.Rows.{Rows, IsTree}
use Rattle.tree_cuts.specs.Calls.{Sizes, tree_after}
use Rattle.tree_cuts.specs.Runs.{MayHappen, IsRun}
use Rattle.history_model.specs.State.{Now, Choice, stream_in, ignores_in, file_in}
use Rattle.history_model.specs.Answers.{larger}
use Rattle.history_model.specs.Histories.{top_serial, start, file_call, sync_call, call_by, tree_by, entered_by, now_after, IsLegal, calls_by}
use Rattle.history_laws.specs.Laws.{AcceptedUpdatesApply, TreesStayTrees}
use Rattle.history_laws.proofs.Sound.{IsSound, handles_left, Told}
use Rattle.history_laws.proofs.Told.{told}
use Rattle.history_laws.proofs.Kept.{told_fits, sound_entry}

-- ---- the start
larger_left : (a b : ℕ) → a ≤ larger a b
larger_left a b = elim (leb a b) as (λ z. leb a b ≡ z → a ≤ cond z b a) [ true ↦ λ p. leb-true a b p | false ↦ λ p. omega arith ] refl

larger_right : (a b : ℕ) → b ≤ larger a b
larger_right a b = elim (leb a b) as (λ z. leb a b ≡ z → b ≤ cond z b a) [ true ↦ λ p. omega arith | false ↦ λ p. (let q = leb-false a b p in omega arith) ] refl

above_top : (k : ℕ) (es : List (ℕ × Row)) → top_serial es < k → find nat_cmp k es ≡ None
above_top k [] lt = refl
above_top k (e ∷ es) lt =
    let a = larger_left e.0 (top_serial es) in
    let b = larger_right e.0 (top_serial es) in
    ap (λ z. cond z (Some e.1) (find nat_cmp k es)) (unsigned_tied k e.0 ∙ ne_eqb k e.0 (λ q. omega arith)) ∙ above_top k es (omega arith)

pub sound_start : (t : Rows) → IsTree t → IsSound (start t)
sound_start t tree = record { tree = tree; new = λ k le. get-entries t k ∙ above_top k (entries t) (omega arith); files = tt; streams = tt }

-- ---- along a history
module _ (sizes : Sizes) where
  pub sound_next : (n : Now) (e : Entry) (h : List Entry) → IsSound n → IsLegal sizes n (e ∷ h) → IsSound (entered_by sizes n e)
  sound_next n e h sound l = subst (λ x. IsSound (entered_by sizes n x)) (sym l.0) (sound_entry sizes n sound e.actor e.command l.1.1)

  pub sound_after : (n : Now) (h : List Entry) → IsSound n → IsLegal sizes n h → IsSound (now_after sizes n h)
  sound_after n [] s l = s
  sound_after n (e ∷ h) s l = sound_after (entered_by sizes n e) h (sound_next n e h s l) l.2

  low_stream : (cs : List Choice) (a : ℕ) → AllByRecursion (λ c. c.stream < 64) cs → stream_in cs a < 64
  low_stream [] a s = omega arith
  low_stream (c ∷ cs) a s = let rest = low_stream cs a s.1 in elim (c.actor == a) as (λ b. cond b c.stream (stream_in cs a) < 64) [ true ↦ s.0 | false ↦ rest ]

  file_happens : (t : Rows) (b : Bool) (o : Option ℕ) → MayHappen t (file_call b o)
  file_happens t true o = tt
  file_happens t false None = tt
  file_happens t false (Some x) = tt

  sync_happens : (n : Now) (a : ℕ) (c : Command) → IsSound n → MayHappen n.tree (sync_call n a c)
  sync_happens n a command.StreamSync s = low_stream n.choices a s.streams
  sync_happens n a (command.Fsync handle) s = file_happens n.tree (ignores_in n.choices a) (file_in n.handles a handle)
  sync_happens n a command.Sync s = tt
  sync_happens n a c s = tt

  -- what is known of the update of a legal history's next entry
  pub told_next : (n : Now) (e : Entry) (h : List Entry) → IsSound n → IsLegal sizes n (e ∷ h) → (u : Update) → e.update ≡ Some u
      → Told sizes n (stream_in n.choices e.actor) (handles_left n e.actor e.command) u
  told_next n e h s l u is = told sizes n s e.actor e.command l.1.1 u (sym (ap (λ z. z.update) l.0) ∙ is)

  call_happens : (n : Now) (e : Entry) (h : List Entry) → IsSound n → IsLegal sizes n (e ∷ h) → MayHappen n.tree (call_by n e)
  call_happens n e h s l = by e.update refl
    where
      by : (o : Option Update) → e.update ≡ o → MayHappen n.tree (call_by n e)
      by None is = subst (λ o. MayHappen n.tree (call_by n (record e { update = o }))) (sym is) (sync_happens n e.actor e.command s)
      by (Some u) is = subst (λ o. MayHappen n.tree (call_by n (record e { update = o }))) (sym is) (
        subst (λ z. z < 64) (sym (ap (λ z. z.stream) l.0)) (low_stream n.choices e.actor s.streams),
        (s.tree, told_fits sizes n (stream_in n.choices e.actor) (handles_left n e.actor e.command) u (told_next n e h s l u is)),
      )

  file_stands : (t : Rows) (b : Bool) (o : Option ℕ) → tree_after t (file_call b o) ≡ t
  file_stands t true o = refl
  file_stands t false None = refl
  file_stands t false (Some x) = refl

  sync_stands : (n : Now) (a : ℕ) (c : Command) → tree_after n.tree (sync_call n a c) ≡ n.tree
  sync_stands n a (command.Fsync handle) = file_stands n.tree (ignores_in n.choices a) (file_in n.handles a handle)
  sync_stands n a command.StreamSync = refl
  sync_stands n a command.Sync = refl
  sync_stands n a c = refl

  -- an entry's call leaves the tree that the entry does
  pub call_leaves : (n : Now) (e : Entry) → tree_after n.tree (call_by n e) ≡ tree_by n.tree e.update
  call_leaves n e = by e.update refl
    where
      by : (o : Option Update) → e.update ≡ o → tree_after n.tree (call_by n e) ≡ tree_by n.tree e.update
      by None is = subst (λ o. tree_after n.tree (call_by n (record e { update = o })) ≡ tree_by n.tree o) (sym is) (sync_stands n e.actor e.command)
      by (Some u) is = subst (λ o. tree_after n.tree (call_by n (record e { update = o })) ≡ tree_by n.tree o) (sym is) refl

  pub calls_run : (n : Now) (h : List Entry) → IsSound n → IsLegal sizes n h → IsRun n.tree (calls_by sizes n h)
  calls_run n [] s l = tt
  calls_run n (e ∷ h) s l =
      (call_happens n e h s l, subst (λ t. IsRun t (calls_by sizes (entered_by sizes n e) h)) (sym (call_leaves n e)) (calls_run (entered_by sizes n e) h (sound_next n e h s l) l.2))

pub accepted_updates_apply : AcceptedUpdatesApply
accepted_updates_apply sizes t h tree l = calls_run sizes (start t) h (sound_start t tree) l

pub trees_stay_trees : TreesStayTrees
trees_stay_trees sizes t h tree l = (sound_after sizes (start t) h (sound_start t tree) l).tree
