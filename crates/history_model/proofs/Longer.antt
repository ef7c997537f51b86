-- Longer histories: their steps, seals and trees.
use Rattle.std.proofs.Common.{◌≡◌, ℕ, suc, ◌+◌, ◌≤◌, List, [], ◌∷◌, ◌++◌, length, refl, sym, ap, ◌∙◌, arith, append_assoc}
use Rattle.std.specs.Prelude.{Bool, true, false, map}
use Rattle.std.specs.List.{filter}
use Rattle.std.specs.declared.option.Option.{Option}
use Rattle.std.specs.declared.option.Option.TheVariants.{None, Some}
use Rattle.stream_cuts.specs.Streams.{Step, Enter, Seal, entered, no_counts, one_more, unsealed_after}
use Rattle.stream_cuts.specs.Cuts.{kept, cut_at, seals_from}
use Rattle.stream_cuts.specs.States.{after}
use Rattle.stream_cuts.specs.Forced.{streams, is_open, sealed_before}
use Rattle.stream_cuts.proofs.Longer.{entered_append, unsealed_append, kept_longer, after_append}
use Rattle.stream_cuts.proofs.AllKept.{all_kept}
use Rattle.ccfs_base.specs.declared.commands.Command.{Command}
use Rattle.ccfs_base.specs.declared.commands.Command.TheVariants as command
use Rattle.ccfs_base.specs.declared.replies.Reply.{Reply}
use Rattle.tree_model.specs.declared.rows.Entry.{Entry}
use Rattle.tree_model.specs.declared.rows.Update.{Update}
use Rattle.tree_model.specs.Rows.{Rows}
use Rattle.tree_model.specs.Updates.{apply}
use Rattle.tree_cuts.specs.Calls.{Sizes, Charged, Call, Accepted, SyncStream, SyncFile, SyncAll, Other, charge, charged_meets, changers, seals_own, plain, tree_after, call_steps, steps_from}
use Rattle.tree_cuts.proofs.Plain.{bare, plain_append, plain_unsealed}
use Rattle.history_model.specs.State.{Now, ignores_in, file_in}
use Rattle.history_model.specs.Answers.{closes}
use Rattle.history_model.specs.Histories.{file_call, sync_call, call_by, tree_by, steps_by, entered_by, now_after, entry_of, hist, calls_by, charged_in, steps_in, seal_count, tree_at, synced_number, durable_from, durable}

-- ---- what a call does to the tree

of_file : (t : Rows) (b : Bool) (o : Option ℕ) → tree_after t (file_call b o) ≡ t
of_file t true o = refl
of_file t false None = refl
of_file t false (Some x) = refl

of_sync : (t : Rows) (n : Now) (actor : ℕ) (c : Command) → tree_after t (sync_call n actor c) ≡ t
of_sync t n actor command.StreamSync = refl
of_sync t n actor (command.Fsync handle) = of_file t (ignores_in n.choices actor) (file_in n.handles actor handle)
of_sync t n actor command.Sync = refl
of_sync t n actor c = refl

of_entry : (n : Now) (actor stream : ℕ) (c : Command) (r : Reply) (u : Option Update)
    → tree_after n.tree (call_by n (record { actor = actor; stream = stream; command = c; reply = r; update = u })) ≡ tree_by n.tree u
of_entry n actor stream c r None = of_sync n.tree n actor c
of_entry n actor stream c r (Some u) = refl

pub tree_of_call : (n : Now) (e : Entry) → tree_after n.tree (call_by n e) ≡ tree_by n.tree e.update
tree_of_call n e = of_entry n e.actor e.stream e.command e.reply e.update

-- ---- an accepted update, and nothing else, enters a stream

module _ {U : Type 0} where
  no_seal_enters : (rs : List ℕ) (l : List (Step U)) → entered (map Seal rs ++ l) ≡ entered l
  no_seal_enters [] l = refl
  no_seal_enters (r ∷ rs) l = no_seal_enters rs l

plain_seals : (rs : List ℕ) → entered (plain (map Seal rs)) ≡ []
plain_seals [] = refl
plain_seals (r ∷ rs) = plain_seals rs

plain_entry : (rs : List ℕ) (s : ℕ) (u : Charged) → entered (plain (map Seal rs ++ Enter s u ∷ [])) ≡ (s, u.0) ∷ []
plain_entry [] s u = refl
plain_entry (r ∷ rs) s u = plain_entry rs s u

module _ (sizes : Sizes) where
  -- what a call enters makes the tree after it
  after_call : (t : Rows) (h : List (ℕ × Charged)) (call : Call) → after apply t (entered (plain (call_steps sizes t h call))) ≡ tree_after t call
  after_call t h (Accepted s u) =
      ap (after apply t) (plain_entry (sealed_before charged_meets s (u, charge t u) (seals_own sizes t h s u) h) s (u, charge t u))
  after_call t h (SyncStream s) = ap (after apply t) (plain_seals (filter (is_open h) (s ∷ [])))
  after_call t h (SyncFile x) = ap (after apply t) (plain_seals (filter (is_open h) (changers x h)))
  after_call t h SyncAll = ap (after apply t) (plain_seals (filter (is_open h) streams))
  after_call t h Other = refl

  after_entry : (n : Now) (e : Entry) → after apply n.tree (entered (plain (steps_by sizes n e))) ≡ tree_by n.tree e.update
  after_entry n e = after_call n.tree n.unsealed (call_by n e) ∙ tree_of_call n e

  -- ---- steps

  pub steps_of_calls : (n : Now) (h : List Entry) → charged_in sizes n h ≡ steps_from sizes n.tree n.unsealed (calls_by sizes n h)
  steps_of_calls n [] = refl
  steps_of_calls n (e ∷ h) =
      ap (λ (z : List (Step Charged)). steps_by sizes n e ++ z)
      (steps_of_calls (entered_by sizes n e) h
      ∙ ap (λ (t : Rows). steps_from sizes t (unsealed_after n.unsealed (steps_by sizes n e)) (calls_by sizes (entered_by sizes n e) h)) (sym (tree_of_call n e)))

  pub now_append : (n : Now) (h g : List Entry) → now_after sizes n (h ++ g) ≡ now_after sizes (now_after sizes n h) g
  now_append n [] g = refl
  now_append n (e ∷ h) g = now_append (entered_by sizes n e) h g

  pub charged_append : (n : Now) (h g : List Entry) → charged_in sizes n (h ++ g) ≡ charged_in sizes n h ++ charged_in sizes (now_after sizes n h) g
  charged_append n [] g = refl
  charged_append n (e ∷ h) g =
      ap (λ (z : List (Step Charged)). steps_by sizes n e ++ z) (charged_append (entered_by sizes n e) h g)
      ∙ sym (append_assoc (steps_by sizes n e) (charged_in sizes (entered_by sizes n e) h) (charged_in sizes (now_after sizes (entered_by sizes n e) h) g))

  pub steps_append : (n : Now) (h g : List Entry) → steps_in sizes n (h ++ g) ≡ steps_in sizes n h ++ steps_in sizes (now_after sizes n h) g
  steps_append n h g = ap plain (charged_append n h g) ∙ plain_append (charged_in sizes n h) (charged_in sizes (now_after sizes n h) g)

  -- the steps of one entry and then others, without charges
  pub steps_next : (n : Now) (e : Entry) (h : List Entry) → steps_in sizes n (e ∷ h) ≡ plain (steps_by sizes n e) ++ steps_in sizes (entered_by sizes n e) h
  steps_next n e h = plain_append (steps_by sizes n e) (charged_in sizes (entered_by sizes n e) h)

  pub tree_after_history : (n : Now) (h : List Entry) → (now_after sizes n h).tree ≡ after apply n.tree (entered (steps_in sizes n h))
  tree_after_history n [] = refl
  tree_after_history n (e ∷ h) =
      let m : Now = entered_by sizes n e in
      tree_after_history m h
      ∙ ap (λ (z : Rows). after apply z (entered (steps_in sizes m h))) (sym (after_entry n e))
      ∙ sym (after_append apply n.tree (entered (plain (steps_by sizes n e))) (entered (steps_in sizes m h)))
      ∙ ap (after apply n.tree) (sym (entered_append (plain (steps_by sizes n e)) (steps_in sizes m h)))
      ∙ ap (λ (z : List (Step Update)). after apply n.tree (entered z)) (sym (steps_next n e h))

  pub unsealed_is : (n : Now) (h : List Entry) → (now_after sizes n h).unsealed ≡ unsealed_after n.unsealed (charged_in sizes n h)
  unsealed_is n [] = refl
  unsealed_is n (e ∷ h) = unsealed_is (entered_by sizes n e) h ∙ sym (unsealed_append n.unsealed (steps_by sizes n e) (charged_in sizes (entered_by sizes n e) h))

-- ---- seals

closes_append : (l k : List (Step Charged)) → closes (l ++ k) ≡ closes l + closes k
closes_append [] k = omega arith
closes_append (Enter s u ∷ l) k = closes_append l k
closes_append (Seal s ∷ l) k = ap suc (closes_append l k) ∙ omega arith

pub closes_are_seals : (seen : ℕ → ℕ) (l : List (Step Charged)) → length (seals_from seen (plain l)) ≡ closes l
closes_are_seals seen [] = refl
closes_are_seals seen (Enter s u ∷ l) = closes_are_seals (one_more seen s) l
closes_are_seals seen (Seal s ∷ l) = ap suc (closes_are_seals seen l)

module _ (sizes : Sizes) where
  closed_after : (n : Now) (h : List Entry) → (now_after sizes n h).seals ≡ n.seals + closes (charged_in sizes n h)
  closed_after n [] = omega arith
  closed_after n (e ∷ h) =
      let ih = closed_after (entered_by sizes n e) h in
      let c = closes_append (steps_by sizes n e) (charged_in sizes (entered_by sizes n e) h) in omega (arith, ih, c)

  pub seals_counted : (n : Now) (h : List Entry) → (now_after sizes n h).seals ≡ n.seals + seal_count sizes n h
  seals_counted n h = closed_after n h ∙ ap (λ (z : ℕ). n.seals + z) (sym (closes_are_seals no_counts (charged_in sizes n h)))

  -- ---- trees

  pub longer_trees : (n : Now) (h g : List Entry) (d : ℕ) → d ≤ seal_count sizes n h → tree_at sizes n (h ++ g) d ≡ tree_at sizes n h d
  longer_trees n h g d le =
      ap (λ (z : List (Step Update)). after apply n.tree (kept (entered z) (cut_at z d))) (steps_append sizes n h g)
      ∙ ap (λ (z : List (ℕ × Update)). after apply n.tree z) (kept_longer (steps_in sizes n h) (steps_in sizes (now_after sizes n h) g) d le)

  pub last_cut : (n : Now) (h : List Entry) → n.unsealed ≡ [] → (now_after sizes n h).unsealed ≡ [] → tree_at sizes n h (seal_count sizes n h) ≡ (now_after sizes n h).tree
  last_cut n h start now =
      let of_charged : unsealed_after [] (charged_in sizes n h) ≡ [] = ap (λ (z : List (ℕ × Charged)). unsealed_after z (charged_in sizes n h)) (sym start) ∙ sym (unsealed_is sizes n h) ∙ now in
      let none : unsealed_after [] (steps_in sizes n h) ≡ [] = plain_unsealed [] (charged_in sizes n h) ∙ ap bare of_charged in
      ap (after apply n.tree) (all_kept (steps_in sizes n h) none) ∙ sym (tree_after_history sizes n h)

  -- ---- one call more

  pub hist_append : (n : Now) (cs ds : List (ℕ × Command)) → hist sizes n (cs ++ ds) ≡ hist sizes n cs ++ hist sizes (now_after sizes n (hist sizes n cs)) ds
  hist_append n [] ds = refl
  hist_append n (c ∷ cs) ds = ap (λ (z : List Entry). entry_of sizes n c.0 c.1 ∷ z) (hist_append (entered_by sizes n (entry_of sizes n c.0 c.1)) cs ds)

  pub hist_more : (n : Now) (cs : List (ℕ × Command)) (c : ℕ × Command) → hist sizes n (cs ++ c ∷ []) ≡ hist sizes n cs ++ entry_of sizes (now_after sizes n (hist sizes n cs)) c.0 c.1 ∷ []
  hist_more n cs c = hist_append n cs (c ∷ [])

  pub now_more : (n : Now) (h : List Entry) (e : Entry) → now_after sizes n (h ++ e ∷ []) ≡ entered_by sizes (now_after sizes n h) e
  now_more n h e = now_append sizes n h (e ∷ [])

durable_append : (m : ℕ) (h : List Entry) (e : Entry) → durable_from m (h ++ e ∷ []) ≡ synced_number (durable_from m h) e.reply
durable_append m [] e = refl
durable_append m (d ∷ h) e = durable_append (synced_number m d.reply) h e

pub durable_more : (h : List Entry) (e : Entry) → durable (h ++ e ∷ []) ≡ synced_number (durable h) e.reply
durable_more h e = durable_append 0 h e
