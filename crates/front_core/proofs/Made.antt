-- A call with an update: what it leaves, and what it adds to the queue.
use Rattle.std.proofs.Common.{◌≡◌, ℕ, suc, ◌+◌, ◌^◌, ◌<◌, List, [], ◌∷◌, ◌++◌, length, map, refl, sym, ap, subst, ◌∙◌, arith}
use Rattle.std.specs.Prelude.{Bool, true, false, Option, None, Some, slice_index}
use Rattle.stream_cuts.specs.Streams.{Step, Seal, Enter, unsealed_after}
use Rattle.ccfs_base.specs.declared.commands.Command.{Command}
use Rattle.ccfs_base.specs.declared.commands.Command.TheVariants as commands
use Rattle.tree_model.specs.declared.rows.Update.{Update}
use Rattle.tree_model.specs.declared.rows.Entry.{Entry}
use Rattle.tree_model.specs.Rows.{Rows}
use Rattle.tree_model.specs.Updates.{apply}
use Rattle.tree_cuts.specs.Calls.{Sizes, Charge, Charged, charge}
use Rattle.history_model.specs.State.{Choice, Now, stream_in}
use Rattle.history_model.specs.Answers.{answer, closes}
use Rattle.history_model.specs.Histories.{start, entry_of, entered_by, steps_by, choices_by, tree_by, made_by, makes}
use Rattle.history_model.proofs.Longer.{now_more}
use Rattle.carried_volumes.specs.Carried.{HaveInodes}
use Rattle.front_laws.specs.Inodes.{dropped, with_inode}
use Rattle.front_laws.specs.Kept.{IsKept, now_of}
use Rattle.front_laws.specs.Batches.{sealed_in}
use Rattle.front_laws.specs.Owned.{AreOwned}
use Rattle.front_core.specs.Free.{MakesTheLast}
use Rattle.front_core.specs.Entering.{weight_kept, IsEnteringOf, HasEntered}
use Rattle.front_core.specs.Pending.{IsPendingOf, IsAsBefore, AreSealed}
use Rattle.front_core.specs.Left.{IsLeft, IsStateOf, IsPlanOf, IsMade, sealed_by, entered_step}
use Rattle.front_core.specs.declared.pending.Pending.{Pending}
use Rattle.front_core.specs.declared.pending.Entering.{Entering}
use Rattle.front_core.specs.declared.state.State.{State}
use Rattle.front_core.specs.declared.planning.Plan.{Plan}
use Rattle.front_core.proofs.Sealing.{owned_after}
use Rattle.front_core.proofs.Making.{few_sealed}
use Rattle.front_core.proofs.Viewed.{known, seals_below}

-- ---- an update behind seals

closes_entered : (l : List ℕ) (s : ℕ) (x : Charged) → closes (map Seal l ++ Enter s x ∷ []) ≡ length l
closes_entered [] s x = refl
closes_entered (r ∷ l) s x = ap suc (closes_entered l s x)

sealed_entered : (count : ℕ) (inodes : List ℕ) (k : ℕ) (us : List (ℕ × Charged)) (l : List ℕ) (s : ℕ) (x : Charged)
    → sealed_in count inodes k us (map Seal l ++ Enter s x ∷ []) ≡ sealed_in count inodes k us (map Seal l)
sealed_entered count inodes k us [] s x = refl
sealed_entered count inodes k us (r ∷ l) s x =
    ap (λ z. Rattle.front_laws.specs.Batches.sealed_of count inodes r (suc k) (Rattle.std.specs.Prelude.reverse (Rattle.stream_cuts.specs.Streams.of_stream r us)) ∷ z)
    (sealed_entered count inodes (suc k) (Rattle.stream_cuts.specs.Streams.without r us) l s x)

abbrev light_cost : ℕ → Charge
light_cost rows = record { weight = 512; gave_blocks = 0; gave_rows = rows }

-- no command that sets a stream makes an update
same_choices : (sizes : Sizes) (n : Now) (cs : List Choice) (actor : ℕ) (c : Command) (u : Update) → (answer sizes n actor c).1 ≡ Some u → choices_by cs actor c ≡ cs
same_choices sizes n cs actor (commands.SetStream stream ignore) u is = absurd (cc)
same_choices sizes n cs actor (commands.Mkdir path) u is = refl
same_choices sizes n cs actor (commands.Create path) u is = refl
same_choices sizes n cs actor (commands.Unlink path) u is = refl
same_choices sizes n cs actor (commands.Rmdir path) u is = refl
same_choices sizes n cs actor (commands.Rename path to) u is = refl
same_choices sizes n cs actor (commands.Stat path) u is = refl
same_choices sizes n cs actor (commands.List path skip) u is = refl
same_choices sizes n cs actor (commands.Write path off bytes) u is = refl
same_choices sizes n cs actor (commands.Resize path size) u is = refl
same_choices sizes n cs actor (commands.Read path off size) u is = refl
same_choices sizes n cs actor (commands.OpenFile path) u is = refl
same_choices sizes n cs actor (commands.HWrite handle off bytes) u is = refl
same_choices sizes n cs actor (commands.HRead handle off size) u is = refl
same_choices sizes n cs actor (commands.Close handle) u is = refl
same_choices sizes n cs actor commands.Space u is = refl
same_choices sizes n cs actor commands.StreamSync u is = refl
same_choices sizes n cs actor (commands.Fsync handle) u is = refl
same_choices sizes n cs actor commands.Sync u is = refl
same_choices sizes n cs actor commands.Flush u is = refl

module _ (sizes : Sizes) (t : Rows) (h : List Entry) (actor : ℕ) (c : Command) (old new : State) (before mid : Pending) (plan : Plan) (u : Update) (entering : Entering) (i : ℕ)
    (st : IsStateOf sizes t h old) (planned : IsPlanOf sizes (now_of sizes t h) (entry_of sizes (now_of sizes t h) actor c) plan)
    (is : (entry_of sizes (now_of sizes t h) actor c).update ≡ Some u)
    (told : IsEnteringOf sizes.inodes (with_inode (Some u) i old.inodes.items) plan.stream u entering) where
  abbrev n : Now
  n = now_of sizes t h

  abbrev e : Entry
  e = entry_of sizes n actor c

  abbrev all : List ℕ
  all = with_inode (Some u) i old.inodes.items

  abbrev rest : List (ℕ × Charged)
  rest = unsealed_after n.unsealed (map Seal (sealed_by plan))

  abbrev cost : Charge
  cost = charge n.tree u

  module _ (kept : IsKept sizes t all (h ++ e ∷ []))
      (left_unsealed : (entered_by sizes n e).unsealed ≡ (e.stream, (u, cost)) ∷ rest)
      (as_before : IsAsBefore old.pending before) (sealed : AreSealed before (sealed_by plan) mid) (entered : HasEntered entering u all mid new.pending)
      (last : MakesTheLast sizes.inodes all n.tree rest u) (have : HaveInodes sizes.inodes all n.tree) (owned : AreOwned all n.tree n.unsealed)
      (longer : IsPendingOf sizes.inodes all n.tree n.unsealed old.pending) (weighs : weight_kept cost (length (dropped u)))
      (new_tree : new.tree ≡ apply old.tree u) (new_next : new.next ≡ old.next + makes u) (new_streams : new.streams ≡ old.streams) (new_inodes : new.inodes.items ≡ all) where
    few : before.txns.seals + length (sealed_by plan) < 2 ^ 64
    few = let a = seals_below sizes t h old st in let b = few_sealed plan in let d = as_before.seals in omega (arith, a, b, d)

    steps : steps_by sizes n e ≡ map Seal (sealed_by plan) ++ Enter e.stream (u, cost) ∷ []
    steps = planned.steps ∙ ap (λ o. map Seal (sealed_by plan) ++ entered_step n.tree e.stream o) is

    at_first : IsPendingOf sizes.inodes all n.tree n.unsealed before
    at_first = as_before.kept sizes.inodes all n.tree n.unsealed longer

    weighs_here : weight_kept cost entering.gave_rows
    weighs_here = weighs ∙ ap light_cost (sym told.rows)

    at_last : IsPendingOf sizes.inodes all (apply n.tree u) ((entering.stream, (u, cost)) ∷ rest) new.pending
    at_last = entered.kept sizes.inodes n.tree rest cost (known sizes t h old st).plain.tree have (owned_after all n.tree n.unsealed (sealed_by plan) owned)
        (planned.ready u is).fits (planned.built u is) last weighs_here told.recs told.ops (sealed.kept sizes.inodes all n.tree n.unsealed owned at_first)

    here : entering.stream ≡ e.stream
    here = told.stream_ ∙ planned.stream

    pending : IsPendingOf sizes.inodes new.inodes.items (tree_by n.tree e.update) (entered_by sizes n e).unsealed new.pending
    pending =
        subst (λ z. IsPendingOf sizes.inodes z (tree_by n.tree e.update) (entered_by sizes n e).unsealed new.pending) (sym new_inodes)
        (subst (λ o. IsPendingOf sizes.inodes all (tree_by n.tree o) (entered_by sizes n e).unsealed new.pending) (sym is)
        (subst (λ l. IsPendingOf sizes.inodes all (apply n.tree u) l new.pending) (sym left_unsealed)
        (subst (λ s. IsPendingOf sizes.inodes all (apply n.tree u) ((s, (u, cost)) ∷ rest) new.pending) here at_last)))

    left : IsLeft sizes (entered_by sizes n e) new
    left = record {
      tree = new_tree ∙ ap (λ z. apply z u) st.left.tree ∙ sym (ap (tree_by n.tree) is);
      next = new_next ∙ ap (λ z. z + makes u) st.left.next ∙ sym (ap (λ o. n.next + made_by o) is);
      streams = λ a l. ap (λ z. slice_index z a) new_streams ∙ st.left.streams a l ∙ sym (ap (λ z. stream_in z a) (same_choices sizes n n.choices actor c u is));
      pending = pending;
      seals = entered.seals ∙ sealed.seals few ∙ ap (λ z. z + length (sealed_by plan)) (as_before.seals ∙ st.left.seals)
          ∙ ap (λ z. n.seals + z) (sym (ap closes steps ∙ closes_entered (sealed_by plan) e.stream (u, cost)));
    }

    listed : with_inode e.update i old.inodes.items ≡ new.inodes.items
    listed = ap (λ o. with_inode o i old.inodes.items) is ∙ sym new_inodes

    pub made_some : IsMade sizes t h e old new
    made_some = record {
      kept = subst (λ z. IsKept sizes t z (h ++ e ∷ [])) (sym new_inodes) kept;
      left = subst (λ z. IsLeft sizes z new) (sym (now_more sizes (start t) h e)) left;
      inodes = (i, sym listed);
      queue = entered.queue ∙ sealed.queue sizes.inodes all n.tree n.unsealed owned at_first few
          ∙ ap (λ z. z ++ sealed_in sizes.inodes all before.txns.seals n.unsealed (map Seal (sealed_by plan))) as_before.queue
          ∙ ap (λ z. old.pending.txns.queue ++ sealed_in sizes.inodes all z n.unsealed (map Seal (sealed_by plan))) (as_before.seals ∙ st.left.seals)
          ∙ ap (λ z. old.pending.txns.queue ++ sealed_in sizes.inodes z n.seals n.unsealed (map Seal (sealed_by plan))) (sym new_inodes)
          ∙ ap (λ z. old.pending.txns.queue ++ z)
          (sym (ap (sealed_in sizes.inodes new.inodes.items n.seals n.unsealed) steps ∙ sealed_entered sizes.inodes new.inodes.items n.seals n.unsealed (sealed_by plan) e.stream (u, cost)));
    }
