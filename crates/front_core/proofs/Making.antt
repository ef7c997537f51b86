-- A call without an update: what it leaves, and what it adds to the queue.
use Rattle.std.proofs.Common.{◌≡◌, ℕ, zero, suc, ◌+◌, ◌^◌, ◌<◌, ◌≤◌, List, [], ◌∷◌, ◌++◌, length, map, refl, sym, ap, subst, ◌∙◌, arith}
use Rattle.std.specs.Prelude.{Bool, true, false, cond, if◌then◌else◌, None, filter, slice_index}
use Rattle.std.specs.List.{range_with_len}
use Rattle.std.proofs.lemmas.List.{append-nil, length-append}
use Rattle.stream_cuts.specs.Streams.{Seal, unsealed_after}
use Rattle.stream_cuts.specs.Forced.{streams}
use Rattle.ccfs_base.specs.declared.commands.Command.{Command}
use Rattle.tree_model.specs.declared.rows.Entry.{Entry}
use Rattle.tree_model.specs.Rows.{Rows}
use Rattle.tree_cuts.specs.Calls.{Sizes}
use Rattle.history_model.specs.State.{Now, stream_in}
use Rattle.history_model.specs.Answers.{closes}
use Rattle.history_model.specs.Histories.{start, entry_of, entered_by, steps_by, choices_by, tree_by, made_by, MayCall}
use Rattle.history_model.proofs.Longer.{now_more}
use Rattle.cross_dep.specs.Books.{has_bit}
use Rattle.front_laws.specs.Inodes.{HasLowestIf, with_inode}
use Rattle.front_laws.specs.Kept.{IsKept, IsTame, is_answered, now_of}
use Rattle.front_laws.specs.Batches.{sealed_in}
use Rattle.front_core.specs.Pending.{IsPendingOf, IsAsBefore, AreSealed}
use Rattle.front_core.specs.Left.{IsLeft, IsStateOf, IsPlanOf, IsMade, sealed_by, entered_step}
use Rattle.front_core.specs.declared.pending.Pending.{Pending}
use Rattle.front_core.specs.declared.state.State.{State}
use Rattle.front_core.specs.declared.planning.Plan.{Plan}
use Rattle.front_core.proofs.Laws.{next_kept}
use Rattle.front_core.proofs.Planned.{closes_seals}
use Rattle.front_core.proofs.Viewed.{known, seals_below}

-- ---- at most 65 streams are sealed

few_from : (p : ℕ → Bool) (a n : ℕ) → length (filter p (range_with_len a n)) ≤ n
few_from p a zero = (let e : 0 ≤ 0 = omega arith in e)
few_from p a (suc n) = let l = few_from p (a + 1) n in
    elim (p a) as (λ b. length (cond b (a ∷ filter p (range_with_len (a + 1) n)) (filter p (range_with_len (a + 1) n))) ≤ suc n) [ true ↦ omega (arith, l) | false ↦ omega (arith, l) ]

few_own : (b : Bool) (s : ℕ) → length (if b then s ∷ [] else []) ≤ 1
few_own true s = (let e : 1 ≤ 1 = omega arith in e)
few_own false s = (let e : 0 ≤ 1 = omega arith in e)

pub few_sealed : (plan : Plan) → length (sealed_by plan) ≤ 65
few_sealed plan =
    let a = few_from (has_bit plan.forced) 0 64 in
    let b = few_own plan.own plan.stream in
    let e = length-append (filter (has_bit plan.forced) streams) (if plan.own then plan.stream ∷ [] else []) in
    omega (arith, a, b, e)

module _ (sizes : Sizes) (t : Rows) (h : List Entry) (actor : ℕ) (c : Command) (old new : State) (mid : Pending) (plan : Plan) (st : IsStateOf sizes t h old) (may : MayCall actor c) (answered : is_answered c ≡ true)
    (planned : IsPlanOf sizes (now_of sizes t h) (entry_of sizes (now_of sizes t h) actor c) plan)
    (none : (entry_of sizes (now_of sizes t h) actor c).update ≡ None)
    (before : IsAsBefore old.pending mid) (sealed : AreSealed mid (sealed_by plan) new.pending)
    (same_tree : new.tree ≡ old.tree) (same_next : new.next ≡ old.next) (same_inodes : new.inodes.items ≡ old.inodes.items)
    (chosen : (a : ℕ) → a < 64 → slice_index new.streams a ≡ stream_in (choices_by (now_of sizes t h).choices actor c) a) where
  abbrev n : Now
  n = now_of sizes t h

  abbrev e : Entry
  e = entry_of sizes n actor c

  few : mid.txns.seals + length (sealed_by plan) < 2 ^ 64
  few = let a = seals_below sizes t h old st in let b = few_sealed plan in let d = before.seals in omega (arith, a, b, d)

  steps : steps_by sizes n e ≡ map Seal (sealed_by plan)
  steps = planned.steps ∙ ap (λ o. map Seal (sealed_by plan) ++ entered_step n.tree e.stream o) none ∙ append-nil (map Seal (sealed_by plan))

  at_first : IsPendingOf sizes.inodes old.inodes.items n.tree n.unsealed mid
  at_first = before.kept sizes.inodes old.inodes.items n.tree n.unsealed st.left.pending

  pending : IsPendingOf sizes.inodes new.inodes.items (tree_by n.tree e.update) (unsealed_after n.unsealed (steps_by sizes n e)) new.pending
  pending =
      subst (λ z. IsPendingOf sizes.inodes z (tree_by n.tree e.update) (unsealed_after n.unsealed (steps_by sizes n e)) new.pending) (sym same_inodes)
      (subst (λ o. IsPendingOf sizes.inodes old.inodes.items (tree_by n.tree o) (unsealed_after n.unsealed (steps_by sizes n e)) new.pending) (sym none)
      (subst (λ l. IsPendingOf sizes.inodes old.inodes.items n.tree (unsealed_after n.unsealed l) new.pending) (sym steps)
      (sealed.kept sizes.inodes old.inodes.items n.tree n.unsealed (known sizes t h old st).owned at_first)))

  left : IsLeft sizes (entered_by sizes n e) new
  left = record {
    tree = same_tree ∙ st.left.tree ∙ sym (ap (tree_by n.tree) none);
    next = same_next ∙ st.left.next ∙ (let z : n.next ≡ n.next + 0 = omega arith in z) ∙ sym (ap (λ o. n.next + made_by o) none);
    streams = chosen;
    pending = pending;
    seals = sealed.seals few ∙ ap (λ z. z + length (sealed_by plan)) (before.seals ∙ st.left.seals) ∙ ap (λ z. n.seals + z) (sym (closes_seals (sealed_by plan)) ∙ ap closes (sym steps));
  }

  listed : with_inode e.update 0 old.inodes.items ≡ new.inodes.items
  listed = ap (λ o. with_inode o 0 old.inodes.items) none ∙ sym same_inodes

  pub made_none : IsMade sizes t h e old new
  made_none = record {
    kept = subst (λ z. IsKept sizes t z (h ++ e ∷ [])) listed
        (next_kept sizes t old.inodes.items h actor c e 0 st.kept refl may answered (subst IsTame (sym none) tt)
        (subst (λ o. HasLowestIf sizes.inodes (with_inode e.update 0 old.inodes.items) n.tree (entered_by sizes n e).unsealed o) (sym none) tt));
    left = subst (λ z. IsLeft sizes z new) (sym (now_more sizes (start t) h e)) left;
    inodes = (0, sym listed);
    queue = sealed.queue sizes.inodes old.inodes.items n.tree n.unsealed (known sizes t h old st).owned at_first few
        ∙ ap (λ z. z ++ sealed_in sizes.inodes old.inodes.items mid.txns.seals n.unsealed (map Seal (sealed_by plan))) before.queue
        ∙ ap (λ z. old.pending.txns.queue ++ sealed_in sizes.inodes old.inodes.items z n.unsealed (map Seal (sealed_by plan))) (before.seals ∙ st.left.seals)
        ∙ ap (λ z. old.pending.txns.queue ++ sealed_in sizes.inodes z n.seals n.unsealed (map Seal (sealed_by plan))) (sym same_inodes)
        ∙ ap (λ z. old.pending.txns.queue ++ sealed_in sizes.inodes new.inodes.items n.seals n.unsealed z) (sym steps);
  }
