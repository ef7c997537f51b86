-- Each batch of a kept history weighs at most the limit.
use Rattle.std.proofs.Common.{◌≡◌, ◌⊎◌, inl, inr, ℕ, ◌+◌, ◌≤◌, List, [], ◌∷◌, ◌++◌, length, map, reverse, refl, sym, ap, subst, ◌∙◌, arith}
use Rattle.std.specs.Prelude.{Bool, true, false}
use Rattle.std.specs.List.{AllByRecursion, filter}
use Rattle.std.specs.declared.option.Option.{Option}
use Rattle.std.specs.declared.option.Option.TheVariants.{None, Some}
use Rattle.std.proofs.lemmas.List.{length-reverse}
use Rattle.std.proofs.lemmas.Grind.{reverse_onto}
use Rattle.stream_cuts.specs.Streams.{Step, Enter, Seal, no_counts, of_stream, without, unsealed_after}
use Rattle.stream_cuts.specs.Cuts.{batch}
use Rattle.stream_cuts.specs.Forced.{streams, is_open, sealed_before}
use Rattle.stream_cuts.specs.Amounts.{sum_over}
use Rattle.ccfs_base.specs.Limits.{transaction_limit}
use Rattle.ccfs_base.specs.declared.commands.Command.{Command}
use Rattle.ccfs_base.specs.declared.commands.Command.TheVariants as command
use Rattle.ccfs_base.specs.declared.replies.Reply.{Reply}
use Rattle.tree_model.specs.declared.rows.Entry.{Entry}
use Rattle.tree_model.specs.declared.rows.Update.{Update}
use Rattle.tree_model.specs.Rows.{Rows}
use Rattle.tree_cuts.specs.Calls.{Sizes, Charged, charge, charged_meets, changers, seals_own, call_steps}
use Rattle.tree_cuts.proofs.Light.{IsLight, same_or_none, transactions_are_light}
use Rattle.history_model.specs.State.{Now, ignores_in, file_in, stream_in}
use Rattle.history_model.specs.Histories.{start, file_call, sync_call, calls_by, steps_by, entered_by, charged_in}
use Rattle.history_model.proofs.Longer.{now_more}
use Rattle.front_laws.specs.Kept.{now_of}
use Rattle.front_laws.specs.Batches.{weight_of_all}
use Rattle.front_laws.specs.Laws.{BatchesAreLight}
use Rattle.front_laws.proofs.Entering.{all_batch}
use Rattle.front_laws.proofs.KeptNow.{going_start, unsealed_in}
use Rattle.front_laws.proofs.Cuts.{plain_seals, IsSealAt, find_seal, batch_is}
use Rattle.front_laws.proofs.Covers.{WeighsSo, weigh_along, all_weigh}

-- ---- steps of which each seal covers little

module _ {U : Type 0} (f : (ℕ × U) → ℕ) (limit : ℕ) where
  -- at each seal of these steps, what it covers is light
  abbrev AreSealsLight : List (ℕ × U) → List (Step U) → Type 0
  AreSealsLight h [] = Unit {0}
  AreSealsLight h (Enter s u ∷ l) = AreSealsLight ((s, u) ∷ h) l
  AreSealsLight h (Seal s ∷ l) = IsLight f limit s h × AreSealsLight (without s h) l

  abbrev AllLight : List (ℕ × U) → Type 0
  AllLight h = (q : ℕ) → IsLight f limit q h

  light_append : (h : List (ℕ × U)) (l k : List (Step U)) → AreSealsLight h l → AreSealsLight (unsealed_after h l) k → AreSealsLight h (l ++ k)
  light_append h [] k a b = b
  light_append h (Enter s u ∷ l) k a b = light_append ((s, u) ∷ h) l k a b
  light_append h (Seal s ∷ l) k a b = (a.0, light_append (without s h) l k a.1 b)

  light_without : (r : ℕ) (h : List (ℕ × U)) → AllLight h → AllLight (without r h)
  light_without r h all q = elim (same_or_none q (r ∷ []) h) [
    | inl e ↦ subst (λ z. (sum_over f z ≤ limit) ⊎ (length z ≡ 1)) (sym e) (all q)
    | inr e ↦ inl (subst (λ z. sum_over f z ≤ limit) (sym e) (let z : 0 ≤ limit = omega arith in z))
  ]

  light_seals : (rs : List ℕ) (h : List (ℕ × U)) → AllLight h → AreSealsLight h (map Seal rs)
  light_seals [] h all = tt
  light_seals (r ∷ rs) h all = (all r, light_seals rs (without r h) (light_without r h all))

  light_enter : (rs : List ℕ) (h : List (ℕ × U)) (s : ℕ) (u : U) → AllLight h → AreSealsLight h (map Seal rs ++ Enter s u ∷ [])
  light_enter [] h s u all = tt
  light_enter (r ∷ rs) h s u all = (all r, light_enter rs (without r h) s u (light_without r h all))

  light_at : (h : List (ℕ × U)) (first : List (Step U)) (s : ℕ) (rest : List (Step U)) → AreSealsLight h (first ++ Seal s ∷ rest) → IsLight f limit s (unsealed_after h first)
  light_at h [] s rest a = a.0
  light_at h (Enter q u ∷ first) s rest a = light_at ((q, u) ∷ h) first s rest a
  light_at h (Seal q ∷ first) s rest a = light_at (without q h) first s rest a.1

-- ---- sums

module _ {U : Type 0} (f : ℕ × U → ℕ) where
  sum_last : (h : List (ℕ × U)) (e : ℕ × U) → sum_over f (h ++ e ∷ []) ≡ sum_over f h + f e
  sum_last [] e = (let z : f e + 0 ≡ 0 + f e = omega arith in z)
  sum_last (d ∷ h) e = let r = sum_last h e in (let z : f d + sum_over f (h ++ e ∷ []) ≡ f d + sum_over f h + f e = omega (arith, r) in z)

  pub sum_reverse : (h : List (ℕ × U)) → sum_over f (reverse h) ≡ sum_over f h
  sum_reverse [] = refl
  sum_reverse (e ∷ h) =
      ap (sum_over f) (reverse_onto h e []) ∙ sum_last (reverse h) e ∙ ap (λ z. z + f e) (sum_reverse h)
      ∙ (let z : sum_over f h + f e ≡ f e + sum_over f h = omega arith in z)

-- ---- those of a history

abbrev its_weight : (ℕ × Charged) → ℕ
its_weight e = e.1.1.weight

module _ (sizes : Sizes) where
  file_light : (t : Rows) (h : List (ℕ × Charged)) (b : Bool) (o : Option ℕ) → AllLight its_weight transaction_limit h
      → AreSealsLight its_weight transaction_limit h (call_steps sizes t h (file_call b o))
  file_light t h true o all = tt
  file_light t h false None all = tt
  file_light t h false (Some x) all = light_seals its_weight transaction_limit (filter (is_open h) (changers x h)) h all

  sync_light : (n : Now) (actor : ℕ) (c : Command) → AllLight its_weight transaction_limit n.unsealed
      → AreSealsLight its_weight transaction_limit n.unsealed (call_steps sizes n.tree n.unsealed (sync_call n actor c))
  sync_light n actor command.StreamSync all = light_seals its_weight transaction_limit (filter (is_open n.unsealed) (stream_in n.choices actor ∷ [])) n.unsealed all
  sync_light n actor (command.Fsync handle) all = file_light n.tree n.unsealed (ignores_in n.choices actor) (file_in n.handles actor handle) all
  sync_light n actor command.Sync all = light_seals its_weight transaction_limit (filter (is_open n.unsealed) streams) n.unsealed all
  sync_light n actor c all = tt

  entry_light : (n : Now) (actor stream : ℕ) (c : Command) (r : Reply) (o : Option Update) → AllLight its_weight transaction_limit n.unsealed
      → AreSealsLight its_weight transaction_limit n.unsealed (steps_by sizes n (record { actor = actor; stream = stream; command = c; reply = r; update = o }))
  entry_light n actor stream c r None all = sync_light n actor c all
  entry_light n actor stream c r (Some u) all =
      let m : Charged = (u, charge n.tree u) in
      light_enter its_weight transaction_limit (sealed_before charged_meets stream m (seals_own sizes n.tree n.unsealed stream u) n.unsealed) n.unsealed stream m all

  module _ (t : Rows) where
    all_light : (g : List Entry) → AllLight its_weight transaction_limit (now_of sizes t g).unsealed
    all_light g q = subst (IsLight its_weight transaction_limit q) (unsealed_in sizes t g) (transactions_are_light sizes t (calls_by sizes (start t) g) q)

    light_along : (g h : List Entry) → AreSealsLight its_weight transaction_limit (now_of sizes t g).unsealed (charged_in sizes (now_of sizes t g) h)
    light_along g [] = tt
    light_along g (e ∷ h) =
        let n : Now = now_of sizes t g in
        light_append its_weight transaction_limit n.unsealed (steps_by sizes n e) (charged_in sizes (entered_by sizes n e) h)
        (entry_light n e.actor e.stream e.command e.reply e.update (all_light g))
        (subst (λ (z : Now). AreSealsLight its_weight transaction_limit z.unsealed (charged_in sizes z h)) (now_more sizes (start t) g e) (light_along (g ++ e ∷ []) h))

-- ---- the law

-- what weighs 512 each, and in all at most the limit or is one, weighs at most the limit
little : (us : List (ℕ × Charged)) → AllByRecursion WeighsSo us → (weight_of_all us ≤ transaction_limit) ⊎ (length us ≡ 1) → weight_of_all us ≤ transaction_limit
little us all (inl le) = le
little us all (inr one) = let w = all_weigh us all in omega (arith, w, one)

pub batches_are_light : BatchesAreLight
batches_are_light sizes t inodes h k kept less =
    let l : List (Step Charged) = charged_in sizes (start t) h in
    let us : List (ℕ × Charged) = batch l k in
    let all : AllByRecursion WeighsSo us
    = all_batch WeighsSo l k (weigh_along sizes inodes 0 (start t) h (going_start sizes t inodes h kept) kept.legal kept.answered kept.tame kept.lowest) in
    let w : IsSealAt no_counts l k = find_seal no_counts l k (omega (arith, less, ap length (plain_seals no_counts l))) in
    let left : List (ℕ × Charged) = of_stream w.1 (unsealed_after [] w.0) in
    let is : us ≡ reverse left = batch_is l k w in
    let light : IsLight its_weight transaction_limit w.1 (unsealed_after [] w.0)
    = light_at its_weight transaction_limit [] w.0 w.1 w.2 (subst (AreSealsLight its_weight transaction_limit []) w.3 (light_along sizes t [] h)) in
    little us all (elim light [
      | inl le ↦ inl (subst (λ z. weight_of_all z ≤ transaction_limit) (sym is) (subst (λ z. z ≤ transaction_limit) (sym (sum_reverse its_weight left)) le))
      | inr one ↦ inr (ap length is ∙ length-reverse left ∙ one)
    ])
