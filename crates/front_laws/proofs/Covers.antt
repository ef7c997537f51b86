-- The weight of a batch is enough for what its records and its operations take.
use Rattle.std.proofs.Common.{◌≡◌, ℕ, suc, ◌+◌, ◌*◌, ◌<◌, ◌≤◌, List, [], ◌∷◌, length, refl, sym, ap, subst, ◌∙◌, arith}
use Rattle.std.specs.Prelude.{true, None, Some}
use Rattle.std.specs.List.{AllByRecursion, sum_by}
use Rattle.std.proofs.lemmas.List.{length-reverse}
use Rattle.std.proofs.lemmas.List.Sums.{sum_by-cons}
use Rattle.stream_cuts.specs.Streams.{Step, no_counts, entered, of_stream, unsealed_after}
use Rattle.stream_cuts.specs.Cuts.{seals, batch}
use Rattle.stream_cuts.proofs.Longer.{entered_append}
use Rattle.tree_model.specs.declared.rows.Entry.{Entry}
use Rattle.tree_model.specs.declared.rows.Update.{Update}
use Rattle.tree_model.specs.declared.rows.Update.TheVariants.{Make, Write, Resize, Remove, Move, Release}
use Rattle.tree_cuts.specs.Calls.{Sizes, Charged}
use Rattle.history_model.specs.State.{Now}
use Rattle.history_model.specs.Histories.{start, steps_by, entered_by, charged_in, tree_at, IsLegal}
use Rattle.update_records.specs.Built.{is_built}
use Rattle.front_laws.specs.Inodes.{AllHaveLowest}
use Rattle.front_laws.specs.Kept.{IsTame, is_answered}
use Rattle.front_laws.specs.Batches.{ops_of_all, weight_of_all, batch_at}
use Rattle.front_laws.specs.Laws.{record_size, update_size}
use Rattle.front_laws.specs.Covers.{ops_size, files_of, BatchesAreCovered}
use Rattle.front_laws.proofs.Entering.{Holds, entry_enters, all_entered, all_batch}
use Rattle.front_laws.proofs.Standing.{all_append}
use Rattle.front_laws.proofs.Weighing.{built_weight}
use Rattle.front_laws.proofs.Going.{IsGoing, going_next}
use Rattle.front_laws.proofs.KeptNow.{going_start}
use Rattle.front_laws.proofs.LongerBatches.{all_built}
use Rattle.front_laws.proofs.Cuts.{plain_seals, IsSealAt, find_seal, batch_is}
use Rattle.front_laws.proofs.BatchSizes.{batches_have_their_size}
use Rattle.front_laws.proofs.OpenSeals.{AreSealsOpen, at_seal, some_unsealed, open_along}
use Rattle.front_laws.proofs.EmptyOps.{files_empty, all_take_none, all_bare_ops}

-- ---- what the updates of a kept history weigh

abbrev pub WeighsSo : ℕ × Charged → Type 0
WeighsSo e = e.1.1.weight ≡ 512

module _ (sizes : Sizes) (inodes : List ℕ) where
  pub weigh_along : (calls : ℕ) (n : Now) (h : List Entry) → IsGoing sizes inodes calls n → IsLegal sizes n h
      → AllByRecursion (λ e. is_answered e.command ≡ true) h → AllByRecursion (λ e. IsTame e.update) h → AllHaveLowest sizes inodes n h
      → AllByRecursion WeighsSo (entered (charged_in sizes n h))
  weigh_along calls n [] g legal answered tame low = tt
  weigh_along calls n (e ∷ h) g legal answered tame low =
      subst (AllByRecursion WeighsSo) (sym (entered_append (steps_by sizes n e) (charged_in sizes (entered_by sizes n e) h)))
      (all_append WeighsSo (entered (steps_by sizes n e)) (entered (charged_in sizes (entered_by sizes n e) h))
      (entry_enters sizes WeighsSo n e.actor e.stream e.command e.reply e.update (λ u is. built_weight n.tree u g.plain (subst IsTame is tame.0).0))
      (weigh_along (suc calls) (entered_by sizes n e) h (going_next sizes inodes calls n e h g legal answered.0 tame.0 low.0) legal.2 answered.1 tame.1 low.1))

pub all_weigh : (us : List (ℕ × Charged)) → AllByRecursion WeighsSo us → weight_of_all us ≡ 512 * length us
all_weigh [] a = refl
all_weigh (e ∷ us) a = let ih = all_weigh us a.1 in let w = a.0 in omega (arith, ih, w)

-- ---- what their records take

few_bytes : (u : Update) → update_size u ≤ 170
few_bytes (Make dir name id is_dir) = omega arith
few_bytes (Write id off bytes) = omega arith
few_bytes (Resize id len) = omega arith
few_bytes (Remove dir name id stays) = omega arith
few_bytes (Move dir name to_dir to_name id is_dir None stays) = omega arith
few_bytes (Move dir name to_dir to_name id is_dir (Some x) stays) = omega arith
few_bytes (Release id) = omega arith

all_few : (us : List (ℕ × Charged)) → sum_by (λ e. update_size e.1.0) us ≤ 170 * length us
all_few [] = omega arith
all_few (e ∷ us) = let ih = all_few us in let first = few_bytes e.1.0 in omega (arith, ih, first, sum_by-cons (λ (d : ℕ × Charged). update_size d.1.0) e us)

-- ---- how many they are

some_updates : (l : List (Step Charged)) (k : ℕ) → AreSealsOpen [] l → k < length (seals l) → 1 ≤ length (batch l k)
some_updates l k open_ones less =
    let w : IsSealAt no_counts l k = find_seal no_counts l k less in
    let left : List (ℕ × Charged) = unsealed_after [] w.0 in
    let some : 1 ≤ length (of_stream w.1 left) = some_unsealed w.1 left (at_seal [] w.0 w.1 w.2 (subst (AreSealsOpen []) w.3 open_ones)) in
    let is : length (batch l k) ≡ length (of_stream w.1 left) = ap length (batch_is l k w) ∙ length-reverse (of_stream w.1 left) in
    omega arith

-- ---- the law

enough : (r o w n : ℕ) → r ≤ 170 * n → o ≡ 0 → w ≡ 512 * n → 1 ≤ n → 64 + r + o ≤ w
enough r o w n few none weigh some = omega arith

pub batches_are_covered : BatchesAreCovered
batches_are_covered sizes t inodes h k v kept less carried =
    let l : List (Step Charged) = charged_in sizes (start t) h in
    let us : List (ℕ × Charged) = batch l k in
    let weigh : weight_of_all us ≡ 512 * length us
    = all_weigh us (all_batch WeighsSo l k (weigh_along sizes inodes 0 (start t) h (going_start sizes t inodes h kept) kept.legal kept.answered kept.tame kept.lowest)) in
    let built : AllByRecursion (Holds (λ u. is_built u ≡ true)) us
    = all_batch (Holds (λ u. is_built u ≡ true)) l k (all_entered sizes (λ u. is_built u ≡ true) (start t) h (all_built h kept.tame)) in
    let taken : ops_size (files_of v) (ops_of_all inodes us) ≡ 0
    = all_take_none (files_of v) (ops_of_all inodes us) (files_empty v (tree_at sizes (start t) h k) inodes carried) (all_bare_ops inodes us built) in
    let few : sum_by record_size (batch_at sizes t inodes h k).recs ≤ 170 * length us
    = subst (λ z. z ≤ 170 * length us) (sym (batches_have_their_size sizes t inodes h k kept)) (all_few us) in
    let some : 1 ≤ length us = some_updates l k (open_along sizes (start t) h) (omega (arith, less, ap length (plain_seals no_counts l))) in
    enough (sum_by record_size (batch_at sizes t inodes h k).recs) (ops_size (files_of v) (ops_of_all inodes us)) (weight_of_all us) (length us) few taken weigh some
