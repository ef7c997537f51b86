-- The batches that one more call seals are those of its steps.
use Rattle.std.proofs.Common.{◌≡◌, ℕ, zero, suc, ◌+◌, List, [], ◌∷◌, ◌++◌, length, reverse, refl, sym, ap, ◌∙◌, arith, append-nil, append_assoc}
use Rattle.std.proofs.Math.Seq.{get_or-append_seam}
use Rattle.stream_cuts.specs.Streams.{Step, Enter, Seal, no_counts, entered, counts_after, of_stream, without, unsealed_after}
use Rattle.stream_cuts.specs.Cuts.{seals_from, seals, batch}
use Rattle.stream_cuts.proofs.Longer.{unsealed_append, seals_append}
use Rattle.stream_cuts.proofs.Laws.{batch_of_seal}
use Rattle.file_bodies.specs.declared.batches.Sealed.{Sealed}
use Rattle.tree_model.specs.declared.rows.Entry.{Entry}
use Rattle.tree_model.specs.Rows.{Rows}
use Rattle.tree_cuts.specs.Calls.{Sizes, Charged, plain}
use Rattle.tree_cuts.proofs.Plain.{plain_append}
use Rattle.history_model.specs.Answers.{closes}
use Rattle.history_model.specs.Histories.{start, charged_in, steps_by, seal_count}
use Rattle.history_model.proofs.Longer.{charged_append, unsealed_is, closes_are_seals}
use Rattle.front_laws.specs.Batches.{sealed_of, sealed_in, stream_at, batches_from}
use Rattle.front_laws.specs.Kept.{now_of}
use Rattle.front_laws.specs.Laws.{SealsMakeBatches}
use Rattle.front_laws.proofs.LongerBatches.{same_seals}

closes_append : (l k : List (Step Charged)) → closes (l ++ k) ≡ closes l + closes k
closes_append [] k = omega arith
closes_append (Enter s u ∷ l) k = closes_append l k
closes_append (Seal s ∷ l) k = let ih = closes_append l k in omega arith

-- the number of seals, with the charges and without them
plain_count : (l : List (Step Charged)) → length (seals (plain l)) ≡ closes l
plain_count l = closes_are_seals no_counts l

charged_count : (l : List (Step Charged)) → length (seals l) ≡ closes l
charged_count l = sym (ap length (same_seals no_counts l)) ∙ plain_count l

module _ (count : ℕ) (inodes : List ℕ) where
  -- the batch behind so many seals of steps, and so many from it on
  abbrev made_at : List (Step Charged) → ℕ → Sealed
  made_at l k = sealed_of count inodes (stream_at (seals (plain l)) k) (suc k) (batch l k)

  abbrev made_from : List (Step Charged) → ℕ → ℕ → List Sealed
  made_from l k zero = []
  made_from l k (suc more) = made_at l k ∷ made_from l (suc k) more

  stream_of_seal : (l k : List (Step Charged)) (s : ℕ) → stream_at (seals (plain (l ++ Seal s ∷ k))) (closes l) ≡ s
  stream_of_seal l k s =
      let seen : ℕ → ℕ = counts_after no_counts (entered (plain l)) in
      ap (λ z. stream_at (seals z) (closes l)) (plain_append l (Seal s ∷ k))
      ∙ ap (λ z. stream_at z (closes l)) (seals_append (plain l) (Seal s ∷ plain k))
      ∙ ap (λ n. stream_at (seals (plain l) ++ (s, seen s) ∷ seals_from seen (plain k)) n) (sym (plain_count l))
      ∙ ap (λ (p : ℕ × ℕ). p.0) (get_or-append_seam (seals (plain l)) (s, seen s) (seals_from seen (plain k)) (0, 0))

  made_of_seal : (l k : List (Step Charged)) (s : ℕ)
      → made_at (l ++ Seal s ∷ k) (closes l) ≡ sealed_of count inodes s (suc (closes l)) (reverse (of_stream s (unsealed_after [] l)))
  made_of_seal l k s =
      ap (λ z. sealed_of count inodes z (suc (closes l)) (batch (l ++ Seal s ∷ k) (closes l))) (stream_of_seal l k s)
      ∙ ap (sealed_of count inodes s (suc (closes l))) (ap (batch (l ++ Seal s ∷ k)) (sym (charged_count l)) ∙ batch_of_seal Charged l k s)

  -- the batches of the seals of k, behind the steps l
  made : (k l : List (Step Charged)) → made_from (l ++ k) (closes l) (closes k) ≡ sealed_in count inodes (closes l) (unsealed_after [] l) k
  made [] l = refl
  made (Enter s u ∷ k) l =
      let first : List (Step Charged) = Enter s u ∷ [] in
      let same : closes (l ++ first) ≡ closes l = closes_append l first ∙ omega arith in
      ap (λ z. made_from z (closes l) (closes k)) (sym (append_assoc l first k))
      ∙ ap (λ n. made_from ((l ++ first) ++ k) n (closes k)) (sym same)
      ∙ made k (l ++ first)
      ∙ ap (λ n. sealed_in count inodes n (unsealed_after [] (l ++ first)) k) same
      ∙ ap (λ z. sealed_in count inodes (closes l) z k) (unsealed_append [] l first)
  made (Seal s ∷ k) l =
      let first : List (Step Charged) = Seal s ∷ [] in
      let one : closes (l ++ first) ≡ suc (closes l) = closes_append l first ∙ omega arith in
      let rest : made_from (l ++ Seal s ∷ k) (suc (closes l)) (closes k) ≡ sealed_in count inodes (suc (closes l)) (without s (unsealed_after [] l)) k =
      ap (λ z. made_from z (suc (closes l)) (closes k)) (sym (append_assoc l first k))
      ∙ ap (λ n. made_from ((l ++ first) ++ k) n (closes k)) (sym one)
      ∙ made k (l ++ first)
      ∙ ap (λ n. sealed_in count inodes n (unsealed_after [] (l ++ first)) k) one
      ∙ ap (λ z. sealed_in count inodes (suc (closes l)) z k) (unsealed_append [] l first) in
      let head = made_of_seal l k s in
      λ i. head i ∷ rest i

from_steps : (sizes : Sizes) (t : Rows) (inodes : List ℕ) (h : List Entry) (k more : ℕ)
    → batches_from sizes t inodes h k more ≡ made_from sizes.inodes inodes (charged_in sizes (start t) h) k more
from_steps sizes t inodes h k zero = refl
from_steps sizes t inodes h k (suc more) = ap (λ z. made_at sizes.inodes inodes (charged_in sizes (start t) h) k ∷ z) (from_steps sizes t inodes h (suc k) more)

pub seals_make_batches : SealsMakeBatches
seals_make_batches sizes t inodes h e more kept counted =
    let l : List (Step Charged) = charged_in sizes (start t) h in
    let k : List (Step Charged) = steps_by sizes (now_of sizes t h) e in
    let whole : charged_in sizes (start t) (h ++ e ∷ []) ≡ l ++ k = charged_append sizes (start t) h (e ∷ []) ∙ ap (λ z. l ++ z) (append-nil k) in
    let before : seal_count sizes (start t) h ≡ closes l = plain_count l in
    let after_it : seal_count sizes (start t) (h ++ e ∷ []) ≡ closes l + closes k = plain_count (charged_in sizes (start t) (h ++ e ∷ [])) ∙ ap closes whole ∙ closes_append l k in
    let many : more ≡ closes k = omega (arith, counted, before, after_it) in
    from_steps sizes t inodes (h ++ e ∷ []) (seal_count sizes (start t) h) more
    ∙ ap (λ z. made_from sizes.inodes inodes z (seal_count sizes (start t) h) more) whole
    ∙ ap (λ n. made_from sizes.inodes inodes (l ++ k) n more) before
    ∙ ap (λ n. made_from sizes.inodes inodes (l ++ k) (closes l) n) many
    ∙ made sizes.inodes inodes k l
    ∙ ap (λ n. sealed_in sizes.inodes inodes n (unsealed_after [] l) k) (sym before)
    ∙ ap (λ z. sealed_in sizes.inodes inodes (seal_count sizes (start t) h) z k) (sym (unsealed_is sizes (start t) h))
