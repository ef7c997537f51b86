-- From one seal to the next: the state of the next cut is the state of this one and then the updates of one batch.
use Rattle.std.proofs.Common.{◌≡◌, ℕ, zero, suc, ◌≤◌, List, [], ◌∷◌, arith, take}
use Rattle.stream_cuts.specs.Streams.{Step, Enter, Seal, no_counts, with_count, one_more, entered, IsGuarded}
use Rattle.stream_cuts.specs.Cuts.{seals_from, cut_of, cut_at, batch}
use Rattle.stream_cuts.specs.States.{after, state_at, AllApply, Swaps}
use Rattle.stream_cuts.proofs.Closed.{closed_at}
use Rattle.stream_cuts.proofs.Counts.{with_count_below, with_count_above, more_below}
use Rattle.stream_cuts.proofs.Batches.{cut_further}

cut_rises : {U : Type 0} (seen c : ℕ → ℕ) (n : ℕ) (l : List (Step U)) → ((q : ℕ) → c q ≤ seen q) → (q : ℕ) → cut_of c (take n (seals_from seen l)) q ≤ cut_of c (take (suc n) (seals_from seen l)) q
cut_rises seen c zero [] le q = omega arith
cut_rises seen c (suc n) [] le q = omega arith
cut_rises seen c n (Enter s u ∷ l) le q = cut_rises (one_more seen s) c n l (more_below c seen s le) q
cut_rises seen c zero (Seal s ∷ l) le q = with_count_above c seen s le q
cut_rises seen c (suc n) (Seal s ∷ l) le q = cut_rises seen (with_count c s (seen s)) n l (with_count_below c seen s le) q

module _ {S U : Type 0} (Applies : S → U → Type 0) (apply : S → U → S) (Meet : U → U → Type 0) (swaps : Swaps Applies apply Meet) where
  pub next_batch : (t : S) (l : List (Step U)) (n : ℕ) → AllApply Applies apply t (entered l) → IsGuarded Meet [] l
      → AllApply Applies apply (state_at apply t l n) (batch l n) × (state_at apply t l (suc n) ≡ after apply (state_at apply t l n) (batch l n))
  next_batch t l n r g =
      cut_further Applies apply Meet swaps t (entered l) (cut_at l n) (cut_at l (suc n))
      (λ q. cut_rises no_counts no_counts n l (λ p. let z : 0 ≤ no_counts p = omega arith in z) q) r (closed_at Meet l n g) (closed_at Meet l (suc n) g)
