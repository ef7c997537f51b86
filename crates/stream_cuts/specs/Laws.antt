-- The laws of cuts, over any states and updates; t is the state at the start. The example is that of Streams.
use Rattle.std.specs.Prelude.{◌≡◌, ℕ, suc, ◌+◌, ◌≤◌, Bool, true, List, [], ◌∷◌, ◌++◌, take, length, reverse}
use Rattle.stream_cuts.specs.Streams.{Step, Seal, entered, of_stream, unsealed_after, IsGuarded}
use Rattle.stream_cuts.specs.Cuts.{kept, lost, IsClosed, seals, cut_at, batch}
use Rattle.stream_cuts.specs.States.{after, state_at, AllApply, Swaps}
use Rattle.stream_cuts.specs.Forced.{streams, Numbered, entering, sealing}
use Rattle.stream_cuts.specs.Amounts.{sum_over, lost_total, gained, given, Steady}

module _ (U : Type 0) where
  -- The seals that an update forces guard its entry: behind them no other stream has an unsealed update that meets it.
  abbrev pub ForcedSealsGuard : Type 0
  ForcedSealsGuard = (meets : U → U → Bool) (s : ℕ) (u : U) (own : Bool) (unsealed : List (ℕ × U))
      → Numbered unsealed → IsGuarded (λ a b. meets a b ≡ true) unsealed (entering meets s u own unsealed)

  -- Sealing all streams leaves nothing unsealed: with (1, a), (2, b) unsealed it is Seal 1, Seal 2.
  abbrev pub SealingAllLeavesNone : Type 0
  SealingAllLeavesNone = (unsealed : List (ℕ × U)) → Numbered unsealed → unsealed_after unsealed (sealing streams unsealed) ≡ []

  -- The batch of a seal of the stream s, with the steps l before it and k behind it, is what l leaves unsealed of s, in
  -- the order of entry (unsealed_after has the last first).
  abbrev pub BatchOfSeal : Type 0
  BatchOfSeal = (l k : List (Step U)) (s : ℕ)
      → batch (l ++ Seal s ∷ k) (length (seals l)) ≡ reverse (of_stream s (unsealed_after [] l))

  -- Where nothing is unsealed, the cut after all seals keeps every update: so after Enter 1 a, Seal 1.
  abbrev pub AllIsKept : Type 0
  AllIsKept = (l : List (Step U)) → unsealed_after [] l ≡ [] → kept (entered l) (cut_at l (length (seals l))) ≡ entered l

  -- The unsealed updates come to what the cut after all seals has lost, in any amount: in the example both are f (1, d).
  abbrev pub UnsealedAreLost : Type 0
  UnsealedAreLost = (f : (ℕ × U) → ℕ) (l : List (Step U))
      → sum_over f (unsealed_after [] l) ≡ sum_over f (lost (entered l) (cut_at l (length (seals l))))

module _ {U : Type 0} (Meet : U → U → Type 0) where
  -- The cut after the first n seals of guarded steps is closed, for each n: where a meets b, none that keeps b loses a.
  abbrev pub CutsAreClosed : Type 0
  CutsAreClosed = (l : List (Step U)) (n : ℕ) → IsGuarded Meet [] l → IsClosed Meet (entered l) (cut_at l n)

module _ {S U : Type 0} (apply : S → U → S) where
  -- More steps keep the first n seals, the cut after them, what it keeps and the state at it, for each n up to the number
  -- of seals: after Enter 1 a, Seal 1 the cut of one seal keeps (1, a) alone, whatever enters later.
  abbrev pub LongerKeeps : Type 0
  LongerKeeps = (t : S) (l k : List (Step U)) (n : ℕ) → n ≤ length (seals l)
      → (take n (seals (l ++ k)) ≡ take n (seals l))
      × (cut_at (l ++ k) n ≡ cut_at l n)
      × (kept (entered (l ++ k)) (cut_at (l ++ k) n) ≡ kept (entered l) (cut_at l n))
      × (state_at apply t (l ++ k) n ≡ state_at apply t l n)

module _ {S U : Type 0} (Applies : S → U → Type 0) (apply : S → U → S) (Meet : U → U → Type 0) where
  -- The updates that a closed cut keeps apply, each at its place, and the lost ones apply behind them, with the state of
  -- the whole history at the end: of a, b, d with b lost, a and d apply, and then b.
  abbrev pub KeptApply : Type 0
  KeptApply = Swaps Applies apply Meet → (t : S) (h : List (ℕ × U)) (c : ℕ → ℕ)
      → AllApply Applies apply t h → IsClosed Meet h c
      → AllApply Applies apply t (kept h c)
      × AllApply Applies apply (after apply t (kept h c)) (lost h c)
      × (after apply (after apply t (kept h c)) (lost h c) ≡ after apply t h)

  -- The state at the next cut is the state at this one and then the updates of the next batch, each applying at its
  -- place: in the example t, then apply t a, then apply (apply t a) b.
  abbrev pub NextBatch : Type 0
  NextBatch = Swaps Applies apply Meet → (t : S) (l : List (Step U)) (n : ℕ)
      → AllApply Applies apply t (entered l) → IsGuarded Meet [] l
      → AllApply Applies apply (state_at apply t l n) (batch l n)
      × (state_at apply t l (suc n) ≡ after apply (state_at apply t l n) (batch l n))

  -- The size at a closed cut and what the lost updates gain are the size at the end and what they give up: where the
  -- size ends at 5, and the lost updates gained 2 and gave up 1, it is 4 at the cut.
  abbrev pub AmountsAtCut : Type 0
  AmountsAtCut = Swaps Applies apply Meet → (size : S → ℕ) → Steady apply size Applies Meet
      → (t : S) (h : List (ℕ × U)) (c : ℕ → ℕ) → AllApply Applies apply t h → IsClosed Meet h c
      → size (after apply t (kept h c)) + lost_total apply (gained apply size) c t h
      ≡ size (after apply t h) + lost_total apply (given apply size) c t h
