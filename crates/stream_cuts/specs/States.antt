-- States, and updates that apply to them.
use Rattle.std.specs.Prelude.{◌≡◌, ℕ, List, [], ◌∷◌}
use Rattle.stream_cuts.specs.Streams.{Step, entered}
use Rattle.stream_cuts.specs.Cuts.{kept, cut_at}

module _ {S U : Type 0} (apply : S → U → S) where
  -- The state after these updates, the first applied first: after (1, a), (2, b) it is apply (apply t a) b.
  abbrev pub after : S → List (ℕ × U) → S
  after t [] = t
  after t (e ∷ h) = after (apply t e.1) h

  -- The state after the updates that the cut after n seals keeps: with (1, a) kept it is apply t a.
  abbrev pub state_at : S → List (Step U) → ℕ → S
  state_at t l n = after t (kept (entered l) (cut_at l n))

module _ {S U : Type 0} (Applies : S → U → Type 0) (apply : S → U → S) where
  -- Each of these updates applies at its place: of (1, a), (2, b), a applies to t and b to apply t a.
  abbrev pub AllApply : S → List (ℕ × U) → Type 0
  AllApply t [] = Unit {0}
  AllApply t (e ∷ h) = Applies t e.1 × AllApply (apply t e.1) h

  -- Two updates that don't meet may change places: where u and then v apply, v and then u apply and give the same state.
  -- Writes to two places of a list swap, where those to one place meet.
  abbrev pub Swaps : (U → U → Type 0) → Type 0
  Swaps Meet = (t : S) (u v : U) → (Meet u v → ⊥) → Applies t u → Applies (apply t u) v
      → Applies t v × Applies (apply t v) u × (apply (apply t u) v ≡ apply (apply t v) u)
