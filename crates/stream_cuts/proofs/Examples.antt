-- The example of the definitions' comments, computed: 10 enters stream 1, 20 enters stream 2, stream 1 is sealed, 11 enters stream 1, and
-- stream 2 is sealed.
use Rattle.std.proofs.Common.{◌≡◌, ℕ, ◌+◌, ◌<◌, List, [], ◌∷◌, refl, arith}
use Rattle.std.specs.Prelude.{true, false}
use Rattle.stream_cuts.specs.Streams.{Step, Enter, Seal, no_counts, with_count, entered, unsealed_after, IsGuarded}
use Rattle.stream_cuts.specs.Cuts.{kept, lost, IsClosed, seals, cut_at, batch}
use Rattle.stream_cuts.specs.States.{state_at}
use Rattle.stream_cuts.specs.Forced.{entering, sealing, streams}

abbrev steps : List (Step ℕ)
steps = Enter 1 10 ∷ Enter 2 20 ∷ Seal 1 ∷ Enter 1 11 ∷ Seal 2 ∷ []

its_updates : entered steps ≡ (1, 10) ∷ (2, 20) ∷ (1, 11) ∷ []
its_updates = refl

its_seals : seals steps ≡ (1, 1) ∷ (2, 1) ∷ []
its_seals = refl

its_unsealed : unsealed_after [] steps ≡ (1, 11) ∷ []
its_unsealed = refl

kept_at_none : kept (entered steps) (cut_at steps 0) ≡ []
kept_at_none = refl

kept_at_one : kept (entered steps) (cut_at steps 1) ≡ (1, 10) ∷ []
kept_at_one = refl

kept_at_two : kept (entered steps) (cut_at steps 2) ≡ (1, 10) ∷ (2, 20) ∷ []
kept_at_two = refl

lost_at_two : lost (entered steps) (cut_at steps 2) ≡ (1, 11) ∷ []
lost_at_two = refl

first_batch : batch steps 0 ≡ (1, 10) ∷ []
first_batch = refl

second_batch : batch steps 1 ≡ (2, 20) ∷ []
second_batch = refl

-- a state that is the sum of its updates
sum_at_two : state_at (λ t u. t + u) 5 steps 2 ≡ 35
sum_at_two = refl

-- where all updates meet, 20 seals stream 1 before it enters stream 2, and a second one of stream 1 seals nothing
forces_another : entering {U = ℕ} (λ u v. true) 2 20 false ((1, 10) ∷ []) ≡ Seal 1 ∷ Enter 2 20 ∷ []
forces_another = refl

forces_none : entering {U = ℕ} (λ u v. true) 1 11 false ((1, 10) ∷ []) ≡ Enter 1 11 ∷ []
forces_none = refl

own_behind : entering {U = ℕ} (λ u v. true) 2 20 true ((1, 10) ∷ (2, 21) ∷ (0, 9) ∷ []) ≡ Seal 0 ∷ Seal 1 ∷ Seal 2 ∷ Enter 2 20 ∷ []
own_behind = refl

-- an own stream with nothing unsealed gives no seal
own_empty : entering {U = ℕ} (λ u v. false) 2 20 true ((1, 10) ∷ []) ≡ Enter 2 20 ∷ []
own_empty = refl

all_sealed : sealing {U = ℕ} streams ((7, 10) ∷ (3, 20) ∷ []) ≡ Seal 3 ∷ Seal 7 ∷ []
all_sealed = refl

abbrev AllMeet : ℕ → ℕ → Type 0
AllMeet u v = Unit {0}

-- where all meet, the steps are not guarded, and the cut that keeps 20 without 10 isn't closed
not_guarded : IsGuarded AllMeet [] steps → ⊥
not_guarded g = g.1.0.0 (omega arith) tt

not_closed : IsClosed AllMeet (entered steps) (with_count no_counts 2 1) → ⊥
not_closed k = let bad : 0 < 0 = k [] [] ((1, 11) ∷ []) (1, 10) (2, 20) refl (omega arith) tt (omega arith) in omega arith
