-- Room: memory that was taken for calls to come. A call that takes memory has a twin that takes its memory alone, and puts the
-- call at the end of a list: the room.
use Rattle.std.specs.Prelude.{◌≡◌, List, [], ◌∷◌}

-- the call is the first of the room
abbrev pub IsFirst : {A : Type 0} → A → List A → Type 0
IsFirst {A} call room = (rest : List A) × (room ≡ call ∷ rest)

-- The room after a call that was answered Ok: without that call where it was the first, and else none.
pub record IsUsed {A : Type 0} (call : A) (old new : List A) : Type 0 where
  pub first : (rest : List A) → old ≡ call ∷ rest → new ≡ rest
  pub other : (IsFirst call old → ⊥) → new ≡ []
