-- Images over time. An image is the whole of the bytes that a crash leaves. `left_since t c` says that a crash at some
-- moment from t on, in a call or between two calls, might have left the image c.
use Rattle.std.specs.Prelude.{◌≡◌, ◌⊎◌, ℕ, ◌≤◌, List}

-- a crash leaves these bytes and no others
abbrev pub Only : List ℕ → (List ℕ → Type 0) → Type 0
Only bytes images = (c : List ℕ) → images c → c ≡ bytes

-- Each new image comes from an old one by a step. Where the step is a torn write at 0 of 1 byte, 7 8 may come from 5 8.
abbrev pub Follows : (List ℕ → List ℕ → Type 0) → (List ℕ → Type 0) → (List ℕ → Type 0) → Type 0
Follows step old new = (c : List ℕ) → new c → (d : List ℕ) × old d × step d c

-- each step from an old image gives a new one, so that a crash may stop at any of them: the converse of `Follows`
abbrev pub Reaches : (List ℕ → List ℕ → Type 0) → (List ℕ → Type 0) → (List ℕ → Type 0) → Type 0
Reaches step old new = (d c : List ℕ) → old d → step d c → new c

-- Time goes on in a call, from the moment `before` to the moment `now`. Of a moment t up to the call's start nothing is
-- forgotten, and nothing comes but what was left since the call's start. Of an earlier moment there is no less.
pub record Elapses (before now : ℕ) (past since : ℕ → List ℕ → Type 0) : Type 0 where
  pub later : before ≤ now
  pub nothing_else : (t : ℕ) (c : List ℕ) → t ≤ before → since t c → past t c ⊎ since before c
  pub keeps : (t : ℕ) (c : List ℕ) → t ≤ before → past t c → since t c
  pub earlier : (s t : ℕ) (c : List ℕ) → s ≤ t → since t c → since s c
