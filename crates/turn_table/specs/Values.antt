-- What the values under the turns stand for, and small words for lists and numbers.
use Rattle.std.specs.Prelude.{ℕ, ◌==◌, List, [], ◌∷◌, drop, length, if◌then◌else◌}

-- P holds of each of these
abbrev pub Each : {A : Type 0} → (A → Type 0) → List A → Type 0
Each P [] = Unit {0}
Each P (x ∷ xs) = P x × Each P xs

-- the entries of one caller, in their order: of those of the callers 0, 1, 0 caller 0 has the first
-- and the third
abbrev pub of_caller : {E : Type 0} → (E → ℕ) → ℕ → List E → List E
of_caller caller c [] = []
of_caller caller c (e ∷ es) = if caller e == c then e ∷ of_caller caller c es else of_caller caller c es

-- of two beginnings of one list, the longer
abbrev pub longer : {E : Type 0} → List E → List E → List E
longer [] ys = ys
longer (x ∷ xs) [] = x ∷ xs
longer (x ∷ xs) (y ∷ ys) = x ∷ longer xs ys

-- the first number where it isn't 0, else the second
abbrev pub or_else : ℕ → ℕ → ℕ
or_else m n = if m == 0 then n else m

-- what a front value stands for
pub record FrontMeaning (F E : Type 0) : Type 1 where
  -- the history
  pub entries : F → List E
  -- 0, or the number of a failure that stays
  pub fault : F → ℕ
  -- how many batches it handed over to the back
  pub handed : F → ℕ
  -- two values whose fixed parts agree
  pub kin : F → F → Type 0

-- what a back value stands for
pub record BackMeaning (B E : Type 0) : Type 1 where
  -- the beginning of the history that it heard of
  pub heard : B → List E
  -- how many batches it wrote
  pub written : B → ℕ
  -- how many batches were handed over to it, the written ones among them
  pub due : B → ℕ
  -- 0, or the number of a failure that stays
  pub fault : B → ℕ
  -- two values whose fixed parts agree
  pub kin : B → B → Type 0

-- the entries of a caller past those that the first value had
abbrev pub calls_of : {F E : Type 0} → FrontMeaning F E → (E → ℕ) → F → ℕ → List E → List E
calls_of M caller first c log = of_caller caller c (drop (length (M.entries first)) log)
