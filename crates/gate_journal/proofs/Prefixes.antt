-- What is read from the front of bytes.
use Rattle.std.proofs.Common.{◌≡◌, ℕ, List, ◌∷◌, ◌++◌, refl, sym, ap, length, true, false, Bool, cond}
use Rattle.std.specs.declared.option.Option.{Option}
use Rattle.std.specs.declared.option.Option.TheVariants.{None, Some}
use Rattle.std.specs.List.{All}
use Rattle.std.proofs.lemmas.Option.{some_pair_parts}
use Rattle.gate_journal.specs.Batches.{put_first}
use Rattle.gate_journal.proofs.NumberBytes.{IsByte}

-- f reads a from the front of the bytes, whatever follows it. The front is as long as the bytes that spell a, and it is
-- just these where each byte is below 256; then Q holds, and P holds always.
pub record Prefix {A : Type 0} (f : List ℕ → Option (A × List ℕ)) (bytes : List ℕ) (a : A) (rest spelt : List ℕ) (P Q : Type 0) : Type 0 where
  pub front : List ℕ
  pub whole : bytes ≡ front ++ rest
  pub again : (other : List ℕ) → f (front ++ other) ≡ Some (a, other)
  pub len : length front ≡ length spelt
  pub always : P
  pub spelled : All IsByte front → (front ≡ spelt) × Q

-- something is there only where the test is true
pub cond_then : {A : Type 0} (b : Bool) (o : Option A) (y : A) → cond b o None ≡ Some y → (b ≡ true) × (o ≡ Some y)
cond_then true o y p = (refl, p)
cond_then false o y p = absurd (cc)

-- what was put in front of, and what was read behind it
pub put_from : {A : Type 0} (a : A) (o : Option (List A × List ℕ)) (all : List A) (rest : List ℕ) → put_first a o ≡ Some (all, rest) → (others : List A) × (o ≡ Some (others, rest)) × (all ≡ a ∷ others)
put_from a None all rest p = absurd (cc)
put_from a (Some read) all rest p =
    let parts = some_pair_parts (a ∷ read.0) all read.1 rest p in
    (read.0, ap (λ z. Some (read.0, z)) parts.1, sym parts.0)
