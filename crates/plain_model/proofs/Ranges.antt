-- Ranges of streams, and the seals of a list of streams.
use Rattle.std.proofs.Common.{◌≡◌, ℕ, zero, suc, ◌+◌, List, [], ◌∷◌, ◌++◌, length, map, refl, ap, ◌∙◌, arith}
use Rattle.std.specs.List.{range_with_len}
use Rattle.stream_cuts.specs.Streams.{Seal}
use Rattle.history_model.specs.Answers.{closes}

more : (a n : ℕ) → range_with_len a (suc n) ≡ range_with_len a n ++ (a + n) ∷ []
more a zero = let e : a ≡ a + 0 = omega arith in ap (λ z. z ∷ []) e
more a (suc n) =
    let e : (a + 1) + n ≡ a + suc n = omega arith in
    ap (λ l. a ∷ l) (more (a + 1) n ∙ ap (λ z. range_with_len (a + 1) n ++ z ∷ []) e)

pub range_more : (n : ℕ) → range_with_len 0 (n + 1) ≡ range_with_len 0 n ++ n ∷ []
range_more n =
    let e : n + 1 ≡ suc n = omega arith in
    let z : 0 + n ≡ n = omega arith in
    ap (λ k. range_with_len 0 k) e ∙ more 0 n ∙ ap (λ k. range_with_len 0 n ++ k ∷ []) z

-- as many seals are among the steps as streams are sealed
pub closes_seals : (U : Type 0) (l : List ℕ) → closes {U = U} (map Seal l) ≡ length l
closes_seals U [] = refl
closes_seals U (s ∷ l) = ap (λ n. suc n) (closes_seals U l)
