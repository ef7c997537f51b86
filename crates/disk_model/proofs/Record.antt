-- The record that a disk in memory keeps, which grows at its end and is read backwards.
use Rattle.std.proofs.Common.{◌≡◌, ℕ, ◌-◌, List, [], ◌∷◌, ◌++◌, reverse, ◌∙◌, ap, min, length, take, replicate, arith}
use Rattle.std.proofs.lemmas.List.{reverse-append, take_min}
use Rattle.disk_model.specs.Bytes.{resized}

pub reverse_push : {X : Type 0} (now was : List X) (x : X) → now ≡ was ++ x ∷ [] → reverse now ≡ x ∷ reverse was
reverse_push now was x is = ap reverse is ∙ reverse-append was (x ∷ [])

-- what `resize` makes
pub resized_by_parts : (old : List ℕ) (size both : ℕ) → both ≡ min size (length old) → take both old ++ replicate (size - both) 0 ≡ resized old size
resized_by_parts old size both is =
    let front : take both old ≡ take size old = ap (λ (k : ℕ). take k old) is ∙ take_min size old in
    let back : size - both ≡ size - length old = omega arith in
    ap (λ (l : List ℕ). l ++ replicate (size - both) 0) front ∙ ap (λ (k : ℕ). take size old ++ replicate k 0) back
