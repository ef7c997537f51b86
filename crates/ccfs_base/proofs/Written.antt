-- Bytes that are written piece by piece.
use Rattle.std.proofs.Common.{◌≡◌, ℕ, ◌+◌, ◌-◌, ◌≤◌, List, ◌++◌, length, take, drop, min, sym, ap, subst, ◌∙◌, append_assoc, arith, length-drop}
use Rattle.std.proofs.Math.Seq.{take-add, take-append_seam}
use Rattle.std.proofs.lemmas.List.{take-take, length-take-le, take-append-drop, drop-drop}

-- the next n bytes behind the first d
pub further_written : (old mid new bytes : List ℕ) (d n : ℕ) → n ≤ length bytes - d → mid ≡ old ++ take d bytes → new ≡ mid ++ take n (take (length bytes - d) (drop d bytes)) → new ≡ old ++ take (d + n) bytes
further_written old mid new bytes d n le first second =
    second ∙ ap (λ (z : List ℕ). z ++ take n (take (length bytes - d) (drop d bytes))) first ∙ append_assoc old (take d bytes) (take n (take (length bytes - d) (drop d bytes)))
    ∙ ap (λ (z : List ℕ). old ++ (take d bytes ++ z)) (take-take n (length bytes - d) (drop d bytes) le) ∙ ap (λ (z : List ℕ). old ++ z) (sym (take-add d n bytes))

-- the next k bytes behind the first p, which a read puts into the front of its place
pub record IsRead (all got : List ℕ) (p k : ℕ) : Type 0 where
  pub within : p + k ≤ length all
  pub piece : got ≡ take k (drop p all)
  pub size : length got ≡ k

pub read_is : (all got : List ℕ) (p k m : ℕ) → p ≤ length all → k ≡ min (length (take (length all - p) (drop p all))) m → got ≡ take k (take (length all - p) (drop p all)) → IsRead all got p k
read_is all got p k m le is first =
    let rest : length (take (length all - p) (drop p all)) ≡ length all - p = length-take-le (length all - p) (drop p all) (omega (arith, length-drop p all)) in
    let few : k ≤ length all - p = omega (arith, rest, is) in
    let whole : got ≡ take k (drop p all) = first ∙ take-take k (length all - p) (drop p all) few in
    record {
      within = omega (arith, few, le);
      piece = whole;
      size = ap length whole ∙ length-take-le k (drop p all) (omega (arith, few, length-drop p all));
    }

front_is : (got back : List ℕ) (k : ℕ) → length got ≡ k → take k (got ++ back) ≡ got
front_is got back k h = ap (λ (z : ℕ). take z (got ++ back)) (sym h) ∙ take-append_seam got back

pub given_more : (all got back b : List ℕ) (p k : ℕ) → IsRead all got p k → all ≡ b → take (p + k) b ≡ take p b ++ take k (got ++ back)
given_more all got back b p k h e =
    subst (λ (z : List ℕ). take (p + k) z ≡ take p z ++ take k (got ++ back)) e (take-add p k all ∙ ap (λ (z : List ℕ). take p all ++ z) (sym (front_is got back k h.size ∙ h.piece)))

pub left_less : (all got back b : List ℕ) (p k : ℕ) → IsRead all got p k → all ≡ b → drop p b ≡ take k (got ++ back) ++ drop (p + k) b
left_less all got back b p k h e =
    subst (λ (z : List ℕ). drop p z ≡ take k (got ++ back) ++ drop (p + k) z) e (sym (take-append-drop k (drop p all)) ∙ ap (λ (z : List ℕ). z ++ drop k (drop p all)) (sym (front_is got back k h.size ∙ h.piece)) ∙ ap (λ (z : List ℕ). take k (got ++ back) ++ z) (drop-drop k p all))
