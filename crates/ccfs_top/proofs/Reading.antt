-- A text that is read piece by piece.
use Rattle.std.proofs.Common.{◌≡◌, ℕ, ◌-◌, ◌≤◌, List, [], ◌++◌, length, take, min, Bool, false, true, not, if◌then◌else◌, sym, ap, ◌∙◌, append_assoc, append-nil, arith, length-append}
use Rattle.std.proofs.lemmas.List.{length-take}

-- where the part was appended, the text has it at its end
pub appended : (done failed : Bool) (new text part : List ℕ) → new ≡ (if done then text ++ part else text) → done ≡ not failed → failed ≡ false → new ≡ text ++ part
appended done failed new text part is turned ok =
    let well : done ≡ true = turned ∙ ap not ok in
    rw well at is

-- the next part behind the text
pub read_further : (left text part rest more new : List ℕ) → left ≡ text ++ rest → rest ≡ part ++ more → new ≡ text ++ part → left ≡ new ++ more
read_further left text part rest more new first second is =
    first ∙ ap (λ (z : List ℕ). text ++ z) second ∙ sym (append_assoc text part more) ∙ ap (λ (z : List ℕ). z ++ more) (sym is)

-- a part that isn't longer than what is missing doesn't lead past the most
pub few_read : (most piece wanted count : ℕ) (text place into new : List ℕ) → length text ≤ most → wanted ≡ min piece (most - length text) → count ≤ length (take wanted place) → new ≡ text ++ take count into → length new ≤ most
few_read most piece wanted count text place into new few is within grown =
    omega (arith, length-take wanted place, length-take count into, length-append text (take count into), ap length grown)

-- nothing is left behind the text
pub read_to_end : (left text rest : List ℕ) → left ≡ text ++ rest → rest ≡ [] → text ≡ left
read_to_end left text rest first none = sym (first ∙ ap (λ (z : List ℕ). text ++ z) none ∙ append-nil text)
