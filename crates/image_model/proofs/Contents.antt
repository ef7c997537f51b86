-- The bytes of files, page by page.
use Rattle.std.proofs.Common.{◌≡◌, ℕ, zero, suc, ◌+◌, ◌-◌, ◌≤◌, min, List, [], ◌∷◌, ◌++◌, length, take, drop, refl, sym, ap, ◌∙◌, inl, inr, length-drop, arith}
use Rattle.std.specs.List.{range_with_len, flat_map}
use Rattle.std.proofs.lemmas.Bool.{cases_lt}
use Rattle.std.proofs.lemmas.List.{drop_all, take_all, flat_map_more}
use Rattle.image_model.proofs.Listing.{range_more}

none : (n : ℕ) → take {A = ℕ} n [] ≡ []
none zero = refl
none (suc n) = refl

-- nothing stands behind the end
past_the_end : (place size : ℕ) (xs : List ℕ) → length xs ≤ place → take (min (place + size) (length xs) - min place (length xs)) (drop (min place (length xs)) xs) ≡ take size (drop place xs)
past_the_end place size xs h =
    let from : min place (length xs) ≡ length xs = omega arith in
    ap (λ n. take (min (place + size) (length xs) - n) (drop n xs)) from
    ∙ ap (take (min (place + size) (length xs) - length xs)) (drop_all (length xs) xs (omega arith))
    ∙ none (min (place + size) (length xs) - length xs) ∙ sym (none size) ∙ sym (ap (take size) (drop_all place xs h))

-- a part that is cut at the end is the part as it is read
pub cut_to_the_end : (place size : ℕ) (xs : List ℕ) → take (min (place + size) (length xs) - min place (length xs)) (drop (min place (length xs)) xs) ≡ take size (drop place xs)
cut_to_the_end place size xs = elim (cases_lt (length xs) place) [
  | inl past ↦ past_the_end place size xs (omega arith)
  | inr within ↦
      let from : min place (length xs) ≡ place = omega arith in
      let behind = length-drop place xs in
      ap (λ n. take (min (place + size) (length xs) - n) (drop n xs)) from
      ∙ elim (cases_lt (length xs) (place + size)) [
        | inl cut ↦ take_all (min (place + size) (length xs) - place) (drop place xs) (omega arith) ∙ sym (take_all size (drop place xs) (omega arith))
        | inr whole ↦ let e : min (place + size) (length xs) - place ≡ size = omega arith in ap (λ n. take n (drop place xs)) e
      ]
]

pub a_page_more : (f : ℕ → List ℕ) (n : ℕ) (was now : List ℕ) → was ≡ flat_map f (range_with_len 0 n) → now ≡ was ++ f n → now ≡ flat_map f (range_with_len 0 (n + 1))
a_page_more f n was now is step =
    let more : n + 1 ≡ suc n = omega arith in
    let here : 0 + n ≡ n = omega arith in
    step ∙ ap (λ z. z ++ f n) is
    ∙ flat_map_more f [] (range_with_len 0 n) n
    ∙ ap (λ z. flat_map f (range_with_len 0 n ++ z ∷ [])) (sym here)
    ∙ ap (λ z. flat_map f z) (sym (range_more 0 n))
    ∙ ap (λ z. flat_map f (range_with_len 0 z)) (sym more)
