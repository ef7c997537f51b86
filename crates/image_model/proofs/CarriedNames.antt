-- The names of files in the orphan directory.
use Rattle.std.proofs.Common.{◌≡◌, ℕ, ◌+◌, ◌%◌, ◌^◌, ◌<◌, ◌≤◌, List, [], ◌∷◌, length, refl, ◌∙◌, arith}
use Rattle.std.specs.Prelude.{true, ◌&&◌, not, ◌==◌, nat_le, decimal}
use Rattle.std.specs.List.{list_all}
use Rattle.std.specs.Str.{bytes_eq}
use Rattle.std.proofs.lemmas.Bool.{and_from, le-leb, ne_eqb, not_from_false}
use Rattle.std.proofs.lemmas.Fmt.{decimal_by_steps, decimal_injective, length-decimal-le}
use Rattle.std.proofs.lemmas.List.Folds.{list_all-append}
use Rattle.ccfs_base.specs.Names.{is_name_byte, is_name}
use Rattle.image_model.specs.Changes.{orphan_name}

digit : (n : ℕ) → n < 10 → is_name_byte (48 + n) ≡ true
digit n h =
    and_from (nat_le 33 (48 + n)) (nat_le (48 + n) 126 && not (48 + n == 47)) (le-leb 33 (48 + n) (omega arith))
    (and_from (nat_le (48 + n) 126) (not (48 + n == 47)) (le-leb (48 + n) 126 (omega arith)) (not_from_false (48 + n == 47) (ne_eqb (48 + n) 47 (λ e. omega arith))))

one_digit : (n : ℕ) → n < 10 → list_all is_name_byte ((48 + n) ∷ []) ≡ true
one_digit n h = and_from (is_name_byte (48 + n)) true (digit n h) refl

all_digits : (n : ℕ) → n < 2 ^ 64 → list_all is_name_byte (decimal n) ≡ true
all_digits n h = decimal_by_steps (λ k ds. list_all is_name_byte ds ≡ true) one_digit
    (λ k ds least all. list_all-append is_name_byte ds ((48 + k % 10) ∷ [])
    ∙ and_from (list_all is_name_byte ds) (list_all is_name_byte ((48 + k % 10) ∷ [])) all (one_digit (k % 10) (omega arith))) n h

pub orphan_is_name : (n : ℕ) → n < 2 ^ 32 → is_name (orphan_name n) ≡ true
orphan_is_name n h =
    let short : length (decimal n) ≤ 10 = length-decimal-le 10 n (omega arith) (omega arith) (omega arith) in
    let text : List ℕ = decimal n in
    let bytes : (list_all is_name_byte (orphan_name n) && (not (bytes_eq (orphan_name n) (46 ∷ [])) && not (bytes_eq (orphan_name n) (46 ∷ 46 ∷ [])))) ≡ true
    = and_from (list_all is_name_byte (orphan_name n)) true (all_digits n (omega arith)) refl in
    and_from (nat_le 1 (length (orphan_name n))) _ (le-leb 1 (length (orphan_name n)) (omega arith))
    (and_from (nat_le (length (orphan_name n)) 64) _ (le-leb (length (orphan_name n)) 64 (omega arith)) bytes)

pub orphans_differ : (m n : ℕ) → m < 2 ^ 64 → n < 2 ^ 64 → orphan_name m ≡ orphan_name n → m ≡ n
orphans_differ m n h k e = decimal_injective m n h k (let z : decimal m ≡ decimal n = cc in z)
