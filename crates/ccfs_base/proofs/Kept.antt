-- How a name is kept.
use Rattle.std.proofs.Common.{◌≡◌, ℕ, ◌-◌, ◌≤◌, true, false, IsTrue, List, [], ◌∷◌, ◌++◌, length, take, drop, refl, ap, ◌∙◌, arith}
use Rattle.std.specs.Prelude.{replicate, Bool, ◌&&◌, not, nat_le}
use Rattle.std.specs.List.{list_all}
use Rattle.std.specs.Str.{bytes_eq}
use Rattle.std.proofs.lemmas.Bool.Decides.{nat_tests}
use Rattle.std.proofs.lemmas.List.{drop_at, drop-replicate}
use Rattle.std.proofs.Math.Seq.{take-append_seam}
use Rattle.ccfs_base.specs.Names.{is_name_byte, is_name, is_name_or_none}

-- behind the bytes of a name stand zeros
pub rest_zero : (xs zs : List ℕ) (n : ℕ) → length xs ≡ n → n ≤ 64 → zs ≡ replicate 64 0 → drop n (xs ++ drop n zs) ≡ replicate (64 - n) 0
rest_zero xs zs n p le q = drop_at xs (drop n zs) n p ∙ ap (drop n) q ∙ drop-replicate n 64 0

pub named : (n : List ℕ) → is_name n ≡ true → IsTrue (is_name_or_none n)
named [] h = refl
named (b ∷ bs) h = h

all_of : (a b c d e : Bool) → a ≡ true → b ≡ true → d ≡ false → e ≡ false → c ≡ (a && (b && (c && (not d && not e))))
all_of a b c d e p q r s = rw (p, q, r, s) (last c)
  where
    last : (c : Bool) → c ≡ (c && true)
    last true = refl
    last false = refl

pub name_is : (n : List ℕ) → 1 ≤ length n → length n ≤ 64 → bytes_eq n (46 ∷ []) ≡ false → bytes_eq n (46 ∷ 46 ∷ []) ≡ false → list_all is_name_byte n ≡ is_name n
name_is n some few dot dots = all_of (nat_le 1 (length n)) (nat_le (length n) 64) (list_all is_name_byte n) (bytes_eq n (46 ∷ [])) (bytes_eq n (46 ∷ 46 ∷ [])) (grind (arith, nat_tests)) (grind (arith, nat_tests)) dot dots

pub shows : (text front back : List ℕ) → front ≡ text → is_name text ≡ true → IsTrue (is_name_or_none (take (length text) (front ++ back)))
shows text front back e h = rw (e, take-append_seam text back) (named text h)

second_of : (a b c : Bool) → (a && (b && c)) ≡ true → b ≡ true
second_of true true c h = refl
second_of true false c h = cc
second_of false b c h = cc

first_of_both : (a b : Bool) → (a && b) ≡ true → a ≡ true
first_of_both true b h = refl
first_of_both false b h = h

pub name_some : (n : List ℕ) → is_name n ≡ true → 1 ≤ length n
name_some n h = let t = first_of_both (nat_le 1 (length n)) _ h in grind (arith, nat_tests)

pub name_few : (n : List ℕ) → is_name n ≡ true → length n ≤ 64
name_few n h = let t = second_of (nat_le 1 (length n)) (nat_le (length n) 64) _ h in grind (arith, nat_tests)

third_of : (a b c d : Bool) → (a && (b && (c && d))) ≡ true → c ≡ true
third_of true true true d h = refl
third_of true true false d h = h
third_of true false c d h = cc
third_of false b c d h = cc

pub name_bytes : (n : List ℕ) → is_name n ≡ true → list_all is_name_byte n ≡ true
name_bytes n h = third_of (nat_le 1 (length n)) (nat_le (length n) 64) (list_all is_name_byte n) _ h
