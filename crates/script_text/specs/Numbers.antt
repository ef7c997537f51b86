-- Numbers, as a script and the command line write them.
use Rattle.std.specs.Prelude.{ℕ, ◌+◌, ◌-◌, ◌*◌, List, Bool, ◌&&◌, cond, nat_le, length, fold, Option, Some, None}
use Rattle.std.specs.List.{list_all}

-- a decimal digit, from `0` (48) to `9` (57)
abbrev pub is_digit : ℕ → Bool
is_digit b = nat_le 48 b && nat_le b 57

-- 1 to 20 decimal digits: `007` is a number, `` and `7a` are none
abbrev pub is_number : List ℕ → Bool
is_number word = nat_le 1 (length word) && (nat_le (length word) 20 && list_all is_digit word)

-- the value of decimal digits: 7 of `007`
abbrev pub value_of : List ℕ → ℕ
value_of digits = fold (λ value digit. 10 * value + (digit - 48)) 0 digits

-- the number that a word spells, if it is one
abbrev pub number_of : List ℕ → Option ℕ
number_of word = cond (is_number word) (Some (value_of word)) None
