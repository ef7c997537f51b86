-- The open gates of a half when the first closed one is written over.
use Rattle.std.proofs.Common.{◌≡◌, ◌⊎◌, ⊎_elim, ℕ, ◌+◌, ◌-◌, ◌≤◌, ◌<◌, Bool, true, false, not, List, [], ◌∷◌, length, get_or, set, drop, sym, ◌∙◌, ap, arith}
use Rattle.std.specs.List.{list_any, position_or_len}
use Rattle.std.proofs.lemmas.Bool.Decides.{nat_tests}
use Rattle.std.proofs.lemmas.List.{get_or-set_same, get_or-set_other, length-set, length-drop, drop-set-lt, drop_more, get_or-drop}
use Rattle.std.proofs.lemmas.List.Sums.{position_or_len_is, fails_before_first}
use Rattle.std.proofs.lemmas.List.Folds.{position_or_len-set, list_any_at}
use Rattle.gate_journal.specs.Journal.{is_open}

abbrev pub is_closed : ℕ → Bool
is_closed gate = not (is_open gate)

same_or_less : (k n : ℕ) → k < n + 1 → (k ≡ n) ⊎ (k < n)
same_or_less k n less = grind arith

-- the first closed gate is closed
first_closed : (gates : List ℕ) → position_or_len is_closed gates < length gates → is_closed (get_or gates (position_or_len is_closed gates) 0) ≡ true
first_closed [] within = absurd (omega (arith, within))
first_closed (g ∷ gs) within = grind (arith, nat_tests, first_closed gs)

-- another closed byte there changes nothing
pub gates_stay : (gates : List ℕ) (n byte : ℕ) → position_or_len is_closed gates ≡ n → n < length gates → is_closed byte ≡ true → position_or_len is_closed (set gates n byte) ≡ n
gates_stay gates n byte first within closed =
    position_or_len-set is_closed gates n byte 0 (closed ∙ sym (ap (λ (i : ℕ). is_closed (get_or gates i 0)) (sym first) ∙ first_closed gates (omega (arith, first, within)))) ∙ first

true_is_not_false : true ≡ false → ⊥
true_is_not_false is = grind arith

closed_or_open : (gate : ℕ) → (is_closed gate ≡ true) ⊎ (is_open gate ≡ true)
closed_or_open gate = grind (arith, nat_tests)

-- no gate behind the first closed one is open
none_behind : (gates : List ℕ) (n k : ℕ) → list_any is_open (drop n gates) ≡ false → n ≤ k → k < length gates → is_closed (get_or gates k 0) ≡ true
none_behind gates n k none behind within = ⊎_elim (λ closed. closed)
    (λ opened. absurd (true_is_not_false (sym (list_any_at is_open (drop n gates) (k - n) 0 (omega (arith, length-drop n gates, behind, within)) (ap is_open (get_or-drop n gates (k - n) 0 ∙ ap (λ (i : ℕ). get_or gates i 0) (let e : n + (k - n) ≡ k = omega (arith, behind) in e)) ∙ opened)) ∙ none)))
    (closed_or_open (get_or gates k 0))

-- opened, it counts
pub gates_next : (gates : List ℕ) (n : ℕ) → position_or_len is_closed gates ≡ n → n < length gates → list_any is_open (drop n gates) ≡ false → position_or_len is_closed (set gates n 165) ≡ n + 1
gates_next gates n first within none = position_or_len_is is_closed (set gates n 165) (n + 1) 0 (omega (arith, length-set gates n 165))
    (λ k less. ⊎_elim (λ is. ap (λ (i : ℕ). is_closed (get_or (set gates n 165) i 0)) is ∙ ap is_closed (get_or-set_same gates n 165 0 within))
    (λ below. ap is_closed (get_or-set_other gates n k 165 0 (λ is. omega (arith, is, below))) ∙ fails_before_first is_closed gates k 0 (omega (arith, first, below)))
    (same_or_less k n less))
    (λ more. ap is_closed (get_or-set_other gates n (n + 1) 165 0 (λ is. omega (arith, is))) ∙ none_behind gates n (n + 1) none (omega arith) (omega (arith, length-set gates n 165, more)))

tail_none : (g : ℕ) (gs : List ℕ) → list_any is_open (g ∷ gs) ≡ false → list_any is_open gs ≡ false
tail_none g gs none = grind arith

-- and no gate behind it is open
pub none_open_behind : (gates : List ℕ) (n : ℕ) → n < length gates → list_any is_open (drop n gates) ≡ false → list_any is_open (drop (n + 1) (set gates n 165)) ≡ false
none_open_behind gates n within none =
    ap (list_any is_open) (drop-set-lt (n + 1) gates n 165 (omega arith))
    ∙ tail_none (get_or gates n 0) (drop (n + 1) gates) (ap (list_any is_open) (sym (drop_more gates n 0 within)) ∙ none)
