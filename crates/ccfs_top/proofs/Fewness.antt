-- How many calls a script has: no more than lines.
use Rattle.std.proofs.Common.{◌≡◌, ℕ, ◌+◌, ◌≤◌, false, List, [], ◌∷◌, length, subst, arith}
use Rattle.std.proofs.lemmas.Bool.{or_parts, ltb-false}
use Rattle.std.specs.Prelude.{nat_lt}
use Rattle.std.specs.declared.result.Result.{Result}
use Rattle.std.specs.declared.result.Result.TheVariants.{Ok, Err}
use Rattle.script_text.specs.Lines.{lines_of}
use Rattle.script_text.specs.Grammar.{meaning_of}
use Rattle.script_text.specs.declared.grammar.Line.{Line}
use Rattle.script_text.specs.declared.grammar.Line.TheVariants.{Skip, Call as Asks}
use Rattle.script_text.specs.declared.scripts.Call.{Call}
use Rattle.script_text.specs.Scripts.{after_line, bytes_in, calls_from, calls_of, is_long, is_text_long}

-- where there are calls, they are at most so many
abbrev IsFew : ℕ → Result (List Call) ℕ → Type 0
IsFew most (Ok calls) = length calls ≤ most
IsFew most (Err number) = Unit {0}

-- a line asks for one call at most
few_after : (number most more_most : ℕ) (line : Result Line ℕ) (more : Result (List Call) ℕ) → more_most ≡ most + 1 → IsFew most more → IsFew more_most (after_line number line more)
few_after number most more_most (Ok Skip) (Ok calls) is few = omega (arith, is, few)
few_after number most more_most (Ok Skip) (Err place) is few = tt
few_after number most more_most (Ok (Asks actor command)) (Ok calls) is few = omega (arith, is, few)
few_after number most more_most (Ok (Asks actor command)) (Err place) is few = tt
few_after number most more_most (Err place) more is few = tt

few_from : (number : ℕ) (lines : List (List ℕ)) → IsFew (length lines) (calls_from number lines)
few_from number [] = omega arith
few_from number (line ∷ lines) =
    few_after number (length lines) (length (line ∷ lines)) (meaning_of line) (calls_from (number + 1) lines) (omega arith) (few_from (number + 1) lines)

-- a script that isn't too long has at most 65,536 calls
pub few_calls : (text : List ℕ) (calls : List Call) → is_long text ≡ false → calls_of text ≡ Ok calls → length calls ≤ 65536
few_calls text calls short are =
    let by_text = or_parts (is_text_long text) (nat_lt 67108864 (bytes_in (lines_of text))) short in
    let by_lines = or_parts (nat_lt 16777216 (length text)) (nat_lt 65536 (length (lines_of text))) by_text.0 in
    let most : length (lines_of text) ≤ 65536 = ltb-false 65536 (length (lines_of text)) by_lines.1 in
    let few : length calls ≤ length (lines_of text) = subst (IsFew (length (lines_of text))) are (few_from 1 (lines_of text)) in
    omega (arith, most, few)
