-- The calls of a script may be made, so that their history is legal.
use Rattle.std.proofs.Common.{◌≡◌, ℕ, zero, suc, ◌+◌, List, [], ◌∷◌, ◌++◌, take, drop, refl, ap, ◌∙◌, arith}
use Rattle.std.specs.Prelude.{Result, Ok, Err}
use Rattle.std.specs.List.{AllByRecursion}
use Rattle.ccfs_base.specs.declared.commands.Command.{Command}
use Rattle.history_model.specs.Histories.{start, MayCall, hist}
use Rattle.history_model.proofs.Legal.{hist_is_legal}
use Rattle.history_model.proofs.Longer.{hist_append}
use Rattle.script_text.specs.Lines.{lines_of}
use Rattle.script_text.specs.Grammar.{IsLineWithin, meaning_of}
use Rattle.script_text.specs.Scripts.{before_calls, after_line, calls_from, calls_of}
use Rattle.script_text.specs.declared.grammar.Line.{Line}
use Rattle.script_text.specs.declared.grammar.Line.TheVariants.{Skip, Call as Asks}
use Rattle.script_text.specs.declared.scripts.Call.{Call}
use Rattle.ccfs_top.specs.Runs.{asked, calls_in}
use Rattle.crash_meaning.specs.Meaning.{calls_asked}
use Rattle.crash_meaning.specs.Laws.{MayBeMade, CallsMayBeMade, ScriptsAreLegal, CallsGoOn}
use Rattle.crash_meaning.proofs.Lines.{IfRight, line_right}

-- ---- calls

abbrev AllMay : List Call → Type 0
AllMay calls = AllByRecursion MayBeMade calls

before_may : (call : Call) (r : Result (List Call) ℕ) → MayBeMade call → IfRight AllMay r → IfRight AllMay (before_calls call r)
before_may call (Ok calls) may all = (may, all)
before_may call (Err number) may all = tt

line_may : (number : ℕ) (line : Result Line ℕ) (more : Result (List Call) ℕ) → IfRight IsLineWithin line → IfRight AllMay more → IfRight AllMay (after_line number line more)
line_may number (Ok Skip) more within all = all
line_may number (Ok (Asks actor command)) more within all = before_may (record { line = number; actor = actor; command = command }) more within all
line_may number (Err place) more within all = tt

lines_may : (number : ℕ) (lines : List (List ℕ)) → IfRight AllMay (calls_from number lines)
lines_may number [] = tt
lines_may number (line ∷ lines) = line_may number (meaning_of line) (calls_from (number + 1) lines) (line_right line) (lines_may (number + 1) lines)

in_may : (r : Result (List Call) ℕ) → IfRight AllMay r → AllMay (calls_in r)
in_may (Ok calls) all = all
in_may (Err line) all = tt

pub calls_may_be_made : CallsMayBeMade
calls_may_be_made script = in_may (calls_of script) (lines_may 1 (lines_of script))

-- ---- histories

first_may : (i : ℕ) (calls : List Call) → AllMay calls → AllByRecursion (λ (c : ℕ × Command). MayCall c.0 c.1) (asked (take i calls))
first_may zero calls all = tt
first_may (suc i) [] all = tt
first_may (suc i) (call ∷ calls) all = (all.0, first_may i calls all.1)

pub scripts_are_legal : ScriptsAreLegal
scripts_are_legal sizes n script i = hist_is_legal sizes n (asked (take i (calls_asked script))) (first_may i (calls_asked script) (calls_may_be_made script))

-- ---- one call more

one_more : (i : ℕ) (calls : List Call) → asked (take (suc i) calls) ≡ asked (take i calls) ++ asked (take 1 (drop i calls))
one_more zero [] = refl
one_more zero (call ∷ calls) = refl
one_more (suc i) [] = refl
one_more (suc i) (call ∷ calls) = ap (λ (z : List (ℕ × Command)). (call.actor, call.command) ∷ z) (one_more i calls)

pub calls_go_on : CallsGoOn
calls_go_on image calls i =
    let next : i + 1 ≡ suc i = omega arith in
    ap (λ (k : ℕ). hist image.sizes (start image.tree) (asked (take k calls))) next
    ∙ ap (hist image.sizes (start image.tree)) (one_more i calls)
    ∙ hist_append image.sizes (start image.tree) (asked (take i calls)) (asked (take 1 (drop i calls)))
