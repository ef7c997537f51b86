use Rattle.std.proofs.Common.{ℕ, ◌-◌, length, length-drop, not, drop, ◌∙◌, rules, tests, arith}
use Rattle.std.proofs.lemmas.Bool.Decides.{nat_tests}
use Rattle.std.proofs.lemmas.List.{take_all}
use Rattle.std.proofs.lemmas.List.Sums.{prefix_len-le-length}
use Rattle.std.proofs.lemmas.Iterator.{YieldsList-from_slice}
use Rattle.std.proofs.lemmas.Iterator.Search.{position_from_yields_List, any_from_yields_List}
use Rattle.gate_journal.specs.Journal.{is_open}
use Rattle.gate_journal.proofs.loading.count_gates.Goals as goal

pub returns-clause-count : goal.returns-clause-count
returns-clause-count c =
    let p = position_from_yields_List (λ (gate : ℕ). not (is_open gate)) _ _ c.position.result c.position.ensures.ran (YieldsList-from_slice c.args.gates.now cc) (λ x b q k. search (rules, tests)) in
    let e = c.unwrap_or-count.ensures in
    let le = prefix_len-le-length (λ (gate : ℕ). not (not (is_open gate))) c.args.gates.now in
    grind (arith, nat_tests)

pub returns-clause-behind : goal.returns-clause-behind
returns-clause-behind c =
    let gates = c.args.gates.now in let n = c.unwrap_or-count.result in
    any_from_yields_List is_open _ _ _ c.any.ensures.ran (YieldsList-from_slice (drop n gates) (c.iter-2.ensures.rest ∙ take_all (length gates - n) (drop n gates) (omega (arith, length-drop n gates)))) (λ x b q k. search (rules, tests))
