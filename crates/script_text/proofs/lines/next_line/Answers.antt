use Rattle.std.proofs.Common.{◌≡◌, ◌+◌, ◌-◌, ◌<◌, [], length, drop, take, arith}
use Rattle.std.proofs.lemmas.Grind.{common_steps}
use Rattle.std.proofs.lemmas.Slice.{between_to_end}
use Rattle.script_text.proofs.Cuts.{lines_of-end, lines_of-last}
use Rattle.script_text.proofs.lines.next_line.Goals as goal

pub returns-in-Some-clause-first : goal.returns-in-Some-clause-first
returns-in-Some-clause-first c =
    let xs = c.args.text.now in
    let e = c.in-Some.end in
    let d = between_to_end xs (e + 1) (length xs) (omega arith) in
    rw (d, c.without_return.ensures) (lines_of-end xs e c.in-Some.ensures)

pub returns-in-None-clause-first : goal.returns-in-None-clause-first
returns-in-None-clause-first c =
    let xs = c.args.text.now in
    let n : 0 < length xs = grind (arith, common_steps) in
    let z : take (length xs - length xs) (drop (length xs) xs) ≡ [] = grind (arith, common_steps) in
    rw (z, c.without_return-in-None.ensures) (lines_of-last xs n c.in-None.ensures)
