use Rattle.std.proofs.Common.{◌<◌, length, arith}
use Rattle.std.proofs.lemmas.Bool.Decides.{nat_tests}
use Rattle.script_text.specs.Data.{more_text, pieces_of, runs_of}
use Rattle.script_text.proofs.Runs.{more_text-step}
use Rattle.script_text.proofs.spelling.append_data.Goals as goal

pub loop-rest-preserved : goal.loop-rest-preserved
loop-rest-preserved c =
    let rest = c.loop-rest.rest.now in
    let h : 0 < length rest = grind (arith, nat_tests) in
    more_text-step _ _ c.append_piece-in-loop-rest.new.out _ (more_text (pieces_of (runs_of c.in_ok-rest-2.rest.now))) rest h c.in_ok-append.ensures.ok c.in_ok-rest-2.ensures.text c.loop-rest.invariant
