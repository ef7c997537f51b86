use Rattle.std.proofs.Common.{sym, arith}
use Rattle.image_check.specs.Tables.{seen}
use Rattle.image_check.proofs.Climbing.{climbs, rooted, unrooted, up_to_mark}
use Rattle.image_check.proofs.rings.is_rooted.Goals as goal

pub mark_chain-requires-clause-below : goal.mark_chain-requires-clause-below
mark_chain-requires-clause-below c = climbs (seen c.args.table.now) c.args.marks.now c.in-Some.steps c.args.inode c.requires.marks c.in-Some.ensures

pub returns-in-Some-clause-answer : goal.returns-in-Some-clause-answer
returns-in-Some-clause-answer c = sym (rooted (seen c.args.table.now) c.args.marks.now c.in-Some.steps c.args.inode c.requires.some c.requires.marks c.in-Some.ensures)

pub returns-in-None-clause-answer : goal.returns-in-None-clause-answer
returns-in-None-clause-answer c = sym (unrooted (seen c.args.table.now) c.args.marks.now c.args.inode c.requires.marks c.in-None.ensures)

pub returns-in-Some-clause-walked : goal.returns-in-Some-clause-walked
returns-in-Some-clause-walked c = λ _ n none k x below.
    let few = up_to_mark (seen c.args.table.now) c.args.marks.now c.args.inode n c.in-Some.steps none c.in-Some.ensures in
    c.mark_chain.ensures.walked k x (omega arith)
