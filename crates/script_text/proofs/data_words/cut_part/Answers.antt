use Rattle.std.proofs.Common.{length, ◌+◌, arith}
use Rattle.std.proofs.lemmas.Slice.{between_to_end}
use Rattle.script_text.proofs.Parts.{parts_of-cut, parts_of-last}
use Rattle.script_text.proofs.data_words.cut_part.Goals as goal

pub returns-in-Some-clause-first : goal.returns-in-Some-clause-first
returns-in-Some-clause-first c = rw (parts_of-cut c.args.word.now c.in-Some.place c.in-Some.ensures)

pub returns-in-None-clause-first : goal.returns-in-None-clause-first
returns-in-None-clause-first c = rw (parts_of-last c.args.word.now c.in-None.ensures)

pub returns-in-Some-clause-more : goal.returns-in-Some-clause-more
returns-in-Some-clause-more c =
    let xs = c.args.word.now in
    let d = between_to_end xs (c.in-Some.place + 1) (length xs) (omega arith) in
    rw d (parts_of-cut xs c.in-Some.place c.in-Some.ensures)

pub returns-in-None-clause-last : goal.returns-in-None-clause-last
returns-in-None-clause-last c = parts_of-last c.args.word.now c.in-None.ensures
