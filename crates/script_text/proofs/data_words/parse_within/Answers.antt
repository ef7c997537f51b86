use Rattle.script_text.specs.DataWords.{parts_of}
use Rattle.script_text.proofs.Parts.{all_bytes-more, all_bytes-refused, data_within-last, data_within-none}
use Rattle.script_text.proofs.data_words.parse_within.Goals as goal

pub returns-then-not-branch-clause-bytes : goal.returns-then-not-branch-clause-bytes
returns-then-not-branch-clause-bytes c =
    let i = c.parts.invariant in
    let f = rw c.if-not-branch.true at c.in_ok-append_part.ensures in
    let r = all_bytes-refused c.args.most (parts_of c.args.word.now) (parts_of c.parts.rest.now) c.cut_part.result.0.now c.parts.bytes i.read c.cut_part.ensures.first f in
    data_within-none c.args.most c.args.word.now c.as_slice.result.now c.if-eq.ensures c.as_slice.ensures r

pub parts-preserved : goal.parts-preserved
parts-preserved c =
    let i = c.parts.invariant in
    let e = rw c.in-Some.is at c.cut_part.ensures.more in
    let f = rw c.if-not-branch.false at c.in_ok-append_part.ensures in
    let m = all_bytes-more c.args.most (parts_of c.args.word.now) (parts_of c.parts.rest.now) (parts_of c.in-Some.behind.now) c.cut_part.result.0.now c.parts.bytes c.append_part.new.out i.read e f in
    record { read = m.0; few = m.1 }

pub returns-in_default-clause-bytes : goal.returns-in_default-clause-bytes
returns-in_default-clause-bytes c =
    let l = rw c.in_default.is at c.cut_part.ensures.last in
    let f = rw c.if-not-branch.false at c.in_ok-append_part.ensures in
    (data_within-last c.args.most c.args.word.now c.as_slice.result.now (parts_of c.parts.rest.now) c.cut_part.result.0.now c.parts.bytes c.append_part.new.out c.if-eq.ensures c.as_slice.ensures c.parts.invariant.read l f).0

pub returns-in_default-clause-few : goal.returns-in_default-clause-few
returns-in_default-clause-few c =
    let l = rw c.in_default.is at c.cut_part.ensures.last in
    let f = rw c.if-not-branch.false at c.in_ok-append_part.ensures in
    (data_within-last c.args.most c.args.word.now c.as_slice.result.now (parts_of c.parts.rest.now) c.cut_part.result.0.now c.parts.bytes c.append_part.new.out c.if-eq.ensures c.as_slice.ensures c.parts.invariant.read l f).1
