use Rattle.std.proofs.Common.{◌≡◌, ◌<◌, false, length, ap, ◌∙◌, arith}
use Rattle.std.specs.List.{list_any}
use Rattle.tree_model.specs.declared.keys.Key.TheVariants.{Node}
use Rattle.tree_model.specs.Keys.{clash}
use Rattle.cross_dep.specs.Books.{Book, marks_of}
use Rattle.cross_dep.proofs.HeldMarks.{item_keys}
use Rattle.cross_dep.proofs.Told.{tells_none, tells_more}
use Rattle.cross_dep.proofs.BookOf.{told_changed}
use Rattle.cross_dep.proofs.book.KeyBook.changers.Goals as goal

pub loop-stream-init : goal.loop-stream-init
loop-stream-init c = tells_none (λ s. list_any (clash (Node c.args.id false)) (marks_of c.args.self.now s))

pub with_bit-changers-requires-clause-clear : goal.with_bit-changers-requires-clause-clear
with_bit-changers-requires-clause-clear c = c.loop-stream.invariant.above c.loop-stream.stream (omega arith)

pub loop-stream-preserved : goal.loop-stream-preserved
loop-stream-preserved c =
    let needed = Node c.args.id false in
    let at = c.loop-stream.stream in
    let inside : at < length c.self.inside.marks = omega (arith, c.loop-stream-test.true, c.type_inv.marks-items) in
    let on : c.clashes.result ≡ list_any (clash needed) (marks_of c.args.self.now at)
    = c.clashes.ensures ∙ ap (list_any (clash needed)) (item_keys c.self.inside.marks at c.marks-item.result inside)
    ∙ ap (λ (z : Book). list_any (clash needed) (marks_of z at)) c.self.view_is in
    tells_more c.loop-stream.changers c.with_bit-changers.result at (λ s. list_any (clash needed) (marks_of c.args.self.now s)) c.clashes.result
    c.loop-stream.invariant on c.with_bit-changers.ensures.own c.with_bit-changers.ensures.others

pub returns : goal.returns
returns c unsealed is s l =
    c.loop-stream.invariant.below s (omega (arith, c.loop-stream-test.false, l)) ∙ told_changed c.args.self.now unsealed c.args.id s is l
