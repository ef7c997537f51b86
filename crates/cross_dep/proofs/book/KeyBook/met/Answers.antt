use Rattle.std.proofs.Common.{◌≡◌, ◌≢◌, ◌<◌, not, ◌&&◌, ◌==◌, List, length, get_or, sym, ap, ◌∙◌, arith}
use Rattle.tree_model.specs.declared.keys.Key.{Key}
use Rattle.tree_model.specs.Keys.{keys_of}
use Rattle.cross_dep.specs.Books.{Book, marks_of}
use Rattle.cross_dep.specs.Held.{any_clashes}
use Rattle.cross_dep.proofs.HeldMarks.{item_keys}
use Rattle.cross_dep.proofs.Told.{tells_none, tells_more}
use Rattle.cross_dep.proofs.BookOf.{told_met, same_number, other_number}
use Rattle.cross_dep.proofs.book.KeyBook.met.Goals as goal
use Rattle.cross_dep.proofs.book.KeyBook.met.Goals.{then-other-from, else-other-from}

pub loop-other-init : goal.loop-other-init
loop-other-init c = tells_none (λ s. not (s == c.args.stream) && any_clashes (marks_of c.args.self.now s) (keys_of c.args.update.now))

pub with_bit-met-requires-clause-clear : goal.with_bit-met-requires-clause-clear
with_bit-met-requires-clause-clear c = c.loop-other.invariant.above c.loop-other.other (omega arith)

pub loop-other-preserved : goal.loop-other-preserved
loop-other-preserved c =
    let keys = keys_of c.args.update.now in
    let at = c.loop-other.other in
    let inside : at < length c.self.inside.marks = omega (arith, c.loop-other-test.true, c.type_inv.marks-items) in
    let item = (get_or c.self.inside.marks at c.marks-item.result).keys in
    let marks : item ≡ marks_of c.args.self.now at
    = item_keys c.self.inside.marks at c.marks-item.result inside ∙ ap (λ (z : Book). marks_of z at) c.self.view_is in
    let clashing = any_clashes (marks_of c.args.self.now at) keys in
    let on : c.if-other-from.meets ≡ (not (at == c.args.stream) && clashing)
    = elim c.if-other-from.branch [
      | then-other-from w ↦
          let apart : at ≢ c.args.stream = λ e. w.if-other-from.true (e ∙ sym c.from.ensures) in
          w.meets-is ∙ w.any_clashes-meets.ensures ∙ ap (any_clashes item) c.key_slots-slots.ensures ∙ ap (λ (z : List Key). any_clashes z keys) marks
          ∙ ap (λ z. not z && clashing) (sym (other_number at c.args.stream apart))
      | else-other-from w ↦
          let same : at ≡ c.args.stream = w.if-other-from.false ∙ c.from.ensures in
          w.meets-is ∙ ap not (ap (λ z. z == c.from.result) w.if-other-from.false ∙ same_number c.from.result)
          ∙ ap (λ z. not z && clashing) (sym (ap (λ z. z == c.args.stream) same ∙ same_number c.args.stream))
    ] in
    tells_more c.loop-other.met c.with_bit-met.result at (λ s. not (s == c.args.stream) && any_clashes (marks_of c.args.self.now s) keys) c.if-other-from.meets
    c.loop-other.invariant on c.with_bit-met.ensures.own c.with_bit-met.ensures.others

pub returns : goal.returns
returns c unsealed is s l =
    c.loop-other.invariant.below s (omega (arith, c.loop-other-test.false, l))
    ∙ ap (λ z. not (s == c.args.stream) && z) (told_met c.args.self.now unsealed c.args.update.now s is l)
