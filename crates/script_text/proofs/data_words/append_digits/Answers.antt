use Rattle.std.proofs.Common.{◌≡◌, ◌<◌, ◌≤◌, ◌-◌, ◌/◌, ◌∙◌, ◌++◌, length, arith, ap}
use Rattle.std.proofs.lemmas.Bool.Decides.{nat_tests}
use Rattle.script_text.proofs.Parts.{digits_empty, digits_long, digits_fit}
use Rattle.script_text.proofs.data_words.append_digits.Goals as goal
use Rattle.script_text.proofs.data_words.append_digits.Goals.{then-is_empty-via-then-is_empty, then-is_empty-via-else-is_empty+then-digits-most}

pub returns-then-is_empty : goal.returns-then-is_empty
returns-then-is_empty c =
    elim c.then-is_empty.branch [
      | then-is_empty-via-then-is_empty w ↦
          let e : length c.args.digits.now ≡ 0 = grind (arith, nat_tests, w.if-is_empty.ensures) in
          digits_empty c.args.most c.args.out.now c.args.digits.now e
      | then-is_empty-via-else-is_empty+then-digits-most w ↦
          let l : c.args.most - length c.args.out.now < length c.args.digits.now / 2 = rw w.len.ensures at w.if-digits-most.true in
          digits_long c.args.most c.args.out.now c.args.digits.now c.requires l
    ]

pub returns-in_ok-append-in-Ok : goal.returns-in_ok-append-in-Ok
returns-in_ok-append-in-Ok c =
    let s : 0 < length c.args.digits.now = grind (arith, nat_tests, c.if-is_empty.ensures) in
    let l : length c.args.digits.now / 2 ≤ c.args.most - length c.args.out.now = rw c.len.ensures at c.if-digits-most.false in
    let o = c.in_ok-append-in-Ok.ensures.ok ∙ ap (λ x. c.args.out.now ++ x) c.deref.ensures.value in
    rw o (digits_fit c.args.most c.args.out.now c.args.digits.now c.in-Ok.bytes.items s c.in-Ok.ensures.ok c.requires l)
