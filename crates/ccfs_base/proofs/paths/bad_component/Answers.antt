use Rattle.std.proofs.Common.{◌≡◌, ◌∙◌, true, false, ◌<◌, [], ◌∷◌, ◌++◌, length, sym, ap, arith}
use Rattle.std.proofs.lemmas.Bool.Decides.{nat_tests}
use Rattle.ccfs_base.specs.Names.{is_name}
use Rattle.ccfs_base.specs.Paths.{first_component}
use Rattle.ccfs_base.proofs.Spelling.{behind_none, behind_more, all_read, no_bytes}
use Rattle.ccfs_base.proofs.paths.bad_component.Goals as goal

pub returns-then-not-spells_name-clause-some : goal.returns-then-not-spells_name-clause-some
returns-then-not-spells_name-clause-some c =
    let some : 0 < length c.loop-rest.rest.now = grind (arith, nat_tests) in
    let bad : is_name (first_component c.loop-rest.rest.now) ≡ false = ap is_name (sym c.cut_component.ensures.first) ∙ sym c.spells_name.ensures ∙ c.if-not-spells_name.true in
    let n = behind_none c.args.text.now c.loop-rest.rest.now c.loop-rest.invariant.0 some c.loop-rest.invariant.1 bad in
    (n.spells_not, sym n.place)

pub loop-rest-preserved : goal.loop-rest-preserved
loop-rest-preserved c =
    let some : 0 < length c.loop-rest.rest.now = grind (arith, nat_tests) in
    let good : is_name (first_component c.loop-rest.rest.now) ≡ true = ap is_name (sym c.cut_component.ensures.first) ∙ sym c.spells_name.ensures ∙ c.if-not-spells_name.false in
    (c.loop-rest.invariant.0 ++ first_component c.loop-rest.rest.now ∷ [], rw c.cut_component.ensures.more (behind_more c.args.text.now c.loop-rest.rest.now c.loop-rest.invariant.0 some c.loop-rest.invariant.1 good))

pub returns-clause-none : goal.returns-clause-none
returns-clause-none c =
    let none : length c.loop-rest.rest.now ≡ 0 = grind (arith, nat_tests) in
    all_read c.args.text.now c.loop-rest.invariant.0 (rw (no_bytes c.loop-rest.rest.now none) at c.loop-rest.invariant.1)
