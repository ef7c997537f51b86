use Rattle.std.proofs.Common.{◌≡◌, [], rules, sym, ◌∙◌}
use Rattle.std.specs.Str.{bytes_eq}
use Rattle.std.proofs.lemmas.Slice.Eq.{bytes_eq-Decides}
use Rattle.flat_dirs.proofs.Scan.{not_both}
use Rattle.flat_dirs.proofs.First.{least_of_none, least_of_same, least_of_other}
use Rattle.flat_dirs.proofs.index.first_at.Goals as goal

pub returns-in-Some : goal.returns-in-Some
returns-in-Some c =
    least_of_same c.args.places.now c.args.parent c.args.name.now c.range.result c.next.new.self c.in-Some.place.now (c.range.ensures.in_range tt) c.in-Some.ensures.steps c.if-place-parent.true
    ((bytes_eq-Decides c.in-Some.place.now.1 c.args.name.now).0 (sym c.eq.ensures ∙ c.if-eq.true))

pub returns-in_default : goal.returns-in_default
returns-in_default c =
    least_of_other c.args.places.now c.args.parent c.args.name.now c.range.result c.next.new.self c.in-Some.place.now (c.range.ensures.in_range tt) c.in-Some.ensures.steps
    (λ _ n. not_both (bytes_eq c.in-Some.place.now.1 c.args.name.now) ((bytes_eq-Decides c.in-Some.place.now.1 c.args.name.now).1 (sym n)) (sym c.eq.ensures ∙ c.if-eq.false))

pub returns-in_default-2 : goal.returns-in_default-2
returns-in_default-2 c =
    least_of_other c.args.places.now c.args.parent c.args.name.now c.range.result c.next.new.self c.in-Some.place.now (c.range.ensures.in_range tt) c.in-Some.ensures.steps
    (λ p _. c.if-place-parent.false (sym p))

pub returns-in_default-3 : goal.returns-in_default-3
returns-in_default-3 c =
    let none : c.range.result ≡ [] = search rules in
    least_of_none c.args.places.now c.args.parent c.args.name.now c.range.result (c.range.ensures.in_range tt) none
