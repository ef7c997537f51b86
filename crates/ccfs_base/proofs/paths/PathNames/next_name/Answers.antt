use Rattle.std.proofs.Common.{◌≡◌, ◌∙◌, ◌+◌, ℕ, Some, List, ◌∷◌, length, sym, ap, arith}
use Rattle.std.proofs.lemmas.Bool.Decides.{nat_tests}
use Rattle.ccfs_base.specs.Names.{names_in, is_name}
use Rattle.ccfs_base.specs.Paths.{first_component}
use Rattle.ccfs_base.proofs.Spelling.{step_from}
use Rattle.ccfs_base.proofs.Parsing.{parsed_name}
use Rattle.ccfs_base.proofs.paths.PathNames.next_name.Goals as goal

pub invariant_of-self : goal.invariant_of-self
invariant_of-self c =
    let s = step_from c.self.inside.rest.now (grind (arith, nat_tests)) c.self.invariant in
    rw c.cut_component.ensures.more s.more

taken : (c : goal.After-more-2-1) → c.ok-name.result ≡ Some (first_component c.self.inside.rest.now)
taken c =
    let s = step_from c.self.inside.rest.now (grind (arith, nat_tests)) c.self.invariant in
    c.ok-name.ensures.value ∙ parsed_name c.cut_component.result.0.now c.parse.result c.parse.ensures.cases (ap is_name c.cut_component.ensures.first ∙ s.name) ∙ ap (λ (z : List ℕ). Some z) c.cut_component.ensures.first

split : (c : goal.After-more-2-1) → c.args.self.now ≡ first_component c.self.inside.rest.now ∷ names_in c.cut_component.result.1.now
split c =
    let s = step_from c.self.inside.rest.now (grind (arith, nat_tests)) c.self.invariant in
    sym c.self.view_is ∙ s.first ∙ ap (λ (z : List ℕ). first_component c.self.inside.rest.now ∷ names_in z) (sym c.cut_component.ensures.more)

pub returns-clause-some : goal.returns-clause-some
returns-clause-some c = rw (taken c) (split c)

pub returns-clause-none : goal.returns-clause-none
returns-clause-none c = rw (taken c) tt

pub returns-clause-shorter : goal.returns-clause-shorter
returns-clause-shorter c =
    let longer : length c.args.self.now ≡ length (names_in c.cut_component.result.1.now) + 1 = ap length (split c) ∙ omega arith in
    rw (taken c) (omega (arith, longer))
