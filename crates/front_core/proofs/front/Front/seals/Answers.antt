use Rattle.std.proofs.Common.{ap, ◌∙◌}
use Rattle.front_core.specs.Fronts.{Fronted, sizes_of, seals_of}
use Rattle.front_core.proofs.FrontOf.{seals_told}
use Rattle.front_core.proofs.front.Front.seals.Goals as goal

pub returns : goal.returns
returns c =
    let f = c.self.inside in
    c.seals.ensures ∙ seals_told (sizes_of f.geometry) f.limit f.opening f.history.items f.handed f.state c.self.invariant
    ∙ ap (λ (z : Fronted). seals_of z) c.self.view_is
