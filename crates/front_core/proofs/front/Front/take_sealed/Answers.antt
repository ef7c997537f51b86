use Rattle.std.proofs.Common.{ℕ, ap, ◌∙◌}
use Rattle.stream_txn.specs.Kept.{TxnLists}
use Rattle.front_core.specs.Fronts.{Fronted, sizes_of, seals_of}
use Rattle.front_core.proofs.FrontOf.{seals_told, handed_all}
use Rattle.front_core.proofs.front.Front.take_sealed.Goals as goal

pub invariant_of-self : goal.invariant_of-self
invariant_of-self c =
    let f = c.self.inside in
    handed_all (sizes_of f.geometry) f.limit f.opening f.history.items f.handed f.state c.take_sealed-sealed.new.self c.seals-self-inside.result c.self.invariant
    c.take_sealed-sealed.ensures.left c.seals-self-inside.ensures

pub returns-clause-left : goal.returns-clause-left
returns-clause-left c =
    let f = c.self.inside in
    let all = c.seals-self-inside.ensures ∙ ap (λ (k : TxnLists). k.seals) c.take_sealed-sealed.ensures.left
    ∙ seals_told (sizes_of f.geometry) f.limit f.opening f.history.items f.handed f.state c.self.invariant in
    let told : ℕ → Fronted = λ z. record { sizes = sizes_of f.geometry; limit = f.limit; opening = f.opening; entries = f.history.items; inodes = f.state.inodes.items; handed = z } in
    ap told all ∙ ap (λ (z : Fronted). record z { handed = seals_of z }) c.self.view_is
