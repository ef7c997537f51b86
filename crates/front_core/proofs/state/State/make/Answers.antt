use Rattle.std.proofs.Common.{◌≡◌, ap, sym, subst, ◌∙◌}
use Rattle.std.specs.Prelude.{Bool, None, if◌then◌else◌, [], ◌∷◌, ◌++◌}
use Rattle.std.specs.List.{filter}
use Rattle.std.proofs.lemmas.List.{append-nil}
use Rattle.stream_cuts.specs.Forced.{streams}
use Rattle.cross_dep.specs.Books.{has_bit}
use Rattle.front_laws.specs.Kept.{now_of}
use Rattle.front_core.specs.Fronts.{sizes_of}
use Rattle.front_core.specs.Left.{sealed_by}
use Rattle.front_core.specs.Pending.{AreSealed}
use Rattle.front_core.proofs.Told.{open_told}
use Rattle.front_core.proofs.Making.{made_none}
use Rattle.front_core.proofs.state.State.make.Goals as goal

pub seal-requires-clause-open : goal.seal-requires-clause-open
seal-requires-clause-open c s l on =
    let o = c.requires.sound in
    let sizes = sizes_of c.args.geometry.now in
    let st = o.1.1 in
    open_told c.args.self.now.pending.txns c.args.self.now.inodes.items (now_of sizes o.0 o.1.0).unsealed s st.left.pending.txns
    ∙ (c.requires.plan o.0 o.1.0 st).forced_open s l on

pub returns-in_ok-seal-in-None-clause-made : goal.returns-in_ok-seal-in-None-clause-made
returns-in_ok-seal-in-None-clause-made c t h st =
    let sizes = sizes_of c.args.geometry.now in
    let plan = c.args.plan.now in
    let mid = c.in_ok-seal-in-None.ensures.sealed in
    let planned = c.requires.plan t h st in
    let all : filter (has_bit plan.forced) streams ≡ sealed_by plan
    = sym (ap (λ b. filter (has_bit plan.forced) streams ++ (if b then plan.stream ∷ [] else [])) (planned.alone c.in-None.is) ∙ append-nil (filter (has_bit plan.forced) streams)) in
    made_none sizes t h c.args.actor c.args.command.now c.args.self.now c.choose.new.self mid.0 plan st (c.requires.actor, c.requires.fits) c.requires.built planned
    (sym planned.update ∙ c.in-None.is) mid.1.0
    (subst (λ p. AreSealed mid.0 (sealed_by plan) p) (sym c.choose.ensures.pending) (subst (λ l. AreSealed mid.0 l c.seal.new.self.pending) all mid.1.1))
    (c.choose.ensures.tree ∙ c.seal.ensures.tree) (c.choose.ensures.next ∙ c.seal.ensures.next)
    (ap (λ z. z.items) c.choose.ensures.inodes ∙ c.seal.ensures.inodes)
    (c.choose.ensures.streams (now_of sizes t h).choices (λ a l. ap (λ z. Rattle.std.specs.Prelude.slice_index z a) c.seal.ensures.streams ∙ st.left.streams a l))
