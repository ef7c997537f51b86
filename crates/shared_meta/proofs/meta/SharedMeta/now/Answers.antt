use Rattle.std.proofs.Common.{◌≡◌, ℕ, sym, ap, subst, ◌∙◌, Vec, Global, Option}
use Rattle.shared_meta.specs.Area.{AreaLists, area, standing, IsShared}
use Rattle.shared_meta.specs.Held.{stood, kept_in}
use Rattle.shared_meta.proofs.AreaLaws.{any_order}
use Rattle.shared_meta.proofs.Held.{stands}
use Rattle.shared_meta.proofs.meta.SharedMeta.now.Goals as goal

pub returns-in-Some-clause-any_order : goal.returns-in-Some-clause-any_order
returns-in-Some-clause-any_order c order same =
    let e : c.as_slice.result.now ≡ standing (area c.args.self.now) =
    c.as_slice.ensures.value ∙ subst (λ (x : Option (Vec ℕ Global)). stood x c.self.inside.base.items ≡ standing (area (kept_in c.self.inside.base.items c.self.inside.logs c.self.inside.places))) c.in-Some.is (stands (area (kept_in c.self.inside.base.items c.self.inside.logs c.self.inside.places)) c.self.inside.copy c.self.invariant.copied) ∙ ap (λ (k : AreaLists). standing (area k)) c.self.view_is in
    e ∙ sym (any_order (area c.args.self.now) order (subst (λ (k : AreaLists). IsShared (area k)) c.self.view_is c.self.invariant.shared) same)

pub returns-in-None-clause-standing : goal.returns-in-None-clause-standing
returns-in-None-clause-standing c =
    c.as_slice-in-None.ensures.value ∙ subst (λ (x : Option (Vec ℕ Global)). stood x c.self.inside.base.items ≡ standing (area (kept_in c.self.inside.base.items c.self.inside.logs c.self.inside.places))) c.in-None.is (stands (area (kept_in c.self.inside.base.items c.self.inside.logs c.self.inside.places)) c.self.inside.copy c.self.invariant.copied) ∙ ap (λ (k : AreaLists). standing (area k)) c.self.view_is

pub returns-in-None-clause-any_order : goal.returns-in-None-clause-any_order
returns-in-None-clause-any_order c order same =
    let e : c.as_slice-in-None.result.now ≡ standing (area c.args.self.now) =
    c.as_slice-in-None.ensures.value ∙ subst (λ (x : Option (Vec ℕ Global)). stood x c.self.inside.base.items ≡ standing (area (kept_in c.self.inside.base.items c.self.inside.logs c.self.inside.places))) c.in-None.is (stands (area (kept_in c.self.inside.base.items c.self.inside.logs c.self.inside.places)) c.self.inside.copy c.self.invariant.copied) ∙ ap (λ (k : AreaLists). standing (area k)) c.self.view_is in
    e ∙ sym (any_order (area c.args.self.now) order (subst (λ (k : AreaLists). IsShared (area k)) c.self.view_is c.self.invariant.shared) same)
