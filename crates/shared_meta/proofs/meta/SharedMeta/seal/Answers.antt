use Rattle.std.proofs.Common.{◌≡◌, ℕ, ◌++◌, List, length, sym, ap, subst, ◌∙◌, Vec, Global, Option}
use Rattle.ccfs_base.specs.declared.records.Rec.{Rec}
use Rattle.ccfs_base.specs.Records.{all_recorded}
use Rattle.shared_meta.specs.Area.{AreaLists, area, standing, IsSealed}
use Rattle.shared_meta.specs.Merged.{list_at}
use Rattle.shared_meta.specs.Held.{IsHeld, kept_in}
use Rattle.shared_meta.proofs.AreaLaws.{seals_keep}
use Rattle.shared_meta.proofs.Held.{held_sealed}
use Rattle.shared_meta.proofs.EachCall.{sealed_in, whole}
use Rattle.shared_meta.proofs.meta.SharedMeta.seal.Goals as goal
use Rattle.std.proofs.Common.{take, drop}

pub invariant_of-self : goal.invariant_of-self
invariant_of-self c =
    let base : all_recorded c.self.inside.base.items (list_at c.self.inside.logs.ranges c.args.stream ++ list_at c.self.inside.logs.deltas c.args.stream) ≡ c.apply_all.new.bytes =
    sym (c.apply_all.ensures ∙ ap (λ (z : List ℕ). all_recorded z c.deref.result.now) c.deref_mut.ensures.value ∙ ap (all_recorded c.self.inside.base.items) (c.deref.ensures.value ∙ c.take.ensures.taken)) in
    let is : take c.self.inside.base.len (c.apply_all.new.bytes ++ drop (length c.apply_all.new.bytes) c.self.inside.base.items) ≡ all_recorded c.self.inside.base.items (list_at c.self.inside.logs.ranges c.args.stream ++ list_at c.self.inside.logs.deltas c.args.stream) =
    whole c.apply_all.new.bytes c.self.inside.base.items c.self.inside.base.len (c.apply_all.auto.bytes ∙ c.deref_mut.ensures.len) ∙ sym base in
    let sealed : IsSealed (area (kept_in c.self.inside.base.items c.self.inside.logs c.self.inside.places)) c.args.stream (area (kept_in (take c.self.inside.base.len (c.apply_all.new.bytes ++ drop (length c.apply_all.new.bytes) c.self.inside.base.items)) c.take.new.self c.take_place.new.places)) =
    sealed_in c.self.inside.base.items (take c.self.inside.base.len (c.apply_all.new.bytes ++ drop (length c.apply_all.new.bytes) c.self.inside.base.items)) c.self.inside.logs c.take.new.self c.self.inside.places c.take_place.new.places c.args.stream is c.take.ensures.ranges c.take.ensures.deltas c.take.ensures.room c.take_place.ensures.left in
    subst (λ (x : List (Option (Vec Rec Global))). IsHeld (area (kept_in (take c.self.inside.base.len (c.apply_all.new.bytes ++ drop (length c.apply_all.new.bytes) c.self.inside.base.items)) c.take.new.self c.take_place.new.places)) c.self.inside.copy x) (sym c.take_place.ensures.left) (held_sealed (area (kept_in c.self.inside.base.items c.self.inside.logs c.self.inside.places)) (area (kept_in (take c.self.inside.base.len (c.apply_all.new.bytes ++ drop (length c.apply_all.new.bytes) c.self.inside.base.items)) c.take.new.self c.take_place.new.places)) c.args.stream c.self.inside.copy c.self.inside.places c.requires.stream sealed c.self.invariant)

pub returns-clause-sealed : goal.returns-clause-sealed
returns-clause-sealed c =
    let base : all_recorded c.self.inside.base.items (list_at c.self.inside.logs.ranges c.args.stream ++ list_at c.self.inside.logs.deltas c.args.stream) ≡ c.apply_all.new.bytes =
    sym (c.apply_all.ensures ∙ ap (λ (z : List ℕ). all_recorded z c.deref.result.now) c.deref_mut.ensures.value ∙ ap (all_recorded c.self.inside.base.items) (c.deref.ensures.value ∙ c.take.ensures.taken)) in
    let is : take c.self.inside.base.len (c.apply_all.new.bytes ++ drop (length c.apply_all.new.bytes) c.self.inside.base.items) ≡ all_recorded c.self.inside.base.items (list_at c.self.inside.logs.ranges c.args.stream ++ list_at c.self.inside.logs.deltas c.args.stream) =
    whole c.apply_all.new.bytes c.self.inside.base.items c.self.inside.base.len (c.apply_all.auto.bytes ∙ c.deref_mut.ensures.len) ∙ sym base in
    let sealed : IsSealed (area (kept_in c.self.inside.base.items c.self.inside.logs c.self.inside.places)) c.args.stream (area (kept_in (take c.self.inside.base.len (c.apply_all.new.bytes ++ drop (length c.apply_all.new.bytes) c.self.inside.base.items)) c.take.new.self c.take_place.new.places)) =
    sealed_in c.self.inside.base.items (take c.self.inside.base.len (c.apply_all.new.bytes ++ drop (length c.apply_all.new.bytes) c.self.inside.base.items)) c.self.inside.logs c.take.new.self c.self.inside.places c.take_place.new.places c.args.stream is c.take.ensures.ranges c.take.ensures.deltas c.take.ensures.room c.take_place.ensures.left in
    subst (λ (k : AreaLists). IsSealed (area k) c.args.stream (area (kept_in (take c.self.inside.base.len (c.apply_all.new.bytes ++ drop (length c.apply_all.new.bytes) c.self.inside.base.items)) c.take.new.self c.take_place.new.places))) c.self.view_is sealed

pub returns-clause-stays : goal.returns-clause-stays
returns-clause-stays c =
    let base : all_recorded c.self.inside.base.items (list_at c.self.inside.logs.ranges c.args.stream ++ list_at c.self.inside.logs.deltas c.args.stream) ≡ c.apply_all.new.bytes =
    sym (c.apply_all.ensures ∙ ap (λ (z : List ℕ). all_recorded z c.deref.result.now) c.deref_mut.ensures.value ∙ ap (all_recorded c.self.inside.base.items) (c.deref.ensures.value ∙ c.take.ensures.taken)) in
    let is : take c.self.inside.base.len (c.apply_all.new.bytes ++ drop (length c.apply_all.new.bytes) c.self.inside.base.items) ≡ all_recorded c.self.inside.base.items (list_at c.self.inside.logs.ranges c.args.stream ++ list_at c.self.inside.logs.deltas c.args.stream) =
    whole c.apply_all.new.bytes c.self.inside.base.items c.self.inside.base.len (c.apply_all.auto.bytes ∙ c.deref_mut.ensures.len) ∙ sym base in
    let sealed : IsSealed (area (kept_in c.self.inside.base.items c.self.inside.logs c.self.inside.places)) c.args.stream (area (kept_in (take c.self.inside.base.len (c.apply_all.new.bytes ++ drop (length c.apply_all.new.bytes) c.self.inside.base.items)) c.take.new.self c.take_place.new.places)) =
    sealed_in c.self.inside.base.items (take c.self.inside.base.len (c.apply_all.new.bytes ++ drop (length c.apply_all.new.bytes) c.self.inside.base.items)) c.self.inside.logs c.take.new.self c.self.inside.places c.take_place.new.places c.args.stream is c.take.ensures.ranges c.take.ensures.deltas c.take.ensures.room c.take_place.ensures.left in
    (seals_keep (area (kept_in c.self.inside.base.items c.self.inside.logs c.self.inside.places)) (area (kept_in (take c.self.inside.base.len (c.apply_all.new.bytes ++ drop (length c.apply_all.new.bytes) c.self.inside.base.items)) c.take.new.self c.take_place.new.places)) c.args.stream c.requires.stream c.self.invariant.shared sealed).1 ∙ ap (λ (k : AreaLists). standing (area k)) c.self.view_is
