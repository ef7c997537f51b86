use Rattle.std.proofs.Common.{◌≡◌, ℕ, ℤ, [], List, sym, ap, subst, ◌∙◌, None}
use Rattle.std.specs.Int.{w64, cast_signed, cast_unsigned}
use Rattle.std.proofs.lemmas.Int.{to_z-of_z}
use Rattle.ccfs_base.specs.declared.records.Rec.TheVariants as recs
use Rattle.ccfs_base.specs.Places.{IsInside}
use Rattle.ccfs_base.specs.Records.{acts_at, recorded}
use Rattle.delta_log.specs.Deltas.{add_call}
use Rattle.shared_meta.specs.Area.{AreaLists, area, standing, MayLog, IsLoggedIn}
use Rattle.shared_meta.specs.Merged.{IsCalledIn}
use Rattle.shared_meta.specs.Held.{stood, IsCopy, kept_in}
use Rattle.shared_meta.proofs.EachCall.{held_after, held_call, inside_made, copy_after, standing_call, logged_in}
use Rattle.shared_meta.proofs.meta.SharedMeta.add.Goals as goal
use Rattle.std.proofs.Common.{set}

pub invariant_of-self-in_err-add : goal.invariant_of-self-in_err-add
invariant_of-self-in_err-add c =
    let made : IsCopy c.make_copy.new.copy (stood c.self.inside.copy c.self.inside.base.items) = subst (λ (z : List ℕ). IsCopy c.make_copy.new.copy (stood c.self.inside.copy z)) c.deref.ensures.value c.in_ok-make_copy.ensures.ok in
    held_after c.self.inside.base.items c.self.inside.logs c.add.new.self c.self.inside.copy c.make_copy.new.copy c.self.inside.places c.in_err-add.ensures.err made c.self.invariant

pub put_rec-requires-clause-inside : goal.put_rec-requires-clause-inside
put_rec-requires-clause-inside c =
    let made : IsCopy c.make_copy.new.copy (stood c.self.inside.copy c.self.inside.base.items) = subst (λ (z : List ℕ). IsCopy c.make_copy.new.copy (stood c.self.inside.copy z)) c.deref.ensures.value c.in_ok-make_copy.ensures.ok in
    let may : MayLog (area (kept_in c.self.inside.base.items c.self.inside.logs c.self.inside.places)) (add_call c.args.stream c.args.off c.args.by) = subst (λ (k : AreaLists). MayLog (area k) (add_call c.args.stream c.args.off c.args.by)) (sym c.self.view_is) c.requires in
    subst (λ (n : ℕ). IsInside n (acts_at (add_call c.args.stream c.args.off c.args.by).rec)) (sym (inside_made c.self.inside.base.items c.self.inside.logs c.self.inside.copy c.make_copy.new.copy c.self.inside.places c.self.invariant made)) may.inside

pub invariant_of-self-2 : goal.invariant_of-self-2
invariant_of-self-2 c =
    let made : IsCopy c.make_copy.new.copy (stood c.self.inside.copy c.self.inside.base.items) = subst (λ (z : List ℕ). IsCopy c.make_copy.new.copy (stood c.self.inside.copy z)) c.deref.ensures.value c.in_ok-make_copy.ensures.ok in
    let may : MayLog (area (kept_in c.self.inside.base.items c.self.inside.logs c.self.inside.places)) (add_call c.args.stream c.args.off c.args.by) = subst (λ (k : AreaLists). MayLog (area k) (add_call c.args.stream c.args.off c.args.by)) (sym c.self.view_is) c.requires in
    let z : cast_signed w64 (cast_unsigned w64 c.args.by) ≡ c.args.by = to_z-of_z w64 c.args.by c.ranges.by in
    let logged : IsLoggedIn (area (kept_in c.self.inside.base.items c.self.inside.logs c.self.inside.places)) (add_call c.args.stream c.args.off c.args.by) (area (kept_in c.self.inside.base.items c.add.new.self (set c.self.inside.places c.from.result None))) = logged_in c.self.inside.base.items c.self.inside.logs c.add.new.self c.self.inside.places c.from.result (add_call c.args.stream c.args.off c.args.by) c.from.ensures (subst (λ (x : ℤ). IsCalledIn c.self.inside.logs (add_call c.args.stream c.args.off x) c.add.new.self) z c.in_ok-add.ensures.ok) in
    let cast : c.cast_unsigned.result ≡ cast_unsigned w64 c.args.by = c.cast_unsigned.ensures ∙ ap (λ (x : ℤ). cast_unsigned w64 x) z in
    held_call c.self.inside.base.items c.self.inside.logs c.add.new.self c.self.inside.copy c.put_rec.new.copy c.self.inside.places c.from.result (add_call c.args.stream c.args.off c.args.by) c.from.ensures may logged (copy_after c.self.inside.base.items c.self.inside.copy c.make_copy.new.copy c.put_rec.new.copy (add_call c.args.stream c.args.off c.args.by).rec made (subst (λ (n : ℕ). IsCopy c.put_rec.new.copy (recorded (stood c.make_copy.new.copy []) (recs.Add c.args.off n))) cast c.put_rec.ensures)) c.self.invariant

pub returns-clause-ok : goal.returns-clause-ok
returns-clause-ok c =
    let z : cast_signed w64 (cast_unsigned w64 c.args.by) ≡ c.args.by = to_z-of_z w64 c.args.by c.ranges.by in
    let logged : IsLoggedIn (area (kept_in c.self.inside.base.items c.self.inside.logs c.self.inside.places)) (add_call c.args.stream c.args.off c.args.by) (area (kept_in c.self.inside.base.items c.add.new.self (set c.self.inside.places c.from.result None))) = logged_in c.self.inside.base.items c.self.inside.logs c.add.new.self c.self.inside.places c.from.result (add_call c.args.stream c.args.off c.args.by) c.from.ensures (subst (λ (x : ℤ). IsCalledIn c.self.inside.logs (add_call c.args.stream c.args.off x) c.add.new.self) z c.in_ok-add.ensures.ok) in
    subst (λ (k : AreaLists). IsLoggedIn (area k) (add_call c.args.stream c.args.off c.args.by) (area (kept_in c.self.inside.base.items c.add.new.self (set c.self.inside.places c.from.result None)))) c.self.view_is logged

pub returns-clause-now : goal.returns-clause-now
returns-clause-now c =
    let may : MayLog (area (kept_in c.self.inside.base.items c.self.inside.logs c.self.inside.places)) (add_call c.args.stream c.args.off c.args.by) = subst (λ (k : AreaLists). MayLog (area k) (add_call c.args.stream c.args.off c.args.by)) (sym c.self.view_is) c.requires in
    let z : cast_signed w64 (cast_unsigned w64 c.args.by) ≡ c.args.by = to_z-of_z w64 c.args.by c.ranges.by in
    let logged : IsLoggedIn (area (kept_in c.self.inside.base.items c.self.inside.logs c.self.inside.places)) (add_call c.args.stream c.args.off c.args.by) (area (kept_in c.self.inside.base.items c.add.new.self (set c.self.inside.places c.from.result None))) = logged_in c.self.inside.base.items c.self.inside.logs c.add.new.self c.self.inside.places c.from.result (add_call c.args.stream c.args.off c.args.by) c.from.ensures (subst (λ (x : ℤ). IsCalledIn c.self.inside.logs (add_call c.args.stream c.args.off x) c.add.new.self) z c.in_ok-add.ensures.ok) in
    standing_call c.self.inside.base.items c.self.inside.logs c.add.new.self c.self.inside.copy c.self.inside.places c.from.result (add_call c.args.stream c.args.off c.args.by) may logged c.self.invariant ∙ ap (λ (k : AreaLists). recorded (standing (area k)) (add_call c.args.stream c.args.off c.args.by).rec) c.self.view_is
