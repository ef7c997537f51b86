use Rattle.std.proofs.Common.{ℕ, List, sym, ap, subst, ◌∙◌, None}
use Rattle.ccfs_base.specs.Places.{IsInside}
use Rattle.ccfs_base.specs.Records.{acts_at, recorded}
use Rattle.delta_log.specs.Deltas.{bit_call}
use Rattle.shared_meta.specs.Area.{AreaLists, area, standing, MayLog, IsLoggedIn}
use Rattle.shared_meta.specs.Held.{stood, IsCopy, kept_in}
use Rattle.shared_meta.proofs.EachCall.{held_after, held_call, inside_made, copy_after, standing_call, logged_in}
use Rattle.shared_meta.proofs.meta.SharedMeta.flip.Goals as goal
use Rattle.std.proofs.Common.{set}

pub invariant_of-self-in_err-flip : goal.invariant_of-self-in_err-flip
invariant_of-self-in_err-flip c =
    let made : IsCopy c.make_copy.new.copy (stood c.self.inside.copy c.self.inside.base.items) = subst (λ (z : List ℕ). IsCopy c.make_copy.new.copy (stood c.self.inside.copy z)) c.deref.ensures.value c.in_ok-make_copy.ensures.ok in
    held_after c.self.inside.base.items c.self.inside.logs c.flip.new.self c.self.inside.copy c.make_copy.new.copy c.self.inside.places c.in_err-flip.ensures.err made c.self.invariant

pub put_rec-requires-clause-inside : goal.put_rec-requires-clause-inside
put_rec-requires-clause-inside c =
    let made : IsCopy c.make_copy.new.copy (stood c.self.inside.copy c.self.inside.base.items) = subst (λ (z : List ℕ). IsCopy c.make_copy.new.copy (stood c.self.inside.copy z)) c.deref.ensures.value c.in_ok-make_copy.ensures.ok in
    let may : MayLog (area (kept_in c.self.inside.base.items c.self.inside.logs c.self.inside.places)) (bit_call c.args.stream c.args.off c.args.bit c.args.on) = subst (λ (k : AreaLists). MayLog (area k) (bit_call c.args.stream c.args.off c.args.bit c.args.on)) (sym c.self.view_is) c.requires in
    subst (λ (n : ℕ). IsInside n (acts_at (bit_call c.args.stream c.args.off c.args.bit c.args.on).rec)) (sym (inside_made c.self.inside.base.items c.self.inside.logs c.self.inside.copy c.make_copy.new.copy c.self.inside.places c.self.invariant made)) may.inside

pub invariant_of-self-2 : goal.invariant_of-self-2
invariant_of-self-2 c =
    let made : IsCopy c.make_copy.new.copy (stood c.self.inside.copy c.self.inside.base.items) = subst (λ (z : List ℕ). IsCopy c.make_copy.new.copy (stood c.self.inside.copy z)) c.deref.ensures.value c.in_ok-make_copy.ensures.ok in
    let may : MayLog (area (kept_in c.self.inside.base.items c.self.inside.logs c.self.inside.places)) (bit_call c.args.stream c.args.off c.args.bit c.args.on) = subst (λ (k : AreaLists). MayLog (area k) (bit_call c.args.stream c.args.off c.args.bit c.args.on)) (sym c.self.view_is) c.requires in
    let logged : IsLoggedIn (area (kept_in c.self.inside.base.items c.self.inside.logs c.self.inside.places)) (bit_call c.args.stream c.args.off c.args.bit c.args.on) (area (kept_in c.self.inside.base.items c.flip.new.self (set c.self.inside.places c.from.result None))) = logged_in c.self.inside.base.items c.self.inside.logs c.flip.new.self c.self.inside.places c.from.result (bit_call c.args.stream c.args.off c.args.bit c.args.on) c.from.ensures c.in_ok-flip.ensures.ok in
    held_call c.self.inside.base.items c.self.inside.logs c.flip.new.self c.self.inside.copy c.put_rec.new.copy c.self.inside.places c.from.result (bit_call c.args.stream c.args.off c.args.bit c.args.on) c.from.ensures may logged (copy_after c.self.inside.base.items c.self.inside.copy c.make_copy.new.copy c.put_rec.new.copy (bit_call c.args.stream c.args.off c.args.bit c.args.on).rec made c.put_rec.ensures) c.self.invariant

pub returns-clause-ok : goal.returns-clause-ok
returns-clause-ok c =
    let logged : IsLoggedIn (area (kept_in c.self.inside.base.items c.self.inside.logs c.self.inside.places)) (bit_call c.args.stream c.args.off c.args.bit c.args.on) (area (kept_in c.self.inside.base.items c.flip.new.self (set c.self.inside.places c.from.result None))) = logged_in c.self.inside.base.items c.self.inside.logs c.flip.new.self c.self.inside.places c.from.result (bit_call c.args.stream c.args.off c.args.bit c.args.on) c.from.ensures c.in_ok-flip.ensures.ok in
    subst (λ (k : AreaLists). IsLoggedIn (area k) (bit_call c.args.stream c.args.off c.args.bit c.args.on) (area (kept_in c.self.inside.base.items c.flip.new.self (set c.self.inside.places c.from.result None)))) c.self.view_is logged

pub returns-clause-now : goal.returns-clause-now
returns-clause-now c =
    let may : MayLog (area (kept_in c.self.inside.base.items c.self.inside.logs c.self.inside.places)) (bit_call c.args.stream c.args.off c.args.bit c.args.on) = subst (λ (k : AreaLists). MayLog (area k) (bit_call c.args.stream c.args.off c.args.bit c.args.on)) (sym c.self.view_is) c.requires in
    let logged : IsLoggedIn (area (kept_in c.self.inside.base.items c.self.inside.logs c.self.inside.places)) (bit_call c.args.stream c.args.off c.args.bit c.args.on) (area (kept_in c.self.inside.base.items c.flip.new.self (set c.self.inside.places c.from.result None))) = logged_in c.self.inside.base.items c.self.inside.logs c.flip.new.self c.self.inside.places c.from.result (bit_call c.args.stream c.args.off c.args.bit c.args.on) c.from.ensures c.in_ok-flip.ensures.ok in
    standing_call c.self.inside.base.items c.self.inside.logs c.flip.new.self c.self.inside.copy c.self.inside.places c.from.result (bit_call c.args.stream c.args.off c.args.bit c.args.on) may logged c.self.invariant ∙ ap (λ (k : AreaLists). recorded (standing (area k)) (bit_call c.args.stream c.args.off c.args.bit c.args.on).rec) c.self.view_is
