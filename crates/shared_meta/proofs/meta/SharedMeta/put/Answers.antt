use Rattle.std.proofs.Common.{ℕ, List, sym, ap, subst, ◌∙◌, None}
use Rattle.ccfs_base.specs.Places.{IsInside}
use Rattle.ccfs_base.specs.Records.{acts_at, recorded}
use Rattle.range_log.specs.Ranges.{range_call}
use Rattle.shared_meta.specs.Area.{AreaLists, area, standing, MayLog, IsLoggedIn}
use Rattle.shared_meta.specs.Held.{stood, IsCopy, kept_in}
use Rattle.shared_meta.proofs.EachCall.{held_after, held_call, inside_made, copy_after, standing_call, logged_in, may_is_clear}
use Rattle.shared_meta.proofs.meta.SharedMeta.put.Goals as goal
use Rattle.std.proofs.Common.{set}

pub put-requires-clause-clear : goal.put-requires-clause-clear
put-requires-clause-clear c =
    let may : MayLog (area (kept_in c.self.inside.base.items c.self.inside.logs c.self.inside.places)) (range_call c.args.stream c.args.off c.args.bytes.now) = subst (λ (k : AreaLists). MayLog (area k) (range_call c.args.stream c.args.off c.args.bytes.now)) (sym c.self.view_is) c.requires in
    may_is_clear (area (kept_in c.self.inside.base.items c.self.inside.logs c.self.inside.places)) c.args.stream c.args.off c.args.bytes.now may

pub invariant_of-self-in_err-put : goal.invariant_of-self-in_err-put
invariant_of-self-in_err-put c =
    let made : IsCopy c.make_copy.new.copy (stood c.self.inside.copy c.self.inside.base.items) = subst (λ (z : List ℕ). IsCopy c.make_copy.new.copy (stood c.self.inside.copy z)) c.deref.ensures.value c.in_ok-make_copy.ensures.ok in
    held_after c.self.inside.base.items c.self.inside.logs c.put.new.self c.self.inside.copy c.make_copy.new.copy c.self.inside.places c.in_err-put.ensures.err made c.self.invariant

pub put_bytes-requires-clause-inside : goal.put_bytes-requires-clause-inside
put_bytes-requires-clause-inside c =
    let made : IsCopy c.make_copy.new.copy (stood c.self.inside.copy c.self.inside.base.items) = subst (λ (z : List ℕ). IsCopy c.make_copy.new.copy (stood c.self.inside.copy z)) c.deref.ensures.value c.in_ok-make_copy.ensures.ok in
    let may : MayLog (area (kept_in c.self.inside.base.items c.self.inside.logs c.self.inside.places)) (range_call c.args.stream c.args.off c.args.bytes.now) = subst (λ (k : AreaLists). MayLog (area k) (range_call c.args.stream c.args.off c.args.bytes.now)) (sym c.self.view_is) c.requires in
    subst (λ (n : ℕ). IsInside n (acts_at (range_call c.args.stream c.args.off c.args.bytes.now).rec)) (sym (inside_made c.self.inside.base.items c.self.inside.logs c.self.inside.copy c.make_copy.new.copy c.self.inside.places c.self.invariant made)) may.inside

pub invariant_of-self-2 : goal.invariant_of-self-2
invariant_of-self-2 c =
    let made : IsCopy c.make_copy.new.copy (stood c.self.inside.copy c.self.inside.base.items) = subst (λ (z : List ℕ). IsCopy c.make_copy.new.copy (stood c.self.inside.copy z)) c.deref.ensures.value c.in_ok-make_copy.ensures.ok in
    let may : MayLog (area (kept_in c.self.inside.base.items c.self.inside.logs c.self.inside.places)) (range_call c.args.stream c.args.off c.args.bytes.now) = subst (λ (k : AreaLists). MayLog (area k) (range_call c.args.stream c.args.off c.args.bytes.now)) (sym c.self.view_is) c.requires in
    let logged : IsLoggedIn (area (kept_in c.self.inside.base.items c.self.inside.logs c.self.inside.places)) (range_call c.args.stream c.args.off c.args.bytes.now) (area (kept_in c.self.inside.base.items c.put.new.self (set c.self.inside.places c.from.result None))) = logged_in c.self.inside.base.items c.self.inside.logs c.put.new.self c.self.inside.places c.from.result (range_call c.args.stream c.args.off c.args.bytes.now) c.from.ensures c.in_ok-put.ensures.ok in
    held_call c.self.inside.base.items c.self.inside.logs c.put.new.self c.self.inside.copy c.put_bytes.new.copy c.self.inside.places c.from.result (range_call c.args.stream c.args.off c.args.bytes.now) c.from.ensures may logged (copy_after c.self.inside.base.items c.self.inside.copy c.make_copy.new.copy c.put_bytes.new.copy (range_call c.args.stream c.args.off c.args.bytes.now).rec made c.put_bytes.ensures) c.self.invariant

pub returns-clause-ok : goal.returns-clause-ok
returns-clause-ok c =
    let logged : IsLoggedIn (area (kept_in c.self.inside.base.items c.self.inside.logs c.self.inside.places)) (range_call c.args.stream c.args.off c.args.bytes.now) (area (kept_in c.self.inside.base.items c.put.new.self (set c.self.inside.places c.from.result None))) = logged_in c.self.inside.base.items c.self.inside.logs c.put.new.self c.self.inside.places c.from.result (range_call c.args.stream c.args.off c.args.bytes.now) c.from.ensures c.in_ok-put.ensures.ok in
    subst (λ (k : AreaLists). IsLoggedIn (area k) (range_call c.args.stream c.args.off c.args.bytes.now) (area (kept_in c.self.inside.base.items c.put.new.self (set c.self.inside.places c.from.result None)))) c.self.view_is logged

pub returns-clause-now : goal.returns-clause-now
returns-clause-now c =
    let may : MayLog (area (kept_in c.self.inside.base.items c.self.inside.logs c.self.inside.places)) (range_call c.args.stream c.args.off c.args.bytes.now) = subst (λ (k : AreaLists). MayLog (area k) (range_call c.args.stream c.args.off c.args.bytes.now)) (sym c.self.view_is) c.requires in
    let logged : IsLoggedIn (area (kept_in c.self.inside.base.items c.self.inside.logs c.self.inside.places)) (range_call c.args.stream c.args.off c.args.bytes.now) (area (kept_in c.self.inside.base.items c.put.new.self (set c.self.inside.places c.from.result None))) = logged_in c.self.inside.base.items c.self.inside.logs c.put.new.self c.self.inside.places c.from.result (range_call c.args.stream c.args.off c.args.bytes.now) c.from.ensures c.in_ok-put.ensures.ok in
    standing_call c.self.inside.base.items c.self.inside.logs c.put.new.self c.self.inside.copy c.self.inside.places c.from.result (range_call c.args.stream c.args.off c.args.bytes.now) may logged c.self.invariant ∙ ap (λ (k : AreaLists). recorded (standing (area k)) (range_call c.args.stream c.args.off c.args.bytes.now).rec) c.self.view_is
