-- What the map held at the inode is in the index, and each case takes that place out or has none to take out.
use Rattle.std.proofs.Common.{◌≡◌, ap, sym, subst, ◌∙◌}
use Rattle.std.specs.Prelude.{OnOk, IfOk}
use Rattle.std.specs.FinMap as map
use Rattle.std.specs.BTreeMap.{get, Updates}
use Rattle.std.specs.declared.option.Option.{Option}
use Rattle.std.specs.declared.option.Option.TheVariants.{None, Some}
use Rattle.std.specs.Ordering.{nat_cmp}
use Rattle.std.specs.Cmp.{nat_cmp_total}
use Rattle.flat_dirs.specs.declared.slot.Slot.{Slot}
use Rattle.flat_dirs.specs.Index.{IsIndex}
use Rattle.flat_dirs.proofs.MapView.{get_view, inserted_view}
use Rattle.flat_dirs.proofs.Indexed.{put_new, put_same, put_other, put_undone, same_slot, apart_slots}
use Rattle.flat_dirs.proofs.slots.Slots.put.Goals as goal

pub invariant_of-self-then-eq : goal.invariant_of-self-then-eq
invariant_of-self-then-eq c =
    let old = c.self.inside in
    let k = c.args.inode in
    let held : c.in-Ok-Some.field-0 ≡ get nat_cmp old.slots k = subst (λ r. IfOk r (λ (o : Option Slot). o ≡ get nat_cmp old.slots k)) c.in-Ok-Some.is c.insert.ensures.old in
    let updates = subst (λ r. OnOk r (Updates nat_cmp old.slots c.insert.new.self k (Some c.args.slot))) c.in-Ok-Some.is c.insert.ensures.updates in
    let same : c.in-Ok-Some.was ≡ c.args.slot = same_slot c.in-Ok-Some.was c.args.slot (sym c.eq.ensures ∙ c.if-eq.true) in
    let is : map.get (map.from_entries old.slots.entries) k ≡ Some c.args.slot = get_view nat_cmp_total old.slots.entries k ∙ sym held ∙ c.in-Ok-Some.field-0-is ∙ ap (λ z. Some z) same in
    subst (λ m. IsIndex m c.enter.new.places) (sym (inserted_view nat_cmp_total map.nat_cmp-IsAntisymmetric old.slots.entries c.insert.new.self.entries k c.args.slot updates.0))
    (put_same (map.from_entries old.slots.entries) old.places c.enter.new.places k c.args.slot c.self.invariant is c.in_ok-enter.ensures.ok)

pub invariant_of-self-in-Ok-Some-2 : goal.invariant_of-self-in-Ok-Some-2
invariant_of-self-in-Ok-Some-2 c =
    let old = c.self.inside in
    let k = c.args.inode in
    let held : c.in-Ok-Some.field-0 ≡ get nat_cmp old.slots k = subst (λ r. IfOk r (λ (o : Option Slot). o ≡ get nat_cmp old.slots k)) c.in-Ok-Some.is c.insert.ensures.old in
    let updates = subst (λ r. OnOk r (Updates nat_cmp old.slots c.insert.new.self k (Some c.args.slot))) c.in-Ok-Some.is c.insert.ensures.updates in
    let is : map.get (map.from_entries old.slots.entries) k ≡ Some c.in-Ok-Some.was = get_view nat_cmp_total old.slots.entries k ∙ sym held ∙ c.in-Ok-Some.field-0-is in
    subst (λ m. IsIndex m c.leave.new.places) (sym (inserted_view nat_cmp_total map.nat_cmp-IsAntisymmetric old.slots.entries c.insert.new.self.entries k c.args.slot updates.0))
    (put_other (map.from_entries old.slots.entries) old.places c.enter.new.places c.leave.new.places k c.in-Ok-Some.was c.args.slot c.self.invariant is
    (apart_slots c.in-Ok-Some.was c.args.slot (sym c.eq.ensures ∙ c.if-eq.false)) c.in_ok-enter.ensures.ok c.leave.ensures)

pub invariant_of-self-in-Ok-None : goal.invariant_of-self-in-Ok-None
invariant_of-self-in-Ok-None c =
    let old = c.self.inside in
    let k = c.args.inode in
    let held : c.in-Ok-None.field-0 ≡ get nat_cmp old.slots k = subst (λ r. IfOk r (λ (o : Option Slot). o ≡ get nat_cmp old.slots k)) c.in-Ok-None.is c.insert.ensures.old in
    let updates = subst (λ r. OnOk r (Updates nat_cmp old.slots c.insert.new.self k (Some c.args.slot))) c.in-Ok-None.is c.insert.ensures.updates in
    let is : map.get (map.from_entries old.slots.entries) k ≡ None = get_view nat_cmp_total old.slots.entries k ∙ sym held ∙ c.in-Ok-None.field-0-is in
    subst (λ m. IsIndex m c.enter.new.places) (sym (inserted_view nat_cmp_total map.nat_cmp-IsAntisymmetric old.slots.entries c.insert.new.self.entries k c.args.slot updates.0))
    (put_new (map.from_entries old.slots.entries) old.places c.enter.new.places k c.args.slot c.self.invariant is c.in_ok-enter.ensures.ok)

pub invariant_of-self-in-Err : goal.invariant_of-self-in-Err
invariant_of-self-in-Err c =
    let old = c.self.inside in
    let k = c.args.inode in
    let is : map.get (map.from_entries old.slots.entries) k ≡ None = get_view nat_cmp_total old.slots.entries k ∙ c.in-Err.ensures.absent in
    subst (λ es. IsIndex (map.from_entries es) c.leave-in-Err.new.places) (sym c.in-Err.ensures.err)
    (put_undone (map.from_entries old.slots.entries) old.places c.enter.new.places c.leave-in-Err.new.places k c.args.slot c.self.invariant is c.in_ok-enter.ensures.ok c.leave-in-Err.ensures)

pub returns-in-Ok-Some-clause-ok : goal.returns-in-Ok-Some-clause-ok
returns-in-Ok-Some-clause-ok c =
    let updates = subst (λ r. OnOk r (Updates nat_cmp c.self.inside.slots c.insert.new.self c.args.inode (Some c.args.slot))) c.in-Ok-Some.is c.insert.ensures.updates in
    inserted_view nat_cmp_total map.nat_cmp-IsAntisymmetric c.self.inside.slots.entries c.insert.new.self.entries c.args.inode c.args.slot updates.0
    ∙ ap (λ m. map.insert m c.args.inode c.args.slot) c.self.view_is

pub returns-in-Ok-Some-2-clause-ok : goal.returns-in-Ok-Some-2-clause-ok
returns-in-Ok-Some-2-clause-ok c =
    let updates = subst (λ r. OnOk r (Updates nat_cmp c.self.inside.slots c.insert.new.self c.args.inode (Some c.args.slot))) c.in-Ok-Some.is c.insert.ensures.updates in
    inserted_view nat_cmp_total map.nat_cmp-IsAntisymmetric c.self.inside.slots.entries c.insert.new.self.entries c.args.inode c.args.slot updates.0
    ∙ ap (λ m. map.insert m c.args.inode c.args.slot) c.self.view_is

pub returns-in-Ok-None-clause-ok : goal.returns-in-Ok-None-clause-ok
returns-in-Ok-None-clause-ok c =
    let updates = subst (λ r. OnOk r (Updates nat_cmp c.self.inside.slots c.insert.new.self c.args.inode (Some c.args.slot))) c.in-Ok-None.is c.insert.ensures.updates in
    inserted_view nat_cmp_total map.nat_cmp-IsAntisymmetric c.self.inside.slots.entries c.insert.new.self.entries c.args.inode c.args.slot updates.0
    ∙ ap (λ m. map.insert m c.args.inode c.args.slot) c.self.view_is

pub returns-in-Err-clause-other : goal.returns-in-Err-clause-other
returns-in-Err-clause-other c = λ there.
    let none : map.get c.args.self.now c.args.inode ≡ None =
    sym (ap (λ m. map.get m c.args.inode) c.self.view_is) ∙ get_view nat_cmp_total c.self.inside.slots.entries c.args.inode ∙ c.in-Err.ensures.absent in
    cc
