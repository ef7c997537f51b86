use Rattle.std.proofs.Common.{ap, sym, subst, ◌∙◌, ◌≡◌}
use Rattle.std.specs.FinMap as map
use Rattle.std.specs.declared.option.Option.TheVariants.{Some}
use Rattle.std.specs.Cmp.{nat_cmp_total}
use Rattle.flat_dirs.specs.Index.{IsIndex}
use Rattle.flat_dirs.proofs.MapView.{get_view, removed_view}
use Rattle.flat_dirs.proofs.Indexed.{taken_out}
use Rattle.flat_dirs.proofs.slots.Slots.remove.Goals as goal

pub invariant_of-self : goal.invariant_of-self
invariant_of-self c =
    let old = c.self.inside in
    let k = c.args.inode in
    let is : map.get (map.from_entries old.slots.entries) k ≡ Some c.in-Some.old = get_view nat_cmp_total old.slots.entries k ∙ sym c.in-Some.ensures.value in
    let less = removed_view nat_cmp_total map.nat_cmp-IsAntisymmetric old.slots.entries c.remove.new.self.entries k c.remove.ensures.updates.0 in
    subst (λ m. IsIndex m c.leave.new.places) (sym less) (taken_out (map.from_entries old.slots.entries) old.places c.leave.new.places k c.in-Some.old c.self.invariant is c.leave.ensures)

pub returns-in-Some : goal.returns-in-Some
returns-in-Some c =
    removed_view nat_cmp_total map.nat_cmp-IsAntisymmetric c.self.inside.slots.entries c.remove.new.self.entries c.args.inode c.remove.ensures.updates.0
    ∙ ap (λ m. map.remove m c.args.inode) c.self.view_is

pub returns-in_default : goal.returns-in_default
returns-in_default c =
    removed_view nat_cmp_total map.nat_cmp-IsAntisymmetric c.self.inside.slots.entries c.remove.new.self.entries c.args.inode c.remove.ensures.updates.0
    ∙ ap (λ m. map.remove m c.args.inode) c.self.view_is
