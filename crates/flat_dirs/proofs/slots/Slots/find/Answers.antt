use Rattle.std.proofs.Common.{ap, subst, ◌∙◌}
use Rattle.std.specs.FinMap as map
use Rattle.flat_dirs.specs.Slots.{find_in, is_slot_at, IsLeast, SlotMap}
use Rattle.flat_dirs.proofs.Scan.{found_is_least, least_by_slots}
use Rattle.flat_dirs.proofs.slots.Slots.find.Goals as goal

pub returns-clause-scan : goal.returns-clause-scan
returns-clause-scan c =
    found_is_least (map.from_entries c.self.inside.slots.entries) c.self.inside.places c.args.parent c.args.name.now c.first_at.result c.self.invariant c.first_at.ensures
    ∙ ap (λ m. find_in m c.args.parent c.args.name.now) c.self.view_is

pub returns-clause-least : goal.returns-clause-least
returns-clause-least c =
    subst (λ (m : SlotMap). IsLeast (λ i. is_slot_at (map.get m i) c.args.parent c.args.name.now) c.first_at.result) c.self.view_is
    (least_by_slots (map.from_entries c.self.inside.slots.entries) c.self.inside.places c.args.parent c.args.name.now c.first_at.result c.self.invariant c.first_at.ensures)
