use Rattle.std.proofs.Common.{ap, sym, ◌∙◌}
use Rattle.std.specs.FinMap as map
use Rattle.std.specs.Cmp.{nat_cmp_total}
use Rattle.flat_dirs.proofs.MapView.{get_view}
use Rattle.flat_dirs.proofs.slots.Slots.get.Goals as goal

pub returns : goal.returns
returns c = c.get.ensures.value ∙ sym (get_view nat_cmp_total c.self.inside.slots.entries c.args.inode) ∙ ap (λ m. map.get m c.args.inode) c.self.view_is
