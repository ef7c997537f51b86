use Rattle.std.proofs.Common.{ap, sym, ◌∙◌}
use Rattle.std.specs.FinMap as map
use Rattle.std.specs.List.{list_any}
use Rattle.std.specs.Ordering.{nat_cmp, is_eq}
use Rattle.flat_dirs.specs.Index.{place_cmp}
use Rattle.flat_dirs.specs.Slots.{is_slot_at}
use Rattle.flat_dirs.proofs.slots.Slots.new.Goals as goal

pub invariant_of-result : goal.invariant_of-result
invariant_of-result c = λ p n i.
    ap (list_any (λ k. is_eq (place_cmp (p, n, i) k))) c.new-2.ensures.empty
    ∙ sym (ap (λ es. is_slot_at (map.get (map.from_entries {R = nat_cmp} es) i) p n) c.new.ensures.empty ∙ ap (λ o. is_slot_at o p n) (map.get-empty nat_cmp i))
