use Rattle.std.proofs.Common.{ℕ, List, subst}
use Rattle.shared_meta.specs.Held.{stood, IsCopy}
use Rattle.shared_meta.proofs.EachCall.{held_after}
use Rattle.shared_meta.proofs.meta.SharedMeta.add_room.Goals as goal

pub invariant_of-self-2 : goal.invariant_of-self-2
invariant_of-self-2 c =
    let made : IsCopy c.make_copy.new.copy (stood c.self.inside.copy c.self.inside.base.items) = subst (λ (z : List ℕ). IsCopy c.make_copy.new.copy (stood c.self.inside.copy z)) c.deref.ensures.value c.in_ok-make_copy.ensures.ok in
    held_after c.self.inside.base.items c.self.inside.logs c.add_room.new.self c.self.inside.copy c.make_copy.new.copy c.self.inside.places c.add_room.ensures.kept made c.self.invariant
