use Rattle.std.proofs.Common.{◌≡◌, length, refl, ap, ◌∙◌, arith, vec_items, vec_capacity}
use Rattle.stream_txn.specs.Space.{kept_in}
use Rattle.stream_txn.proofs.Holding.{held_out}
use Rattle.stream_txn.proofs.txns.Txns.take_sealed.Goals as goal

pub invariant_of-self : goal.invariant_of-self
invariant_of-self c =
    let long : length c.self.inside.places ≡ 64 = omega arith in
    held_out (kept_in c.self.inside.accounts c.self.inside.gave_blocks c.self.inside.gave_rows c.self.inside.ops c.self.inside.places c.self.inside.seals c.self.inside.queue.items)
    (kept_in c.self.inside.accounts c.self.inside.gave_blocks c.self.inside.gave_rows c.self.inside.ops c.self.inside.places c.self.inside.seals c.replace.new.dest.items)
    c.self.inside.places (vec_capacity c.self.inside.queue) (vec_capacity c.replace.new.dest) c.self.invariant
    c.self.invariant.sums.0 c.self.invariant.sums.1 c.self.invariant.streams (ap vec_items c.replace.ensures.after ∙ c.new.ensures.items) refl long
