use Rattle.std.proofs.Common.{arith, ◌<◌, ◌≤◌, ◌∙◌, length, vec_len}
use Rattle.disk_model.proofs.Replays.{loose_at_end}
use Rattle.disk_model.proofs.image.loose_places.Goals as goal

pub returns-clause-places : goal.returns-clause-places
returns-clause-places c = λ k lt.
    let h = c.args.history.now in
    let below : k < vec_len h.bytes = omega (arith, lt, c.loop-i.invariant.size) in
    let le : length h.operations.items ≤ c.loop-i.i = omega arith in
    c.loop-i.invariant.places k below ∙ loose_at_end c.args.synced h.operations.items c.loop-i.i k c.requires le
