use Rattle.std.proofs.Common.{rules, arith, ◌≡◌, ◌<◌, ◌≤◌, ◌∙◌, sym, subst, length, reverse, take, vec_len}
use Rattle.disk_model.specs.Replay.{replayed, IsWithin}
use Rattle.disk_model.proofs.Replays.{within_at, stable_at_end}
use Rattle.disk_model.proofs.image.stable_bytes.Goals as goal

pub step-requires : goal.step-requires
step-requires c =
    let h = c.args.history.now in
    let lt : c.loop-i.i < length h.operations.items = omega arith in
    subst (IsWithin c.operation-item.result) (sym (let e : vec_len c.loop-i.stable ≡ length (replayed c.args.synced h.start.items (reverse (take c.loop-i.i h.operations.items))) = search rules in e))
    (within_at c.args.synced h.start.items h.operations.items c.loop-i.i c.operation-item.result h.inside lt (search rules))

pub returns : goal.returns
returns c =
    let h = c.args.history.now in
    let le : length h.operations.items ≤ c.loop-i.i = omega arith in
    c.loop-i.invariant ∙ stable_at_end c.args.synced h.start.items h.operations.items c.loop-i.i c.requires le
