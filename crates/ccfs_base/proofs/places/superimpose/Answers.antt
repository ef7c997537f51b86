use Rattle.std.proofs.Common.{arith, ◌≡◌, ◌+◌, ◌-◌, ◌∙◌, ap, length, ℕ, List}
use borrow.Rule.Slice.PartMut.{put_mid}
use Rattle.ccfs_base.proofs.Over.{put_mid_is}
use Rattle.ccfs_base.proofs.places.superimpose.Goals as goal

pub returns : goal.returns
returns c =
    let n : ℕ = c.args.off + length c.args.bytes.now - c.args.off in
    let e : n ≡ length c.args.bytes.now = omega arith in
    ap (λ (z : List ℕ). put_mid c.args.off n c.args.base.now z) c.copy_from_slice.ensures.after
    ∙ put_mid_is c.args.bytes.now c.args.base.now c.args.off n e c.requires
