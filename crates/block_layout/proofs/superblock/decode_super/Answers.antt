use Rattle.std.proofs.Common.{◌≡◌, None, rules, sym, ap, ◌∙◌}
use Rattle.block_layout.specs.Super.{super_bytes, inodes_named, first_wrong}
use Rattle.block_layout.proofs.Written.{right_is_written}
use Rattle.block_layout.proofs.superblock.decode_super.Goals as goal

pub returns-clause-written : goal.returns-clause-written
returns-clause-written c =
    let bytes = c.args.bytes.now in
    let none : first_wrong bytes ≡ None = search rules in
    let named = c.in_ok-geometry.ensures in
    right_is_written bytes c.told-bytes c.fits-bytes none
    ∙ ap (λ z. super_bytes z (inodes_named bytes)) (sym named.blocks)
    ∙ ap (super_bytes c.in_ok-geometry.geometry.blocks) (sym named.inodes)
