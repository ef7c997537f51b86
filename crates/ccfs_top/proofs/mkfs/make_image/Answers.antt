use Rattle.std.proofs.Common.{◌≡◌, ◌-◌, ap, ◌∙◌, refl, arith}
use Rattle.script_text.specs.Texts.{made_line}
use Rattle.block_layout.specs.Sizes.{data_start}
use Rattle.ccfs_top.specs.Runs.{fresh}
use Rattle.ccfs_top.proofs.Ending.{part_of_line}
use Rattle.ccfs_top.proofs.mkfs.make_image.Goals as goal

pub returns-in-Ok-write_all-clause-new : goal.returns-in-Ok-write_all-clause-new
returns-in-Ok-write_all-clause-new g c = λ told. record {
  geometry = c.args.geometry.now;
  blocks_are = refl;
  inodes_are = refl;
  fresh = c.in-Ok-make.ensures.fresh told;
  stable = c.in-Ok-make.ensures.stable told;
}

pub returns-clause-grew : goal.returns-clause-grew
returns-clause-grew g c = λ told.
    let geometry = c.args.geometry.now in
    let blocks_left : geometry.data_blocks ≡ geometry.blocks - data_start geometry.inodes = omega (arith, geometry.first_data_place, geometry.data_to_the_end) in
    let line = (fresh geometry.blocks geometry.inodes).last in
    let text : c.all.result.now ≡ line = c.all.ensures ∙ c.in-Ok.ensures ∙ ap (made_line geometry.blocks geometry.inodes) blocks_left in
    let part = part_of_line (g.K.Sink.held c.args.out.now) (g.K.Sink.held c.write_all.new.out) line c.all.result.now (c.in-Err.ensures.err told) text in
    (part.0, part.1, record { said = part.0; text = refl; part = part.2 })
