use Rattle.std.proofs.Common.{sym, ◌∙◌, arith}
use Rattle.std.proofs.lemmas.Result.{err_from_is_err_and}
use Rattle.image_model.specs.Volumes.{volume_of}
use Rattle.image_model.specs.Files.{file_bytes}
use Rattle.image_model.specs.Trees.{tree_of}
use Rattle.image_check.proofs.Sounds.{sound_of}
use Rattle.image_check.proofs.Preordered.{inodes_listed}
use Rattle.image_check.proofs.Spelling.{spelled_by}
use Rattle.image_check.proofs.placing.check.Goals as goal

pub returns-in_err-table : goal.returns-in_err-table
returns-in_err-table c =
    let p = err_from_is_err_and c.from_residual.result c.from_residual.ensures.1 in
    rw (p.1, p.2) c.in_err-table.ensures.verdict

pub returns-in_err-inodes : goal.returns-in_err-inodes
returns-in_err-inodes c =
    let p = err_from_is_err_and c.from_residual-in_err-inodes.result c.from_residual-in_err-inodes.ensures.1 in
    rw (p.1, p.2) tt

pub build-requires : goal.build-requires
build-requires c =
    let v = volume_of c.args.geometry.now c.args.volume.now in
    let few = c.args.geometry.now.most_inodes in
    (tree_of v, spelled_by c.args.last v c.in_ok-table.table c.in_ok-inodes.inodes c.in_ok-table.ensures.verdict c.in_ok-table.ensures.table c.in_ok-inodes.ensures (omega arith))

pub returns-in_err-tree : goal.returns-in_err-tree
returns-in_err-tree c =
    let p = err_from_is_err_and c.from_residual-in_err-tree.result c.from_residual-in_err-tree.ensures.1 in
    rw (p.1, p.2) tt

pub returns : goal.returns
returns c =
    let v = volume_of c.args.geometry.now c.args.volume.now in
    let few = c.args.geometry.now.most_inodes in
    let sound = sound_of c.args.last v c.in_ok-table.ensures.verdict in
    record {
      passes = c.in_ok-table.ensures.verdict;
      tree = c.in_ok-tree.ensures (tree_of v) (spelled_by c.args.last v c.in_ok-table.table c.in_ok-inodes.inodes c.in_ok-table.ensures.verdict c.in_ok-table.ensures.table c.in_ok-inodes.ensures (omega arith));
      inodes = c.in_ok-inodes.ensures ∙ inodes_listed v c.in_ok-table.table sound c.in_ok-table.ensures.table;
      orphans = c.new.ensures ∙ sym (sound.gone (file_bytes v));
      number = c.long_at.ensures;
    }
