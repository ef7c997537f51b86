use Rattle.std.proofs.Common.{◌++◌, sym, ap, ◌∙◌}
use Rattle.std.proofs.lemmas.Result.{err_from_is_err_and}
use Rattle.image_model.specs.declared.check.Check.TheVariants as checks
use Rattle.image_model.specs.Volumes.{volume_of}
use Rattle.image_model.specs.Checks.{bare, failure, unless}
use Rattle.image_check.specs.Verdicts.{inode_checks, block_checks}
use Rattle.image_check.proofs.Verdict.{refused, inodes_tell, blocks_tell, none_fails}
use Rattle.image_check.proofs.chain.checked.Goals as goal

pub returns-in_err-pass-clause-verdict : goal.returns-in_err-pass-clause-verdict
returns-in_err-pass-clause-verdict c =
    let v = volume_of c.args.geometry.now c.args.volume.now in
    let formatted = sym (c.unless.ensures ∙ ap (λ b. unless b 260) c.is_format_right-formatted.ensures) in
    let p = err_from_is_err_and c.from_residual.result c.from_residual.ensures.1 in
    rw (p.1, p.2) (refused (failure bare c.args.last v) checks.Format (inode_checks ++ block_checks) c.unless.result c.in_err-pass.field-0.0 formatted c.in_err-pass.ensures)

pub returns-in_err-check_inodes-clause-verdict : goal.returns-in_err-check_inodes-clause-verdict
returns-in_err-check_inodes-clause-verdict c =
    let v = volume_of c.args.geometry.now c.args.volume.now in
    let formatted = sym (c.unless.ensures ∙ ap (λ b. unless b 260) c.is_format_right-formatted.ensures) ∙ c.in_ok-pass.ensures in
    let p = err_from_is_err_and c.from_residual-in_err-check_inodes.result c.from_residual-in_err-check_inodes.ensures.1 in
    rw (p.1, p.2) (inodes_tell c.args.last v c.in_err-check_inodes.field-0.0 formatted c.in_err-check_inodes.ensures)

pub returns-in_err-check_blocks-clause-verdict : goal.returns-in_err-check_blocks-clause-verdict
returns-in_err-check_blocks-clause-verdict c =
    let v = volume_of c.args.geometry.now c.args.volume.now in
    let formatted = sym (c.unless.ensures ∙ ap (λ b. unless b 260) c.is_format_right-formatted.ensures) ∙ c.in_ok-pass.ensures in
    let p = err_from_is_err_and c.from_residual-in_err-check_blocks.result c.from_residual-in_err-check_blocks.ensures.1 in
    rw (p.1, p.2) (blocks_tell c.args.last v c.in_err-check_blocks.field-0.0 formatted c.in_ok-check_inodes.ensures c.in_err-check_blocks.ensures)

pub returns-in_err-check_blocks-clause-table : goal.returns-in_err-check_blocks-clause-table
returns-in_err-check_blocks-clause-table c =
    let p = err_from_is_err_and c.from_residual-in_err-check_blocks.result c.from_residual-in_err-check_blocks.ensures.1 in
    rw p.1 tt

pub returns-clause-verdict : goal.returns-clause-verdict
returns-clause-verdict c =
    let v = volume_of c.args.geometry.now c.args.volume.now in
    let formatted = sym (c.unless.ensures ∙ ap (λ b. unless b 260) c.is_format_right-formatted.ensures) ∙ c.in_ok-pass.ensures in
    none_fails c.args.last v formatted c.in_ok-check_inodes.ensures c.in_ok-check_blocks.ensures
