use Rattle.std.proofs.Common.{◌∙◌, ap}
use Rattle.std.specs.Result.{result_ok}
use Rattle.script_text.proofs.Parts.{byte_none, byte_some}
use Rattle.script_text.proofs.data_words.byte_of.Goals as goal

pub returns-in_err-byte : goal.returns-in_err-byte
returns-in_err-byte c = c.from_residual.ensures ∙ byte_none c.args.high c.args.low (c.in_err-byte.ensures.value ∙ ap result_ok c.from_hex.ensures)

pub returns : goal.returns
returns c = byte_some c.args.high c.args.low c.in_ok-byte.field-0 (c.in_ok-byte.ensures.value ∙ ap result_ok c.from_hex.ensures)
