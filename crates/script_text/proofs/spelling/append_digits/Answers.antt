use Rattle.std.proofs.Common.{arith}
use Rattle.std.proofs.lemmas.Grind.{common_steps}
use Rattle.hex.specs.Hex.{encode_with}
use Rattle.script_text.proofs.Runs.{encode_lower-append}
use Rattle.script_text.proofs.spelling.append_digits.Goals as goal

pub loop-byte-preserved : goal.loop-byte-preserved
loop-byte-preserved c = grind (arith, common_steps, encode_lower-append)

pub loop-byte-init : goal.loop-byte-init
unfolding encode_with
loop-byte-init c = grind (arith, common_steps)
