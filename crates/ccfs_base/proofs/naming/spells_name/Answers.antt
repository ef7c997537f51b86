use Rattle.std.proofs.Common.{◌∙◌, arith, rules}
use Rattle.std.proofs.lemmas.Bool.Decides.{nat_tests}
use Rattle.ccfs_base.proofs.Kept.{name_is}
use Rattle.ccfs_base.proofs.naming.spells_name.Goals as goal

pub returns : goal.returns
returns c = c.are_name_bytes.ensures ∙ name_is c.args.text.now (grind (arith, nat_tests)) (omega arith) (search rules) (search rules)
