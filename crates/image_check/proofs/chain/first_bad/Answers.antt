use Rattle.std.proofs.Common.{sym, ap, subst}
use Rattle.std.specs.Prelude.{option_map}
use Rattle.image_model.specs.Volumes.{volume_of}
use Rattle.image_model.specs.Checks.{first_failure_for_now}
use Rattle.image_check.specs.Kinds.{told}
use Rattle.image_check.specs.Verdicts.{Tells}
use Rattle.image_check.proofs.chain.first_bad.Goals.{in-Ok, in-Err-Bad, in-Err-NoMemory}
use Rattle.image_check.proofs.chain.first_bad.Goals as goal

pub returns : goal.returns
returns c =
    let failed = first_failure_for_now c.args.last (volume_of c.args.geometry.now c.args.volume.now) in
    elim c.match-checked.branch [
      | in-Ok w ↦ rw w.result-is (sym (ap (option_map told) w.in-Ok.ensures.verdict))
      | in-Err-Bad w ↦ rw w.result-is (sym (subst (Tells failed) w.in-Err-Bad.field-0-is w.in-Err-Bad.ensures.verdict))
      | in-Err-NoMemory w ↦ rw w.result-is tt
    ]
