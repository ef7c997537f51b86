use Rattle.atomic_volume.specs.declared.fault.VolumeFault.TheVariants.{Device}
use Rattle.atomic_volume.proofs.Steady.{unless_ok, unless_passed}
use Rattle.atomic_volume.proofs.looking.look.Goals as goal

pub returns-in_err-image-clause-steady : goal.returns-in_err-image-clause-steady
returns-in_err-image-clause-steady g c = λ not. unless_passed c.from_residual.result c.in_err-image.field-0.0 Device c.from_residual.ensures.1 c.in_err-image.ensures.steady not

pub returns-clause-steady : goal.returns-clause-steady
returns-clause-steady g c = λ not. unless_ok c.in_ok-image.image Device c.in_ok-image.ensures.steady
