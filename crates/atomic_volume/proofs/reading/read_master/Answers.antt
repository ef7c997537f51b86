use Rattle.atomic_volume.specs.declared.fault.VolumeFault.TheVariants.{Device}
use Rattle.atomic_volume.proofs.Steady.{passed_on}
use Rattle.atomic_volume.proofs.reading.read_master.Goals as goal

pub returns-in_err-fill-clause-steady : goal.returns-in_err-fill-clause-steady
returns-in_err-fill-clause-steady g c = λ not. absurd (not (passed_on c.from_residual.result c.in_err-fill.field-0.0 Device c.from_residual.ensures.1 c.in_err-fill.ensures.fault))
