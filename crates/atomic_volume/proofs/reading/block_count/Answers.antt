use Rattle.std.proofs.Common.{refl}
use Rattle.atomic_volume.specs.declared.fault.VolumeFault.TheVariants.{Device}
use Rattle.atomic_volume.proofs.Steady.{passed_on}
use Rattle.atomic_volume.proofs.reading.block_count.Goals as goal

pub returns-in_err-bytes-clause-steady : goal.returns-in_err-bytes-clause-steady
returns-in_err-bytes-clause-steady g c = λ not. absurd (not (passed_on c.from_residual.result Device Device c.from_residual.ensures.1 refl))
