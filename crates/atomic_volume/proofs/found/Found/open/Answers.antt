use Rattle.std.proofs.Common.{◌≡◌}
use Rattle.atomic_volume.specs.declared.fault.VolumeFault.TheVariants.{Device}
use Rattle.atomic_volume.proofs.Steady.{unless_ok}
use Rattle.atomic_volume.proofs.found.Found.open.Goals as goal

pub returns-in-Ok-clause-steady : goal.returns-in-Ok-clause-steady
returns-in-Ok-clause-steady g c = unless_ok c.in-Ok.image Device c.in-Ok.ensures.steady

pub returns-in-Err-clause-calm : goal.returns-in-Err-clause-calm
returns-in-Err-clause-calm g c = λ not. c.in-Err.ensures.steady (λ is. let same : c.in-Err.fault ≡ Device = cc in not same)
