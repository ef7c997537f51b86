use Rattle.crash_meaning.proofs.Composing as laws
use Rattle.crash_meaning.proofs.rows_compose.Goals as goal

pub returns : goal.returns
returns g c = laws.rows_compose g.D.Disk g.K.Sink (λ told. g.met.D.Disk.may_leave_seen told)
