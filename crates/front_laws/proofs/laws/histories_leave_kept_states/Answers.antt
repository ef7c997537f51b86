use Rattle.front_laws.proofs.KeptNow as kept
use Rattle.front_laws.proofs.laws.histories_leave_kept_states.Goals as goal

pub returns : goal.returns
returns c = kept.histories_leave_kept_states
