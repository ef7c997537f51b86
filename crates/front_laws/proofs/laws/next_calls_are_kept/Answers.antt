use Rattle.front_laws.proofs.MoreCalls as more
use Rattle.front_laws.proofs.laws.next_calls_are_kept.Goals as goal

pub returns : goal.returns
returns c = more.next_calls_are_kept
