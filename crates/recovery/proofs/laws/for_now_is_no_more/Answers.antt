use Rattle.recovery.proofs.Carried as carried
use Rattle.recovery.proofs.laws.for_now_is_no_more.Goals as goal

pub returns : goal.returns
returns c = carried.for_now_is_no_more
