use Rattle.recovery.proofs.Exact.{bad_recover_to_nothing, nothing_is_bad}
use Rattle.recovery.proofs.laws.images_are_bad_or_recover.Goals as goal

pub returns-clause-never_both : goal.returns-clause-never_both
returns-clause-never_both c = bad_recover_to_nothing

pub returns-clause-one_of_both : goal.returns-clause-one_of_both
returns-clause-one_of_both c = nothing_is_bad
