use Rattle.ccfs_top.proofs.Said.{said}
use Rattle.ccfs_top.proofs.say.say.Goals as goal

pub returns-clause-text : goal.returns-clause-text
returns-clause-text g c = λ told. said c.write_all-written.result _ _ _ _ (c.write_all-written.ensures.ok told) (c.write_all-written.ensures.err told) c.write_all-written.ensures.cause.failed
