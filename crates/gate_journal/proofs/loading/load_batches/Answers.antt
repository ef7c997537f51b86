use Rattle.std.proofs.lemmas.Result.{err_from_is_err_and}
use Rattle.gate_journal.proofs.loading.load_batches.Goals as goal

pub returns-in_err-area-clause-refuses : goal.returns-in_err-area-clause-refuses
returns-in_err-area-clause-refuses g c = λ told settled counts.
    let p = err_from_is_err_and c.from_residual.result c.from_residual.ensures.1 in
    rw (p.1, p.2) (c.in_err-area.ensures.refuses (g.D.Disk.seen c.args.disk.now) c.args.volume_bytes)
