use Rattle.gate_journal.proofs.WrittenBatches.{written_are_read}
use Rattle.gate_journal.proofs.laws.written_batches_are_read.Goals as goal

pub returns : goal.returns
returns c = written_are_read c.args.size c.args.before c.args.batches.now c.args.rest.now c.requires.fits c.requires.in_a_row
