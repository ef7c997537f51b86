use Rattle.std.proofs.Common.{◌≡◌, ℕ, List, refl, arith}
use Rattle.std.specs.Prelude.{MatchOption}
use Rattle.std.proofs.lemmas.List.Elements.{All-from_get_or}
use Rattle.std.specs.declared.option.Option.{Option}
use Rattle.std.specs.declared.option.Option.TheVariants.{None, Some}
use Rattle.gate_journal.specs.declared.batches.Batch.{Batch}
use Rattle.gate_journal.specs.Batches.{batches_at, IsSpelled}
use Rattle.gate_journal.proofs.NumberBytes.{IsByte}
use Rattle.gate_journal.proofs.ReadBatches.{read_was_written}
use Rattle.gate_journal.proofs.laws.what_is_read_was_written.Goals as goal

each_read : (size : ℕ) (before : Option ℕ) (count : ℕ) (bytes : List ℕ) (o : Option (List Batch × List ℕ)) → ((batches : List Batch) (rest : List ℕ) → o ≡ Some (batches, rest) → IsSpelled size before count bytes batches rest)
    → MatchOption o (Unit {0}) (λ read. IsSpelled size before count bytes read.0 read.1)
each_read size before count bytes None h = tt
each_read size before count bytes (Some read) h = h read.0 read.1 refl

pub returns : goal.returns
returns c =
    let bytes : List ℕ = c.args.bytes.now in
    each_read c.args.size c.args.before c.args.count bytes (batches_at c.args.size c.args.before c.args.count bytes)
    (λ batches rest p. read_was_written c.args.size c.args.count c.args.before bytes batches rest (All-from_get_or IsByte bytes 0 (λ i lt. omega (arith, c.type_inv.bytes i))) p)
