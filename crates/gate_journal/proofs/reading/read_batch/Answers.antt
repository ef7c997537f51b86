use Rattle.std.proofs.Common.{◌≡◌, ℕ, List, take, drop, ap, ◌∙◌, arith}
use Rattle.std.proofs.lemmas.List.{take_rest}
use Rattle.byteorder.specs.Endian.{little_number}
use Rattle.gate_journal.proofs.ReadSteps.{batch_unfilled}
use Rattle.gate_journal.proofs.reading.read_batch.Goals as goal

pub returns-else-branch : goal.returns-else-branch
returns-else-branch c =
    let bytes : List ℕ = c.args.bytes.now in
    let number : ℕ = c.read_u64-number.result in
    let count : c.read_u32-count.result ≡ little_number 4 (drop 8 bytes) = c.read_u32-count.ensures ∙ ap (little_number 4) (take_rest bytes 8) in
    let records : c.read_u32-records.result ≡ little_number 4 (drop 12 bytes) = c.read_u32-records.ensures ∙ ap (little_number 4) (take_rest bytes 12) in
    let body : c.split_at.result.0.now ≡ take c.read_u32-count.result (drop 16 bytes) = c.split_at.ensures.front ∙ ap (take c.read_u32-count.result) (take_rest bytes 16) in
    batch_unfilled c.args.size number c.read_u32-count.result c.read_u32-records.result c.args.before bytes c.split_at.result.0.now (omega arith) c.read_u64-number.ensures count records body
    ((rw c.if-branch.false at c.in_ok-read_records.ensures) number)
