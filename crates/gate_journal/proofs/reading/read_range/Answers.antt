use Rattle.std.proofs.Common.{◌≡◌, ℕ, ◌-◌, List, take, drop, length, ap, ◌∙◌, arith}
use Rattle.std.proofs.lemmas.List.{take_rest}
use Rattle.byteorder.specs.Endian.{little_number}
use Rattle.gate_journal.proofs.ReadSteps.{range_missing, range_found}
use Rattle.gate_journal.proofs.reading.read_range.Goals as goal
use Rattle.gate_journal.proofs.reading.read_range.Goals.{then-len-eq0-via-then-len-eq0, then-len-eq0-via-else-len-eq0+then-off-size, then-len-eq0-via-else-len-eq0+else-off-size+then-from-size, then-len-eq0-via-else-len-eq0+else-off-size+else-from-size+then-behind-len}

pub returns-then-len-eq0 : goal.returns-then-len-eq0
returns-then-len-eq0 c =
    let bytes : List ℕ = c.args.bytes.now in
    let len : c.read_u32-len.result ≡ little_number 4 (drop 8 bytes) = c.read_u32-len.ensures ∙ ap (little_number 4) (take_rest bytes 8) in
    let same : length (take (length bytes - 12) (drop 12 bytes)) ≡ length (drop 12 bytes) = ap length (take_rest bytes 12) in
    range_missing c.args.size c.read_u64-off.result c.read_u32-len.result bytes (omega arith) c.read_u64-off.ensures len (λ some inside within.
    elim c.then-len-eq0.branch [ then-len-eq0-via-then-len-eq0 w ↦ omega arith | then-len-eq0-via-else-len-eq0+then-off-size w ↦ omega arith | then-len-eq0-via-else-len-eq0+else-off-size+then-from-size w ↦ omega arith | then-len-eq0-via-else-len-eq0+else-off-size+else-from-size+then-behind-len w ↦ omega arith ])

pub returns : goal.returns
returns c =
    let bytes : List ℕ = c.args.bytes.now in
    let len : c.read_u32-len.result ≡ little_number 4 (drop 8 bytes) = c.read_u32-len.ensures ∙ ap (little_number 4) (take_rest bytes 8) in
    let same : length (take (length bytes - 12) (drop 12 bytes)) ≡ length (drop 12 bytes) = ap length (take_rest bytes 12) in
    range_found c.args.size c.read_u64-off.result c.read_u32-len.result bytes c.split_at.result.0.now c.split_at.result.1.now (omega arith) c.read_u64-off.ensures len (omega arith) (omega arith) (omega arith)
    (c.split_at.ensures.front ∙ ap (take c.read_u32-len.result) (take_rest bytes 12)) (c.split_at.ensures.back ∙ ap (drop c.read_u32-len.result) (take_rest bytes 12))
