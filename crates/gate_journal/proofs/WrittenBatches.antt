-- Batches that were written are read.
use Rattle.std.proofs.Common.{◌≡◌, ℕ, suc, ◌+◌, ◌<◌, ◌^◌, List, [], ◌∷◌, ◌++◌, refl, sym, ap, ◌∙◌, length, drop, arith, append_assoc, length-append}
use Rattle.std.specs.declared.option.Option.{Option}
use Rattle.std.specs.declared.option.Option.TheVariants.{Some}
use Rattle.std.specs.List.{All}
use Rattle.std.proofs.lemmas.List.{append-nil}
use Rattle.std.proofs.lemmas.List.Elements.{All-head, All-tail}
use Rattle.byteorder.specs.Endian.{little_number, little_bytes}
use Rattle.byteorder.specs.Numbers.{little_number-reads_back}
use Rattle.gate_journal.specs.declared.batches.Range.{Range}
use Rattle.gate_journal.specs.declared.batches.Batch.{Batch}
use Rattle.gate_journal.specs.Batches.{record_bytes, records_bytes, batch_bytes, batches_bytes, Stands, Fits, InARow, range_of, range_at, put_first, range_then, ranges_at, batch_behind, batch_at, batches_at}
use Rattle.gate_journal.proofs.ReadBatches.{range_behind, range_filled, batch_header, batch_filled, one_then}

-- a range that stands in the volume is read from its record, whatever follows it
pub range_is_read : (size : ℕ) (r : Range) (rest : List ℕ) → Stands size r → r.off < 2 ^ 64 → length r.bytes < 2 ^ 32 → range_at size (record_bytes r ++ rest) ≡ Some (r, rest)
range_is_read size r rest s off short =
    let len : ℕ = length r.bytes in
    let head : List ℕ = little_bytes 8 r.off ++ little_bytes 4 len in
    let off_is : little_number 8 head ≡ r.off = little_number-reads_back 8 r.off (little_bytes 4 len) off in
    let len_is : little_number 4 (drop 8 head) ≡ len = little_number-reads_back 4 len [] short in
    range_behind size head (r.bytes ++ rest) refl
    ∙ ap (λ z. range_of size z (little_number 4 (drop 8 head)) (r.bytes ++ rest)) off_is
    ∙ ap (λ z. range_of size r.off z (r.bytes ++ rest)) len_is
    ∙ range_filled size r.off len r.bytes rest refl s.some s.inside

pub ranges_are_read : (size : ℕ) (ranges : List Range) (rest : List ℕ) → All (Stands size) ranges → All (λ r. r.off < 2 ^ 64) ranges → length (records_bytes ranges) < 2 ^ 32 → ranges_at size (length ranges) (records_bytes ranges ++ rest) ≡ Some (ranges, rest)
ranges_are_read size [] rest s off short = refl
ranges_are_read size (r ∷ rs) rest s off short =
    let whole : length (records_bytes (r ∷ rs)) ≡ length (record_bytes r) + length (records_bytes rs) = length-append (record_bytes r) (records_bytes rs) in
    ap (λ z. range_then (ranges_at size (length rs)) (range_at size z)) (append_assoc (record_bytes r) (records_bytes rs) rest)
    ∙ ap (range_then (ranges_at size (length rs))) (range_is_read size r (records_bytes rs ++ rest) (All-head (Stands size) r rs s) (All-head (λ (x : Range). x.off < 2 ^ 64) r rs off) (omega arith))
    ∙ ap (put_first r) (ranges_are_read size rs rest (All-tail (Stands size) r rs s) (All-tail (λ (x : Range). x.off < 2 ^ 64) r rs off) (omega arith))

-- a batch that fits is read from its bytes, whatever follows it
pub batch_is_read : (size : ℕ) (b : Batch) (rest : List ℕ) → Fits size b → batch_at size (batch_bytes b ++ rest) ≡ Some (b, rest)
batch_is_read size b rest f =
    let records : List ℕ = records_bytes b.ranges in
    let count : ℕ = length records in
    let many : ℕ = length b.ranges in
    let head : List ℕ = little_bytes 8 b.number ++ (little_bytes 4 count ++ little_bytes 4 many) in
    let number_is : little_number 8 head ≡ b.number = little_number-reads_back 8 b.number (little_bytes 4 count ++ little_bytes 4 many) f.number in
    let count_is : little_number 4 (drop 8 head) ≡ count = little_number-reads_back 4 count (little_bytes 4 many) f.short in
    let many_is : little_number 4 (drop 12 head) ≡ many = little_number-reads_back 4 many [] f.few in
    let inner : ranges_at size many records ≡ Some (b.ranges, []) = ap (ranges_at size many) (sym (append-nil records)) ∙ ranges_are_read size b.ranges [] f.each f.offsets f.short in
    batch_header size head (records ++ rest) refl
    ∙ ap (λ z. batch_behind size z (little_number 4 (drop 8 head)) (little_number 4 (drop 12 head)) (records ++ rest)) number_is
    ∙ ap (λ z. batch_behind size b.number z (little_number 4 (drop 12 head)) (records ++ rest)) count_is
    ∙ ap (λ z. batch_behind size b.number count z (records ++ rest)) many_is
    ∙ batch_filled size b.number count many records rest b.ranges refl inner

-- batches that fit, with numbers in a row, are read from their bytes, whatever follows them
pub written_are_read : (size : ℕ) (before : Option ℕ) (batches : List Batch) (rest : List ℕ) → All (Fits size) batches → InARow before batches → batches_at size before (length batches) (batches_bytes batches ++ rest) ≡ Some (batches, rest)
written_are_read size before [] rest f row = refl
written_are_read size before (b ∷ bs) rest f row =
    ap (batches_at size before (suc (length bs))) (append_assoc (batch_bytes b) (batches_bytes bs) rest)
    ∙ one_then size (length bs) before (batch_bytes b ++ (batches_bytes bs ++ rest)) b (batches_bytes bs ++ rest) row.0 (batch_is_read size b (batches_bytes bs ++ rest) (All-head (Fits size) b bs f))
    ∙ ap (put_first b) (written_are_read size (Some b.number) bs rest (All-tail (Fits size) b bs f) row.1)
