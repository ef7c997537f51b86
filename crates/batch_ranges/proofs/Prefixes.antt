-- Records that lie in the first bytes do the same to these alone.
use Rattle.std.proofs.Common.{◌≡◌, ℕ, ◌+◌, ◌==◌, ◌≤◌, true, false, List, [], ◌∷◌, length, set, get_or, take, refl, sym, ap, ◌∙◌, arith, inl, inr}
use Rattle.std.specs.Int.{bit_at}
use Rattle.std.proofs.Math.Seq.{take-set-lt}
use Rattle.std.proofs.lemmas.List.{length-take, get_or-take, ext_get_or}
use Rattle.ccfs_base.specs.declared.records.Rec.{Rec}
use Rattle.ccfs_base.specs.declared.records.Rec.TheVariants as recs
use Rattle.ccfs_base.specs.Places.{Place, Range, Bit, part, put, with_bit, read, write, IsInside, IsValue}
use Rattle.ccfs_base.specs.Records.{acts_at, leaves, recorded, all_recorded, AreInside}
use Rattle.ccfs_base.proofs.Put.{length-part, get_or-part}
use Rattle.delta_log.proofs.Records.{recorded_length}

put_front : (new bytes : List ℕ) (from m : ℕ) → from + length new ≤ m → put (take m bytes) from new ≡ take m (put bytes from new)
put_front [] bytes from m h = refl
put_front (b ∷ new) bytes from m h =
    ap (λ (z : List ℕ). put z (from + 1) new) (sym (take-set-lt m bytes from b (omega arith)))
    ∙ put_front new (set bytes from b) (from + 1) m (omega arith)

pub part_front : (from size m : ℕ) (bytes : List ℕ) → from + size ≤ m → m ≤ length bytes → part from size (take m bytes) ≡ part from size bytes
part_front from size m bytes h l =
    let short = length-take m bytes in
    let a = length-part from size (take m bytes) (omega (arith, short)) in
    let b = length-part from size bytes (omega arith) in
    ext_get_or 0 (part from size (take m bytes)) (part from size bytes) (omega (arith, a, b))
    (λ i k. let lt = length-part from size (take m bytes) (omega (arith, short)) in
    get_or-part from size (take m bytes) i 0 (omega (arith, lt)) ∙ get_or-take m bytes (from + i) 0 (omega (arith, lt)) ∙ sym (get_or-part from size bytes i 0 (omega (arith, lt))))

read_front : (p : Place) (m : ℕ) (bytes : List ℕ) → IsInside m p → m ≤ length bytes → read p (take m bytes) ≡ read p bytes
read_front (Range from size) m bytes h l = part_front from size m bytes h l
read_front (Bit byte bit) m bytes h l = ap (λ (z : ℕ). bit_at z bit ∷ []) (get_or-take m bytes byte 0 h.0)

write_front : (p : Place) (m : ℕ) (bytes new : List ℕ) → IsInside m p → IsValue p new → write p (take m bytes) new ≡ take m (write p bytes new)
write_front (Range from size) m bytes new h e = put_front new bytes from m (omega arith)
write_front (Bit byte bit) m bytes new h e =
    ap (λ (z : ℕ). put (take m bytes) byte (with_bit z bit (get_or new 0 0 == 1) ∷ [])) (get_or-take m bytes byte 0 h.0)
    ∙ put_front (with_bit (get_or bytes byte 0) bit (get_or new 0 0 == 1) ∷ []) bytes byte m (omega (arith, h.0))

-- what a record leaves can stand where it acts
leaves_value : (rec : Rec) (old : List ℕ) → IsValue (acts_at rec) (leaves rec old)
leaves_value (recs.Range off bytes) old = refl
leaves_value (recs.Add off by) old = refl
leaves_value (recs.Bit off bit true) old = inr refl
leaves_value (recs.Bit off bit false) old = inl refl

pub recorded_front : (m : ℕ) (bytes : List ℕ) (rec : Rec) → IsInside m (acts_at rec) → m ≤ length bytes → recorded (take m bytes) rec ≡ take m (recorded bytes rec)
recorded_front m bytes rec h l =
    ap (λ (z : List ℕ). write (acts_at rec) (take m bytes) (leaves rec z)) (read_front (acts_at rec) m bytes h l)
    ∙ write_front (acts_at rec) m bytes (leaves rec (read (acts_at rec) bytes)) h (leaves_value rec (read (acts_at rec) bytes))

pub all_recorded_front : (m : ℕ) (log : List Rec) (bytes : List ℕ) → AreInside m log → m ≤ length bytes → all_recorded (take m bytes) log ≡ take m (all_recorded bytes log)
all_recorded_front m [] bytes h l = refl
all_recorded_front m (rec ∷ log) bytes h l =
    ap (λ (z : List ℕ). all_recorded z log) (recorded_front m bytes rec h.0 l)
    ∙ all_recorded_front m log (recorded bytes rec) h.1 (omega (arith, recorded_length bytes rec))
