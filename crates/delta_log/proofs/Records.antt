-- Records that don't disturb each other may be put on bytes in either order.
use Rattle.std.proofs.Common.{◌≡◌, ℕ, ◌+◌, ◌≤◌, ◌%◌, ◌^◌, true, false, List, [], ◌∷◌, ◌++◌, length, refl, sym, ap, subst, ◌∙◌, arith, inl, inr}
use Rattle.std.specs.Int.{w64, to_le_bytes, from_le_bytes}
use Rattle.std.specs.List.{All}
use Rattle.std.proofs.lemmas.List.Elements.{All-head, All-tail}
use Rattle.std.proofs.lemmas.Nat.{from_le_bytes-to_le_bytes_8, mod_below}
use Rattle.std.proofs.Math.Nat.{mod-add-mod}
use Rattle.ccfs_base.specs.declared.records.Rec.{Rec}
use Rattle.ccfs_base.specs.declared.records.Rec.TheVariants as recs
use Rattle.ccfs_base.specs.Places.{Place, Range, Bit, part, put, read, write, IsValue, IsInside, AreApart}
use Rattle.ccfs_base.specs.Records.{acts_at, raised, leaves, recorded, all_recorded, AreInside, RaiseOne, AreFree}
use Rattle.ccfs_base.proofs.Put.{part_put}
use Rattle.ccfs_base.proofs.AtPlaces.{length_stays, others_stay}
use Rattle.delta_log.specs.Laws.{AllFree}
use Rattle.delta_log.proofs.Over.{put_put}
use Rattle.delta_log.proofs.Writes.{write_comm}

pub recorded_length : (bytes : List ℕ) (rec : Rec) → length (recorded bytes rec) ≡ length bytes
recorded_length bytes rec = length_stays (acts_at rec) bytes (leaves rec (read (acts_at rec) bytes))

pub all_recorded_length : (log : List Rec) (bytes : List ℕ) → length (all_recorded bytes log) ≡ length bytes
all_recorded_length [] bytes = refl
all_recorded_length (rec ∷ log) bytes = all_recorded_length log (recorded bytes rec) ∙ recorded_length bytes rec

pub all_recorded-append : (log other : List Rec) (bytes : List ℕ) → all_recorded bytes (log ++ other) ≡ all_recorded (all_recorded bytes log) other
all_recorded-append [] other bytes = refl
all_recorded-append (rec ∷ log) other bytes = all_recorded-append log other (recorded bytes rec)

-- what a record leaves can stand where it acts
leaves_value : (rec : Rec) (old : List ℕ) → IsValue (acts_at rec) (leaves rec old)
leaves_value (recs.Range off bytes) old = refl
leaves_value (recs.Add off by) old = refl
leaves_value (recs.Bit off bit true) old = inr refl
leaves_value (recs.Bit off bit false) old = inl refl

pub apart_sym : (p q : Place) → AreApart p q → AreApart q p
apart_sym (Range from size) (Range at long) d = λ x a b c e. d x c e a b
apart_sym (Range from size) (Bit byte bit) d = d
apart_sym (Bit byte bit) (Range from size) d = d
apart_sym (Bit byte bit) (Bit at other) d = λ p q. d (sym p) (sym q)

-- records that act on no bit together
apart_comm : (bytes : List ℕ) (rec other : Rec) → IsInside (length bytes) (acts_at rec) → IsInside (length bytes) (acts_at other)
    → AreApart (acts_at rec) (acts_at other) → recorded (recorded bytes rec) other ≡ recorded (recorded bytes other) rec
apart_comm bytes rec other i j d =
    let p : Place = acts_at rec in
    let q : Place = acts_at other in
    let new : List ℕ = leaves rec (read p bytes) in
    let more : List ℕ = leaves other (read q bytes) in
    let e : IsValue p new = leaves_value rec (read p bytes) in
    let f : IsValue q more = leaves_value other (read q bytes) in
    ap (λ (z : List ℕ). write q (write p bytes new) (leaves other z)) (others_stay p q bytes new i j e d)
    ∙ write_comm p q bytes new more i j e f d
    ∙ sym (ap (λ (z : List ℕ). write p (write q bytes more) (leaves rec z)) (others_stay q p bytes more j i f (apart_sym p q d)))

-- two raises of one counter are one
raised_twice : (bytes : List ℕ) (off by more : ℕ) → off + 8 ≤ length bytes
    → recorded (recorded bytes (recs.Add off by)) (recs.Add off more) ≡ put bytes off (to_le_bytes w64 ((from_le_bytes w64 (part off 8 bytes) + by + more) % 2 ^ 64))
raised_twice bytes off by more h =
    let old : ℕ = from_le_bytes w64 (part off 8 bytes) in
    let first : List ℕ = to_le_bytes w64 ((old + by) % 2 ^ 64) in
    ap (λ (z : List ℕ). put (put bytes off first) off (raised z more)) (part_put first bytes off 8 refl h)
    ∙ put_put first (raised first more) bytes off refl
    ∙ ap (λ (z : ℕ). put bytes off (to_le_bytes w64 ((z + more) % 2 ^ 64))) (from_le_bytes-to_le_bytes_8 ((old + by) % 2 ^ 64) (mod_below (old + by) (2 ^ 64) (omega arith)))
    ∙ ap (λ (z : ℕ). put bytes off (to_le_bytes w64 z)) (mod-add-mod (old + by) (2 ^ 64) more)

-- two raises of one counter
raises_comm : (bytes : List ℕ) (rec other : Rec) → IsInside (length bytes) (acts_at rec) → RaiseOne rec other
    → recorded (recorded bytes rec) other ≡ recorded (recorded bytes other) rec
raises_comm bytes (recs.Add off by) (recs.Add at more) i e =
    let P : ℕ → Type 0 = λ z. recorded (recorded bytes (recs.Add off by)) (recs.Add z more) ≡ recorded (recorded bytes (recs.Add z more)) (recs.Add off by) in
    let old : ℕ = from_le_bytes w64 (part off 8 bytes) in
    let same : old + by + more ≡ old + more + by = omega arith in
    subst P e (raised_twice bytes off by more i ∙ ap (λ (z : ℕ). put bytes off (to_le_bytes w64 (z % 2 ^ 64))) same ∙ sym (raised_twice bytes off more by i))
raises_comm bytes (recs.Add off by) (recs.Range at new) i e = absurd e
raises_comm bytes (recs.Add off by) (recs.Bit at bit on) i e = absurd e
raises_comm bytes (recs.Range off new) other i e = absurd e
raises_comm bytes (recs.Bit off bit on) other i e = absurd e

pub records_comm : (bytes : List ℕ) (rec other : Rec) → IsInside (length bytes) (acts_at rec) → IsInside (length bytes) (acts_at other)
    → AreFree rec other → recorded (recorded bytes rec) other ≡ recorded (recorded bytes other) rec
records_comm bytes rec other i j (inl d) = apart_comm bytes rec other i j d
records_comm bytes rec other i j (inr e) = raises_comm bytes rec other i e

-- a record before a log that it doesn't disturb may stand behind it
pub one_past : (log : List Rec) (bytes : List ℕ) (rec : Rec) → IsInside (length bytes) (acts_at rec) → AreInside (length bytes) log → All (AreFree rec) log
    → all_recorded (recorded bytes rec) log ≡ recorded (all_recorded bytes log) rec
one_past [] bytes rec i j f = refl
one_past (other ∷ log) bytes rec i j f =
    ap (λ (z : List ℕ). all_recorded z log) (records_comm bytes rec other i j.0 (All-head (AreFree rec) other log f))
    ∙ one_past log (recorded bytes other) rec (rw (recorded_length bytes other) i) (rw (recorded_length bytes other) j.1) (All-tail (AreFree rec) other log f)

pub logs_comm : (log other : List Rec) (bytes : List ℕ) → AreInside (length bytes) log → AreInside (length bytes) other → AllFree log other
    → all_recorded (all_recorded bytes log) other ≡ all_recorded (all_recorded bytes other) log
logs_comm [] other bytes i j f = refl
logs_comm (rec ∷ log) other bytes i j f =
    logs_comm log other (recorded bytes rec) (rw (recorded_length bytes rec) i.1) (rw (recorded_length bytes rec) j) (All-tail (λ r. All (AreFree r) other) rec log f)
    ∙ ap (λ (z : List ℕ). all_recorded z log) (one_past other bytes rec i.0 j (All-head (λ r. All (AreFree r) other) rec log f))
