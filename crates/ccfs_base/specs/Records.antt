-- What a record does to bytes, and which records disturb each other.
use Rattle.std.specs.Prelude.{◌≡◌, ℕ, ◌+◌, ◌%◌, ◌^◌, ◌⊎◌, cond, List, [], ◌∷◌, length}
use Rattle.std.specs.Int.{w64, to_le_bytes, from_le_bytes}
use Rattle.ccfs_base.specs.declared.records.Rec.{Rec}
use Rattle.ccfs_base.specs.declared.records.Rec.TheVariants as recs
use Rattle.ccfs_base.specs.Places.{Place, Range, Bit, read, write, IsInside, AreApart}

-- where a record acts
abbrev pub acts_at : Rec → Place
acts_at (recs.Range off bytes) = Range off (length bytes)
acts_at (recs.Add off by) = Range off 8
acts_at (recs.Bit off bit on) = Bit off bit

-- a counter's eight bytes after it was raised: from 255 by 2 it is 1 1 0 0 0 0 0 0
abbrev pub raised : List ℕ → ℕ → List ℕ
raised old by = to_le_bytes w64 ((from_le_bytes w64 old + by) % 2 ^ 64)

-- what it leaves there, from what stood there
abbrev pub leaves : Rec → List ℕ → List ℕ
leaves (recs.Range off bytes) old = bytes
leaves (recs.Add off by) old = raised old by
leaves (recs.Bit off bit on) old = cond on 1 0 ∷ []

-- the bytes after a record: 5 6 7 8 after the bytes 1 2 at 1 are 5 1 2 8, and 5 6 after bit 2 of byte 1 was cleared are 5 2
abbrev pub recorded : List ℕ → Rec → List ℕ
recorded bytes rec = write (acts_at rec) bytes (leaves rec (read (acts_at rec) bytes))

-- the bytes after records, in their order
abbrev pub all_recorded : List ℕ → List Rec → List ℕ
all_recorded bytes [] = bytes
all_recorded bytes (rec ∷ rest) = all_recorded (recorded bytes rec) rest

-- all records lie in so many bytes
abbrev pub AreInside : ℕ → List Rec → Type 0
AreInside size [] = Unit {0}
AreInside size (rec ∷ rest) = IsInside size (acts_at rec) × AreInside size rest

-- both raise one counter
abbrev pub RaiseOne : Rec → Rec → Type 0
RaiseOne (recs.Add off by) (recs.Add at more) = off ≡ at
RaiseOne rec other = ⊥

-- two records don't disturb each other: they act on no bit together, or raise one counter
abbrev pub AreFree : Rec → Rec → Type 0
AreFree rec other = AreApart (acts_at rec) (acts_at other) ⊎ RaiseOne rec other
