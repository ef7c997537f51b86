-- The examples of the definitions of places and records, computed.
use Rattle.std.proofs.Common.{◌≡◌, [], ◌∷◌, refl}
use Rattle.std.specs.Prelude.{true, false}
use Rattle.ccfs_base.specs.Places.{part, put, with_bit, read, write, Bit}
use Rattle.ccfs_base.specs.declared.records.Rec.TheVariants as recs
use Rattle.ccfs_base.specs.Records.{raised, recorded}

-- ---- places

a_part : part 1 2 (5 ∷ 6 ∷ 7 ∷ 8 ∷ []) ≡ 6 ∷ 7 ∷ []
a_part = refl

bytes_put : put (5 ∷ 6 ∷ 7 ∷ 8 ∷ []) 1 (1 ∷ 2 ∷ []) ≡ 5 ∷ 1 ∷ 2 ∷ 8 ∷ []
bytes_put = refl

bytes_put_at_the_end : put (5 ∷ 6 ∷ []) 1 (1 ∷ 2 ∷ []) ≡ 5 ∷ 1 ∷ []
bytes_put_at_the_end = refl

a_bit_set : with_bit 4 1 true ≡ 6
a_bit_set = refl

a_bit_cleared : with_bit 4 2 false ≡ 0
a_bit_cleared = refl

a_bit_read : read (Bit 1 2) (5 ∷ 6 ∷ []) ≡ 1 ∷ []
a_bit_read = refl

a_bit_written : write (Bit 1 2) (5 ∷ 6 ∷ []) (0 ∷ []) ≡ 5 ∷ 2 ∷ []
a_bit_written = refl

-- ---- records

a_counter_raised : raised (255 ∷ 0 ∷ 0 ∷ 0 ∷ 0 ∷ 0 ∷ 0 ∷ 0 ∷ []) 2 ≡ 1 ∷ 1 ∷ 0 ∷ 0 ∷ 0 ∷ 0 ∷ 0 ∷ 0 ∷ []
a_counter_raised = refl

a_range_recorded : recorded (5 ∷ 6 ∷ 7 ∷ 8 ∷ []) (recs.Range 1 (1 ∷ 2 ∷ [])) ≡ 5 ∷ 1 ∷ 2 ∷ 8 ∷ []
a_range_recorded = refl

a_bit_recorded : recorded (5 ∷ 6 ∷ []) (recs.Bit 1 2 false) ≡ 5 ∷ 2 ∷ []
a_bit_recorded = refl
