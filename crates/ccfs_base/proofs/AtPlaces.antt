-- What is read at a place after a write.
use Rattle.std.proofs.Common.{◌≡◌, ◌≢◌, ℕ, ◌+◌, ◌<◌, ◌==◌, true, false, List, [], ◌∷◌, length, get_or, sym, ap, ◌∙◌, arith, inl, inr, ◌⊎◌}
use Rattle.std.specs.Int.{bit_at}
use Rattle.std.proofs.lemmas.Bool.{cases_eq}
use Rattle.ccfs_base.specs.Places.{Place, Range, Bit, put, with_bit, read, write, IsValue, IsInside, AreApart}
use Rattle.ccfs_base.proofs.Put.{length-put, part_put, part_put_apart, get_or-put_out, get_or-put_in}
use Rattle.ccfs_base.proofs.OneBit.{bit_at-with_same, bit_at-with_other}

pub length_stays : (p : Place) (bytes new : List ℕ) → length (write p bytes new) ≡ length bytes
length_stays (Range from size) bytes new = length-put new bytes from
length_stays (Bit byte bit) bytes new = length-put (with_bit (get_or bytes byte 0) bit (get_or new 0 0 == 1) ∷ []) bytes byte

-- the byte where a bit was written
byte_put : (bytes : List ℕ) (at b : ℕ) → at < length bytes → get_or (put bytes at (b ∷ [])) at 0 ≡ b
byte_put bytes at b h =
    let e : at + 0 ≡ at = omega arith in
    rw e at (get_or-put_in (b ∷ []) bytes at 0 0 (omega arith) (omega arith))

-- the byte elsewhere
byte_stays : (bytes : List ℕ) (at other b : ℕ) → at ≢ other → get_or (put bytes at (b ∷ [])) other 0 ≡ get_or bytes other 0
byte_stays bytes at other b n = get_or-put_out (b ∷ []) bytes at other 0 (λ p q. n (omega arith))

written_bit : (byte k : ℕ) (new : List ℕ) → k < 8 → (new ≡ 0 ∷ []) ⊎ (new ≡ 1 ∷ []) → bit_at (with_bit byte k (get_or new 0 0 == 1)) k ∷ [] ≡ new
written_bit byte k new h (inl e) = rw e (ap (λ b. b ∷ []) (bit_at-with_same byte k false h))
written_bit byte k new h (inr e) = rw e (ap (λ b. b ∷ []) (bit_at-with_same byte k true h))

pub written_is_read : (p : Place) (bytes new : List ℕ) → IsInside (length bytes) p → IsValue p new → read p (write p bytes new) ≡ new
written_is_read (Range from size) bytes new h e = part_put new bytes from size (sym e) h
written_is_read (Bit byte bit) bytes new h e =
    ap (λ b. bit_at b bit ∷ []) (byte_put bytes byte (with_bit (get_or bytes byte 0) bit (get_or new 0 0 == 1)) h.0)
    ∙ written_bit (get_or bytes byte 0) bit new h.1 e

pub others_stay : (p q : Place) (bytes new : List ℕ) → IsInside (length bytes) p → IsInside (length bytes) q → IsValue p new → AreApart p q
    → read q (write p bytes new) ≡ read q bytes
others_stay (Range from size) (Range at long) bytes new i j e d = part_put_apart new bytes from at long (rw e d)
others_stay (Range from size) (Bit byte bit) bytes new i j e d = ap (λ b. bit_at b bit ∷ []) (get_or-put_out new bytes from byte 0 (rw e d))
others_stay (Bit byte bit) (Range from size) bytes new i j e d =
    part_put_apart (with_bit (get_or bytes byte 0) bit (get_or new 0 0 == 1) ∷ []) bytes byte from size (λ x p q r s. d (omega arith) (omega arith))
others_stay (Bit byte bit) (Bit at other) bytes new i j e d =
    let b : ℕ = with_bit (get_or bytes byte 0) bit (get_or new 0 0 == 1) in
    elim (cases_eq byte at) [
      | inl same ↦
          ap (λ x. bit_at (get_or (put bytes byte (b ∷ [])) x 0) other ∷ []) (sym same)
          ∙ ap (λ x. bit_at x other ∷ []) (byte_put bytes byte b i.0)
          ∙ ap (λ x. x ∷ []) (bit_at-with_other (get_or bytes byte 0) bit other (get_or new 0 0 == 1) i.1 j.1 (λ t. d same (sym t)))
          ∙ ap (λ x. bit_at (get_or bytes x 0) other ∷ []) same
      | inr n ↦ ap (λ x. bit_at x other ∷ []) (byte_stays bytes byte at b n)
    ]
