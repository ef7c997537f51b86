-- Writes at places that have no bit in common may be made in either order.
use Rattle.std.proofs.Common.{◌≡◌, ◌≢◌, ℕ, ◌+◌, ◌<◌, ◌≤◌, ◌==◌, Bool, List, [], ◌∷◌, length, get_or, refl, sym, ap, subst, ◌∙◌, arith, inl, inr}
use Rattle.std.proofs.lemmas.Bool.{cases_eq}
use Rattle.ccfs_base.specs.Places.{Place, Range, Bit, put, with_bit, write, IsValue, IsInside, AreApart}
use Rattle.ccfs_base.proofs.Put.{get_or-put_out, get_or-put_in}
use Rattle.delta_log.proofs.Over.{put_comm, put_put}
use Rattle.delta_log.proofs.TwoBits.{with_bit_comm}

-- the byte where a bit was written
byte_put : (bytes : List ℕ) (at b : ℕ) → at < length bytes → get_or (put bytes at (b ∷ [])) at 0 ≡ b
byte_put bytes at b h =
    let e : at + 0 ≡ at = omega arith in
    rw e at (get_or-put_in (b ∷ []) bytes at 0 0 (omega arith) (omega arith))

-- the byte elsewhere
byte_stays : (bytes : List ℕ) (at other b : ℕ) → at ≢ other → get_or (put bytes at (b ∷ [])) other 0 ≡ get_or bytes other 0
byte_stays bytes at other b n = get_or-put_out (b ∷ []) bytes at other 0 (λ p q. n (omega arith))

-- bytes with one bit set or cleared
abbrev flipped : List ℕ → ℕ → ℕ → Bool → List ℕ
flipped bytes at bit on = put bytes at (with_bit (get_or bytes at 0) bit on ∷ [])

-- two bits of one byte
twice : (bytes : List ℕ) (at k j : ℕ) (on off : Bool) → at < length bytes
    → flipped (flipped bytes at k on) at j off ≡ put bytes at (with_bit (with_bit (get_or bytes at 0) k on) j off ∷ [])
twice bytes at k j on off h =
    ap (λ (z : ℕ). put (flipped bytes at k on) at (with_bit z j off ∷ [])) (byte_put bytes at (with_bit (get_or bytes at 0) k on) h)
    ∙ put_put (with_bit (get_or bytes at 0) k on ∷ []) (with_bit (with_bit (get_or bytes at 0) k on) j off ∷ []) bytes at refl

one_byte : (bytes : List ℕ) (at k j : ℕ) (on off : Bool) → at < length bytes → k < 8 → j < 8 → k ≢ j
    → flipped (flipped bytes at k on) at j off ≡ flipped (flipped bytes at j off) at k on
one_byte bytes at k j on off h l m n =
    twice bytes at k j on off h
    ∙ ap (λ (z : ℕ). put bytes at (z ∷ [])) (with_bit_comm (get_or bytes at 0) k j on off l m n)
    ∙ sym (twice bytes at j k off on h)

-- a bit, and a range without its byte
bit_and_range : (bytes new : List ℕ) (from at bit : ℕ) (on : Bool) → (from ≤ at → at < from + length new → ⊥)
    → flipped (put bytes from new) at bit on ≡ put (flipped bytes at bit on) from new
bit_and_range bytes new from at bit on h =
    ap (λ (z : ℕ). put (put bytes from new) at (with_bit z bit on ∷ [])) (get_or-put_out new bytes from at 0 h)
    ∙ put_comm (with_bit (get_or bytes at 0) bit on ∷ []) new bytes from at (λ x p q r s. h (omega arith) (omega arith))

-- bits of different bytes
two_bytes : (bytes : List ℕ) (at other k j : ℕ) (on off : Bool) → at ≢ other
    → flipped (flipped bytes at k on) other j off ≡ flipped (flipped bytes other j off) at k on
two_bytes bytes at other k j on off n =
    ap (λ (z : ℕ). put (flipped bytes at k on) other (with_bit z j off ∷ [])) (byte_stays bytes at other (with_bit (get_or bytes at 0) k on) n)
    ∙ put_comm (with_bit (get_or bytes other 0) j off ∷ []) (with_bit (get_or bytes at 0) k on ∷ []) bytes at other (λ x p q r s. n (omega arith))
    ∙ ap (λ (z : ℕ). put (flipped bytes other j off) at (with_bit z k on ∷ [])) (sym (byte_stays bytes other at (with_bit (get_or bytes other 0) j off) (λ e. n (sym e))))

pub write_comm : (p q : Place) (bytes new more : List ℕ) → IsInside (length bytes) p → IsInside (length bytes) q → IsValue p new → IsValue q more → AreApart p q
    → write q (write p bytes new) more ≡ write p (write q bytes more) new
write_comm (Range from size) (Range at long) bytes new more i j e f d = put_comm more new bytes from at (rw (e, f) d)
write_comm (Range from size) (Bit byte bit) bytes new more i j e f d = bit_and_range bytes new from byte bit (get_or more 0 0 == 1) (rw e d)
write_comm (Bit byte bit) (Range from size) bytes new more i j e f d = sym (bit_and_range bytes more from byte bit (get_or new 0 0 == 1) (rw f d))
write_comm (Bit byte bit) (Bit at other) bytes new more i j e f d =
    elim (cases_eq byte at) [
      | inl same ↦
          let P : ℕ → Type 0 = λ z. flipped (flipped bytes byte bit (get_or new 0 0 == 1)) z other (get_or more 0 0 == 1) ≡ flipped (flipped bytes z other (get_or more 0 0 == 1)) byte bit (get_or new 0 0 == 1) in
          subst P same (one_byte bytes byte bit other (get_or new 0 0 == 1) (get_or more 0 0 == 1) i.0 i.1 j.1 (λ t. d same t))
      | inr n ↦ two_bytes bytes byte at bit other (get_or new 0 0 == 1) (get_or more 0 0 == 1) n
    ]
