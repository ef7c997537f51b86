-- The metadata of a fresh volume, as it is written: the counters, the byte of the fixed inodes, and their two records.
use Rattle.std.proofs.Common.{◌≡◌, ◌≢◌, ℕ, zero, suc, ◌+◌, ◌-◌, ◌*◌, ◌<◌, ◌≤◌, ◌==◌, inl, inr, List, [], ◌∷◌, length, get_or, replicate, refl, sym, ◌∙◌, ap, arith}
use Rattle.std.specs.Prelude.{cond, ◌||◌, slice_index}
use Rattle.std.proofs.lemmas.Bool.{cases_lt, ne_eqb, lt-ltb, le-ltb}
use Rattle.std.proofs.lemmas.List.{get_or-replicate, length-replicate}
use Rattle.disk_model.specs.Bytes.{patched}
use Rattle.disk_model.specs.Past.{length-patched}
use Rattle.disk_model.proofs.Places.{part-patched, place-patched}
use Rattle.ccfs_base.proofs.Put.{get_or-part}
use Rattle.block_layout.specs.declared.geometry.Geometry.{Geometry}
use Rattle.image_model.specs.Fresh.{fresh_counters, fresh_byte}
use Rattle.recovery.specs.Fresh.{AreTables}

-- ---- the bytes that are asked for

counter_byte : (b n x : ℕ) → x < 28 → fresh_byte b n x ≡ slice_index (fresh_counters b n) x
counter_byte b n x h =
    ap (λ z. cond z (slice_index (fresh_counters b n) x) (cond (x == 8192) 3 (cond (x == 12288 || x == 12544) 1 0))) (lt-ltb x 28 h)

pub zero_byte : (b n x : ℕ) → 28 ≤ x → x ≢ 8192 → x ≢ 12288 → x ≢ 12544 → fresh_byte b n x ≡ 0
zero_byte b n x h bits first second =
    ap (λ z. cond z (slice_index (fresh_counters b n) x) (cond (x == 8192) 3 (cond (x == 12288 || x == 12544) 1 0))) (le-ltb x 28 h)
    ∙ ap (λ z. cond z 3 (cond (x == 12288 || x == 12544) 1 0)) (ne_eqb x 8192 bits)
    ∙ ap (λ z. cond (z || x == 12544) 1 0) (ne_eqb x 12288 first)
    ∙ ap (λ z. cond z 1 0) (ne_eqb x 12544 second)

-- ---- the bytes that are put

behind_none : (k : ℕ) → k ≡ 0 + k
behind_none k = omega arith

-- the record of a directory that was never changed
abbrev pub directory : List ℕ
directory = 1 ∷ replicate 23 0

-- a byte of what was put is that of a function, where the new bytes are, and the old ones outside them
put_byte : (byte : ℕ → ℕ) (old : List ℕ) (place : ℕ) (new made : List ℕ) → made ≡ patched old place new → place + length new ≤ length old
    → ((k : ℕ) → k < length new → get_or new k 0 ≡ byte (place + k))
    → (x : ℕ) → ((place ≤ x → x < place + length new → ⊥) → get_or old x 0 ≡ byte x) → get_or made x 0 ≡ byte x
put_byte byte old place new made is room inside x outside = ap (λ (l : List ℕ). get_or l x 0) is ∙ elim (cases_lt x place) [
  | inl before ↦ place-patched old place new room x (inl before) ∙ outside (λ a b. omega arith)
  | inr from ↦ elim (cases_lt x (place + length new)) [
    | inl within ↦
        let at : place + (x - place) ≡ x = omega arith in
        ap (λ i. get_or (patched old place new) i 0) (sym at)
        ∙ sym (get_or-part place (length new) (patched old place new) (x - place) 0 (omega arith))
        ∙ ap (λ l. get_or l (x - place) 0) (part-patched old place new room)
        ∙ inside (x - place) (omega arith) ∙ ap byte at
    | inr behind ↦ place-patched old place new room x (inr behind) ∙ outside (λ a b. omega arith)
  ]
]

first_record : (b n k : ℕ) → k < 24 → get_or directory k 0 ≡ fresh_byte b n (12288 + k)
first_record b n zero h = refl
first_record b n (suc k) h = get_or-replicate 23 k 0 0 (omega arith) ∙ sym (zero_byte b n (12288 + suc k) (omega arith) (omega arith) (omega arith) (omega arith))

second_record : (b n k : ℕ) → k < 24 → get_or directory k 0 ≡ fresh_byte b n (12544 + k)
second_record b n zero h = refl
second_record b n (suc k) h = get_or-replicate 23 k 0 0 (omega arith) ∙ sym (zero_byte b n (12544 + suc k) (omega arith) (omega arith) (omega arith) (omega arith))

bits_byte : (b n k : ℕ) → k < 1 → get_or (3 ∷ []) k 0 ≡ fresh_byte b n (8192 + k)
bits_byte b n zero h = refl
bits_byte b n (suc k) h = absurd (omega arith)

-- ---- all of it

zero_there : (size : ℕ) (zeros : List ℕ) (x n : ℕ) → zeros ≡ replicate size 0 → x < size → n ≡ 0 → get_or zeros x 0 ≡ n
zero_there size zeros x n are h none = ap (λ (l : List ℕ). get_or l x 0) are ∙ get_or-replicate size x 0 0 h ∙ sym none

-- Four puts on zeros leave the bytes of a function, where it is told what it is at each of them, and that it is 0 elsewhere.
four_put : (byte : ℕ → ℕ) (size : ℕ) (zeros first second third tables counters fixed : List ℕ) → 24576 ≤ size → zeros ≡ replicate size 0
    → length counters ≡ 28 → length fixed ≡ 24
    → first ≡ patched zeros 0 counters → second ≡ patched first 8192 (3 ∷ []) → third ≡ patched second 12288 fixed → tables ≡ patched third 12544 fixed
    → ((k : ℕ) → k < 28 → get_or counters k 0 ≡ byte (0 + k)) → ((k : ℕ) → k < 1 → get_or (3 ∷ []) k 0 ≡ byte (8192 + k))
    → ((k : ℕ) → k < 24 → get_or fixed k 0 ≡ byte (12288 + k)) → ((k : ℕ) → k < 24 → get_or fixed k 0 ≡ byte (12544 + k))
    → ((x : ℕ) → 28 ≤ x → x ≢ 8192 → x ≢ 12288 → x ≢ 12544 → byte x ≡ 0)
    → (length tables ≡ size) × ((x : ℕ) → x < size → get_or tables x 0 ≡ byte x)
four_put byte size zeros first second third tables counters fixed enough zeros_are counters_long fixed_long a b c d in_one in_two in_three in_four none =
    let long : length zeros ≡ size = ap length zeros_are ∙ length-replicate size 0 in
    let first_long : length first ≡ length zeros = ap length a ∙ length-patched zeros 0 counters (omega arith) in
    let second_long : length second ≡ length first = ap length b ∙ length-patched first 8192 (3 ∷ []) (omega arith) in
    let third_long : length third ≡ length second = ap length c ∙ length-patched second 12288 fixed (omega arith) in
    let tables_long : length tables ≡ length third = ap length d ∙ length-patched third 12544 fixed (omega arith) in (
      omega arith,
      λ x h. put_byte byte third 12544 fixed tables d (omega arith) (λ k l. in_four k (omega arith)) x
          (λ out_four. put_byte byte second 12288 fixed third c (omega arith) (λ k l. in_three k (omega arith)) x
          (λ out_three. put_byte byte first 8192 (3 ∷ []) second b (omega arith) in_two x
          (λ out_two. put_byte byte zeros 0 counters first a (omega arith) (λ k l. in_one k (omega arith)) x
          (λ out_one. zero_there size zeros x (byte x) zeros_are h
          (none x (elim (cases_lt x 28) [ inl low ↦ absurd (out_one (omega arith) (omega arith)) | inr high ↦ high ])
          (λ e. out_two (omega arith) (omega arith)) (λ e. out_three (omega arith) (omega arith)) (λ e. out_four (omega arith) (omega arith))))))),
    )

pub tables_are : (g : Geometry) (zeros first second third tables counters fixed : List ℕ) → zeros ≡ replicate (4096 * (g.first_data - 260)) 0
    → counters ≡ fresh_counters g.blocks g.inodes → fixed ≡ directory
    → first ≡ patched zeros 0 counters → second ≡ patched first 8192 (3 ∷ []) → third ≡ patched second 12288 fixed → tables ≡ patched third 12544 fixed → AreTables g tables
tables_are g zeros first second third tables counters fixed zeros_are counters_are fixed_are a b c d =
    let all = four_put (fresh_byte g.blocks g.inodes) (4096 * (g.first_data - 260)) zeros first second third tables counters fixed
    (omega (arith, g.first_data_place, g.least_inodes)) zeros_are (ap length counters_are) (ap length fixed_are) a b c d
    (λ k h. ap (λ f. get_or f k 0) counters_are ∙ sym (counter_byte g.blocks g.inodes k h) ∙ ap (fresh_byte g.blocks g.inodes) (behind_none k))
    (bits_byte g.blocks g.inodes)
    (λ k h. ap (λ f. get_or f k 0) fixed_are ∙ first_record g.blocks g.inodes k h)
    (λ k h. ap (λ f. get_or f k 0) fixed_are ∙ second_record g.blocks g.inodes k h)
    (zero_byte g.blocks g.inodes) in
    record { long = all.0; fresh = λ x h. all.1 x (omega (arith, all.0, h)) }
