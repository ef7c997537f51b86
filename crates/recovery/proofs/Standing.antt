-- A fresh volume passes the checks that are made for now.
use Rattle.std.proofs.Common.{◌≡◌, ℕ, zero, suc, ◌+◌, ◌/◌, ◌%◌, ◌<◌, ◌≤◌, ◌==◌, inl, inr, refl, ◌∙◌, ap, arith}
use Rattle.std.specs.Prelude.{Bool, true, false, ◌&&◌, ◌||◌, nat_le, nat_lt, None, slice_index}
use Rattle.std.specs.Int.{bit_at}
use Rattle.std.proofs.lemmas.Bool.{cases_eq}
use Rattle.std.proofs.lemmas.Nat.Bits.{bit_at-zero}
use Rattle.tree_model.specs.Rows.{alone}
use Rattle.ccfs_base.proofs.Put.{get_or-part}
use Rattle.block_layout.specs.Sizes.{good_blocks, good_inodes}
use Rattle.free_maps.specs.Bits.{has_bit}
use Rattle.image_model.specs.Fields.{block_place}
use Rattle.tree_model.specs.Tests.{is_it}
use Rattle.image_model.specs.Files.{is_file_attr, length_told}
use Rattle.image_model.specs.Volumes.{attr, Volume, table_of, number, first_data, is_used}
use Rattle.image_model.specs.Checks.{parent_at, first_failure_for_now, is_entry, IsBare}
use Rattle.image_model.specs.Trees.{tree_of}
use Rattle.image_model.specs.Fresh.{IsFresh}
use Rattle.image_model.proofs.NewVolume.{fresh_volumes_stand}
use Rattle.image_model.proofs.NoMore.{bare_is_no_more}
use Rattle.recovery.proofs.Tables.{zero_byte}

and_false : (b : Bool) → (b && false) ≡ false
and_false true = refl
and_false false = refl

-- the bits of the byte 3 from bit 2 on
high_bits : (k : ℕ) → 2 ≤ k → k < 8 → bit_at 3 k ≡ 0
high_bits zero l h = absurd (omega arith)
high_bits (suc zero) l h = absurd (omega arith)
high_bits (suc (suc zero)) l h = refl
high_bits (suc (suc (suc zero))) l h = refl
high_bits (suc (suc (suc (suc zero)))) l h = refl
high_bits (suc (suc (suc (suc (suc zero))))) l h = refl
high_bits (suc (suc (suc (suc (suc (suc zero)))))) l h = refl
high_bits (suc (suc (suc (suc (suc (suc (suc zero))))))) l h = refl
high_bits (suc (suc (suc (suc (suc (suc (suc (suc k)))))))) l h = absurd (omega arith)

-- no inode from 2 on is used
used_from_two : (v : Volume) → IsFresh v → 32 ≤ v.inodes → v.inodes ≤ 8192 → (i : ℕ) → 2 ≤ i → i < v.inodes → is_used v i ≡ false
used_from_two v fresh least most i l h =
    let long : 24576 ≤ block_place (first_data v) = omega arith in
    ap (λ b. has_bit b (i % 8)) (get_or-part 8192 4096 v.bytes (i / 8) 0 (omega arith)) ∙ elim (cases_eq (i / 8) 0) [
      | inl first ↦ ap (λ z. has_bit (slice_index v.bytes (8192 + z)) (i % 8)) first ∙ ap (λ b. has_bit b (i % 8)) (fresh.bytes 8192 (omega arith))
          ∙ ap (λ b. b == 1) (high_bits (i % 8) (omega arith) (omega arith))
      | inr other ↦ ap (λ b. has_bit b (i % 8)) (fresh.bytes (8192 + i / 8) (omega arith)
          ∙ zero_byte v.blocks v.inodes (8192 + i / 8) (omega arith) (omega arith) (omega arith) (omega arith))
          ∙ ap (λ b. b == 1) (bit_at-zero (i % 8))
    ]

no_entry : (v : Volume) → IsFresh v → 32 ≤ v.inodes → v.inodes ≤ 8192 → (i : ℕ) → i < v.inodes → is_entry (table_of v) i ≡ false
no_entry v fresh least most zero h = refl
no_entry v fresh least most (suc zero) h = refl
no_entry v fresh least most (suc (suc i)) h =
    ap (λ z. nat_le 2 (suc (suc i)) && z) (used_from_two v fresh least most (suc (suc i)) (omega arith) h) ∙ and_false (nat_le 2 (suc (suc i)))

bare_stand : (v : Volume) → IsFresh v → 32 ≤ v.inodes → v.inodes ≤ 8192 → IsBare (table_of v)
bare_stand v fresh least most = λ i h.
    ap (λ b. b && ((is_file_attr (attr v i) && nat_lt 0 (length_told (attr v i))) || is_it (parent_at (table_of v) i) 1)) (no_entry v fresh least most i h)

pub fresh_stands : (v : Volume) → 32 ≤ v.inodes → v.inodes ≤ 8192 → good_blocks v.blocks ≡ true → good_inodes v.blocks v.inodes ≡ true → IsFresh v
    → (first_failure_for_now None v ≡ None) × (number v ≡ 0) × (tree_of v ≡ alone 0)
fresh_stands v least most blocks inodes fresh =
    let all = fresh_volumes_stand v blocks inodes fresh in
    ((bare_is_no_more None v).1 (all.0, bare_stand v fresh least most), all.1, all.2)
