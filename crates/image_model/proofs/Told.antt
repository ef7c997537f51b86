-- What the fields of a volume tell.
use Rattle.std.proofs.Common.{◌≡◌, ℕ, ◌+◌, ◌-◌, ◌*◌, ◌/◌, ◌%◌, ◌<◌, ◌≤◌, List, drop, slice_index, refl, sym, ap, ◌∙◌, arith}
use Rattle.std.proofs.Math.Path.{ap₂}
use Rattle.std.specs.Prelude.{cond, option_map}
use Rattle.std.proofs.lemmas.Bool.{lt-ltb}
use Rattle.std.proofs.lemmas.List.{get_or-drop}
use Rattle.byteorder.specs.Endian.{little_number}
use Rattle.byteorder.specs.Numbers.{little_from-take}
use Rattle.inode_table.specs.Attrs.{kind_of}
use Rattle.inode_table.specs.Records.{record_offset}
use Rattle.free_maps.specs.Bits.{has_bit}
use Rattle.free_maps.specs.Maps.{is_set}
use Rattle.ccfs_base.specs.Places.{part}
use Rattle.image_model.specs.Fields.{block_place, attr_told, direct_place}
use Rattle.image_model.specs.Volumes.{Volume, number_at}
use Rattle.image_model.specs.Files.{indirect}
use Rattle.image_model.specs.Laws.{FieldsTell}
use Rattle.ccfs_base.proofs.Put.{get_or-part}
use Rattle.image_model.proofs.Numbers.{same_number}

-- a number stands in just as many bytes
in_part : (size from : ℕ) (bytes : List ℕ) → little_number size (drop from bytes) ≡ little_number size (part from size bytes)
in_part size from bytes = sym (little_from-take 0 size size (drop from bytes) (omega arith))

-- a number in a part of a part
within : (size at long from : ℕ) (bytes : List ℕ) → at + size ≤ long → little_number size (drop at (part from long bytes)) ≡ little_number size (part (from + at) size bytes)
within size at long from bytes h = same_number size 0 0 (drop at (part from long bytes)) (part (from + at) size bytes)
    (λ k l. get_or-drop at (part from long bytes) (0 + k) 0 ∙ get_or-part from long bytes (at + (0 + k)) 0 (omega arith)
    ∙ ap (slice_index bytes) (omega arith) ∙ sym (get_or-part (from + at) size bytes (0 + k) 0 (omega arith)))

attr_in : (from : ℕ) (bytes : List ℕ) → option_map (λ k. record { kind = k; length = little_number 8 (drop 8 (part from 24 bytes)); changes = little_number 8 (drop 16 (part from 24 bytes)) }) (kind_of (slice_index (part from 24 bytes) 0))
    ≡ attr_told (part from 1 bytes) (part (from + 8) 8 bytes) (part (from + 16) 8 bytes)
attr_in from bytes =
    ap₂ (λ long changes. option_map (λ k. record { kind = k; length = long; changes = changes }) (kind_of (slice_index (part from 24 bytes) 0)))
    (within 8 8 24 from bytes (omega arith)) (within 8 16 24 from bytes (omega arith))
    ∙ ap (λ b. option_map (λ k. record { kind = k; length = little_number 8 (part (from + 8) 8 bytes); changes = little_number 8 (part (from + 16) 8 bytes) }) (kind_of b))
    (get_or-part from 24 bytes 0 0 (omega arith) ∙ sym (get_or-part from 1 bytes 0 0 (omega arith)))

pub fields_tell : (v : Volume) → FieldsTell v
fields_tell v = record {
  the_number = in_part 8 0 v.bytes;
  the_free_blocks = in_part 8 8 v.bytes;
  the_free_inodes = in_part 8 16 v.bytes;
  the_format = in_part 4 24 v.bytes;
  blocks = λ item h. ap (λ b. has_bit b (item % 8)) (get_or-part 4096 4096 v.bytes (item / 8) 0 (omega arith));
  inodes = λ inode h. ap (λ b. has_bit b (inode % 8)) (get_or-part 8192 4096 v.bytes (inode / 8) 0 (omega arith));
  attrs = λ inode. attr_in (record_offset inode) v.bytes;
  slots = λ inode. refl;
  pages = λ inode page h. ap (λ b. cond b (number_at 4 (direct_place inode page) v) (number_at 4 (block_place (indirect v inode) + 4 * (page - 24)) v)) (lt-ltb page 24 h)
      ∙ in_part 4 (direct_place inode page) v.bytes;
  indirects = λ inode. in_part 4 (record_offset inode + 160) v.bytes;
}

-- a bit of a block, read in the byte that has it
pub bit_of_block : (block item : ℕ) (bytes : List ℕ) → item < 32768 → is_set (part block 4096 bytes) item ≡ has_bit (slice_index bytes (block + item / 8)) (item % 8)
bit_of_block block item bytes h = ap (λ b. has_bit b (item % 8)) (get_or-part block 4096 bytes (item / 8) 0 (omega arith))
