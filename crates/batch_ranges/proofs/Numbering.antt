-- A volume that gets another batch number carries what it carried.
use Rattle.std.proofs.Common.{◌≡◌, ℕ, ◌≤◌, ◌<◌, ◌^◌, List, ◌++◌, length, take, drop, sym, ap, subst, ◌∙◌, arith, length-append, length-drop}
use Rattle.std.specs.Prelude.{true, ◌&&◌, ◌==◌, nat_le}
use Rattle.std.proofs.lemmas.Bool.{and_parts, leb-true}
use Rattle.std.proofs.lemmas.Slice.{drop-append-drop}
use Rattle.byteorder.specs.Endian.{little_bytes, little_number}
use Rattle.byteorder.specs.Numbers.{length-bytes_low_first, little_number-reads_back}
use Rattle.inode_table.specs.Attrs.{attr_of}
use Rattle.inode_table.specs.Records.{record_offset, record_block}
use Rattle.free_maps.specs.Maps.{is_set, clear_below}
use Rattle.flat_dirs.specs.Slot.{slot_in}
use Rattle.tree_model.specs.Rows.{Rows}
use Rattle.image_model.specs.Fields.{slot_offset, slot_block}
use Rattle.image_model.specs.Volumes.{Volume, Table, table_of, number, format, free_blocks, free_inodes, clear_inodes, is_used, attr, slot}
use Rattle.image_model.specs.Files.{is_dir_at, is_file_at, length_at}
use Rattle.image_model.specs.Lowest.{lowest}
use Rattle.image_model.specs.Checks.{all_built, block_of, unless, is_bad_record, is_bad_slot, is_twin, is_in_ring}
use Rattle.image_model.specs.Trees.{row_at}
use Rattle.image_model.specs.Carrying.{IsRenamed, CarriesRows}
use Rattle.image_model.specs.ChangeLaws.{AreOrphansNamed}
use Rattle.image_model.proofs.ChangingFields.{HasSpace, has_space}
use Rattle.carried_volumes.specs.Carried.{no_bytes, Carried}
use Rattle.batch_ranges.specs.Laws.{numbered}
use Rattle.batch_ranges.proofs.Puts.{patched_is_put}

-- ---- other bytes in the first eight places

module _ (v : Volume) (head : List ℕ) (eight : length head ≡ 8) where
  abbrev w : Volume
  w = record v { bytes = head ++ drop 8 v.bytes }

  same_from : (from : ℕ) → 8 ≤ from → drop from w.bytes ≡ drop from v.bytes
  same_from from past = drop-append-drop 8 v.bytes head from past eight

  same_used : (i : ℕ) → is_used w i ≡ is_used v i
  same_used i = ap (λ (b : List ℕ). is_set (take 4096 b) i) (same_from 8192 (omega arith))

  same_attr : (i : ℕ) → attr w i ≡ attr v i
  same_attr i = ap (λ (b : List ℕ). attr_of (take 24 b)) (same_from (record_offset i) (omega arith))

  same_slot : (i : ℕ) → slot w i ≡ slot v i
  same_slot i = ap (λ (b : List ℕ). slot_in (take 69 b)) (same_from (slot_offset v.inodes i) (omega arith))

  same_table : table_of w ≡ table_of v
  same_table =
      let used = same_used in
      let attrs = same_attr in
      let slots = same_slot in
      λ z. record { inodes = v.inodes; is_used = λ i. used i z; attr = λ i. attrs i z; slot = λ i. slots i z }

  same_format : format w ≡ format v
  same_format = ap (little_number 4) (same_from 24 (omega arith))

  same_free_blocks : free_blocks w ≡ free_blocks v
  same_free_blocks = ap (little_number 8) (same_from 8 (omega arith))

  same_free_inodes : free_inodes w ≡ free_inodes v
  same_free_inodes = ap (little_number 8) (same_from 16 (omega arith))

  same_clear : clear_inodes w ≡ clear_inodes v
  same_clear = ap (λ (b : List ℕ). clear_below (take 4096 b) v.inodes) (same_from 8192 (omega arith))

  same_checks : (t : Rows) (inodes : List ℕ) → CarriesRows v no_bytes t inodes → CarriesRows w no_bytes t inodes
  same_checks t inodes c = record {
    formatted = ap (λ f. unless (f == 1 && true) 260) same_format ∙ c.formatted;
    roots = ap (λ (u : Table). unless (is_dir_at u 0 && is_dir_at u 1) 263) same_table ∙ c.roots;
    records = ap (λ (u : Table). block_of record_block (lowest (is_bad_record all_built u) v.inodes)) same_table ∙ c.records;
    slots = ap (λ (u : Table). block_of (slot_block v.inodes) (lowest (is_bad_slot all_built u) v.inodes)) same_table ∙ c.slots;
    twins = ap (λ (u : Table). block_of (slot_block v.inodes) (lowest (is_twin u) v.inodes)) same_table ∙ c.twins;
    rings = ap (λ (u : Table). block_of (slot_block v.inodes) (lowest (is_in_ring u) v.inodes)) same_table ∙ c.rings;
    counted = same_free_inodes ∙ c.counted ∙ sym same_clear;
    sized = subst (λ (u : Table). (inode : ℕ) → is_file_at u inode ≡ true → length_at u inode ≡ length (no_bytes inode)) (sym same_table) c.sized;
    renamed = subst (λ (u : Table). IsRenamed inodes t (row_at u no_bytes)) (sym same_table) c.renamed;
  }

  kept : (t : Rows) (inodes : List ℕ) → Carried v t inodes → Carried w t inodes
  kept t inodes c =
      let least : 512 ≤ v.blocks = leb-true 512 v.blocks (and_parts (nat_le 512 v.blocks) (nat_le v.blocks 16384) c.sized.blocks).0 in
      let long = c.sized.long in
      record {
        sized = record {
          blocks = c.sized.blocks;
          inodes = c.sized.inodes;
          long = omega (arith, length-append head (drop 8 v.bytes), length-drop 8 v.bytes);
        };
        rows = same_checks t inodes c.rows;
        orphans = subst (λ (u : Table). AreOrphansNamed u) (sym same_table) c.orphans;
        plain = c.plain;
        unused = λ item h. ap (λ (b : List ℕ). is_set (take 4096 b) item) (same_from 4096 (omega arith)) ∙ c.unused item h;
        counted = same_free_blocks ∙ c.counted;
      }

-- ---- the bytes of a number

module _ (v : Volume) (n : ℕ) (long : 8 ≤ length v.bytes) where
  -- the number is put in front of what stands behind it
  numbered_is : numbered n v ≡ record v { bytes = little_bytes 8 n ++ drop 8 v.bytes }
  numbered_is = λ i. record v { bytes = (sym (patched_is_put (little_bytes 8 n) v.bytes 0 long)) i }

pub numbers_are_beside : (v : Volume) (t : Rows) (inodes : List ℕ) (n : ℕ) → n < 2 ^ 64 → Carried v t inodes
    → Carried (numbered n v) t inodes × (number (numbered n v) ≡ n)
numbers_are_beside v t inodes n fits c =
    let room : HasSpace v = has_space v c.sized in
    let is = numbered_is v n (omega (arith, room.long)) in (
      subst (λ (z : Volume). Carried z t inodes) (sym is) (kept v (little_bytes 8 n) (length-bytes_low_first 0 8 n) t inodes c),
      ap number is ∙ little_number-reads_back 8 n (drop 8 v.bytes) fits,
    )
