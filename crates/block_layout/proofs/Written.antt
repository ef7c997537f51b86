-- Bytes of no wrong field are the superblock of what they name.
use Rattle.std.proofs.Common.{◌≡◌, ℕ, ◌<◌, List, ◌++◌, refl, ap, ◌∙◌, length, get_or, Bool, true, false, nat_eq, Option, None, arith}
use Rattle.std.specs.List.{starts_with}
use Rattle.std.proofs.lemmas.Bool.{eqb-true}
use Rattle.std.proofs.lemmas.Bool.Decides.{Decides-eqb}
use Rattle.std.proofs.lemmas.List.{drop_all}
use Rattle.std.proofs.lemmas.Slice.Eq.{starts_is}
use Rattle.byteorder.specs.Endian.{little_bytes}
use Rattle.block_layout.specs.declared.superblock.SuperField.{SuperField}
use Rattle.block_layout.specs.declared.superblock.SuperField.TheVariants.{Magic, Version, Blocks, Inodes, VolumeStart, InodeTable, SlotTable, FirstData}
use Rattle.block_layout.specs.Sizes.{good_blocks, good_inodes, volume_start, inode_table_start, slot_table_start, data_start}
use Rattle.block_layout.specs.Super.{magic, super_bytes, number_at, blocks_named, inodes_named, unless_right, first_wrong}
use Rattle.block_layout.proofs.Numbers.{number_stands}

-- where no field is wrong, this one is right and none behind it is wrong
right_here : (field : SuperField) (right : Bool) (behind : Option SuperField) → unless_right field right behind ≡ None → (right ≡ true) × (behind ≡ None)
right_here field true behind none = (refl, none)
right_here field false behind none = cc

-- the fields that have one right value each have it
record AreRight (bytes : List ℕ) : Type 0 where
  front : starts_with nat_eq bytes magic ≡ true
  version : number_at 8 bytes ≡ 1
  volume : number_at 20 bytes ≡ volume_start
  inode_table : number_at 24 bytes ≡ inode_table_start
  slot_table : number_at 28 bytes ≡ slot_table_start (inodes_named bytes)
  data_from : number_at 32 bytes ≡ data_start (inodes_named bytes)

none_wrong : (bytes : List ℕ) → first_wrong bytes ≡ None → AreRight bytes
none_wrong bytes none =
    let b : ℕ = blocks_named bytes in
    let n : ℕ = inodes_named bytes in
    let front = right_here Magic _ _ none in
    let version = right_here Version _ _ front.1 in
    let blocks = right_here Blocks (good_blocks b) _ version.1 in
    let inodes = right_here Inodes (good_inodes b n) _ blocks.1 in
    let volume = right_here VolumeStart _ _ inodes.1 in
    let table = right_here InodeTable _ _ volume.1 in
    let slots = right_here SlotTable _ _ table.1 in
    let data_from = right_here FirstData _ None slots.1 in
    record {
      front = front.0;
      version = eqb-true _ _ version.0;
      volume = eqb-true _ _ volume.0;
      inode_table = eqb-true _ _ table.0;
      slot_table = eqb-true _ _ slots.0;
      data_from = eqb-true _ _ data_from.0;
    }

-- each field stands in front of the next, and behind the last there is nothing
pub right_is_written : (bytes : List ℕ) → length bytes ≡ 36 → ((i : ℕ) → get_or bytes i 0 < 256) → first_wrong bytes ≡ None → bytes ≡ super_bytes (blocks_named bytes) (inodes_named bytes)
right_is_written bytes long fits none =
    let right = none_wrong bytes none in
    let b : ℕ = blocks_named bytes in
    let n : ℕ = inodes_named bytes in
    (starts_is Decides-eqb bytes magic _ refl).0 right.front
    ∙ ap (λ z. magic ++ z) (number_stands 8 1 bytes (omega arith) fits right.version
    ∙ ap (λ z. little_bytes 4 1 ++ z) (number_stands 12 b bytes (omega arith) fits refl
    ∙ ap (λ z. little_bytes 4 b ++ z) (number_stands 16 n bytes (omega arith) fits refl
    ∙ ap (λ z. little_bytes 4 n ++ z) (number_stands 20 volume_start bytes (omega arith) fits right.volume
    ∙ ap (λ z. little_bytes 4 volume_start ++ z) (number_stands 24 inode_table_start bytes (omega arith) fits right.inode_table
    ∙ ap (λ z. little_bytes 4 inode_table_start ++ z) (number_stands 28 (slot_table_start n) bytes (omega arith) fits right.slot_table
    ∙ ap (λ z. little_bytes 4 (slot_table_start n) ++ z) (number_stands 32 (data_start n) bytes (omega arith) fits right.data_from
    ∙ ap (λ z. little_bytes 4 (data_start n) ++ z) (drop_all 36 bytes (omega arith)))))))))
