-- When a volume stands for a tree: nine checks in their order, each with the block that is told where it fails.
use Rattle.std.specs.Prelude.{ℕ, ◌+◌, Bool, true, false, cond, not, ◌&&◌, ◌||◌, ◌==◌, nat_lt, nat_le, is_some, Option, Some, None, option_map, List, [], ◌∷◌, length, take, slice_get, slice_index}
use Rattle.std.specs.List.{list_any}
use Rattle.std.specs.Option.{option_and_then}
use Rattle.ccfs_base.specs.Limits.{file_max}
use Rattle.inode_table.specs.Records.{record_block}
use Rattle.inode_table.specs.declared.attrs.Attr.{Attr}
use Rattle.flat_dirs.specs.declared.slot.Slot.{Slot}
use Rattle.flat_dirs.specs.Slots.{is_slot_at}
use Rattle.tree_model.specs.Rows.{up}
use Rattle.tree_model.specs.Tests.{is_it}
use Rattle.image_model.specs.declared.check.Limits.{Limits}
use Rattle.image_model.specs.declared.check.Check.{Check}
use Rattle.image_model.specs.declared.check.Check.TheVariants as checks
use Rattle.image_model.specs.declared.pointer.Pointer.{Pointer}
use Rattle.image_model.specs.Fields.{counter_block, block_bits, slot_block}
use Rattle.image_model.specs.Volumes.{Volume, Table, table_of, number, format, free_blocks, free_inodes, clear_inodes, first_data, data_blocks, is_block_used, clear_blocks}
use Rattle.image_model.specs.Files.{is_dir_attr, is_dir_at, is_file_attr, length_told, pointers, named_blocks, holder}
use Rattle.image_model.specs.Lowest.{lowest, NoneBelow}

-- ---- what may be in a volume

-- of every volume: files up to the greatest length, and gone files
abbrev pub all_built : Limits
all_built = record { longest = file_max; orphans = true }

-- until files have bytes and may stay open without a name: files are empty, and none stands in the orphan directory. So no
-- data block may be used
abbrev pub bare : Limits
bare = record { longest = 0; orphans = false }

-- ---- the format

-- where a batch is open, the number is that of the last: 3 is where that is 3, or none is open
abbrev pub is_last : Option ℕ → ℕ → Bool
is_last None n = true
is_last (Some last) n = last == n

-- ---- inodes

-- the inodes from 2 on that are used: those that have a record and a slot to be looked at
abbrev pub is_entry : Table → ℕ → Bool
is_entry t inode = nat_le 2 inode && t.is_used inode

-- whether attributes are none, or a longer file's
abbrev pub is_bad_attr : ℕ → Option Attr → Bool
is_bad_attr longest None = true
is_bad_attr longest (Some a) = is_file_attr (Some a) && nat_lt longest a.length

-- a record: its kind is none, or it is a file that is too long
abbrev pub is_bad_record : Limits → Table → ℕ → Bool
is_bad_record limits t inode = is_entry t inode && is_bad_attr limits.longest (t.attr inode)

-- a slot may stand in a directory, where its inode is a directory or a file: 1 is for files alone
abbrev pub may_stand : Limits → Table → Bool → ℕ → Bool
may_stand limits t is_dir parent = is_dir_at t parent && not (parent == 1 && (is_dir || not limits.orphans))

-- whether there is no slot, or one with a wrong parent
abbrev pub is_bad_place : Limits → Table → Bool → Option Slot → Bool
is_bad_place limits t is_dir None = true
is_bad_place limits t is_dir (Some s) = not (may_stand limits t is_dir s.parent)

-- a slot: its length or name is no name's, or its parent is no used directory, or it is a directory's in directory 1
abbrev pub is_bad_slot : Limits → Table → ℕ → Bool
is_bad_slot limits t inode = is_entry t inode && is_bad_place limits t (is_dir_attr (t.attr inode)) (t.slot inode)

-- whether an inode is a used one from 2 on with this parent and this name
abbrev pub is_entry_at : Table → ℕ → List ℕ → ℕ → Bool
is_entry_at t parent name inode = is_entry t inode && is_slot_at (t.slot inode) parent name

-- whether a lower inode has the parent and the name of a slot
abbrev pub has_lower : Table → ℕ → Option Slot → Bool
has_lower t inode None = false
has_lower t inode (Some s) = is_some (lowest (is_entry_at t s.parent s.name) inode)

-- a twin: it has the parent and the name of a lower one. Of two files `f` in directory 2 it is the one with the higher inode
abbrev pub is_twin : Table → ℕ → Bool
is_twin t inode = is_entry t inode && has_lower t inode (t.slot inode)

-- the parent of an inode; the root and the orphan directory have none, whatever their slots say
abbrev pub parent_at : Table → ℕ → Option ℕ
parent_at t inode = cond (is_entry t inode && nat_lt inode t.inodes) (option_map (λ s. s.parent) (t.slot inode)) None

-- whether so many steps up from an inode lead to the root: of `/a/f` 2 steps do
abbrev pub is_root_above : Table → ℕ → ℕ → Bool
is_root_above t inode steps = is_it (up (parent_at t) steps inode) 0

-- whether its chain of parents comes to the root. A chain that does has fewer steps than there are inodes
abbrev pub is_rooted : Table → ℕ → Bool
is_rooted t inode = is_some (lowest (is_root_above t inode) t.inodes)

-- one that isn't below the root, and doesn't stand in the orphan directory: it is in a ring, or below one
abbrev pub is_in_ring : Table → ℕ → Bool
is_in_ring t inode = is_entry t inode && (not (is_it (parent_at t inode) 1) && not (is_rooted t inode))

-- ---- pointers and counts

-- whether a block of the image is a data block
abbrev pub is_data_block : Volume → ℕ → Bool
is_data_block v block = nat_le (first_data v) block && nat_lt block v.blocks

-- the block at a place of a list is no data block, or stands at a lower place too. In 300 301 300 it is the place 2 that has
-- the latter
abbrev pub is_bad_at : (ℕ → Bool) → List ℕ → ℕ → Bool
is_bad_at is_data blocks at = not (is_data (slice_index blocks at)) || list_any (λ earlier. earlier == slice_index blocks at) (take at blocks)

-- the pointer of a place in their order: it names no data block, or one that an earlier pointer names
abbrev pub is_bad_pointer : Volume → ℕ → Bool
is_bad_pointer v at = is_bad_at (is_data_block v) (named_blocks v) at

-- the first such pointer
abbrev pub bad_pointer : Volume → Option Pointer
bad_pointer v = option_and_then (slice_get (pointers (table_of v))) (lowest (is_bad_pointer v) (length (pointers (table_of v))))

abbrev pub differ : Bool → Bool → Bool
differ true b = not b
differ false b = b

-- a data block: it is marked as used and no pointer names it, or the other way round
abbrev pub is_bad_bit : Volume → ℕ → Bool
is_bad_bit v item = differ (is_block_used v item) (list_any (λ block. block == first_data v + item) (named_blocks v))

-- both counts are those of the clear bits
abbrev pub are_counted : Volume → Bool
are_counted v = free_blocks v == clear_blocks v && free_inodes v == clear_inodes v

-- ---- the checks

-- the block where there is a wrong inode, and nothing where there is none
abbrev pub block_of : (ℕ → ℕ) → Option ℕ → Option ℕ
block_of block inode = option_map block inode

-- this block where a test fails
abbrev pub unless : Bool → ℕ → Option ℕ
unless right block = cond right None (Some block)

-- the block that a check tells, where it fails. `last` is the number of the last open batch
abbrev pub failure : Limits → Option ℕ → Volume → Check → Option ℕ
-- the format is 1, and the batch number is that of the last open batch
failure limits last v checks.Format = unless (format v == 1 && is_last last (number v)) counter_block
-- inodes 0 and 1 are used directories
failure limits last v checks.Root = unless (is_dir_at (table_of v) 0 && is_dir_at (table_of v) 1) (record_block 0)
-- each used inode from 2 on has a good record, a good slot, no twin below it, and the root above it, but for those in the
-- orphan directory
failure limits last v checks.Record = block_of record_block (lowest (is_bad_record limits (table_of v)) v.inodes)
failure limits last v checks.Slot = block_of (slot_block v.inodes) (lowest (is_bad_slot limits (table_of v)) v.inodes)
failure limits last v checks.Twin = block_of (slot_block v.inodes) (lowest (is_twin (table_of v)) v.inodes)
failure limits last v checks.Ring = block_of (slot_block v.inodes) (lowest (is_in_ring (table_of v)) v.inodes)
-- each pointer names a data block of its own, and the blocks that are named are marked as used, and no others
failure limits last v checks.Pointer = option_map (holder v) (bad_pointer v)
failure limits last v checks.Bits = unless (not (is_some (lowest (is_bad_bit v) (data_blocks v)))) block_bits
-- the counts of free blocks and inodes are those of the clear bits
failure limits last v checks.Counts =
    unless (are_counted v) counter_block

-- the order of the checks
abbrev pub all_checks : List Check
all_checks =
    checks.Format ∷ checks.Root ∷ checks.Record ∷ checks.Slot ∷ checks.Twin ∷ checks.Ring ∷ checks.Pointer ∷ checks.Bits ∷ checks.Counts ∷ []

-- a check with its block where it fails, and else the next that fails
abbrev pub or_next : Check → Option ℕ → Option (Check × ℕ) → Option (Check × ℕ)
or_next check None next = next
or_next check (Some block) next = Some (check, block)

-- the first of these checks that fails, with its block
abbrev pub first_of : (Check → Option ℕ) → List Check → Option (Check × ℕ)
first_of fails [] = None
first_of fails (check ∷ more) = or_next check (fails check) (first_of fails more)

-- the first check that fails under such limits
abbrev pub first_failure_under : Limits → Option ℕ → Volume → Option (Check × ℕ)
first_failure_under limits last v = first_of (failure limits last v) all_checks

-- the first check that fails, with its block, and nothing where the volume stands for a tree
abbrev pub first_failure : Option ℕ → Volume → Option (Check × ℕ)
first_failure last v = first_failure_under all_built last v

-- ---- until files have bytes and may stay open without a name

-- the first check that fails until then
abbrev pub first_failure_for_now : Option ℕ → Volume → Option (Check × ℕ)
first_failure_for_now last v = first_failure_under bare last v

-- what is refused until then: a used file that isn't empty, or a used slot in the orphan directory
abbrev pub is_not_bare : Table → ℕ → Bool
is_not_bare t inode = is_entry t inode && ((is_file_attr (t.attr inode) && nat_lt 0 (length_told (t.attr inode))) || is_it (parent_at t inode) 1)

-- no inode has that
abbrev pub IsBare : Table → Type 0
IsBare t = NoneBelow (is_not_bare t) t.inodes
