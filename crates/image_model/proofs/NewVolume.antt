-- A fresh volume stands for the root alone.
use Rattle.std.proofs.Common.{◌≡◌, ◌≢◌, ℕ, zero, suc, ◌+◌, ◌-◌, ◌/◌, ◌%◌, ◌<◌, ◌≤◌, ◌==◌, List, [], ◌∷◌, ◌++◌, length, slice_index, slice_get, drop, refl, sym, ap, ◌∙◌, inl, inr, arith}
use Rattle.std.specs.Prelude.{Bool, true, false, cond, not, ◌&&◌, ◌||◌, nat_lt, nat_le, is_some, Option, Some, None, option_map, filter, flat_map, map}
use Rattle.std.proofs.Math.Path.{ap₂}
use Rattle.std.specs.List.{range_with_len, list_any}
use Rattle.std.specs.Option.{option_and_then}
use Rattle.std.specs.Cmp.Lexicographic.{slice_cmp}
use Rattle.std.specs.Int.{bit_at}
use Rattle.std.specs.Ordering.{nat_cmp}
use Rattle.std.specs.Cmp.{nat_cmp_total, unsigned_tied}
use Rattle.std.specs.FinMap.{get, empty, entries, len, get-empty, get-insert, len-empty, len-insert, len-entries, same_map, nat_cmp-IsAntisymmetric}
use Rattle.std.proofs.lemmas.Bool.{cases_eq, cases_lt, and_parts, eq-eqb, ne_eqb, lt-ltb, le-ltb, leb-true}
use Rattle.std.proofs.lemmas.List.{get_or-drop}
use Rattle.std.proofs.lemmas.Nat.Bits.{bit_at-zero}
use Rattle.byteorder.specs.Endian.{little_bytes, little_number}
use Rattle.byteorder.specs.Numbers.{little_number-reads_back}
use Rattle.block_layout.specs.Sizes.{good_blocks, good_inodes, data_start}
use Rattle.ccfs_base.specs.Limits.{pages}
use Rattle.inode_table.specs.Records.{record_block}
use Rattle.inode_table.specs.declared.attrs.Kind.TheVariants as kinds
use Rattle.inode_table.specs.Attrs.{attr_of, kind_of, with_numbers}
use Rattle.free_maps.specs.Bits.{has_bit, failing}
use Rattle.tree_model.specs.declared.rows.Body.TheVariants.{Dir}
use Rattle.tree_model.specs.declared.rows.Row.{Row}
use Rattle.tree_model.specs.Rows.{alone}
use Rattle.tree_model.specs.Tests.{is_it}
use Rattle.tree_model.specs.Entries.{children}
use Rattle.tree_model.specs.Updates.{store}
use Rattle.tree_model.proofs.Index.{index_new, index_empty}
use Rattle.ccfs_base.specs.Places.{part}
use Rattle.image_model.specs.Fields.{block_place, slot_block}
use Rattle.image_model.specs.Volumes.{Volume, Table, table_of, number, format, free_blocks, free_inodes, first_data, data_blocks, is_used, attr, is_block_used, clear_blocks, number_at}
use Rattle.image_model.specs.Files.{is_file_at, is_file_attr, is_dir_attr, pointers, pointers_at, file_pointers, length_at, named, holder, file_bytes}
use Rattle.image_model.specs.Lowest.{lowest}
use Rattle.image_model.specs.declared.check.Check.TheVariants as checks
use Rattle.image_model.specs.Checks.{all_built, is_entry, is_bad_attr, is_bad_place, has_lower, parent_at, is_rooted, is_bad_bit, is_bad_pointer, differ, unless, block_of, failure, first_failure, first_of, or_next}
use Rattle.image_model.specs.Trees.{row_at, row_by_inode, rows_below, by_inodes, preorder, gone, is_unplaced, inodes_of, serial_of, with_parent, tree_of, body_given}
use Rattle.image_model.specs.Fresh.{fresh_counters, fresh_byte, IsFresh}
use Rattle.image_model.proofs.Least.{lowest_none}
use Rattle.ccfs_base.proofs.Put.{get_or-part}
use Rattle.image_model.proofs.Numbers.{same_number, zero_number}
use Rattle.image_model.proofs.RowsBelow.{rows_are_those}

-- ---- small things

and_false : (b : Bool) → (b && false) ≡ false
and_false true = refl
and_false false = refl

none_either : {X : Type 0} (b : Bool) → cond {A = Option X} b None None ≡ None
none_either true = refl
none_either false = refl

filter_none : (p : ℕ → Bool) (n a : ℕ) → ((i : ℕ) → p i ≡ false) → filter p (range_with_len a n) ≡ []
filter_none p zero a none = refl
filter_none p (suc n) a none =
    ap (λ b. cond b (a ∷ filter p (range_with_len (a + 1) n)) (filter p (range_with_len (a + 1) n))) (none a) ∙ filter_none p n (a + 1) none

flat_none : {X : Type 0} (f : ℕ → List X) (n a : ℕ) → ((i : ℕ) → f i ≡ []) → flat_map f (range_with_len a n) ≡ []
flat_none f zero a none = refl
flat_none f (suc n) a none = ap (λ z. z ++ flat_map f (range_with_len (a + 1) n)) (none a) ∙ flat_none f n (a + 1) none

all_fail : (test : ℕ → Bool) (n : ℕ) → ((i : ℕ) → i < n → test i ≡ false) → failing test n ≡ n
all_fail test zero none = refl
all_fail test (suc n) none =
    let before : failing test n ≡ n = all_fail test n (λ i h. none i (omega arith)) in
    let here : cond {A = ℕ} (test n) 0 1 ≡ 1 = ap (λ b. cond {A = ℕ} b 0 1) (none n (omega arith)) in
    omega arith

-- of n places all but the first two fail
all_but_two : (test : ℕ → Bool) (n : ℕ) → test 0 ≡ true → test 1 ≡ true → ((i : ℕ) → 2 ≤ i → i < n → test i ≡ false) → failing test n ≡ n - 2
all_but_two test zero first second none = refl
all_but_two test (suc zero) first second none =
    let here : cond {A = ℕ} (test 0) 0 1 ≡ 0 = ap (λ b. cond {A = ℕ} b 0 1) first in
    omega arith
all_but_two test (suc (suc zero)) first second none = ap₂ (λ a b. 0 + cond {A = ℕ} a 0 1 + cond {A = ℕ} b 0 1) first second
all_but_two test (suc (suc (suc n))) first second none =
    let before : failing test (suc (suc n)) ≡ suc (suc n) - 2 = all_but_two test (suc (suc n)) first second (λ i l h. none i l (omega arith)) in
    let here : cond {A = ℕ} (test (suc (suc n))) 0 1 ≡ 1 = ap (λ b. cond {A = ℕ} b 0 1) (none (suc (suc n)) (omega arith) (omega arith)) in
    omega arith

no_items : {X : Type 0} (xs : List X) → length xs ≡ 0 → xs ≡ []
no_items [] e = refl
no_items (x ∷ xs) e = absurd (omega arith)

-- the bits of the byte 3 from bit 2 on
high_bits : (k : ℕ) → 2 ≤ k → k < 8 → bit_at 3 k ≡ 0
high_bits zero l h = absurd (omega arith)
high_bits (suc zero) l h = absurd (omega arith)
high_bits (suc (suc zero)) l h = refl
high_bits (suc (suc (suc zero))) l h = refl
high_bits (suc (suc (suc (suc zero)))) l h = refl
high_bits (suc (suc (suc (suc (suc zero))))) l h = refl
high_bits (suc (suc (suc (suc (suc (suc zero)))))) l h = refl
high_bits (suc (suc (suc (suc (suc (suc (suc zero))))))) l h = refl
high_bits (suc (suc (suc (suc (suc (suc (suc (suc k)))))))) l h = absurd (omega arith)

-- ---- bytes

counter_byte : (b n x : ℕ) → x < 28 → fresh_byte b n x ≡ slice_index (fresh_counters b n) x
counter_byte b n x h =
    ap (λ z. cond z (slice_index (fresh_counters b n) x) (cond (x == 8192) 3 (cond (x == 12288 || x == 12544) 1 0))) (lt-ltb x 28 h)

zero_byte : (b n x : ℕ) → 28 ≤ x → x ≢ 8192 → x ≢ 12288 → x ≢ 12544 → fresh_byte b n x ≡ 0
zero_byte b n x h bits first second =
    ap (λ z. cond z (slice_index (fresh_counters b n) x) (cond (x == 8192) 3 (cond (x == 12288 || x == 12544) 1 0))) (le-ltb x 28 h)
    ∙ ap (λ z. cond z 3 (cond (x == 12288 || x == 12544) 1 0)) (ne_eqb x 8192 bits)
    ∙ ap (λ z. cond (z || x == 12544) 1 0) (ne_eqb x 12288 first)
    ∙ ap (λ z. cond z 1 0) (ne_eqb x 12544 second)

module _ (v : Volume) (fresh : IsFresh v) (least : 32 ≤ v.inodes) (most : v.inodes ≤ 8192) (room : data_start v.inodes + 64 ≤ v.blocks) (few : v.blocks ≤ 16384) where
  -- the metadata has more than six blocks
  long : (x : ℕ) → x < 24576 → x < block_place (first_data v)
  long x h = omega arith

  byte_of_counters : (x : ℕ) → x < 28 → slice_index v.bytes x ≡ slice_index (fresh_counters v.blocks v.inodes) x
  byte_of_counters x h = fresh.bytes x (long x (omega arith)) ∙ counter_byte v.blocks v.inodes x h

  byte_of_zeros : (x : ℕ) → 28 ≤ x → x < 24576 → x ≢ 8192 → x ≢ 12288 → x ≢ 12544 → slice_index v.bytes x ≡ 0
  byte_of_zeros x h l bits first second = fresh.bytes x (long x l) ∙ zero_byte v.blocks v.inodes x h bits first second

  -- ---- counters

  counter : (size from : ℕ) → from + size ≤ 28 → number_at size from v ≡ little_number size (drop from (fresh_counters v.blocks v.inodes))
  counter size from h = same_number size 0 0 (drop from v.bytes) (drop from (fresh_counters v.blocks v.inodes))
      (λ k l. get_or-drop from v.bytes (0 + k) 0 ∙ byte_of_counters (from + (0 + k)) (omega arith) ∙ sym (get_or-drop from (fresh_counters v.blocks v.inodes) (0 + k) 0))

  pub its_number : number v ≡ 0
  its_number = counter 8 0 (omega arith)

  its_free_blocks : free_blocks v ≡ data_blocks v
  its_free_blocks = counter 8 8 (omega arith) ∙ little_number-reads_back 8 (data_blocks v) (little_bytes 8 (v.inodes - 2) ++ little_bytes 4 1) (omega arith)

  its_free_inodes : free_inodes v ≡ v.inodes - 2
  its_free_inodes = counter 8 16 (omega arith) ∙ little_number-reads_back 8 (v.inodes - 2) (little_bytes 4 1) (omega arith)

  its_format : format v ≡ 1
  its_format = counter 4 24 (omega arith)

  -- ---- bits

  inode_bit : (i : ℕ) → i < v.inodes → is_used v i ≡ has_bit (slice_index v.bytes (8192 + i / 8)) (i % 8)
  inode_bit i h = ap (λ b. has_bit b (i % 8)) (get_or-part 8192 4096 v.bytes (i / 8) 0 (omega arith))

  used_from_two : (i : ℕ) → 2 ≤ i → i < v.inodes → is_used v i ≡ false
  used_from_two i l h = inode_bit i h ∙ elim (cases_eq (i / 8) 0) [
    | inl first ↦ ap (λ z. has_bit (slice_index v.bytes (8192 + z)) (i % 8)) first ∙ ap (λ b. has_bit b (i % 8)) (fresh.bytes 8192 (long 8192 (omega arith)))
        ∙ ap (λ b. b == 1) (high_bits (i % 8) (omega arith) (omega arith))
    | inr other ↦ ap (λ b. has_bit b (i % 8)) (byte_of_zeros (8192 + i / 8) (omega arith) (omega arith) (omega arith) (omega arith) (omega arith))
        ∙ ap (λ b. b == 1) (bit_at-zero (i % 8))
  ]

  first_used : is_used v 0 ≡ true
  first_used = inode_bit 0 (omega arith) ∙ ap (λ b. has_bit b 0) (fresh.bytes 8192 (long 8192 (omega arith)))

  second_used : is_used v 1 ≡ true
  second_used = inode_bit 1 (omega arith) ∙ ap (λ b. has_bit b 1) (fresh.bytes 8192 (long 8192 (omega arith)))

  no_block_used : (item : ℕ) → item < data_blocks v → is_block_used v item ≡ false
  no_block_used item h = ap (λ b. has_bit b (item % 8)) (get_or-part 4096 4096 v.bytes (item / 8) 0 (omega arith)
      ∙ byte_of_zeros (4096 + item / 8) (omega arith) (omega arith) (omega arith) (omega arith) (omega arith))
      ∙ ap (λ b. b == 1) (bit_at-zero (item % 8))

  -- ---- records

  abbrev record_of : ℕ → List ℕ
  record_of from = part from 24 v.bytes

  a_directory : (from : ℕ) → slice_index v.bytes (from + 0) ≡ 1 → attr_of (record_of from) ≡ Some (with_numbers (record_of from) kinds.Dir)
  a_directory from kind = ap (λ b. option_map (with_numbers (record_of from)) (kind_of b)) (get_or-part from 24 v.bytes 0 0 (omega arith) ∙ kind)

  its_root : attr v 0 ≡ Some (with_numbers (record_of 12288) kinds.Dir)
  its_root = a_directory 12288 (fresh.bytes 12288 (long 12288 (omega arith)))

  its_orphans : attr v 1 ≡ Some (with_numbers (record_of 12544) kinds.Dir)
  its_orphans = a_directory 12544 (fresh.bytes 12544 (long 12544 (omega arith)))

  no_changes : (with_numbers (record_of 12288) kinds.Dir).changes ≡ 0
  no_changes = zero_number 8 0 (drop 16 (record_of 12288))
      (λ k h. get_or-drop 16 (record_of 12288) (0 + k) 0 ∙ get_or-part 12288 24 v.bytes (16 + (0 + k)) 0 (omega arith)
      ∙ byte_of_zeros (12288 + (16 + (0 + k))) (omega arith) (omega arith) (omega arith) (omega arith) (omega arith))

  -- ---- inodes

  abbrev t : Table
  t = table_of v

  in_range : (i : ℕ) → i < v.inodes → nat_lt i v.inodes ≡ true
  in_range i h = lt-ltb i v.inodes h

  -- what is said of used inodes holds of no inode from 2 on
  no_more : (i : ℕ) (b : Bool) → 2 ≤ i → (nat_lt i v.inodes && (is_used v i && b)) ≡ false
  no_more i b l = elim (cases_lt i v.inodes) [
    | inl h ↦ ap (λ z. nat_lt i v.inodes && (z && b)) (used_from_two i l h) ∙ and_false (nat_lt i v.inodes)
    | inr h ↦ ap (λ z. z && (is_used v i && b)) (le-ltb i v.inodes h)
  ]

  no_entry : (i : ℕ) → i < v.inodes → is_entry t i ≡ false
  no_entry zero h = refl
  no_entry (suc zero) h = refl
  no_entry (suc (suc i)) h = ap (λ z. nat_le 2 (suc (suc i)) && z) (used_from_two (suc (suc i)) (omega arith) h) ∙ and_false (nat_le 2 (suc (suc i)))

  passes : (test : ℕ → Bool) → lowest (λ i. is_entry t i && test i) v.inodes ≡ None
  passes test = lowest_none (λ i. is_entry t i && test i) v.inodes (λ i h. ap (λ b. b && test i) (no_entry i h))

  no_file : (i : ℕ) → is_file_at t i ≡ false
  no_file zero = ap (λ a. nat_lt 0 v.inodes && (is_used v 0 && is_file_attr a)) its_root
      ∙ ap (λ z. nat_lt 0 v.inodes && z) (and_false (is_used v 0)) ∙ and_false (nat_lt 0 v.inodes)
  no_file (suc zero) = ap (λ a. nat_lt 1 v.inodes && (is_used v 1 && is_file_attr a)) its_orphans
      ∙ ap (λ z. nat_lt 1 v.inodes && z) (and_false (is_used v 1)) ∙ and_false (nat_lt 1 v.inodes)
  no_file (suc (suc i)) = no_more (suc (suc i)) (is_file_attr (attr v (suc (suc i)))) (omega arith)

  no_pointers : pointers t ≡ []
  no_pointers = flat_none (pointers_at t) v.inodes 0 (λ i. ap (λ b. cond b (file_pointers i (pages (length_at t i))) []) (no_file i))

  -- ---- checks

  format_right : failure all_built None v checks.Format ≡ None
  format_right = ap (λ z. unless (z == 1 && true) 260) its_format

  roots_right : failure all_built None v checks.Root ≡ None
  roots_right =
      ap₂ (λ a b. unless ((nat_lt 0 v.inodes && (is_used v 0 && is_dir_attr a)) && (nat_lt 1 v.inodes && (is_used v 1 && is_dir_attr b))) 263) its_root its_orphans
      ∙ ap₂ (λ a b. unless ((a && (is_used v 0 && true)) && (b && (is_used v 1 && true))) 263) (in_range 0 (omega arith)) (in_range 1 (omega arith))
      ∙ ap₂ (λ a b. unless ((a && true) && (b && true)) 263) first_used second_used

  records_right : failure all_built None v checks.Record ≡ None
  records_right = ap (block_of record_block) (passes (λ i. is_bad_attr all_built.longest (t.attr i)))

  slots_right : failure all_built None v checks.Slot ≡ None
  slots_right = ap (block_of (slot_block v.inodes)) (passes (λ i. is_bad_place all_built t (is_dir_attr (t.attr i)) (t.slot i)))

  twins_right : failure all_built None v checks.Twin ≡ None
  twins_right = ap (block_of (slot_block v.inodes)) (passes (λ i. has_lower t i (t.slot i)))

  rings_right : failure all_built None v checks.Ring ≡ None
  rings_right = ap (block_of (slot_block v.inodes)) (passes (λ i. not (is_it (parent_at t i) 1) && not (is_rooted t i)))

  pointers_right : failure all_built None v checks.Pointer ≡ None
  pointers_right = ap (λ ps. option_map (holder v) (option_and_then (slice_get ps) (lowest (is_bad_pointer v) (length ps)))) no_pointers

  bits_right : failure all_built None v checks.Bits ≡ None
  bits_right = ap (λ o. unless (not (is_some o)) 261) (lowest_none (is_bad_bit v) (data_blocks v)
      (λ item h. ap₂ (λ b ps. differ b (list_any (λ block. block == first_data v + item) (map (named v) ps))) (no_block_used item h) no_pointers))

  counts_right : failure all_built None v checks.Counts ≡ None
  counts_right =
      ap₂ (λ a b. unless (a && b) 260)
      (eq-eqb (free_blocks v) (clear_blocks v) (its_free_blocks ∙ sym (all_fail (is_block_used v) (data_blocks v) no_block_used)))
      (eq-eqb (free_inodes v) (failing (is_used v) v.inodes) (its_free_inodes ∙ sym (all_but_two (is_used v) v.inodes first_used second_used used_from_two)))

  pub none_fails : first_failure None v ≡ None
  none_fails =
      ap (λ o. or_next checks.Format o (first_of (failure all_built None v) (checks.Root ∷ checks.Record ∷ checks.Slot ∷ checks.Twin ∷ checks.Ring ∷ checks.Pointer ∷ checks.Bits ∷ checks.Counts ∷ []))) format_right
      ∙ ap (λ o. or_next checks.Root o (first_of (failure all_built None v) (checks.Record ∷ checks.Slot ∷ checks.Twin ∷ checks.Ring ∷ checks.Pointer ∷ checks.Bits ∷ checks.Counts ∷ []))) roots_right
      ∙ ap (λ o. or_next checks.Record o (first_of (failure all_built None v) (checks.Slot ∷ checks.Twin ∷ checks.Ring ∷ checks.Pointer ∷ checks.Bits ∷ checks.Counts ∷ []))) records_right
      ∙ ap (λ o. or_next checks.Slot o (first_of (failure all_built None v) (checks.Twin ∷ checks.Ring ∷ checks.Pointer ∷ checks.Bits ∷ checks.Counts ∷ []))) slots_right
      ∙ ap (λ o. or_next checks.Twin o (first_of (failure all_built None v) (checks.Ring ∷ checks.Pointer ∷ checks.Bits ∷ checks.Counts ∷ []))) twins_right
      ∙ ap (λ o. or_next checks.Ring o (first_of (failure all_built None v) (checks.Pointer ∷ checks.Bits ∷ checks.Counts ∷ []))) rings_right
      ∙ ap (λ o. or_next checks.Pointer o (first_of (failure all_built None v) (checks.Bits ∷ checks.Counts ∷ []))) pointers_right
      ∙ ap (λ o. or_next checks.Bits o (first_of (failure all_built None v) (checks.Counts ∷ []))) bits_right
      ∙ ap (λ o. or_next checks.Counts o None) counts_right

  -- ---- the tree

  abbrev root : Row
  root = record { parent = None; name = []; body = Dir 0 }

  abbrev files : ℕ → List ℕ
  files = file_bytes v

  root_row : row_at t files 0 ≡ Some root
  root_row =
      ap₂ (λ a b. cond (a && (b && true)) (Some (row_by_inode t files 0)) None) (in_range 0 (omega arith)) first_used
      ∙ ap (λ a. Some (record { parent = None; name = []; body = body_given a (files 0) })) its_root
      ∙ ap (λ n. Some (record { parent = None; name = []; body = Dir n })) no_changes

  no_row : (i : ℕ) → 1 ≤ i → row_at t files i ≡ None
  no_row zero l = absurd (omega arith)
  no_row (suc zero) l = ap (λ b. cond b (Some (row_by_inode t files 1)) None) (ap (λ b. nat_lt 1 v.inodes && b) (and_false (is_used v 1)) ∙ and_false (nat_lt 1 v.inodes))
  no_row (suc (suc i)) l = ap (λ b. cond b (Some (row_by_inode t files (suc (suc i)))) None) (no_more (suc (suc i)) (not (suc (suc i) == 1)) (omega arith))

  get_root : (x : ℕ) → get (alone 0) x ≡ cond (x == 0) (Some root) None
  get_root x = get-insert nat_cmp_total empty 0 root x ∙ ap₂ (λ b o. cond b (Some root) o) (unsigned_tied x 0) (get-empty nat_cmp x)

  same_row : (x : ℕ) → cond (nat_lt x v.inodes) (row_at t files x) None ≡ cond (x == 0) (Some root) None
  same_row zero = ap₂ (λ b o. cond b o None) (in_range 0 (omega arith)) root_row
  same_row (suc x) = ap (λ o. cond (nat_lt (suc x) v.inodes) o None) (no_row (suc x) (omega arith)) ∙ none_either (nat_lt (suc x) v.inodes)
      ∙ sym (ap (λ b. cond b (Some root) None) (ne_eqb (suc x) 0 (omega arith)))

  rows_alone : by_inodes t files ≡ alone 0
  rows_alone = same_map nat_cmp_total nat_cmp-IsAntisymmetric (by_inodes t files) (alone 0) (λ x. rows_are_those (row_at t files) v.inodes x ∙ same_row x ∙ sym (get_root x))

  one_row : len (alone 0) ≡ 1
  one_row = len-insert nat_cmp_total empty 0 root ∙ ap₂ (λ o n. cond (is_some o) n (n + 1)) (get-empty nat_cmp 0) (len-empty nat_cmp Row)

  no_children : children (alone 0) 0 ≡ []
  no_children = ap entries (index_new empty 0 root 0 (get-empty nat_cmp 0) (λ h. absurd (cc)) ∙ index_empty 0)
      ∙ no_items (entries empty) (sym (len-entries empty) ∙ len-empty (slice_cmp nat_cmp) ℕ)

  not_gone : (i : ℕ) → (not (i == 0) && is_unplaced (row_at t files i)) ≡ false
  not_gone zero = refl
  not_gone (suc i) = ap (λ o. not (suc i == 0) && is_unplaced o) (no_row (suc i) (omega arith)) ∙ and_false (not (suc i == 0))

  no_gone : gone t files ≡ []
  no_gone = filter_none (λ i. not (i == 0) && is_unplaced (row_at t files i)) v.inodes 0 not_gone

  one_inode : inodes_of t files ≡ 0 ∷ []
  one_inode =
      ap₂ (λ rows more. preorder (len rows) rows 0 ++ more) rows_alone no_gone
      ∙ ap (λ n. preorder n (alone 0) 0 ++ []) one_row
      ∙ ap (λ es. (0 ∷ flat_map (λ e. preorder 0 (alone 0) e.1) es) ++ []) no_children

  pub stands_alone : tree_of v ≡ alone 0
  stands_alone =
      ap (λ o. rows_below (λ s. option_map (with_parent (serial_of o)) (row_at t files (slice_index o s))) (length o)) one_inode
      ∙ ap (λ o. store empty 0 (option_map (with_parent (serial_of (0 ∷ []))) o)) root_row

pub fresh_volumes_stand : (v : Volume) → good_blocks v.blocks ≡ true → good_inodes v.blocks v.inodes ≡ true → IsFresh v
    → (first_failure None v ≡ None) × (number v ≡ 0) × (tree_of v ≡ alone 0)
fresh_volumes_stand v blocks inodes fresh =
    let few : v.blocks ≤ 16384 = leb-true v.blocks 16384 (and_parts _ _ blocks).1 in
    let parts = and_parts _ _ inodes in
    let room : data_start v.inodes + 64 ≤ v.blocks = leb-true (data_start v.inodes + 64) v.blocks parts.1 in
    let bounds = and_parts _ _ (and_parts _ _ parts.0).0 in
    let least : 32 ≤ v.inodes = leb-true 32 v.inodes bounds.0 in
    let most : v.inodes ≤ 8192 = leb-true v.inodes 8192 bounds.1 in
    (none_fails v fresh least most room few, its_number v fresh least most room few, stands_alone v fresh least most room few)
