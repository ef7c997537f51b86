-- Examples of what an update weighs, computed: on any rows where the row x is a file of so many bytes.
use Rattle.std.proofs.Common.{◌≡◌, ℕ, ◌+◌, ◌-◌, ◌*◌, List, length, refl, ap, arith, ◌∙◌, leb}
use Rattle.std.specs.Prelude.{Bool, true, false, cond}
use Rattle.std.specs.declared.option.Option.{Option}
use Rattle.std.specs.declared.option.Option.TheVariants.{None, Some}
use Rattle.std.specs.FinMap.{get}
use Rattle.std.proofs.lemmas.Bool.{leb-true, leb-false}
use Rattle.std.proofs.lemmas.Grind.{common_steps}
use Rattle.ccfs_base.specs.Limits.{blocks}
use Rattle.ccfs_base.specs.Contents.{resized, written}
use Rattle.tree_model.specs.declared.rows.Body.{Body}
use Rattle.tree_model.specs.declared.rows.Body.TheVariants.{Dir, File}
use Rattle.tree_model.specs.declared.rows.Row.{Row}
use Rattle.tree_model.specs.declared.rows.Update.TheVariants.{Make, Write, Resize, Remove}
use Rattle.tree_model.specs.Rows.{Rows, IsFile, kind}
use Rattle.tree_model.specs.Updates.{Refill, change, refilled, counted, new_body, store, apply}
use Rattle.tree_model.specs.Weights.{body_bytes, row_bytes, bytes_at, length_at, live, lower, landed, weight}
use Rattle.tree_model.proofs.Live.{part, body_blocks, live_store, total_apply}

-- ---- what a file's length after an update says of the update's weight
-- so many bytes are put, and the file's length changes so
abbrev by_lengths : ℕ → ℕ → ℕ → ℕ
by_lengths put old new = 512 + put + 32 * ((blocks new - blocks old) + (blocks old - blocks new))

abbrev longer : ℕ → ℕ → ℕ
longer len end = cond (leb len end) end len

even : (put a b y z : ℕ) → a + y ≡ b + z → 512 + put + 32 * ((a - b) + (b - a)) ≡ 512 + put + 32 * ((z - y) + (y - z))
even put a b y z same = omega arith

file_blocks : (o : Option Row) → kind o ≡ Some false → part body_blocks o ≡ blocks (length (row_bytes o))
file_blocks None is = absurd (cc)
file_blocks (Some r) is = refl

filled_blocks : (f : List ℕ → List ℕ) (o : Option Row) → kind o ≡ Some false → part body_blocks (change (Refill f) o) ≡ blocks (length (f (row_bytes o)))
filled_blocks f None is = absurd (cc)
filled_blocks f (Some r) is = by r.body is
  where
    by : (b : Body) → kind (Some (record r { body = b })) ≡ Some false → body_blocks (refilled f b) ≡ blocks (length (f (body_bytes b)))
    by (Dir changes) is = absurd (let z : ◌≡◌ {A = Option Bool} (Some true) (Some false) = is in cc)
    by (File bytes) is = refl

-- a count of changes takes no block
calm : (b : Body) → body_blocks (counted b) ≡ body_blocks b
calm (Dir changes) = refl
calm (File bytes) = refl

written_long : (off : ℕ) (new bytes : List ℕ) → length (written off new bytes) ≡ longer (length bytes) (off + length new)
written_long off new bytes = elim (leb (length bytes) (off + length new)) as (λ b. leb (length bytes) (off + length new) ≡ b → length (written off new bytes) ≡ cond b (off + length new) (length bytes)) [
  | true ↦ λ p. (let le = leb-true (length bytes) (off + length new) p in grind (arith, common_steps))
  | false ↦ λ p. (let le = leb-false (length bytes) (off + length new) p in grind (arith, common_steps))
] refl

resized_long : (len : ℕ) (bytes : List ℕ) → length (resized len bytes) ≡ len
resized_long len bytes = grind (arith, common_steps)

module _ (t : Rows) (x : ℕ) (file : IsFile t x) where
  live_refilled : (f : List ℕ → List ℕ) (new : ℕ) → length (f (bytes_at t x)) ≡ new
      → live (store t x (change (Refill f) (get t x))) + blocks (length_at t x) ≡ live t + blocks new
  live_refilled f new long =
      let all = live_store t x (change (Refill f) (get t x)) in
      let before = file_blocks (get t x) file in
      let after = filled_blocks f (get t x) file ∙ ap blocks long in omega (arith, all, before, after)

  of_write : (off : ℕ) (new : List ℕ)
      → weight t (Write x off new) ≡ by_lengths (landed (length_at t x) (lower off (length_at t x)) (off + length new)) (length_at t x) (longer (length_at t x) (off + length new))
  of_write off new =
      even (landed (length_at t x) (lower off (length_at t x)) (off + length new)) (live (apply t (Write x off new))) (live t) (blocks (length_at t x)) (blocks (longer (length_at t x) (off + length new)))
      (live_refilled (written off new) (longer (length_at t x) (off + length new)) (written_long off new (bytes_at t x)))

  of_resize : (len : ℕ) → weight t (Resize x len) ≡ by_lengths (landed (length_at t x) (length_at t x) len) (length_at t x) len
  of_resize len =
      even (landed (length_at t x) (length_at t x) len) (live (apply t (Resize x len))) (live t) (blocks (length_at t x)) (blocks len)
      (live_refilled (resized len) len (resized_long len (bytes_at t x)))

  -- so many bytes are written at a place of a file of this length
  writes : (old off count : ℕ) (new : List ℕ) → length_at t x ≡ old → length new ≡ count
      → weight t (Write x off new) ≡ by_lengths (landed old (lower off old) (off + count)) old (longer old (off + count))
  writes old off count new long many = of_write off new
      ∙ ap (λ n. by_lengths (landed n (lower off n) (off + length new)) n (longer n (off + length new))) long
      ∙ ap (λ n. by_lengths (landed old (lower off old) (off + n)) old (longer old (off + n))) many

  -- a file of this length gets that length
  resizes : (old len : ℕ) → length_at t x ≡ old → weight t (Resize x len) ≡ by_lengths (landed old old len) old len
  resizes old len long = of_resize len ∙ ap (λ n. by_lengths (landed n n len) n len) long

  -- ---- the examples
  -- ten bytes over the end of the first page of a file of two pages
  ten_bytes_over_two_pages : (new : List ℕ) → length_at t x ≡ 5000 → length new ≡ 10 → weight t (Write x 4090 new) ≡ 522
  ten_bytes_over_two_pages new long many = writes 5000 4090 10 new long many

  -- the first 65,536 bytes of a file take 16 blocks, and none of them lands in a page that was there
  first_bytes : (new : List ℕ) → length_at t x ≡ 0 → length new ≡ 65536 → weight t (Write x 0 new) ≡ 1024
  first_bytes new long many = writes 0 0 65536 new long many

  -- as many over them weigh what they are
  bytes_over_them : (new : List ℕ) → length_at t x ≡ 65536 → length new ≡ 65536 → weight t (Write x 0 new) ≡ 66048
  bytes_over_them new long many = writes 65536 0 65536 new long many

  -- behind the end, within the last page
  bytes_within_the_last_page : (new : List ℕ) → length_at t x ≡ 5000 → length new ≡ 100 → weight t (Write x 5000 new) ≡ 612
  bytes_within_the_last_page new long many = writes 5000 5000 100 new long many

  -- 100 zeros of a gap and a byte behind them
  zeros_of_a_gap : (new : List ℕ) → length_at t x ≡ 100 → length new ≡ 1 → weight t (Write x 200 new) ≡ 613
  zeros_of_a_gap new long many = writes 100 200 1 new long many

  -- of a gap's zeros those count that end the last page, 3,996; and two blocks are new
  a_gap_over_pages : (new : List ℕ) → length_at t x ≡ 100 → length new ≡ 1 → weight t (Write x 9000 new) ≡ 512 + 3996 + 64
  a_gap_over_pages new long many = writes 100 9000 1 new long many

  -- 4,095 zeros end the page, and one block is new
  a_growth : length_at t x ≡ 1 → weight t (Resize x 5000) ≡ 512 + 4095 + 32
  a_growth long = resizes 1 5000 long

  -- a block is given up, and nothing is put
  a_shrink : length_at t x ≡ 5000 → weight t (Resize x 1) ≡ 544
  a_shrink long = resizes 5000 1 long

  -- with the 25 pages the block of their pointers is given up
  a_shrink_to_nothing : length_at t x ≡ 102400 → weight t (Resize x 0) ≡ 512 + 32 * 26
  a_shrink_to_nothing long = resizes 102400 0 long

  -- a file of two blocks is removed
  a_removal : (dir : ℕ) (name : List ℕ) → length_at t x ≡ 5000 → weight t (Remove dir name x false) ≡ 576
  a_removal dir name long =
      let all = total_apply body_blocks calm t (Remove dir name x false) in
      let before = file_blocks (get t x) file ∙ ap blocks long in
      even 0 (live (apply t (Remove dir name x false))) (live t) 2 0 (omega (arith, all, before))

-- a new row has no blocks
made_none : (is_dir : Bool) → body_blocks (new_body is_dir) ≡ 0
made_none true = refl
made_none false = refl

a_new_row : (t : Rows) (dir id : ℕ) (name : List ℕ) (is_dir : Bool) → get t id ≡ None → weight t (Make dir name id is_dir) ≡ 512
a_new_row t dir id name is_dir free =
    let all = total_apply body_blocks calm t (Make dir name id is_dir) in
    let none = made_none is_dir in
    let before : part body_blocks (get t id) ≡ 0 = ap (part body_blocks) free in
    even 0 (live (apply t (Make dir name id is_dir))) (live t) 0 0 (omega (arith, all, none, before))
