-- Images whose first blocks and tables are written.
use Rattle.std.proofs.Common.{◌≡◌, ℕ, ◌+◌, ◌-◌, ◌*◌, ◌≤◌, Bool, cond, eqb, eq-eqb, Option, Some, None, List, ◌++◌, length, get_or, take, drop, replicate, ◌%◌, ◌<◌, ◌&&◌, true, refl, sym, ◌∙◌, ap, arith, length-append, subst}
use Rattle.std.proofs.lemmas.Bool.{le-leb}
use Rattle.std.proofs.lemmas.List.{get_or-drop, get_or_append_left, take-take, take_all, drop-take, drop-drop, take_at, drop_at, append_assoc, length-take-le, length-replicate, take-replicate, drop-replicate}
use Rattle.disk_model.specs.Bytes.{part, patched}
use Rattle.disk_model.specs.Past.{length-patched, Torn-patched}
use Rattle.disk_model.proofs.Places.{part-patched, torn_part_before}
use Rattle.block_layout.specs.declared.geometry.Geometry.{Geometry}
use Rattle.block_layout.specs.declared.superblock.SuperField.{SuperField}
use Rattle.block_layout.specs.Super.{super_bytes, blocks_named, inodes_named, first_wrong}
use Rattle.block_layout.specs.Sizes.{data_start}
use Rattle.tree_model.specs.Rows.{alone}
use Rattle.image_model.specs.Volumes.{Volume, number}
use Rattle.image_model.specs.Trees.{tree_of}
use Rattle.gate_journal.specs.Journal.{gates_of, is_open_behind, open_batches}
use Rattle.gate_journal.specs.Loading.{empty}
use Rattle.gate_journal.proofs.Closed.{closed_journal}
use Rattle.atomic_volume.specs.Opening.{Contents, volume_place, volume_area, or_blocks, superblock, put_on, replayed, opened, active_half}
use Rattle.atomic_volume.specs.Refusals.{IsLaidOut}
use Rattle.atomic_volume.specs.Held.{IsSized}
use Rattle.atomic_volume.proofs.Bytes.{byte_read}
use Rattle.atomic_volume.proofs.Laid.{quotient, good_length}
use Rattle.atomic_volume.proofs.Replays.{known_from, opened_right, batches_are}
use Rattle.image_model.specs.Fresh.{fresh_byte, IsFresh as IsFreshVolume}
use Rattle.recovery.specs.Recovering.{volume_in, tree_held, if_opened, where_sound}
use Rattle.recovery.specs.Fresh.{IsFresh, front_bytes, AreTables}
use Rattle.recovery.proofs.Standing.{fresh_stands}

-- ---- what such an image opens to

-- What stands where on a fresh image: its length, the superblock, a master byte of 0, closed gates, and the metadata of a fresh
-- volume.
pub record Stands (g : Geometry) (c start : List ℕ) : Type 0 where
  pub long : length c ≡ 4096 * g.blocks
  pub front : take 16384 c ≡ start ++ replicate 16348 0
  pub named : take 36 c ≡ start
  pub right : first_wrong start ≡ None
  pub blocks : blocks_named start ≡ g.blocks
  pub inodes : inodes_named start ≡ g.inodes
  pub master : get_or c 4096 0 ≡ 0
  pub gates : ℕ
  pub closed : gates_of 0 c ≡ replicate gates 0
  pub tables : List ℕ
  pub rest : List ℕ
  pub area : volume_area c ≡ tables ++ rest
  pub fresh : AreTables g tables

both : {a b : Bool} → a ≡ true → b ≡ true → (a && b) ≡ true
both p q = (λ i. p i && q i)

laid_out : (g : Geometry) (c start : List ℕ) → Stands g c start → IsLaidOut c
laid_out g c start is =
    let sized : IsSized (length c) g.blocks = record { bytes = is.long; least = g.least_blocks; most = g.most_blocks } in
    record {
      length_is = good_length (length c) g.blocks sized;
      super_is = ap (λ (n : ℕ). or_blocks (first_wrong (superblock c)) (eqb (blocks_named (superblock c)) n)) (quotient (length c) g.blocks sized)
          ∙ ap (λ (l : List ℕ). or_blocks (first_wrong l) (eqb (blocks_named l) g.blocks)) is.named
          ∙ ap (λ (w : Option SuperField). or_blocks w (eqb (blocks_named start) g.blocks)) is.right
          ∙ ap (λ (b : Bool). or_blocks None b) (eq-eqb (blocks_named start) g.blocks is.blocks);
    }

-- the volume that it opens to
abbrev contents_of : Geometry → List ℕ → Contents
contents_of g c = record { blocks = g.blocks; inodes = g.inodes; bytes = volume_area c; last = None }

-- a byte of its metadata
table_byte : (g : Geometry) (c start : List ℕ) (is : Stands g c start) (x : ℕ) → x < 4096 * (g.first_data - 260) → get_or (volume_area c) x 0 ≡ fresh_byte g.blocks g.inodes x
table_byte g c start is x less =
    let within : x < length is.tables = omega (arith, is.fresh.long, less) in
    ap (λ (l : List ℕ). get_or l x 0) is.area ∙ get_or_append_left is.tables is.rest 0 x within ∙ is.fresh.fresh x within

fresh_volume : (g : Geometry) (c start : List ℕ) → Stands g c start → IsFreshVolume (volume_in (contents_of g c))
fresh_volume g c start is = record {
  bytes = λ x h. table_byte g c start is x (omega (arith, g.first_data_place, h));
}

-- it holds the root alone
alone_held : (g : Geometry) (c start : List ℕ) → Stands g c start → tree_held (contents_of g c) ≡ Some (0, alone 0)
alone_held g c start is =
    let v : Volume = volume_in (contents_of g c) in
    let room : data_start g.inodes + 64 ≤ g.blocks = omega (arith, g.data_to_the_end, g.least_data, g.first_data_place) in
    let stands = fresh_stands v g.least_inodes g.most_inodes (both (le-leb 512 g.blocks g.least_blocks) (le-leb g.blocks 16384 g.most_blocks))
    (both (both (both (le-leb 32 g.inodes g.least_inodes) (le-leb g.inodes 8192 g.most_inodes)) (eq-eqb (g.inodes % 32) 0 g.inodes_in_steps))
    (le-leb (data_start g.inodes + 64) g.blocks room))
    (fresh_volume g c start is) in
    ap (λ o. where_sound o (number v, tree_of v)) stands.0 ∙ (λ i. Some (stands.1 i, stands.2 i))

pub fresh_where : (g : Geometry) (c start : List ℕ) → start ≡ super_bytes g.blocks g.inodes → Stands g c start → IsFresh g c
fresh_where g c start named is =
    let active : 0 ≡ active_half c = sym (ap (λ (b : ℕ). cond (eqb b 165) 1 0) is.master) in
    let known = known_from (is_open_behind 0 c) (open_batches 0 (length (volume_area c)) c) empty (closed_journal is.gates 0 (length (volume_area c)) c is.closed) in
    let blocks : blocks_named (superblock c) ≡ g.blocks = ap blocks_named is.named ∙ is.blocks in
    let inodes : inodes_named (superblock c) ≡ g.inodes = ap inodes_named is.named ∙ is.inodes in
    let opens : opened c ≡ Some (contents_of g c) =
    opened_right c (laid_out g c start is)
    ∙ ap (replayed (blocks_named (superblock c)) (inodes_named (superblock c)) (volume_area c)) (batches_are c 0 (length (volume_area c)) active refl ∙ known.are)
    ∙ (λ i. Some (record { blocks = blocks i; inodes = inodes i; bytes = put_on (volume_area c) (known.ranges i); last = known.last i })) in
    record {
      long = is.long;
      front = is.front ∙ ap (λ (l : List ℕ). l ++ replicate 16348 0) named;
      tables = λ x less. sym (get_or-drop volume_place c x 0) ∙ table_byte g c start is x less;
      contents = contents_of g c;
      opens = opens;
      blocks = refl;
      inodes = refl;
      no_batch = refl;
      tree = ap (λ (o : Option Contents). if_opened tree_held o) opens ∙ alone_held g c start is;
    }

-- ---- what is written

-- a part of what was written in front
front_part : (old front : List ℕ) (k m : ℕ) → length front ≤ length old → k + m ≤ length front → part k m (patched old 0 front) ≡ part k m front
front_part old front k m inside within =
    sym (drop-take k m (patched old 0 front))
    ∙ ap (λ (l : List ℕ). drop k l) (sym (take-take (k + m) (length front) (patched old 0 front) within) ∙ ap (λ (l : List ℕ). take (k + m) l) (part-patched old 0 front (omega (arith, inside))))
    ∙ drop-take k m front

-- and behind the superblock it is zeros
zero_part : (start : List ℕ) (n k m : ℕ) → length start ≤ k → k + m ≤ length start + n → part k m (start ++ replicate n 0) ≡ replicate m 0
zero_part start n k m behind within =
    let at : length start + (k - length start) ≡ k = omega arith in
    ap (λ (l : List ℕ). take m l)
    (ap (λ (i : ℕ). drop i (start ++ replicate n 0)) (sym at) ∙ sym (drop-drop (k - length start) (length start) (start ++ replicate n 0))
    ∙ ap (λ (l : List ℕ). drop (k - length start) l) (drop_at start (replicate n 0) (length start) refl) ∙ drop-replicate (k - length start) n 0)
    ∙ take-replicate m (n - (k - length start)) 0 (omega arith)

-- what was written at a place is at the front of what stands from there on
from_place : (old : List ℕ) (place : ℕ) (bytes : List ℕ) → place + length bytes ≤ length old → drop place (patched old place bytes) ≡ bytes ++ drop (place + length bytes) old
from_place old place bytes inside =
    ap (λ (l : List ℕ). drop place l) (append_assoc (take place old) bytes (drop (place + length bytes) old))
    ∙ drop_at (take place old) (bytes ++ drop (place + length bytes) old) place (length-take-le place old (omega (arith, inside)))

-- a part of the whole that stands in the front
whole_part : (old front tables : List ℕ) (place k m : ℕ) → length front ≤ place → place + length tables ≤ length old → k + m ≤ length front
    → part k m (patched (patched old 0 front) place tables) ≡ part k m front
whole_part old front tables place k m before inside within =
    let long : length (patched old 0 front) ≡ length old = length-patched old 0 front (omega (arith, before, inside)) in
    torn_part_before place (length tables) k m (patched old 0 front) (patched (patched old 0 front) place tables) (Torn-patched (patched old 0 front) place tables (omega (arith, long, inside))) (omega (arith, within, before))
    ∙ front_part old front k m (omega (arith, before, inside)) within

-- a superblock that is filled up with zeros
pub filled_up : (size len : ℕ) (old new start : List ℕ) → 36 ≤ size → old ≡ start → length start ≡ 36 → len ≡ 36 → new ≡ take size old ++ replicate (size - len) 0 → new ≡ start ++ replicate (size - 36) 0
filled_up size len old new start room same start_long short is =
    is ∙ (λ i. take size (same i) ++ replicate (size - short i) 0)
    ∙ ap (λ (l : List ℕ). l ++ replicate (size - 36) 0) (take_all size start (omega (arith, start_long, room)))

-- What is written in front: a superblock that names these sizes, and zeros behind it.
pub record IsFront (g : Geometry) (start bytes : List ℕ) : Type 0 where
  pub stands : bytes ≡ start ++ replicate 16348 0
  pub start_long : length start ≡ 36
  pub right : first_wrong start ≡ None
  pub blocks : blocks_named start ≡ g.blocks
  pub inodes : inodes_named start ≡ g.inodes

-- The sizes of what is written: of the image, and the place of the tables.
pub record AreSizes (g : Geometry) (size place : ℕ) : Type 0 where
  pub size_is : size ≡ 4096 * g.blocks
  pub place_is : place ≡ 1064960

made : (g : Geometry) (old front tables start : List ℕ) (size place : ℕ) → AreSizes g size place → length old ≡ size → IsFront g start front → AreTables g tables
    → Stands g (patched (patched old 0 front) place tables) start
made g old front tables start size place sizes old_long is are =
    let front_long : length front ≡ 16384 = ap (λ (l : List ℕ). length l) is.stands ∙ omega (arith, length-append start (replicate 16348 0), length-replicate {A = ℕ} 16348 0, is.start_long) in
    let room : place + length tables ≤ length old = omega (arith, old_long, are.long, sizes.size_is, sizes.place_is, g.data_to_the_end, g.least_data, g.first_data_place) in
    let before : length front ≤ place = omega (arith, front_long, sizes.place_is) in
    let in_front : (k m : ℕ) → k + m ≤ 16384 → part k m (patched (patched old 0 front) place tables) ≡ part k m (start ++ replicate 16348 0) =
    λ k m le. whole_part old front tables place k m before room (omega (arith, front_long, le)) ∙ ap (λ (l : List ℕ). part k m l) is.stands in
    let behind : (k m : ℕ) → 36 ≤ k → k + m ≤ 16384 → part k m (patched (patched old 0 front) place tables) ≡ replicate m 0 =
    λ k m ge le. in_front k m le ∙ zero_part start 16348 k m (omega (arith, is.start_long, ge)) (omega (arith, le, is.start_long)) in
    let middle_long : length (patched old 0 front) ≡ length old = length-patched old 0 front (omega (arith, before, room)) in
    record {
      long = length-patched (patched old 0 front) place tables (omega (arith, middle_long, room)) ∙ middle_long ∙ old_long ∙ sizes.size_is;
      front = in_front 0 16384 (omega arith) ∙ take_all 16384 (start ++ replicate 16348 0) (omega (arith, length-append start (replicate 16348 0), length-replicate {A = ℕ} 16348 0, is.start_long));
      named = in_front 0 36 (omega arith) ∙ take_at start (replicate 16348 0) 36 is.start_long;
      right = is.right;
      blocks = is.blocks;
      inodes = is.inodes;
      master = byte_read 4096 (patched (patched old 0 front) place tables) 0 (behind 4096 1 (omega arith) (omega arith));
      gates = 4096;
      closed = behind 8192 4096 (omega arith) (omega arith);
      tables = tables;
      rest = drop (place + length tables) (patched old 0 front);
      area = ap (λ (k : ℕ). drop k (patched (patched old 0 front) place tables)) (sym sizes.place_is) ∙ from_place (patched old 0 front) place tables (omega (arith, middle_long, room));
      fresh = are;
    }

made_on : (g : Geometry) (old front tables start : List ℕ) (size place : ℕ) → start ≡ super_bytes g.blocks g.inodes → AreSizes g size place → length old ≡ size → IsFront g start front → AreTables g tables
    → IsFresh g (patched (patched old 0 front) place tables)
made_on g old front tables start size place named sizes old_long is are =
    fresh_where g (patched (patched old 0 front) place tables) start named (made g old front tables start size place sizes old_long is are)

front_is : (g : Geometry) (front : List ℕ) → front ≡ front_bytes g 16384 → first_wrong (super_bytes g.blocks g.inodes) ≡ None → blocks_named (super_bytes g.blocks g.inodes) ≡ g.blocks
    → inodes_named (super_bytes g.blocks g.inodes) ≡ g.inodes → IsFront g (super_bytes g.blocks g.inodes) front
front_is g front is right blocks inodes = record { stands = is; start_long = refl; right = right; blocks = blocks; inodes = inodes }

front_long : (start bytes : List ℕ) → bytes ≡ start ++ replicate 16348 0 → length start ≡ 36 → length bytes ≡ 16384
front_long start bytes is long = ap (λ (l : List ℕ). length l) is ∙ omega (arith, length-append start (replicate 16348 0), length-replicate {A = ℕ} 16348 0, long)

-- what is written in front fits an image of these sizes
pub front_fits : (g : Geometry) (bytes : List ℕ) (size : ℕ) → bytes ≡ front_bytes g 16384 → size ≡ 4096 * g.blocks → 0 + length bytes ≤ size
front_fits g bytes size is long =
    let front : length bytes ≡ 16384 = front_long (super_bytes g.blocks g.inodes) bytes is refl in
    omega (arith, front, long, g.least_blocks)

-- what two writes leave of an image that has its size
pub made_by : (g : Geometry) (old second third seen bytes front tables read : List ℕ) (size place : ℕ) → AreSizes g size place → length old ≡ size → front ≡ front_bytes g 16384
    → first_wrong (super_bytes g.blocks g.inodes) ≡ None → blocks_named (super_bytes g.blocks g.inodes) ≡ g.blocks → inodes_named (super_bytes g.blocks g.inodes) ≡ g.inodes
    → bytes ≡ front → AreTables g tables → read ≡ tables → second ≡ patched old 0 bytes → third ≡ patched second place read → seen ≡ third → IsFresh g seen
made_by g old second third seen bytes front tables read size place sizes old_long is right blocks inodes same are tables_same b c d =
    let second_is : second ≡ patched old 0 front = b ∙ ap (λ (l : List ℕ). patched old 0 l) same in
    let whole : seen ≡ patched (patched old 0 front) place tables = d ∙ c ∙ (λ i. patched (second_is i) place (tables_same i)) in
    subst (IsFresh g) (sym whole) (made_on g old front tables (super_bytes g.blocks g.inodes) size place refl sizes old_long (front_is g front is right blocks inodes) are)
