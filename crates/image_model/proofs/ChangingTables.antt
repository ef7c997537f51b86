-- What the records of changes leave.
use Rattle.std.proofs.Common.{◌≡◌, ℕ, ◌+◌, ◌-◌, ◌*◌, ◌/◌, ◌%◌, ◌^◌, ◌<◌, ◌≤◌, ◌==◌, Bool, true, false, cond, Option, Some, None, option_map, List, [], ◌∷◌, length, replicate, slice_index, refl, sym, ap, subst, ◌∙◌, arith, inl, inr}
use Rattle.std.specs.Int.{w64, from_le_bytes}
use Rattle.std.proofs.lemmas.Bool.{ne_eqb, cases_eq}
use Rattle.std.proofs.lemmas.List.{length-append, length-replicate}
use Rattle.std.proofs.lemmas.Nat.{mod_below}
use Rattle.byteorder.specs.Endian.{little_bytes, little_number}
use Rattle.byteorder.specs.Numbers.{little_number-reads_back}
use Rattle.inode_table.specs.declared.attrs.Kind as of_kind
use Rattle.inode_table.specs.declared.attrs.Kind.TheVariants as kinds
use Rattle.inode_table.specs.Attrs.{kind_byte, kind_of, attr_bytes}
use Rattle.inode_table.specs.Records.{record_offset}
use Rattle.flat_dirs.specs.Slot.{slot_bytes, slot_in}
use Rattle.flat_dirs.proofs.Written.{read_back}
use Rattle.ccfs_base.specs.Names.{is_name}
use Rattle.ccfs_base.specs.Places.{write, read}
use Rattle.ccfs_base.specs.declared.records.Rec.{Rec}
use Rattle.ccfs_base.specs.declared.records.Rec.TheVariants as recs
use Rattle.ccfs_base.specs.Records.{acts_at, raised, leaves, recorded, all_recorded}
use Rattle.ccfs_base.proofs.AtPlaces.{length_stays}
use Rattle.ccfs_base.proofs.Kept.{name_few}
use Rattle.image_model.specs.Fields.{Number, FreeBlocks, FreeInodes, Format, BlockBit, InodeBit, Kind, Length, Changes, Direct, Indirect, Slot, slot_offset, place, attr_told}
use Rattle.image_model.specs.Volumes.{Volume, Table, table_of, free_inodes, is_used, attr, slot}
use Rattle.image_model.specs.Changes.{Change, New, Drop, Touch, Enter, Fill, inode_of, new_attr, slot_of, marks, frees, all_records, touched, with_length, with_at, table_after}
use Rattle.image_model.specs.ChangeLaws.{MayBe, AreSameTables, free_after, AreBesideSame, NamesAName, RecordsChangeTables, RecordsLieInside}
use Rattle.image_model.proofs.Apart.{record_line, slot_line}
use Rattle.image_model.proofs.Told.{fields_tell}
use Rattle.image_model.proofs.ChangingFields.{Fields, fields_of, with_field, Shows, shows_write, shows_record, HasSpace, has_space, shows_itself}

-- ---- records lie inside

length-slot_bytes : (parent : ℕ) (name : List ℕ) → length name ≤ 64 → length (slot_bytes (slot_of parent name)) ≡ 69
length-slot_bytes parent name few = omega (arith, length-append name (replicate (64 - length name) 0), length-replicate {A = ℕ} (64 - length name) 0)

slot_inside : (n i size long : ℕ) → n % 32 ≡ 0 → 12288 + 384 * n ≤ size → i < n → long ≡ 69 → slot_offset n i + long ≤ size
slot_inside n i size long steps room l e = omega (arith, slot_line n i steps)

record_inside : (n i size from to : ℕ) → 12288 + 384 * n ≤ size → i < n → from + to ≤ 256 → record_offset i + from + to ≤ size
record_inside n i size from to room l e = omega (arith, record_line i)

bit_inside : (n i size : ℕ) → n ≤ 8192 → 12288 + 384 * n ≤ size → i < n → (8192 + i / 8 < size) × (i % 8 < 8)
bit_inside n i size few room l = (omega arith, omega arith)

pub records_lie_inside : RecordsLieInside
records_lie_inside v (New inode parent name kind) sized l named =
    let h : HasSpace v = has_space v sized in
    let size : ℕ = length v.bytes in (
      omega (arith, record_inside v.inodes inode size 0 24 h.long l (omega arith)),
      (
        slot_inside v.inodes inode size (length (slot_bytes (slot_of parent name))) h.steps h.long l (length-slot_bytes parent name (name_few name named)),
        (bit_inside v.inodes inode size h.few h.long l, (omega (arith, h.long), tt)),
      ),
    )
records_lie_inside v (Drop inode) sized l named =
    let h : HasSpace v = has_space v sized in
    (bit_inside v.inodes inode (length v.bytes) h.few h.long l, (omega (arith, h.long), tt))
records_lie_inside v (Touch inode) sized l named =
    let h : HasSpace v = has_space v sized in
    (record_inside v.inodes inode (length v.bytes) 16 8 h.long l (omega arith), tt)
records_lie_inside v (Enter inode parent name) sized l named =
    let h : HasSpace v = has_space v sized in
    (slot_inside v.inodes inode (length v.bytes) (length (slot_bytes (slot_of parent name))) h.steps h.long l (length-slot_bytes parent name (name_few name named)), tt)
records_lie_inside v (Fill inode bytes) sized l named =
    let h : HasSpace v = has_space v sized in
    (record_inside v.inodes inode (length v.bytes) 8 8 h.long l (omega arith), tt)

-- ---- what each record leaves in the fields

shows_slot : (n : ℕ) (bytes : List ℕ) (s : Fields) (i parent : ℕ) (name : List ℕ) → Shows n bytes s → i < n → length name ≤ 64
    → Shows n (recorded bytes (recs.Range (slot_offset n i) (slot_bytes (slot_of parent name)))) (with_field s (Slot i) (slot_bytes (slot_of parent name)))
shows_slot n bytes s i parent name h l few = shows_write n bytes s (Slot i) (slot_bytes (slot_of parent name)) h l (length-slot_bytes parent name few)

shows_attr : (n : ℕ) (bytes : List ℕ) (s : Fields) (i : ℕ) (kind : of_kind.Kind) → Shows n bytes s → i < n
    → Shows n (recorded bytes (recs.Range (record_offset i) (attr_bytes (new_attr kind))))
    (with_field (with_field (with_field s (Kind i) (kind_byte kind ∷ [])) (Length i) (little_bytes 8 0)) (Changes i) (little_bytes 8 0))
shows_attr n bytes s i kind h l = shows_record n bytes s i (kind_byte kind) (replicate 7 0) (little_bytes 8 0) (little_bytes 8 0) h l refl refl refl

shows_length : (n : ℕ) (bytes : List ℕ) (s : Fields) (i long : ℕ) → Shows n bytes s → i < n
    → Shows n (recorded bytes (recs.Range (record_offset i + 8) (little_bytes 8 long))) (with_field s (Length i) (little_bytes 8 long))
shows_length n bytes s i long h l = shows_write n bytes s (Length i) (little_bytes 8 long) h l refl

shows_mark : (n : ℕ) (bytes : List ℕ) (s : Fields) (i : ℕ) (on : Bool) → Shows n bytes s → i < n
    → Shows n (recorded bytes (marks i on)) (with_field s (InodeBit i) (cond on 1 0 ∷ []))
shows_mark n bytes s i true h l = shows_write n bytes s (InodeBit i) (1 ∷ []) h l (inr refl)
shows_mark n bytes s i false h l = shows_write n bytes s (InodeBit i) (0 ∷ []) h l (inl refl)

shows_count : (n : ℕ) (bytes : List ℕ) (s : Fields) (by : ℕ) → Shows n bytes s
    → Shows n (recorded bytes (frees by)) (with_field s FreeInodes (raised (s FreeInodes) by))
shows_count n bytes s by h =
    let P : List ℕ → Type 0 = λ old. Shows n (write (place n FreeInodes) bytes (raised old by)) (with_field s FreeInodes (raised (s FreeInodes) by)) in
    subst P (sym (h.each FreeInodes tt)) (shows_write n bytes s FreeInodes (raised (s FreeInodes) by) h tt refl)

shows_touch : (n : ℕ) (bytes : List ℕ) (s : Fields) (i : ℕ) → Shows n bytes s → i < n
    → Shows n (recorded bytes (recs.Add (record_offset i + 16) 1)) (with_field s (Changes i) (raised (s (Changes i)) 1))
shows_touch n bytes s i h l =
    let P : List ℕ → Type 0 = λ old. Shows n (write (place n (Changes i)) bytes (raised old 1)) (with_field s (Changes i) (raised (s (Changes i)) 1)) in
    subst P (sym (h.each (Changes i) l)) (shows_write n bytes s (Changes i) (raised (s (Changes i)) 1) h l refl)

-- ---- what each change leaves in the fields

-- the fields with a new inode's attributes and slot
abbrev with_new : Fields → ℕ → ℕ → List ℕ → of_kind.Kind → Fields
with_new s inode parent name kind =
    with_field (with_field (with_field (with_field s (Kind inode) (kind_byte kind ∷ [])) (Length inode) (little_bytes 8 0)) (Changes inode) (little_bytes 8 0))
    (Slot inode) (slot_bytes (slot_of parent name))

-- the fields with an inode's bit set or cleared, and the count of free inodes raised
abbrev with_mark : Fields → ℕ → Bool → ℕ → Fields
with_mark s inode on by = with_field (with_field s (InodeBit inode) (cond on 1 0 ∷ [])) FreeInodes (raised (s FreeInodes) by)

abbrev fields_after : Fields → Change → Fields
fields_after s (New inode parent name kind) = with_mark (with_new s inode parent name kind) inode true (2 ^ 64 - 1)
fields_after s (Drop inode) = with_mark s inode false 1
fields_after s (Touch inode) = with_field s (Changes inode) (raised (s (Changes inode)) 1)
fields_after s (Enter inode parent name) = with_field s (Slot inode) (slot_bytes (slot_of parent name))
fields_after s (Fill inode bytes) = with_field s (Length inode) (little_bytes 8 (length bytes))

shows_marked : (n : ℕ) (bytes : List ℕ) (s : Fields) (i : ℕ) (on : Bool) (by : ℕ) → Shows n bytes s → i < n
    → Shows n (recorded (recorded bytes (marks i on)) (frees by)) (with_mark s i on by)
shows_marked n bytes s i on by h l =
    shows_count n (recorded bytes (marks i on)) (with_field s (InodeBit i) (cond on 1 0 ∷ [])) by (shows_mark n bytes s i on h l)

-- the records of a change leave those fields, where its inode is there and what it names is a name
shows_change : (n : ℕ) (bytes : List ℕ) (s : Fields) (c : Change) → Shows n bytes s → inode_of c < n → NamesAName c
    → Shows n (all_recorded bytes (all_records n (c ∷ []))) (fields_after s c)
shows_change n bytes s (New inode parent name kind) h l named =
    let a : List ℕ = recorded bytes (recs.Range (record_offset inode) (attr_bytes (new_attr kind))) in
    let b : List ℕ = recorded a (recs.Range (slot_offset n inode) (slot_bytes (slot_of parent name))) in
    let t : Fields = with_field (with_field (with_field s (Kind inode) (kind_byte kind ∷ [])) (Length inode) (little_bytes 8 0)) (Changes inode) (little_bytes 8 0) in
    shows_marked n b (with_new s inode parent name kind) inode true (2 ^ 64 - 1)
    (shows_slot n a t inode parent name (shows_attr n bytes s inode kind h l) l (name_few name named)) l
shows_change n bytes s (Drop inode) h l named = shows_marked n bytes s inode false 1 h l
shows_change n bytes s (Touch inode) h l named = shows_touch n bytes s inode h l
shows_change n bytes s (Enter inode parent name) h l named = shows_slot n bytes s inode parent name h l (name_few name named)
shows_change n bytes s (Fill inode bytes') h l named = shows_length n bytes s inode (length bytes') h l

-- ---- what the fields tell

-- a volume with other bytes
abbrev with_bytes : Volume → List ℕ → Volume
with_bytes v bytes = record v { bytes = bytes }

used_told : (v : Volume) (bytes : List ℕ) (s : Fields) → Shows v.inodes bytes s → (j : ℕ) → j < v.inodes
    → is_used (with_bytes v bytes) j ≡ (slice_index (s (InodeBit j)) 0 == 1)
used_told v bytes s h j l = (fields_tell (with_bytes v bytes)).inodes j (omega (arith, h.few)) ∙ ap (λ z. slice_index z 0 == 1) (h.each (InodeBit j) l)

attrs_told : (v : Volume) (bytes : List ℕ) (s : Fields) → Shows v.inodes bytes s → (j : ℕ) → j < v.inodes
    → attr (with_bytes v bytes) j ≡ attr_told (s (Kind j)) (s (Length j)) (s (Changes j))
attrs_told v bytes s h j l =
    let fields : attr_told (read (place v.inodes (Kind j)) bytes) (read (place v.inodes (Length j)) bytes) (read (place v.inodes (Changes j)) bytes)
    ≡ attr_told (s (Kind j)) (s (Length j)) (s (Changes j)) =
    λ k. attr_told (h.each (Kind j) l k) (h.each (Length j) l k) (h.each (Changes j) l k) in
    (fields_tell (with_bytes v bytes)).attrs j ∙ fields

slots_told : (v : Volume) (bytes : List ℕ) (s : Fields) → Shows v.inodes bytes s → (j : ℕ) → j < v.inodes
    → slot (with_bytes v bytes) j ≡ slot_in (s (Slot j))
slots_told v bytes s h j l = (fields_tell (with_bytes v bytes)).slots j ∙ ap slot_in (h.each (Slot j) l)

-- ---- beside the inodes

-- the fields beside those of inodes are the same
record AreOthersSame (s u : Fields) : Type 0 where
  number : s Number ≡ u Number
  format : s Format ≡ u Format
  blocks : s FreeBlocks ≡ u FreeBlocks
  bits : (item : ℕ) → s (BlockBit item) ≡ u (BlockBit item)
  pages : (inode page : ℕ) → s (Direct inode page) ≡ u (Direct inode page)
  indirects : (inode : ℕ) → s (Indirect inode) ≡ u (Indirect inode)

others_same : (s : Fields) (c : Change) → AreOthersSame (fields_after s c) s
others_same s (New inode parent name kind) =
    record { number = refl; format = refl; blocks = refl; bits = λ item. refl; pages = λ i page. refl; indirects = λ i. refl }
others_same s (Drop inode) =
    record { number = refl; format = refl; blocks = refl; bits = λ item. refl; pages = λ i page. refl; indirects = λ i. refl }
others_same s (Touch inode) =
    record { number = refl; format = refl; blocks = refl; bits = λ item. refl; pages = λ i page. refl; indirects = λ i. refl }
others_same s (Enter inode parent name) =
    record { number = refl; format = refl; blocks = refl; bits = λ item. refl; pages = λ i page. refl; indirects = λ i. refl }
others_same s (Fill inode bytes) =
    record { number = refl; format = refl; blocks = refl; bits = λ item. refl; pages = λ i page. refl; indirects = λ i. refl }

length_all : (records : List Rec) (bytes : List ℕ) → length (all_recorded bytes records) ≡ length bytes
length_all [] bytes = refl
length_all (r ∷ more) bytes = length_all more (recorded bytes r) ∙ length_stays (acts_at r) bytes (leaves r (read (acts_at r) bytes))

beside : (v : Volume) (bytes : List ℕ) (s : Fields) → Shows v.inodes bytes s → AreOthersSame s (fields_of v) → length bytes ≡ length v.bytes
    → AreBesideSame v (with_bytes v bytes)
beside v bytes s h o long =
    let old = fields_tell v in
    let new = fields_tell (with_bytes v bytes) in
    record {
      blocks = refl;
      inodes = refl;
      long = long;
      the_number = new.the_number ∙ ap (little_number 8) (h.each Number tt ∙ o.number) ∙ sym old.the_number;
      the_format = new.the_format ∙ ap (little_number 4) (h.each Format tt ∙ o.format) ∙ sym old.the_format;
      the_free_blocks = new.the_free_blocks ∙ ap (little_number 8) (h.each FreeBlocks tt ∙ o.blocks) ∙ sym old.the_free_blocks;
      bits = λ item l. new.blocks item l ∙ ap (λ z. slice_index z 0 == 1) (h.each (BlockBit item) l ∙ o.bits item) ∙ sym (old.blocks item l);
      pages = λ i page l k. new.pages i page k ∙ ap (little_number 4) (h.each (Direct i page) (l, k) ∙ o.pages i page) ∙ sym (old.pages i page k);
      indirects = λ i l. new.indirects i ∙ ap (little_number 4) (h.each (Indirect i) l ∙ o.indirects i) ∙ sym (old.indirects i);
    }

-- ---- numbers

same_word : (bytes : List ℕ) → from_le_bytes w64 bytes ≡ little_number 8 bytes
same_word bytes = omega arith

word_read : (x : ℕ) → x < 2 ^ 64 → little_number 8 (little_bytes 8 x) ≡ x
word_read x fits = little_number-reads_back 8 x [] fits

raised_told : (old : List ℕ) (by : ℕ) → little_number 8 (raised old by) ≡ (little_number 8 old + by) % 2 ^ 64
raised_told old by =
    word_read ((from_le_bytes w64 old + by) % 2 ^ 64) (mod_below (from_le_bytes w64 old + by) (2 ^ 64) (omega arith))
    ∙ ap (λ z. (z + by) % 2 ^ 64) (same_word old)

counted : (v : Volume) (c : Change) → little_number 8 (fields_after (fields_of v) c FreeInodes) ≡ free_after c (free_inodes v)
counted v (New inode parent name kind) =
    raised_told (fields_of v FreeInodes) (2 ^ 64 - 1) ∙ ap (λ z. (z + (2 ^ 64 - 1)) % 2 ^ 64) (sym (fields_tell v).the_free_inodes)
counted v (Drop inode) = raised_told (fields_of v FreeInodes) 1 ∙ ap (λ z. (z + 1) % 2 ^ 64) (sym (fields_tell v).the_free_inodes)
counted v (Touch inode) = sym (fields_tell v).the_free_inodes
counted v (Enter inode parent name) = sym (fields_tell v).the_free_inodes
counted v (Fill inode bytes) = sym (fields_tell v).the_free_inodes

-- ---- attributes

new_told : (kind : of_kind.Kind) → attr_told (kind_byte kind ∷ []) (little_bytes 8 0) (little_bytes 8 0) ≡ Some (new_attr kind)
new_told kinds.Dir = refl
new_told kinds.File = refl

touched_told : (kind long changes : List ℕ) → attr_told kind long (raised changes 1) ≡ option_map touched (attr_told kind long changes)
touched_told kind long changes = by_kind (kind_of (slice_index kind 0))
  where
    by_kind : (o : Option of_kind.Kind) → option_map (λ k. record { kind = k; length = little_number 8 long; changes = little_number 8 (raised changes 1) }) o
        ≡ option_map touched (option_map (λ k. record { kind = k; length = little_number 8 long; changes = little_number 8 changes }) o)
    by_kind None = refl
    by_kind (Some k) = ap (λ z. Some (record { kind = k; length = little_number 8 long; changes = z })) (raised_told changes 1)

length_told : (kind old changes : List ℕ) (long : ℕ) → long < 2 ^ 64 → attr_told kind (little_bytes 8 long) changes ≡ option_map (with_length long) (attr_told kind old changes)
length_told kind old changes long fits = by_kind (kind_of (slice_index kind 0))
  where
    by_kind : (o : Option of_kind.Kind) → option_map (λ k. record { kind = k; length = little_number 8 (little_bytes 8 long); changes = little_number 8 changes }) o
        ≡ option_map (with_length long) (option_map (λ k. record { kind = k; length = little_number 8 old; changes = little_number 8 changes }) o)
    by_kind None = refl
    by_kind (Some k) = ap (λ z. Some (record { kind = k; length = z; changes = little_number 8 changes })) (word_read long fits)

-- ---- tables

-- a function of a choice
chosen : {A : Type 0} (f : List ℕ → A) (b : Bool) (x y : List ℕ) → f (cond b x y) ≡ cond b (f x) (f y)
chosen f true x y = refl
chosen f false x y = refl

chosen_attr : (b : Bool) (kind long changes old_kind old_long old_changes : List ℕ)
    → attr_told (cond b kind old_kind) (cond b long old_long) (cond b changes old_changes) ≡ cond b (attr_told kind long changes) (attr_told old_kind old_long old_changes)
chosen_attr true kind long changes old_kind old_long old_changes = refl
chosen_attr false kind long changes old_kind old_long old_changes = refl

-- where the choice is made at one place, what is chosen may speak of that place
at_place : {A : Type 0} (i j : ℕ) (f : ℕ → A) (x y : A) → f i ≡ x → cond (j == i) (f j) y ≡ cond (j == i) x y
at_place i j f x y e = elim (cases_eq j i) [
  | inl here ↦ ap (λ z. cond (j == i) z y) (ap f here ∙ e)
  | inr other ↦ ap (λ b. cond b (f j) y) (ne_eqb j i other) ∙ sym (ap (λ b. cond b x y) (ne_eqb j i other))
]

kept_used : (v : Volume) (bytes : List ℕ) (s : Fields) → Shows v.inodes bytes s → (j : ℕ) → j < v.inodes → s (InodeBit j) ≡ fields_of v (InodeBit j)
    → is_used (with_bytes v bytes) j ≡ is_used v j
kept_used v bytes s h j l e =
    used_told v bytes s h j l ∙ ap (λ z. slice_index z 0 == 1) e ∙ sym ((fields_tell v).inodes j (omega (arith, h.few)))

-- the bit of an inode is set or cleared
marked : (v : Volume) (bytes : List ℕ) (s : Fields) → Shows v.inodes bytes s → (i : ℕ) (on : Bool) (j : ℕ) → j < v.inodes
    → s (InodeBit j) ≡ cond (j == i) (cond on 1 0 ∷ []) (fields_of v (InodeBit j)) → is_used (with_bytes v bytes) j ≡ with_at i on (is_used v) j
marked v bytes s h i on j l e =
    used_told v bytes s h j l ∙ ap (λ z. slice_index z 0 == 1) e
    ∙ chosen (λ z. slice_index z 0 == 1) (j == i) (cond on 1 0 ∷ []) (fields_of v (InodeBit j))
    ∙ ap (λ b. cond (j == i) b (slice_index (fields_of v (InodeBit j)) 0 == 1)) (bit_is on)
    ∙ ap (λ b. cond (j == i) on b) (sym ((fields_tell v).inodes j (omega (arith, h.few))))
  where
    bit_is : (on : Bool) → (cond on 1 0 == 1) ≡ on
    bit_is true = refl
    bit_is false = refl

kept_attr : (v : Volume) (bytes : List ℕ) (s : Fields) → Shows v.inodes bytes s → (j : ℕ) → j < v.inodes
    → attr_told (s (Kind j)) (s (Length j)) (s (Changes j)) ≡ attr_told (fields_of v (Kind j)) (fields_of v (Length j)) (fields_of v (Changes j))
    → attr (with_bytes v bytes) j ≡ attr v j
kept_attr v bytes s h j l e = attrs_told v bytes s h j l ∙ e ∙ sym ((fields_tell v).attrs j)

kept_slot : (v : Volume) (bytes : List ℕ) (s : Fields) → Shows v.inodes bytes s → (j : ℕ) → j < v.inodes → s (Slot j) ≡ fields_of v (Slot j)
    → slot (with_bytes v bytes) j ≡ slot v j
kept_slot v bytes s h j l e = slots_told v bytes s h j l ∙ ap slot_in e ∙ sym ((fields_tell v).slots j)

-- an inode gets a slot
placed : (v : Volume) (bytes : List ℕ) (s : Fields) → Shows v.inodes bytes s → (i parent : ℕ) (name : List ℕ) → parent < 2 ^ 32 → is_name name ≡ true
    → (j : ℕ) → j < v.inodes → s (Slot j) ≡ cond (j == i) (slot_bytes (slot_of parent name)) (fields_of v (Slot j))
    → slot (with_bytes v bytes) j ≡ with_at i (Some (slot_of parent name)) (slot v) j
placed v bytes s h i parent name fits named j l e =
    slots_told v bytes s h j l ∙ ap slot_in e
    ∙ chosen slot_in (j == i) (slot_bytes (slot_of parent name)) (fields_of v (Slot j))
    ∙ ap (λ o. cond (j == i) o (slot_in (fields_of v (Slot j)))) (read_back (slot_of parent name) fits named)
    ∙ ap (λ o. cond (j == i) (Some (slot_of parent name)) o) (sym ((fields_tell v).slots j))

-- the bytes of a volume after a change
abbrev bytes_after : Volume → Change → List ℕ
bytes_after v c = all_recorded v.bytes (all_records v.inodes (c ∷ []))

same_tables : (v : Volume) (c : Change) → Shows v.inodes (bytes_after v c) (fields_after (fields_of v) c) → MayBe (table_of v) c
    → AreSameTables (table_after (table_of v) c) (table_of (with_bytes v (bytes_after v c)))
same_tables v (New inode parent name kind) h may = record {
  inodes = refl;
  used = λ j l. marked v (bytes_after v (New inode parent name kind)) (fields_after (fields_of v) (New inode parent name kind)) h inode true j l refl;
  attrs = λ j l. attrs_told v (bytes_after v (New inode parent name kind)) (fields_after (fields_of v) (New inode parent name kind)) h j l
      ∙ chosen_attr (j == inode) (kind_byte kind ∷ []) (little_bytes 8 0) (little_bytes 8 0) (fields_of v (Kind j)) (fields_of v (Length j)) (fields_of v (Changes j))
      ∙ ap (λ o. cond (j == inode) o (attr_told (fields_of v (Kind j)) (fields_of v (Length j)) (fields_of v (Changes j)))) (new_told kind)
      ∙ ap (λ o. cond (j == inode) (Some (new_attr kind)) o) (sym ((fields_tell v).attrs j));
  slots = λ j l. placed v (bytes_after v (New inode parent name kind)) (fields_after (fields_of v) (New inode parent name kind)) h inode parent name may.2 may.3 j l refl;
}
same_tables v (Drop inode) h may = record {
  inodes = refl;
  used = λ j l. marked v (bytes_after v (Drop inode)) (fields_after (fields_of v) (Drop inode)) h inode false j l refl;
  attrs = λ j l. kept_attr v (bytes_after v (Drop inode)) (fields_after (fields_of v) (Drop inode)) h j l refl;
  slots = λ j l. kept_slot v (bytes_after v (Drop inode)) (fields_after (fields_of v) (Drop inode)) h j l refl;
}
same_tables v (Touch inode) h may = record {
  inodes = refl;
  used = λ j l. kept_used v (bytes_after v (Touch inode)) (fields_after (fields_of v) (Touch inode)) h j l refl;
  attrs = λ j l. attrs_told v (bytes_after v (Touch inode)) (fields_after (fields_of v) (Touch inode)) h j l
      ∙ chosen (attr_told (fields_of v (Kind j)) (fields_of v (Length j))) (j == inode) (raised (fields_of v (Changes inode)) 1) (fields_of v (Changes j))
      ∙ at_place inode j (λ x. attr_told (fields_of v (Kind x)) (fields_of v (Length x)) (raised (fields_of v (Changes inode)) 1)) (option_map touched (attr v inode))
      (attr_told (fields_of v (Kind j)) (fields_of v (Length j)) (fields_of v (Changes j)))
      (touched_told (fields_of v (Kind inode)) (fields_of v (Length inode)) (fields_of v (Changes inode)) ∙ ap (option_map touched) (sym ((fields_tell v).attrs inode)))
      ∙ ap (λ o. cond (j == inode) (option_map touched (attr v inode)) o) (sym ((fields_tell v).attrs j));
  slots = λ j l. kept_slot v (bytes_after v (Touch inode)) (fields_after (fields_of v) (Touch inode)) h j l refl;
}
same_tables v (Enter inode parent name) h may = record {
  inodes = refl;
  used = λ j l. kept_used v (bytes_after v (Enter inode parent name)) (fields_after (fields_of v) (Enter inode parent name)) h j l refl;
  attrs = λ j l. kept_attr v (bytes_after v (Enter inode parent name)) (fields_after (fields_of v) (Enter inode parent name)) h j l refl;
  slots = λ j l. placed v (bytes_after v (Enter inode parent name)) (fields_after (fields_of v) (Enter inode parent name)) h inode parent name may.1 may.2 j l refl;
}
same_tables v (Fill inode bytes) h may = record {
  inodes = refl;
  used = λ j l. kept_used v (bytes_after v (Fill inode bytes)) (fields_after (fields_of v) (Fill inode bytes)) h j l refl;
  attrs = λ j l. attrs_told v (bytes_after v (Fill inode bytes)) (fields_after (fields_of v) (Fill inode bytes)) h j l
      ∙ chosen (λ z. attr_told (fields_of v (Kind j)) z (fields_of v (Changes j))) (j == inode) (little_bytes 8 (length bytes)) (fields_of v (Length j))
      ∙ at_place inode j (λ x. attr_told (fields_of v (Kind x)) (little_bytes 8 (length bytes)) (fields_of v (Changes x))) (option_map (with_length (length bytes)) (attr v inode))
      (attr_told (fields_of v (Kind j)) (fields_of v (Length j)) (fields_of v (Changes j)))
      (length_told (fields_of v (Kind inode)) (fields_of v (Length inode)) (fields_of v (Changes inode)) (length bytes) may.1 ∙ ap (option_map (with_length (length bytes))) (sym ((fields_tell v).attrs inode)))
      ∙ ap (λ o. cond (j == inode) (option_map (with_length (length bytes)) (attr v inode)) o) (sym ((fields_tell v).attrs j));
  slots = λ j l. kept_slot v (bytes_after v (Fill inode bytes)) (fields_after (fields_of v) (Fill inode bytes)) h j l refl;
}

may_names : (t : Table) (c : Change) → MayBe t c → (inode_of c < t.inodes) × NamesAName c
may_names t (New inode parent name kind) may = (may.0, may.3)
may_names t (Drop inode) may = (may.0, tt)
may_names t (Touch inode) may = (may, tt)
may_names t (Enter inode parent name) may = (may.0, may.2)
may_names t (Fill inode bytes) may = (may.0, tt)

pub records_change_tables : RecordsChangeTables
records_change_tables v c sized may =
    let parts : (inode_of c < v.inodes) × NamesAName c = may_names (table_of v) c may in
    let h : Shows v.inodes (bytes_after v c) (fields_after (fields_of v) c) =
    shows_change v.inodes v.bytes (fields_of v) c (shows_itself v sized) parts.0 parts.1 in (
      same_tables v c h may,
      beside v (bytes_after v c) (fields_after (fields_of v) c) h (others_same (fields_of v) c) (length_all (all_records v.inodes (c ∷ [])) v.bytes),
      (fields_tell (with_bytes v (bytes_after v c))).the_free_inodes ∙ ap (little_number 8) (h.each FreeInodes tt) ∙ counted v c,
    )
