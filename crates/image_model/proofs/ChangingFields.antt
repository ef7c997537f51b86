-- What stands in the fields of a volume, and what stands there after one of them was written.
use Rattle.std.proofs.Common.{◌≡◌, ◌≢◌, ◌⊎◌, ℕ, ◌+◌, ◌-◌, ◌*◌, ◌%◌, ◌<◌, ◌≤◌, ◌==◌, Bool, true, false, cond, List, [], ◌∷◌, ◌++◌, length, set, refl, sym, ap, subst, ◌∙◌, arith, inl, inr}
use Rattle.std.proofs.lemmas.Bool.{and_parts, leb-true, eqb-true, eq-eqb, cases_Bool}
use Rattle.block_layout.specs.Sizes.{data_start}
use Rattle.inode_table.specs.Records.{record_offset}
use Rattle.ccfs_base.specs.Places.{Range, put, read, write, IsValue, IsInside, AreApart}
use Rattle.ccfs_base.proofs.AtPlaces.{length_stays, written_is_read, others_stay}
use Rattle.image_model.specs.Fields.{Field, Number, FreeBlocks, FreeInodes, Format, BlockBit, InodeBit, Kind, Length, Changes, Direct, Indirect, Slot, place, IsField}
use Rattle.image_model.specs.Volumes.{Volume}
use Rattle.image_model.specs.ChangeLaws.{IsSized}
use Rattle.image_model.proofs.Apart.{record_line, slot_line, fields_are_apart}

-- ---- fields by numbers

abbrev pub tag : Field → ℕ
tag Number = 0
tag FreeBlocks = 1
tag FreeInodes = 2
tag Format = 3
tag (BlockBit item) = 4
tag (InodeBit inode) = 5
tag (Kind inode) = 6
tag (Length inode) = 7
tag (Changes inode) = 8
tag (Direct inode page) = 9
tag (Indirect inode) = 10
tag (Slot inode) = 11

abbrev pub index : Field → ℕ
index Number = 0
index FreeBlocks = 0
index FreeInodes = 0
index Format = 0
index (BlockBit item) = item
index (InodeBit inode) = inode
index (Kind inode) = inode
index (Length inode) = inode
index (Changes inode) = inode
index (Direct inode page) = inode
index (Indirect inode) = inode
index (Slot inode) = inode

abbrev pub page_of : Field → ℕ
page_of Number = 0
page_of FreeBlocks = 0
page_of FreeInodes = 0
page_of Format = 0
page_of (BlockBit item) = 0
page_of (InodeBit inode) = 0
page_of (Kind inode) = 0
page_of (Length inode) = 0
page_of (Changes inode) = 0
page_of (Direct inode page) = page
page_of (Indirect inode) = 0
page_of (Slot inode) = 0

-- the field of these numbers
abbrev field_by : ℕ → ℕ → ℕ → Field
field_by t i p =
    cond (t == 0) Number (cond (t == 1) FreeBlocks (cond (t == 2) FreeInodes (cond (t == 3) Format
    (cond (t == 4) (BlockBit i) (cond (t == 5) (InodeBit i) (cond (t == 6) (Kind i) (cond (t == 7) (Length i)
    (cond (t == 8) (Changes i) (cond (t == 9) (Direct i p) (cond (t == 10) (Indirect i) (Slot i)))))))))))

by_numbers : (f : Field) → f ≡ field_by (tag f) (index f) (page_of f)
by_numbers Number = refl
by_numbers FreeBlocks = refl
by_numbers FreeInodes = refl
by_numbers Format = refl
by_numbers (BlockBit item) = refl
by_numbers (InodeBit inode) = refl
by_numbers (Kind inode) = refl
by_numbers (Length inode) = refl
by_numbers (Changes inode) = refl
by_numbers (Direct inode page) = refl
by_numbers (Indirect inode) = refl
by_numbers (Slot inode) = refl

-- whether the second field is the first
abbrev pub same : Field → Field → Bool
same f g = cond (tag g == tag f) (cond (page_of g == page_of f) (index g == index f) false) false

all_three : (a b c : Bool) → cond a (cond b c false) false ≡ true → (a ≡ true) × (b ≡ true) × (c ≡ true)
all_three true true c e = (refl, refl, e)
all_three true false c e = absurd (cc)
all_three false b c e = absurd (cc)

same_is : (f g : Field) → same f g ≡ true → g ≡ f
same_is f g e =
    let parts = all_three (tag g == tag f) (page_of g == page_of f) (index g == index f) e in
    let tags : tag g ≡ tag f = eqb-true (tag g) (tag f) parts.0 in
    let pages : page_of g ≡ page_of f = eqb-true (page_of g) (page_of f) parts.1 in
    let indexes : index g ≡ index f = eqb-true (index g) (index f) parts.2 in
    let numbers : field_by (tag g) (index g) (page_of g) ≡ field_by (tag f) (index f) (page_of f) = λ k. field_by (tags k) (indexes k) (pages k) in
    by_numbers g ∙ numbers ∙ sym (by_numbers f)

same_itself : (f : Field) → same f f ≡ true
same_itself f =
    let tags : (tag f == tag f) ≡ true = eq-eqb (tag f) (tag f) refl in
    let pages : (page_of f == page_of f) ≡ true = eq-eqb (page_of f) (page_of f) refl in
    let indexes : (index f == index f) ≡ true = eq-eqb (index f) (index f) refl in
    λ k. cond (tags k) (cond (pages k) (indexes k) false) false

not_one : (b : Bool) → b ≡ true → b ≡ false → ⊥
not_one b e h = cc

differ : (f g : Field) → same f g ≡ false → f ≢ g
differ f g h e = not_one (same f f) (same_itself f) (ap (same f) e ∙ h)

-- ---- what stands in fields

abbrev pub Fields : Type 0
Fields = Field → List ℕ

-- what stands in the fields of a volume
abbrev pub fields_of : Volume → Fields
fields_of v f = read (place v.inodes f) v.bytes

-- the fields with another value in one of them
abbrev pub with_field : Fields → Field → List ℕ → Fields
with_field s f new g = cond (same f g) new (s g)

-- the bytes of a volume of n inodes show these values in its fields
pub record Shows (n : ℕ) (bytes : List ℕ) (s : Fields) : Type 0 where
  pub steps : n % 32 ≡ 0
  pub few : n ≤ 8192
  pub long : 12288 + 384 * n ≤ length bytes
  pub each : (f : Field) → IsField n f → read (place n f) bytes ≡ s f

pub inside : (n size : ℕ) (f : Field) → n % 32 ≡ 0 → n ≤ 8192 → 12288 + 384 * n ≤ size → IsField n f → IsInside size (place n f)
inside n size Number steps few long u = omega arith
inside n size FreeBlocks steps few long u = omega arith
inside n size FreeInodes steps few long u = omega arith
inside n size Format steps few long u = omega arith
inside n size (BlockBit item) steps few long u = (omega arith, omega arith)
inside n size (InodeBit i) steps few long u = (omega arith, omega arith)
inside n size (Kind i) steps few long u = omega (arith, record_line i)
inside n size (Length i) steps few long u = omega (arith, record_line i)
inside n size (Changes i) steps few long u = omega (arith, record_line i)
inside n size (Direct i p) steps few long u = omega (arith, record_line i, u.0, u.1)
inside n size (Indirect i) steps few long u = omega (arith, record_line i)
inside n size (Slot i) steps few long u = omega (arith, slot_line n i steps)

-- after a write in one field the others show what they did
pub shows_write : (n : ℕ) (bytes : List ℕ) (s : Fields) (f : Field) (new : List ℕ) → Shows n bytes s → IsField n f → IsValue (place n f) new
    → Shows n (write (place n f) bytes new) (with_field s f new)
shows_write n bytes s f new h u e = record {
  steps = h.steps;
  few = h.few;
  long = omega (arith, h.long, length_stays (place n f) bytes new);
  each = λ g w. at g w (cases_Bool (same f g));
}
  where
    here : IsInside (length bytes) (place n f)
    here = inside n (length bytes) f h.steps h.few h.long u

    at : (g : Field) → IsField n g → (same f g ≡ true) ⊎ (same f g ≡ false) → read (place n g) (write (place n f) bytes new) ≡ cond (same f g) new (s g)
    at g w (inl one) =
        ap (λ x. read (place n x) (write (place n f) bytes new)) (same_is f g one)
        ∙ written_is_read (place n f) bytes new here e
        ∙ sym (ap (λ b. cond b new (s g)) one)
    at g w (inr other) =
        others_stay (place n f) (place n g) bytes new here (inside n (length bytes) g h.steps h.few h.long w) e
        (fields_are_apart n f g h.steps h.few u w (differ f g other))
        ∙ h.each g w
        ∙ sym (ap (λ b. cond b new (s g)) other)

-- ---- the attributes of a record, written at once

-- the seven bytes behind the kind are no field's
between : (from at i j o size x : ℕ) → from ≡ 12288 + 256 * i + 1 → at ≡ 12288 + 256 * j + o → 8 ≤ o → o + size ≤ 256
    → from ≤ x → x < from + 7 → at ≤ x → x < at + size → ⊥
between from at i j o size x a b c d p q r s = omega arith

pad_apart : (n i : ℕ) (g : Field) → n % 32 ≡ 0 → n ≤ 8192 → i < n → IsField n g → AreApart (Range (record_offset i + 1) 7) (place n g)
pad_apart n i Number steps few l u = λ x p q r s. omega (arith, record_line i)
pad_apart n i FreeBlocks steps few l u = λ x p q r s. omega (arith, record_line i)
pad_apart n i FreeInodes steps few l u = λ x p q r s. omega (arith, record_line i)
pad_apart n i Format steps few l u = λ x p q r s. omega (arith, record_line i)
pad_apart n i (BlockBit item) steps few l u = λ p q. omega (arith, record_line i)
pad_apart n i (InodeBit j) steps few l u = λ p q. omega (arith, record_line i)
pad_apart n i (Kind j) steps few l u = λ x p q r s. omega (arith, record_line i, record_line j)
pad_apart n i (Length j) steps few l u = λ x p q r s.
    between (record_offset i + 1) (record_offset j + 8) i j 8 8 x (omega (arith, record_line i)) (omega (arith, record_line j)) (omega arith) (omega arith) p q r s
pad_apart n i (Changes j) steps few l u = λ x p q r s.
    between (record_offset i + 1) (record_offset j + 16) i j 16 8 x (omega (arith, record_line i)) (omega (arith, record_line j)) (omega arith) (omega arith) p q r s
pad_apart n i (Direct j k) steps few l u = λ x p q r s.
    between (record_offset i + 1) (record_offset j + 64 + 4 * k) i j (64 + 4 * k) 4 x (omega (arith, record_line i)) (omega (arith, record_line j)) (omega arith) (omega (arith, u.1)) p q r s
pad_apart n i (Indirect j) steps few l u = λ x p q r s.
    between (record_offset i + 1) (record_offset j + 160) i j 160 4 x (omega (arith, record_line i)) (omega (arith, record_line j)) (omega arith) (omega arith) p q r s
pad_apart n i (Slot j) steps few l u = λ x p q r s. omega (arith, record_line i, slot_line n j steps)

shows_pad : (n : ℕ) (bytes : List ℕ) (s : Fields) (i : ℕ) (new : List ℕ) → Shows n bytes s → i < n → length new ≡ 7
    → Shows n (put bytes (record_offset i + 1) new) s
shows_pad n bytes s i new h l e = record {
  steps = h.steps;
  few = h.few;
  long = omega (arith, h.long, length_stays (Range (record_offset i + 1) 7) bytes new);
  each = λ g w. others_stay (Range (record_offset i + 1) 7) (place n g) bytes new (omega (arith, record_line i, h.long))
      (inside n (length bytes) g h.steps h.few h.long w) e (pad_apart n i g h.steps h.few l w) ∙ h.each g w;
}

-- bytes that are put one behind the other are put at once
put_append : (xs ys bytes : List ℕ) (from : ℕ) → put bytes from (xs ++ ys) ≡ put (put bytes from xs) (from + length xs) ys
put_append [] ys bytes from = ap (λ z. put bytes z ys) (omega arith)
put_append (x ∷ xs) ys bytes from =
    put_append xs ys (set bytes from x) (from + 1)
    ∙ ap (λ z. put (put (set bytes from x) (from + 1) xs) z ys) (omega arith)

pub shows_record : (n : ℕ) (bytes : List ℕ) (s : Fields) (i kind : ℕ) (pad long changes : List ℕ)
    → Shows n bytes s → i < n → length pad ≡ 7 → length long ≡ 8 → length changes ≡ 8
    → Shows n (put bytes (record_offset i) (kind ∷ (pad ++ (long ++ changes)))) (with_field (with_field (with_field s (Kind i) (kind ∷ [])) (Length i) long) (Changes i) changes)
shows_record n bytes s i kind pad long changes h l seven eight more =
    let a : List ℕ = set bytes (record_offset i) kind in
    let b : List ℕ = put (set bytes (record_offset i) kind) (record_offset i + 1) pad in
    let c : List ℕ = put (put (set bytes (record_offset i) kind) (record_offset i + 1) pad) (record_offset i + 8) long in
    let first : Shows n a (with_field s (Kind i) (kind ∷ [])) = shows_write n bytes s (Kind i) (kind ∷ []) h l refl in
    let second : Shows n b (with_field s (Kind i) (kind ∷ [])) = shows_pad n a (with_field s (Kind i) (kind ∷ [])) i pad first l seven in
    let third : Shows n c (with_field (with_field s (Kind i) (kind ∷ [])) (Length i) long) =
    shows_write n b (with_field s (Kind i) (kind ∷ [])) (Length i) long second l eight in
    let fourth : Shows n (put c (record_offset i + 16) changes) (with_field (with_field (with_field s (Kind i) (kind ∷ [])) (Length i) long) (Changes i) changes) =
    shows_write n c (with_field (with_field s (Kind i) (kind ∷ [])) (Length i) long) (Changes i) changes third l more in
    let at_once : put c (record_offset i + 16) changes ≡ put a (record_offset i + 1) (pad ++ (long ++ changes)) =
    sym (put_append pad (long ++ changes) a (record_offset i + 1)
    ∙ ap (λ z. put b z (long ++ changes)) (eighth (record_offset i) (length pad) seven)
    ∙ put_append long changes b (record_offset i + 8)
    ∙ ap (λ z. put c z changes) (sixteenth (record_offset i) (length long) eight)) in
    let P : List ℕ → Type 0 = λ z. Shows n z (with_field (with_field (with_field s (Kind i) (kind ∷ [])) (Length i) long) (Changes i) changes) in
    subst P at_once fourth
  where
    eighth : (from size : ℕ) → size ≡ 7 → from + 1 + size ≡ from + 8
    eighth from size e = omega arith

    sixteenth : (from size : ℕ) → size ≡ 8 → from + 8 + size ≡ from + 16
    sixteenth from size e = omega arith

-- ---- sizes

-- a volume of sizes that an image may have has all its fields
pub record HasSpace (v : Volume) : Type 0 where
  pub steps : v.inodes % 32 ≡ 0
  pub few : v.inodes ≤ 8192
  pub long : 12288 + 384 * v.inodes ≤ length v.bytes

room_for : (n blocks long : ℕ) → n % 32 ≡ 0 → data_start n + 64 ≤ blocks → long ≡ 4096 * (blocks - 260) → 12288 + 384 * n ≤ long
room_for n blocks long steps room e = omega arith

pub has_space : (v : Volume) → IsSized v → HasSpace v
has_space v sized =
    let parts = and_parts _ _ sized.inodes in
    let room : data_start v.inodes + 64 ≤ v.blocks = leb-true (data_start v.inodes + 64) v.blocks parts.1 in
    let stepped : v.inodes % 32 ≡ 0 = eqb-true (v.inodes % 32) 0 (and_parts _ _ parts.0).1 in
    let bounds = and_parts _ _ (and_parts _ _ parts.0).0 in
    let most : v.inodes ≤ 8192 = leb-true v.inodes 8192 bounds.1 in
    record { steps = stepped; few = most; long = room_for v.inodes v.blocks (length v.bytes) stepped room sized.long }

pub shows_itself : (v : Volume) → IsSized v → Shows v.inodes v.bytes (fields_of v)
shows_itself v sized =
    let h : HasSpace v = has_space v sized in
    record { steps = h.steps; few = h.few; long = h.long; each = λ f u. refl }
