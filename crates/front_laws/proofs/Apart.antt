-- The records of changes lie in the metadata, and where changes don't clash, their records don't disturb each other.
use Rattle.std.proofs.Common.{◌≡◌, ◌≢◌, inl, inr, ℕ, ◌+◌, ◌-◌, ◌*◌, ◌/◌, ◌%◌, ◌^◌, ◌<◌, ◌≤◌, Bool, true, false, List, [], ◌∷◌, length, replicate, map, refl, sym, ap, subst, arith, ⊎_elim}
use Rattle.std.specs.List.{All, AllByRecursion}
use Rattle.std.proofs.lemmas.Bool.{cases_eq}
use Rattle.std.proofs.lemmas.List.{length-append, length-replicate}
use Rattle.std.proofs.lemmas.List.Elements.{All-nil, All-cons}
use Rattle.block_layout.specs.Sizes.{block_size, volume_start, data_start}
use Rattle.inode_table.specs.declared.attrs.Kind.{Kind}
use Rattle.inode_table.specs.declared.attrs.Kind.TheVariants as kinds
use Rattle.inode_table.specs.Attrs.{attr_bytes}
use Rattle.flat_dirs.specs.Slot.{slot_bytes}
use Rattle.ccfs_base.specs.Names.{is_name}
use Rattle.ccfs_base.specs.Places.{IsInside}
use Rattle.ccfs_base.specs.declared.records.Rec.{Rec}
use Rattle.ccfs_base.specs.declared.records.Rec.TheVariants as recs
use Rattle.ccfs_base.specs.Records.{acts_at, AreInside, AreFree}
use Rattle.ccfs_base.proofs.Kept.{name_few}
use Rattle.delta_log.specs.Laws.{AllFree, ranges_of, deltas_of}
use Rattle.image_model.specs.Changes.{Change, New, Drop, Touch, Enter, Fill, new_attr, slot_of, marks, frees, records_of}
use Rattle.image_model.proofs.Apart.{record_line, slot_line}

-- ---- changes

-- Two changes don't clash: no record of the one disturbs one of the other. New of inode 5 clashes with each other change of inode 5
abbrev pub DontClash : Change → Change → Type 0
DontClash (New i p n k) (New j q m l) = i ≢ j
DontClash (New i p n k) (Drop j) = i ≢ j
DontClash (New i p n k) (Touch j) = i ≢ j
DontClash (New i p n k) (Enter j q m) = i ≢ j
DontClash (New i p n k) (Fill j b) = i ≢ j
DontClash (Drop i) (New j q m l) = i ≢ j
DontClash (Drop i) (Drop j) = i ≢ j
DontClash (Drop i) (Touch j) = Unit {0}
DontClash (Drop i) (Enter j q m) = Unit {0}
DontClash (Drop i) (Fill j b) = Unit {0}
DontClash (Touch i) (New j q m l) = i ≢ j
DontClash (Touch i) (Drop j) = Unit {0}
DontClash (Touch i) (Touch j) = Unit {0}
DontClash (Touch i) (Enter j q m) = Unit {0}
DontClash (Touch i) (Fill j b) = Unit {0}
DontClash (Enter i p n) (New j q m l) = i ≢ j
DontClash (Enter i p n) (Drop j) = Unit {0}
DontClash (Enter i p n) (Touch j) = Unit {0}
DontClash (Enter i p n) (Enter j q m) = i ≢ j
DontClash (Enter i p n) (Fill j b) = Unit {0}
DontClash (Fill i a) (New j q m l) = i ≢ j
DontClash (Fill i a) (Drop j) = Unit {0}
DontClash (Fill i a) (Touch j) = Unit {0}
DontClash (Fill i a) (Enter j q m) = Unit {0}
DontClash (Fill i a) (Fill j b) = i ≢ j

-- no range of the first change disturbs a raise or a flip of the second: New of inode 5 doesn't go with Touch of inode 5
abbrev pub LeavesCount : Change → Change → Type 0
LeavesCount (New i p n k) (Touch j) = i ≢ j
LeavesCount c d = Unit {0}

-- a change of an inode of so many, that gives a name where it gives one; files get no bytes
abbrev pub IsGood : ℕ → Change → Type 0
IsGood count (New inode parent name kind) = (inode < count) × (is_name name ≡ true)
IsGood count (Drop inode) = inode < count
IsGood count (Touch inode) = inode < count
IsGood count (Enter inode parent name) = (inode < count) × (is_name name ≡ true)
IsGood count (Fill inode bytes) = ⊥

-- ---- records without divisions

-- what a record acts on: the attributes of an inode, its slot, its bit, its count of changes, and the count of free inodes
data Spot : Type 0 where
  Head : (inode : ℕ) (bytes : List ℕ) → Spot
  Slot : (inode : ℕ) (bytes : List ℕ) → Spot
  Mark : (inode : ℕ) (on : Bool) → Spot
  Count : (inode : ℕ) → Spot
  Frees : (by : ℕ) → Spot

abbrev line : ℕ → Spot → Rec
line n (Head i bytes) = recs.Range (12288 + 256 * i) bytes
line n (Slot i bytes) = recs.Range (12288 + 256 * n + 128 * i) bytes
line n (Mark i on) = recs.Bit (8192 + i / 8) (i % 8) on
line n (Count i) = recs.Add (12288 + 256 * i + 16) 1
line n (Frees by) = recs.Add 16 by

abbrev IsSpot : ℕ → Spot → Type 0
IsSpot n (Head i bytes) = (i < n) × (length bytes ≡ 24)
IsSpot n (Slot i bytes) = (i < n) × (length bytes ≡ 69)
IsSpot n (Mark i on) = i < n
IsSpot n (Count i) = i < n
IsSpot n (Frees by) = Unit {0}

abbrev Differ : Spot → Spot → Type 0
Differ (Head i b) (Head j c) = i ≢ j
Differ (Head i b) (Count j) = i ≢ j
Differ (Count i) (Head j c) = i ≢ j
Differ (Slot i b) (Slot j c) = i ≢ j
Differ (Mark i on) (Mark j to) = i ≢ j
Differ a b = Unit {0}

free_line : (n : ℕ) (a b : Spot) → n ≤ 8192 → IsSpot n a → IsSpot n b → Differ a b → AreFree (line n a) (line n b)
free_line n (Head i b) (Head j c) few u w d = inl (λ x p q r s. d (omega (arith, u.1, w.1)))
free_line n (Head i b) (Slot j c) few u w d = inl (λ x p q r s. omega (arith, u.0, u.1, w.0, w.1))
free_line n (Head i b) (Mark j to) few u w d = inl (λ p q. omega (arith, u.0, u.1))
free_line n (Head i b) (Count j) few u w d = inl (λ x p q r s. d (omega (arith, u.1)))
free_line n (Head i b) (Frees by) few u w d = inl (λ x p q r s. omega (arith, u.1))
free_line n (Slot i b) (Head j c) few u w d = inl (λ x p q r s. omega (arith, u.0, u.1, w.0, w.1))
free_line n (Slot i b) (Slot j c) few u w d = inl (λ x p q r s. d (omega (arith, u.1, w.1)))
free_line n (Slot i b) (Mark j to) few u w d = inl (λ p q. omega (arith, u.0, u.1))
free_line n (Slot i b) (Count j) few u w d = inl (λ x p q r s. omega (arith, u.0, u.1))
free_line n (Slot i b) (Frees by) few u w d = inl (λ x p q r s. omega (arith, u.1))
free_line n (Mark i on) (Head j c) few u w d = inl (λ p q. omega (arith, w.0, w.1))
free_line n (Mark i on) (Slot j c) few u w d = inl (λ p q. omega (arith, w.0, w.1))
free_line n (Mark i on) (Mark j to) few u w d = inl (λ p q. d (omega arith))
free_line n (Mark i on) (Count j) few u w d = inl (λ p q. omega arith)
free_line n (Mark i on) (Frees by) few u w d = inl (λ p q. omega arith)
free_line n (Count i) (Head j c) few u w d = inl (λ x p q r s. d (omega (arith, w.1)))
free_line n (Count i) (Slot j c) few u w d = inl (λ x p q r s. omega (arith, w.0, w.1))
free_line n (Count i) (Mark j to) few u w d = inl (λ p q. omega arith)
free_line n (Count i) (Count j) few u w d = ⊎_elim (λ same. inr (ap (λ z. 12288 + 256 * z + 16) same)) (λ other. inl (λ x p q r s. other (omega arith))) (cases_eq i j)
free_line n (Count i) (Frees by) few u w d = inl (λ x p q r s. omega arith)
free_line n (Frees by) (Head j c) few u w d = inl (λ x p q r s. omega (arith, w.1))
free_line n (Frees by) (Slot j c) few u w d = inl (λ x p q r s. omega (arith, w.1))
free_line n (Frees by) (Mark j to) few u w d = inl (λ p q. omega arith)
free_line n (Frees by) (Count j) few u w d = inl (λ x p q r s. omega arith)
free_line n (Frees by) (Frees to) few u w d = inr refl

inside_line : (n size : ℕ) (a : Spot) → n ≤ 8192 → 12288 + 384 * n ≤ size → IsSpot n a → IsInside size (acts_at (line n a))
inside_line n size (Head i bytes) few room u = omega (arith, u.0, u.1)
inside_line n size (Slot i bytes) few room u = omega (arith, u.0, u.1)
inside_line n size (Mark i on) few room u = (omega arith, omega arith)
inside_line n size (Count i) few room u = omega arith
inside_line n size (Frees by) few room u = omega arith

-- ---- lists of them

abbrev AllDiffer : List Spot → List Spot → Type 0
AllDiffer xs ys = AllByRecursion (λ a. AllByRecursion (Differ a) ys) xs

free_of_lines : (n : ℕ) (a : Spot) (ys : List Spot) → n ≤ 8192 → IsSpot n a → AllByRecursion (IsSpot n) ys → AllByRecursion (Differ a) ys
    → All (AreFree (line n a)) (map (line n) ys)
free_of_lines n a [] few u w d = All-nil (AreFree (line n a))
free_of_lines n a (b ∷ ys) few u w d = All-cons (AreFree (line n a)) (line n b) (map (line n) ys) (free_line n a b few u w.0 d.0) (free_of_lines n a ys few u w.1 d.1)

free_lines : (n : ℕ) (xs ys : List Spot) → n ≤ 8192 → AllByRecursion (IsSpot n) xs → AllByRecursion (IsSpot n) ys → AllDiffer xs ys
    → AllFree (map (line n) xs) (map (line n) ys)
free_lines n [] ys few u w d = All-nil (λ r. All (AreFree r) (map (line n) ys))
free_lines n (a ∷ xs) ys few u w d =
    All-cons (λ r. All (AreFree r) (map (line n) ys)) (line n a) (map (line n) xs) (free_of_lines n a ys few u.0 w d.0) (free_lines n xs ys few u.1 w d.1)

inside_lines : (n size : ℕ) (xs : List Spot) → n ≤ 8192 → 12288 + 384 * n ≤ size → AllByRecursion (IsSpot n) xs → AreInside size (map (line n) xs)
inside_lines n size [] few room u = tt
inside_lines n size (a ∷ xs) few room u = (inside_line n size a few room u.0, inside_lines n size xs few room u.1)

-- ---- the records of a change

abbrev spots : Change → List Spot
spots (New i p name kind) = Head i (attr_bytes (new_attr kind)) ∷ Slot i (slot_bytes (slot_of p name)) ∷ Mark i true ∷ Frees (2 ^ 64 - 1) ∷ []
spots (Drop i) = Mark i false ∷ Frees 1 ∷ []
spots (Touch i) = Count i ∷ []
spots (Enter i p name) = Slot i (slot_bytes (slot_of p name)) ∷ []
spots (Fill i bytes) = []

abbrev range_spots : Change → List Spot
range_spots (New i p name kind) = Head i (attr_bytes (new_attr kind)) ∷ Slot i (slot_bytes (slot_of p name)) ∷ []
range_spots (Drop i) = []
range_spots (Touch i) = []
range_spots (Enter i p name) = Slot i (slot_bytes (slot_of p name)) ∷ []
range_spots (Fill i bytes) = []

abbrev delta_spots : Change → List Spot
delta_spots (New i p name kind) = Mark i true ∷ Frees (2 ^ 64 - 1) ∷ []
delta_spots (Drop i) = Mark i false ∷ Frees 1 ∷ []
delta_spots (Touch i) = Count i ∷ []
delta_spots (Enter i p name) = []
delta_spots (Fill i bytes) = []

in_lines : (n : ℕ) (c : Change) → n % 32 ≡ 0 → IsGood n c → records_of n c ≡ map (line n) (spots c)
in_lines n (New i p name kind) steps g = λ k. recs.Range (record_line i k) (attr_bytes (new_attr kind)) ∷ recs.Range (slot_line n i steps k) (slot_bytes (slot_of p name)) ∷ marks i true ∷ frees (2 ^ 64 - 1) ∷ []
in_lines n (Drop i) steps g = refl
in_lines n (Touch i) steps g = ap (λ z. recs.Add (z + 16) 1 ∷ []) (record_line i)
in_lines n (Enter i p name) steps g = ap (λ z. recs.Range z (slot_bytes (slot_of p name)) ∷ []) (slot_line n i steps)
in_lines n (Fill i bytes) steps g = absurd g

ranges_in_lines : (n : ℕ) (c : Change) → n % 32 ≡ 0 → IsGood n c → ranges_of (records_of n c) ≡ map (line n) (range_spots c)
ranges_in_lines n (New i p name kind) steps g = λ k. recs.Range (record_line i k) (attr_bytes (new_attr kind)) ∷ recs.Range (slot_line n i steps k) (slot_bytes (slot_of p name)) ∷ []
ranges_in_lines n (Drop i) steps g = refl
ranges_in_lines n (Touch i) steps g = refl
ranges_in_lines n (Enter i p name) steps g = ap (λ z. recs.Range z (slot_bytes (slot_of p name)) ∷ []) (slot_line n i steps)
ranges_in_lines n (Fill i bytes) steps g = absurd g

deltas_in_lines : (n : ℕ) (c : Change) → n % 32 ≡ 0 → IsGood n c → deltas_of (records_of n c) ≡ map (line n) (delta_spots c)
deltas_in_lines n (New i p name kind) steps g = refl
deltas_in_lines n (Drop i) steps g = refl
deltas_in_lines n (Touch i) steps g = ap (λ z. recs.Add (z + 16) 1 ∷ []) (record_line i)
deltas_in_lines n (Enter i p name) steps g = refl
deltas_in_lines n (Fill i bytes) steps g = absurd g

length-attr : (kind : Kind) → length (attr_bytes (new_attr kind)) ≡ 24
length-attr kinds.Dir = refl
length-attr kinds.File = refl

length-slot : (parent : ℕ) (name : List ℕ) → is_name name ≡ true → length (slot_bytes (slot_of parent name)) ≡ 69
length-slot parent name named = omega (arith, name_few name named, length-append name (replicate (64 - length name) 0), length-replicate {A = ℕ} (64 - length name) 0)

are_spots : (n : ℕ) (c : Change) → IsGood n c → AllByRecursion (IsSpot n) (spots c)
are_spots n (New i p name kind) g = ((g.0, length-attr kind), ((g.0, length-slot p name g.1), (g.0, (tt, tt))))
are_spots n (Drop i) g = (g, (tt, tt))
are_spots n (Touch i) g = (g, tt)
are_spots n (Enter i p name) g = ((g.0, length-slot p name g.1), tt)
are_spots n (Fill i bytes) g = absurd g

range_are_spots : (n : ℕ) (c : Change) → IsGood n c → AllByRecursion (IsSpot n) (range_spots c)
range_are_spots n (New i p name kind) g = ((g.0, length-attr kind), ((g.0, length-slot p name g.1), tt))
range_are_spots n (Drop i) g = tt
range_are_spots n (Touch i) g = tt
range_are_spots n (Enter i p name) g = ((g.0, length-slot p name g.1), tt)
range_are_spots n (Fill i bytes) g = absurd g

delta_are_spots : (n : ℕ) (c : Change) → IsGood n c → AllByRecursion (IsSpot n) (delta_spots c)
delta_are_spots n (New i p name kind) g = (g.0, (tt, tt))
delta_are_spots n (Drop i) g = (g, (tt, tt))
delta_are_spots n (Touch i) g = (g, tt)
delta_are_spots n (Enter i p name) g = tt
delta_are_spots n (Fill i bytes) g = absurd g

differ : (n : ℕ) (c d : Change) → IsGood n c → IsGood n d → DontClash c d → AllDiffer (spots c) (spots d)
differ n (New i p a k) (New j q b l) g h e = ((e, (tt, (tt, (tt, tt)))), ((tt, (e, (tt, (tt, tt)))), ((tt, (tt, (e, (tt, tt)))), ((tt, (tt, (tt, (tt, tt)))), tt))))
differ n (New i p a k) (Drop j) g h e = ((tt, (tt, tt)), ((tt, (tt, tt)), ((e, (tt, tt)), ((tt, (tt, tt)), tt))))
differ n (New i p a k) (Touch j) g h e = ((e, tt), ((tt, tt), ((tt, tt), ((tt, tt), tt))))
differ n (New i p a k) (Enter j q b) g h e = ((tt, tt), ((e, tt), ((tt, tt), ((tt, tt), tt))))
differ n (Drop i) (New j q b l) g h e = ((tt, (tt, (e, (tt, tt)))), ((tt, (tt, (tt, (tt, tt)))), tt))
differ n (Drop i) (Drop j) g h e = ((e, (tt, tt)), ((tt, (tt, tt)), tt))
differ n (Drop i) (Touch j) g h e = ((tt, tt), ((tt, tt), tt))
differ n (Drop i) (Enter j q b) g h e = ((tt, tt), ((tt, tt), tt))
differ n (Touch i) (New j q b l) g h e = ((e, (tt, (tt, (tt, tt)))), tt)
differ n (Touch i) (Drop j) g h e = ((tt, (tt, tt)), tt)
differ n (Touch i) (Touch j) g h e = ((tt, tt), tt)
differ n (Touch i) (Enter j q b) g h e = ((tt, tt), tt)
differ n (Enter i p a) (New j q b l) g h e = ((tt, (e, (tt, (tt, tt)))), tt)
differ n (Enter i p a) (Drop j) g h e = ((tt, (tt, tt)), tt)
differ n (Enter i p a) (Touch j) g h e = ((tt, tt), tt)
differ n (Enter i p a) (Enter j q b) g h e = ((e, tt), tt)
differ n (Fill i a) d g h e = absurd g
differ n c (Fill j b) g h e = absurd h

ranges_differ : (n : ℕ) (c d : Change) → IsGood n c → IsGood n d → LeavesCount c d → AllDiffer (range_spots c) (delta_spots d)
ranges_differ n (New i p a k) (New j q b l) g h e = ((tt, (tt, tt)), ((tt, (tt, tt)), tt))
ranges_differ n (New i p a k) (Drop j) g h e = ((tt, (tt, tt)), ((tt, (tt, tt)), tt))
ranges_differ n (New i p a k) (Touch j) g h e = ((e, tt), ((tt, tt), tt))
ranges_differ n (New i p a k) (Enter j q b) g h e = (tt, (tt, tt))
ranges_differ n (Drop i) d g h e = tt
ranges_differ n (Touch i) d g h e = tt
ranges_differ n (Enter i p a) (New j q b l) g h e = ((tt, (tt, tt)), tt)
ranges_differ n (Enter i p a) (Drop j) g h e = ((tt, (tt, tt)), tt)
ranges_differ n (Enter i p a) (Touch j) g h e = ((tt, tt), tt)
ranges_differ n (Enter i p a) (Enter j q b) g h e = (tt, tt)
ranges_differ n (Fill i a) d g h e = absurd g
ranges_differ n c (Fill j b) g h e = absurd h

-- ---- laws

-- where changes don't clash, no record of the one disturbs one of the other
pub changes_are_free : (n : ℕ) (c d : Change) → n % 32 ≡ 0 → n ≤ 8192 → IsGood n c → IsGood n d → DontClash c d → AllFree (records_of n c) (records_of n d)
changes_are_free n c d steps few g h e =
    subst (λ xs. AllFree xs (records_of n d)) (sym (in_lines n c steps g))
    (subst (AllFree (map (line n) (spots c))) (sym (in_lines n d steps h)) (free_lines n (spots c) (spots d) few (are_spots n c g) (are_spots n d h) (differ n c d g h e)))

-- no range of a change disturbs a raise or a flip of one, but New the count of its own inode
pub ranges_are_free : (n : ℕ) (c d : Change) → n % 32 ≡ 0 → n ≤ 8192 → IsGood n c → IsGood n d → LeavesCount c d
    → AllFree (ranges_of (records_of n c)) (deltas_of (records_of n d))
ranges_are_free n c d steps few g h e =
    subst (λ xs. AllFree xs (deltas_of (records_of n d))) (sym (ranges_in_lines n c steps g))
    (subst (AllFree (map (line n) (range_spots c))) (sym (deltas_in_lines n d steps h))
    (free_lines n (range_spots c) (delta_spots d) few (range_are_spots n c g) (delta_are_spots n d h) (ranges_differ n c d g h e)))

-- the records of a change lie in the metadata
pub changes_are_inside : (n : ℕ) (c : Change) → n % 32 ≡ 0 → n ≤ 8192 → IsGood n c → AreInside (block_size * (data_start n - volume_start)) (records_of n c)
changes_are_inside n c steps few g =
    let size : ℕ = block_size * (data_start n - volume_start) in
    subst (AreInside size) (sym (in_lines n c steps g)) (inside_lines n size (spots c) few (omega arith) (are_spots n c g))
