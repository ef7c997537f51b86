-- The changes of updates that apply stand in the inodes of an image: their records lie in the metadata, and they fill no file.
use Rattle.std.proofs.Common.{◌≡◌, inl, inr, ℕ, ◌+◌, ◌-◌, ◌*◌, ◌/◌, ◌%◌, ◌<◌, ◌≤◌, List, [], ◌∷◌, ◌++◌, length, replicate, refl, ap, subst, ◌∙◌, arith, length-append}
use Rattle.std.specs.Prelude.{Bool, true, false, cond, ◌==◌, map}
use Rattle.std.specs.List.{AllByRecursion, filter}
use Rattle.std.specs.declared.option.Option.TheVariants.{None, Some}
use Rattle.std.specs.FinMap.{empty}
use Rattle.std.proofs.lemmas.List.{length-replicate}
use Rattle.block_layout.specs.Sizes.{data_start}
use Rattle.stream_cuts.specs.States.{AllApply}
use Rattle.ccfs_base.specs.Names.{is_name}
use Rattle.ccfs_base.specs.declared.records.Rec.{Rec}
use Rattle.ccfs_base.specs.Records.{AreInside}
use Rattle.ccfs_base.proofs.Kept.{name_few}
use Rattle.flat_dirs.specs.Slot.{slot_bytes}
use Rattle.inode_table.specs.Records.{record_offset}
use Rattle.tree_model.specs.declared.rows.Update.{Update}
use Rattle.tree_model.specs.declared.rows.Update.TheVariants.{Make, Write, Resize, Remove, Move, Release}
use Rattle.tree_model.specs.Rows.{Rows}
use Rattle.tree_model.specs.Updates.{apply}
use Rattle.tree_cuts.specs.Calls.{Charge, Charged}
use Rattle.image_model.specs.Fields.{slot_offset}
use Rattle.image_model.specs.Carrying.{inode_in}
use Rattle.image_model.specs.Changes.{Change, New, Drop, Touch, Enter, Fill, slot_of, records_of, all_records, changes_of, files_after, files_changed}
use Rattle.image_model.proofs.Apart.{record_line, slot_line}
use Rattle.carried_volumes.specs.Carried.{no_bytes}
use Rattle.update_records.specs.Built.{is_built}
use Rattle.update_records.specs.Batches.{changes_of_all}
use Rattle.update_records.proofs.Lists.{all_records_append}
use Rattle.front_laws.specs.Batches.{its_records, records_of_all}
use Rattle.front_laws.proofs.Rows.{IsThere, dir_there, file_there, placed_there, back, only_make}
use Rattle.front_laws.proofs.Swapping.{AppliesIn, apply_in}

-- a change of an inode below n, which fills no file
abbrev pub MayStand : ℕ → Change → Type 0
MayStand n (New inode parent name kind) = (inode < n) × (is_name name ≡ true)
MayStand n (Drop inode) = inode < n
MayStand n (Touch inode) = inode < n
MayStand n (Enter inode parent name) = (inode < n) × (is_name name ≡ true)
MayStand n (Fill inode bytes) = ⊥

-- ---- where the records lie

slot_long : (parent : ℕ) (name : List ℕ) → length name ≤ 64 → length (slot_bytes (slot_of parent name)) ≡ 69
slot_long parent name few = omega (arith, length-append name (replicate (64 - length name) 0), length-replicate {A = ℕ} (64 - length name) 0)

slot_inside : (n i size long : ℕ) → n % 32 ≡ 0 → 12288 + 384 * n ≤ size → i < n → long ≡ 69 → slot_offset n i + long ≤ size
slot_inside n i size long steps room l e = omega (arith, slot_line n i steps)

record_inside : (n i size from to : ℕ) → 12288 + 384 * n ≤ size → i < n → from + to ≤ 256 → record_offset i + from + to ≤ size
record_inside n i size from to room l e = omega (arith, record_line i)

bit_inside : (n i size : ℕ) → n ≤ 8192 → 12288 + 384 * n ≤ size → i < n → (8192 + i / 8 < size) × (i % 8 < 8)
bit_inside n i size few room l = (omega arith, omega arith)

module _ (n size : ℕ) (steps : n % 32 ≡ 0) (few : n ≤ 8192) (room : 12288 + 384 * n ≤ size) where
  one_inside : (c : Change) → MayStand n c → AreInside size (records_of n c)
  one_inside (New inode parent name kind) s = (
    omega (arith, record_inside n inode size 0 24 room s.0 (omega arith)),
    (
      slot_inside n inode size (length (slot_bytes (slot_of parent name))) steps room s.0 (slot_long parent name (name_few name s.1)),
      (bit_inside n inode size few room s.0, (omega (arith, room), tt)),
    ),
  )
  one_inside (Drop inode) s = (bit_inside n inode size few room s, (omega (arith, room), tt))
  one_inside (Touch inode) s = (record_inside n inode size 16 8 room s (omega arith), tt)
  one_inside (Enter inode parent name) s =
      (slot_inside n inode size (length (slot_bytes (slot_of parent name))) steps room s.0 (slot_long parent name (name_few name s.1)), tt)
  one_inside (Fill inode bytes) s = absurd s

  inside_append : (xs ys : List Rec) → AreInside size xs → AreInside size ys → AreInside size (xs ++ ys)
  inside_append [] ys a b = b
  inside_append (x ∷ xs) ys a b = (a.0, inside_append xs ys a.1 b)

  pub all_inside : (cs : List Change) → AllByRecursion (MayStand n) cs → AreInside size (all_records n cs)
  all_inside [] a = tt
  all_inside (c ∷ cs) a = inside_append (records_of n c) (all_records n cs) (one_inside c a.0) (all_inside cs a.1)

  inside_filter : (keep : Rec → Bool) (xs : List Rec) → AreInside size xs → AreInside size (filter keep xs)
  inside_filter keep [] a = tt
  inside_filter keep (x ∷ xs) a = let rest = inside_filter keep xs a.1 in
      elim (keep x) as (λ b. AreInside size (cond b (x ∷ filter keep xs) (filter keep xs))) [ true ↦ (a.0, rest) | false ↦ rest ]

  -- parts of a log lie inside too
  pub parts_inside : (keep other : Rec → Bool) (xs : List Rec) → AreInside size xs → AreInside size (filter keep xs ++ filter other xs)
  parts_inside keep other xs a = inside_append (filter keep xs) (filter other xs) (inside_filter keep xs a) (inside_filter other xs a)

-- the blocks before the data blocks
pub front_is : (n : ℕ) → n % 32 ≡ 0 → 4096 * (data_start n - 260) ≡ 12288 + 384 * n
front_is n steps = omega arith

-- ---- the changes of updates

-- the inodes of rows are below n
abbrev pub AreBounded : ℕ → List ℕ → Rows → Type 0
AreBounded n inodes t = (x : ℕ) → IsThere t x → inode_in inodes x < n

module _ (n : ℕ) (inodes : List ℕ) where
  pub bounded_after : (t : Rows) (u : Charged) → AreBounded n inodes t → AppliesIn n inodes t u → AreBounded n inodes (apply t u.0)
  bounded_after t u b a x there = elim (back t u.0 x there) [
    | inl was ↦ b x was.0
    | inr made ↦ let w = only_make u.0 x made in
        let has = subst (λ (z : Update). AppliesIn n inodes t (z, u.1)) w.3 a in has.1.2
  ]

  -- its changes, on any tree
  stand_one : (t s : Rows) (u : Update) (c : Charge) → AreBounded n inodes t → AppliesIn n inodes t (u, c) → AllByRecursion (MayStand n) (changes_of inodes s u)
  stand_one t s (Make dir name id d) c b a = ((a.1.2, a.3), (b dir (dir_there t dir a.0.1.0), tt))
  stand_one t s (Write id off bytes) c b a = absurd (let z : false ≡ true = a.2 in cc)
  stand_one t s (Resize id len) c b a = absurd (let z : false ≡ true = a.2 in cc)
  stand_one t s (Remove dir name id true) c b a = absurd (let z : false ≡ true = a.2 in cc)
  stand_one t s (Remove dir name id false) c b a = (b id (placed_there t id dir name a.0.1.0), (b dir (dir_there t dir (a.0.0.parents id dir name a.0.1.0)), tt))
  stand_one t s (Move dir name to_dir to_name id d r true) c b a = absurd (let z : false ≡ true = a.2 in cc)
  stand_one t s (Move dir name to_dir to_name id d None false) c b a = (
    (b id (placed_there t id dir name a.0.1.0), a.3),
    (b dir (dir_there t dir (a.0.0.parents id dir name a.0.1.0)), (b to_dir (dir_there t to_dir a.0.1.2), tt)),
  )
  stand_one t s (Move dir name to_dir to_name id d (Some y) false) c b a = (
    b y (file_there t y a.0.1.4.1),
    (
      (b id (placed_there t id dir name a.0.1.0), a.3),
      (b dir (dir_there t dir (a.0.0.parents id dir name a.0.1.0)), (b to_dir (dir_there t to_dir a.0.1.2), tt)),
    ),
  )
  stand_one t s (Release id) c b a = absurd (let z : false ≡ true = a.2 in cc)

  -- the records of a built update are the same on each tree
  same_records : (t : Rows) (u : Update) → is_built u ≡ true → all_records n (changes_of inodes t u) ≡ its_records n inodes u
  same_records t (Make dir name id d) e = refl
  same_records t (Write id off bytes) e = absurd (let z : false ≡ true = e in cc)
  same_records t (Resize id len) e = absurd (let z : false ≡ true = e in cc)
  same_records t (Remove dir name id stays) e = refl
  same_records t (Move dir name to_dir to_name id d r stays) e = refl
  same_records t (Release id) e = refl

-- the updates of a batch, without streams and charges
abbrev pub updates : List (ℕ × Charged) → List Update
updates us = map (λ e. e.1.0) us

-- what holds of the parts of a list holds of the whole
pub all_append : {A : Type 0} (P : A → Type 0) (xs ys : List A) → AllByRecursion P xs → AllByRecursion P ys → AllByRecursion P (xs ++ ys)
all_append P [] ys a b = b
all_append P (x ∷ xs) ys a b = (a.0, all_append P xs ys a.1 b)

module _ (n : ℕ) (inodes : List ℕ) where
  pub all_stand : (t : Rows) (us : List (ℕ × Charged)) → AreBounded n inodes t → AllApply (AppliesIn n inodes) apply_in t us
      → AllByRecursion (MayStand n) (changes_of_all inodes t (updates us))
  all_stand t [] b a = tt
  all_stand t (e ∷ us) b a =
      all_append (MayStand n) (changes_of inodes t e.1.0) (changes_of_all inodes (apply t e.1.0) (updates us))
      (stand_one n inodes t t e.1.0 e.1.1 b a.0) (all_stand (apply t e.1.0) us (bounded_after n inodes t e.1 b a.0) a.1)

  pub each_stands : (t : Rows) (us : List (ℕ × Charged)) → AreBounded n inodes t → AllApply (AppliesIn n inodes) apply_in t us
      → AllByRecursion (λ e. AllByRecursion (MayStand n) (changes_of inodes empty e.1.0)) us
  each_stands t [] b a = tt
  each_stands t (e ∷ us) b a = (stand_one n inodes t empty e.1.0 e.1.1 b a.0, each_stands (apply t e.1.0) us (bounded_after n inodes t e.1 b a.0) a.1)

  pub all_same : (t : Rows) (us : List (ℕ × Charged)) → AllApply (AppliesIn n inodes) apply_in t us
      → all_records n (changes_of_all inodes t (updates us)) ≡ records_of_all n inodes us
  all_same t [] a = refl
  all_same t (e ∷ us) a =
      all_records_append n (changes_of inodes t e.1.0) (changes_of_all inodes (apply t e.1.0) (updates us))
      ∙ ap (λ (z : List Rec). z ++ all_records n (changes_of_all inodes (apply t e.1.0) (updates us))) (same_records n inodes t e.1.0 a.0.2)
      ∙ ap (λ (z : List Rec). its_records n inodes e.1.0 ++ z) (all_same (apply t e.1.0) us a.1)

-- ---- the files

none_at : (b : Bool) (e : List ℕ) → cond b e e ≡ e
none_at true e = refl
none_at false e = refl

one_none : (n : ℕ) (c : Change) → MayStand n c → files_after no_bytes c ≡ no_bytes
one_none n (New inode parent name kind) s = λ i x. none_at (x == inode) [] i
one_none n (Drop inode) s = refl
one_none n (Touch inode) s = refl
one_none n (Enter inode parent name) s = refl
one_none n (Fill inode bytes) s = absurd s

-- files without bytes stay so
pub still_none : (n : ℕ) (cs : List Change) → AllByRecursion (MayStand n) cs → files_changed no_bytes cs ≡ no_bytes
still_none n [] a = refl
still_none n (c ∷ cs) a = ap (λ (f : ℕ → List ℕ). files_changed f cs) (one_none n c a.0) ∙ still_none n cs a.1
