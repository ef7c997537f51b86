-- The ranges of a batch of one stream disturb no raise or flip before them.
use Rattle.std.proofs.Common.{◌≡◌, ◌≢◌, inl, inr, ℕ, ◌+◌, ◌-◌, ◌%◌, ◌^◌, ◌<◌, ◌≤◌, List, [], ◌∷◌, ◌++◌, length, reverse, refl, sym, ap, subst, ◌∙◌, arith}
use Rattle.std.specs.Prelude.{Bool, true, false, not}
use Rattle.std.specs.List.{All, AllByRecursion}
use Rattle.std.specs.declared.option.Option.TheVariants.{None, Some}
use Rattle.std.specs.FinMap.{empty}
use Rattle.std.proofs.lemmas.List.{reverse-append, append-nil}
use Rattle.std.proofs.lemmas.List.Elements.{All-nil, All-cons, All-append, filter-append}
use Rattle.std.proofs.lemmas.List.Concat.{flat_map-append}
use Rattle.ccfs_base.specs.declared.records.Rec.{Rec}
use Rattle.ccfs_base.specs.declared.records.Rec.TheVariants as recs
use Rattle.ccfs_base.specs.Records.{AreFree}
use Rattle.delta_log.specs.Deltas.{is_delta}
use Rattle.delta_log.specs.Laws.{ranges_of, IsRangeFirst}
use Rattle.inode_table.specs.declared.attrs.Kind.{Kind}
use Rattle.inode_table.specs.Attrs.{attr_bytes}
use Rattle.inode_table.specs.Records.{record_offset}
use Rattle.flat_dirs.specs.Slot.{slot_bytes}
use Rattle.tree_model.specs.declared.rows.Update.{Update}
use Rattle.tree_model.specs.declared.rows.Update.TheVariants.{Make, Write, Resize, Remove, Move, Release}
use Rattle.tree_cuts.specs.Calls.{Charged}
use Rattle.image_model.specs.Fields.{slot_offset}
use Rattle.image_model.specs.Carrying.{inode_in}
use Rattle.image_model.specs.Changes.{Change, New, Drop, Touch, Enter, Fill, new_attr, slot_of, marks, frees, kind_made, records_of, all_records, changes_of}
use Rattle.image_model.proofs.Apart.{record_line, slot_line}
use Rattle.front_laws.specs.Batches.{its_records, records_of_all}
use Rattle.front_laws.proofs.Rows.{HasNode}
use Rattle.front_laws.proofs.Held.{IsBehind}
use Rattle.front_laws.proofs.Ruled.{AreOrdered}
use Rattle.front_laws.proofs.Standing.{MayStand, all_append}

-- ---- logs one behind the other

-- no range of the second log disturbs a raise or a flip of the first
abbrev pub IsFreeOf : List Rec → Rec → Type 0
IsFreeOf ys x = is_delta x ≡ true → AllByRecursion (λ y. is_delta y ≡ false → AreFree x y) ys

abbrev pub AreClear : List Rec → List Rec → Type 0
AreClear xs ys = AllByRecursion (IsFreeOf ys) xs

abbrev IsFreeIf : Rec → Rec → Type 0
IsFreeIf x y = is_delta y ≡ false → AreFree x y

clear_none : (xs : List Rec) → AreClear xs []
clear_none [] = tt
clear_none (x ∷ xs) = ((λ e. tt), clear_none xs)

clear_right : (xs ys zs : List Rec) → AreClear xs ys → AreClear xs zs → AreClear xs (ys ++ zs)
clear_right [] ys zs a b = tt
clear_right (x ∷ xs) ys zs a b = ((λ e. all_append (IsFreeIf x) ys zs (a.0 e) (b.0 e)), clear_right xs ys zs a.1 b.1)

clear_left : (xs ys zs : List Rec) → AreClear xs zs → AreClear ys zs → AreClear (xs ++ ys) zs
clear_left xs ys zs a b = all_append (IsFreeOf zs) xs ys a b

all_ranges : (P : Rec → Type 0) (ys : List Rec) → AllByRecursion (λ y. is_delta y ≡ false → P y) ys → All P (ranges_of ys)
all_ranges P [] a = All-nil P
all_ranges P (recs.Range at bytes ∷ ys) a = All-cons P (recs.Range at bytes) (ranges_of ys) (a.0 refl) (all_ranges P ys a.1)
all_ranges P (recs.Add at by ∷ ys) a = all_ranges P ys a.1
all_ranges P (recs.Bit at bit on ∷ ys) a = all_ranges P ys a.1

pub first_append : (xs ys : List Rec) → IsRangeFirst xs → IsRangeFirst ys → AreClear xs ys → IsRangeFirst (xs ++ ys)
first_append [] ys a b c = b
first_append (x ∷ xs) ys a b c = (
  (λ e. subst (All (AreFree x)) (sym (filter-append (λ rec. not (is_delta rec)) xs ys)) (All-append (AreFree x) (ranges_of xs) (ranges_of ys) (a.0 e) (all_ranges (AreFree x) ys (c.0 e)))),
  first_append xs ys a.1 b c.1,
)

-- ---- records of changes

-- a later change makes no inode that an earlier one touched
abbrev pub IsNotTouched : ℕ → Change → Type 0
IsNotTouched i (New inode parent name kind) = Unit {0}
IsNotTouched i (Drop inode) = Unit {0}
IsNotTouched i (Touch inode) = inode ≢ i
IsNotTouched i (Enter inode parent name) = Unit {0}
IsNotTouched i (Fill inode bytes) = Unit {0}

abbrev pub IsPast : Change → Change → Type 0
IsPast c (New inode parent name kind) = IsNotTouched inode c
IsPast c (Drop inode) = Unit {0}
IsPast c (Touch inode) = Unit {0}
IsPast c (Enter inode parent name) = Unit {0}
IsPast c (Fill inode bytes) = Unit {0}

-- so does no change of these touch what a later one of them makes
abbrev ArePast : List Change → Type 0
ArePast [] = Unit {0}
ArePast (c ∷ cs) = AllByRecursion (IsPast c) cs × ArePast cs

true_false : true ≡ false → ⊥
true_false e = cc

all_deltas : (x : Rec) (ys : List Rec) → AllByRecursion (λ y. is_delta y ≡ true) ys → AllByRecursion (IsFreeIf x) ys
all_deltas x [] a = tt
all_deltas x (y ∷ ys) a = ((λ e. absurd (true_false (sym a.0 ∙ e))), all_deltas x ys a.1)

no_ranges : (xs ys : List Rec) → AllByRecursion (λ y. is_delta y ≡ true) ys → AreClear xs ys
no_ranges [] ys a = tt
no_ranges (x ∷ xs) ys a = ((λ e. all_deltas x ys a), no_ranges xs ys a)

module _ (n : ℕ) (steps : n % 32 ≡ 0) (few : n ≤ 8192) where
  -- the bits and the count of free inodes stand before the records
  bit_record : (j i : ℕ) (on : Bool) (bytes : List ℕ) → j < n → AreFree (marks j on) (recs.Range (record_offset i) bytes)
  bit_record j i on bytes l = inl (λ p q. omega (arith, record_line i))

  bit_slot : (j i : ℕ) (on : Bool) (bytes : List ℕ) → j < n → AreFree (marks j on) (recs.Range (slot_offset n i) bytes)
  bit_slot j i on bytes l = inl (λ p q. omega (arith, slot_line n i steps))

  count_record : (by i : ℕ) (bytes : List ℕ) → AreFree (frees by) (recs.Range (record_offset i) bytes)
  count_record by i bytes = inl (λ x p q r s. omega (arith, record_line i))

  count_slot : (by i : ℕ) (bytes : List ℕ) → AreFree (frees by) (recs.Range (slot_offset n i) bytes)
  count_slot by i bytes = inl (λ x p q r s. omega (arith, slot_line n i steps))

  touch_slot : (j i : ℕ) (bytes : List ℕ) → j < n → AreFree (recs.Add (record_offset j + 16) 1) (recs.Range (slot_offset n i) bytes)
  touch_slot j i bytes l = inl (λ x p q r s. omega (arith, record_line j, slot_line n i steps))

  touch_record : (j i : ℕ) (bytes : List ℕ) → length bytes ≡ 24 → j ≢ i → AreFree (recs.Add (record_offset j + 16) 1) (recs.Range (record_offset i) bytes)
  touch_record j i bytes long ne = inl (λ x p q r s. ne (omega (arith, record_line j, record_line i)))

  -- a record that is free of both ranges of a new inode, or of the range of a slot
  past_new : (x : Rec) (i above : ℕ) (other : List ℕ) (what : Kind) → AreFree x (recs.Range (record_offset i) (attr_bytes (new_attr what)))
      → AreFree x (recs.Range (slot_offset n i) (slot_bytes (slot_of above other))) → IsFreeOf (records_of n (New i above other what)) x
  past_new x i above other what r l e = ((λ z. r), ((λ z. l), ((λ z. absurd (true_false z)), ((λ z. absurd (true_false z)), tt))))

  past_slot : (x : Rec) (i above : ℕ) (other : List ℕ) → AreFree x (recs.Range (slot_offset n i) (slot_bytes (slot_of above other)))
      → IsFreeOf (records_of n (Enter i above other)) x
  past_slot x i above other l e = ((λ z. l), tt)

  bit_new : (j i above : ℕ) (other : List ℕ) (what : Kind) (on : Bool) → j < n → IsFreeOf (records_of n (New i above other what)) (marks j on)
  bit_new j i above other what on l = past_new (marks j on) i above other what (bit_record j i on (attr_bytes (new_attr what)) l) (bit_slot j i on (slot_bytes (slot_of above other)) l)

  count_new : (by i above : ℕ) (other : List ℕ) (what : Kind) → IsFreeOf (records_of n (New i above other what)) (frees by)
  count_new by i above other what = past_new (frees by) i above other what (count_record by i (attr_bytes (new_attr what))) (count_slot by i (slot_bytes (slot_of above other)))

  bit_enter : (j i above : ℕ) (other : List ℕ) (on : Bool) → j < n → IsFreeOf (records_of n (Enter i above other)) (marks j on)
  bit_enter j i above other on l = past_slot (marks j on) i above other (bit_slot j i on (slot_bytes (slot_of above other)) l)

  count_enter : (by i above : ℕ) (other : List ℕ) → IsFreeOf (records_of n (Enter i above other)) (frees by)
  count_enter by i above other = past_slot (frees by) i above other (count_slot by i (slot_bytes (slot_of above other)))

  clear_one : (c d : Change) → MayStand n c → MayStand n d → IsPast c d → AreClear (records_of n c) (records_of n d)
  clear_one c (Fill inode bytes) s u p = absurd u
  clear_one (Fill inode bytes) d s u p = absurd s
  clear_one (New j parent name kind) (New i above other what) s u p =
      ((λ e. absurd (true_false (sym e))), ((λ e. absurd (true_false (sym e))), (bit_new j i above other what true s.0, (count_new (2 ^ 64 - 1) i above other what, tt))))
  clear_one (Drop j) (New i above other what) s u p = (bit_new j i above other what false s, (count_new 1 i above other what, tt))
  clear_one (Touch j) (New i above other what) s u p = (
    past_new (recs.Add (record_offset j + 16) 1) i above other what (touch_record j i (attr_bytes (new_attr what)) (omega arith) p)
        (touch_slot j i (slot_bytes (slot_of above other)) s),
    tt,
  )
  clear_one (Enter j parent name) (New i above other what) s u p = ((λ e. absurd (true_false (sym e))), tt)
  clear_one (New j parent name kind) (Enter i above other) s u p =
      ((λ e. absurd (true_false (sym e))), ((λ e. absurd (true_false (sym e))), (bit_enter j i above other true s.0, (count_enter (2 ^ 64 - 1) i above other, tt))))
  clear_one (Drop j) (Enter i above other) s u p = (bit_enter j i above other false s, (count_enter 1 i above other, tt))
  clear_one (Touch j) (Enter i above other) s u p =
      (past_slot (recs.Add (record_offset j + 16) 1) i above other (touch_slot j i (slot_bytes (slot_of above other)) s), tt)
  clear_one (Enter j parent name) (Enter i above other) s u p = ((λ e. absurd (true_false (sym e))), tt)
  clear_one c (Drop i) s u p = no_ranges (records_of n c) (records_of n (Drop i)) (refl, (refl, tt))
  clear_one c (Touch i) s u p = no_ranges (records_of n c) (records_of n (Touch i)) (refl, tt)

  clear_from : (c : Change) (ds : List Change) → MayStand n c → AllByRecursion (MayStand n) ds → AllByRecursion (IsPast c) ds → AreClear (records_of n c) (all_records n ds)
  clear_from c [] s b p = clear_none (records_of n c)
  clear_from c (d ∷ ds) s b p = clear_right (records_of n c) (records_of n d) (all_records n ds) (clear_one c d s b.0 p.0) (clear_from c ds s b.1 p.1)

  clear_lists : (cs ds : List Change) → AllByRecursion (MayStand n) cs → AllByRecursion (MayStand n) ds → AllByRecursion (λ c. AllByRecursion (IsPast c) ds) cs
      → AreClear (all_records n cs) (all_records n ds)
  clear_lists [] ds a b p = tt
  clear_lists (c ∷ cs) ds a b p = clear_left (records_of n c) (all_records n cs) (all_records n ds) (clear_from c ds a.0 b p.0) (clear_lists cs ds a.1 b p.1)

  one_first : (c : Change) → MayStand n c → IsRangeFirst (records_of n c)
  one_first (New inode parent name kind) s =
      ((λ e. absurd (true_false (sym e))), ((λ e. absurd (true_false (sym e))), ((λ e. All-nil (AreFree (marks inode true))), ((λ e. All-nil (AreFree (frees (2 ^ 64 - 1)))), tt))))
  one_first (Drop inode) s = ((λ e. All-nil (AreFree (marks inode false))), ((λ e. All-nil (AreFree (frees 1))), tt))
  one_first (Touch inode) s = ((λ e. All-nil (AreFree (recs.Add (record_offset inode + 16) 1))), tt)
  one_first (Enter inode parent name) s = ((λ e. absurd (true_false (sym e))), tt)
  one_first (Fill inode bytes) s = absurd s

  list_first : (cs : List Change) → AllByRecursion (MayStand n) cs → ArePast cs → IsRangeFirst (all_records n cs)
  list_first [] a p = tt
  list_first (c ∷ cs) a p = first_append (records_of n c) (all_records n cs) (one_first c a.0) (list_first cs a.1 p.1) (clear_from c cs a.0 a.1 p.0)

-- ---- records of updates

module _ (inodes : List ℕ) where
  -- the changes of a built update, which are the same on each tree
  abbrev changes : Update → List Change
  changes u = changes_of inodes empty u

  own_past : (u : Update) → ArePast (changes u)
  own_past (Make dir name id d) = ((tt, tt), (tt, tt))
  own_past (Write id off bytes) = (tt, tt)
  own_past (Resize id len) = (tt, tt)
  own_past (Remove dir name id stays) = ((tt, tt), (tt, tt))
  own_past (Move dir name to_dir to_name id d None stays) = ((tt, (tt, tt)), ((tt, tt), (tt, tt)))
  own_past (Move dir name to_dir to_name id d (Some y) stays) = ((tt, (tt, (tt, tt))), ((tt, (tt, tt)), ((tt, tt), (tt, tt))))
  own_past (Release id) = (tt, tt)

  apart_of : (u : Update) (i : ℕ) → ((x : ℕ) → HasNode u x → inode_in inodes x ≢ i) → AllByRecursion (IsNotTouched i) (changes u)
  apart_of (Make dir name id d) i f = (tt, (f dir (false, inr (inr (inl refl))), tt))
  apart_of (Write id off bytes) i f = (tt, tt)
  apart_of (Resize id len) i f = (tt, tt)
  apart_of (Remove dir name id true) i f = (tt, (f dir (false, inr (inr (inl refl))), tt))
  apart_of (Remove dir name id false) i f = (tt, (f dir (false, inr (inr (inl refl))), tt))
  apart_of (Move dir name to_dir to_name id d None stays) i f = (tt, (f dir (false, inr (inr (inl refl))), (f to_dir (false, inr (inr (inr (inl refl)))), tt)))
  apart_of (Move dir name to_dir to_name id d (Some y) true) i f = (tt, (tt, (f dir (false, inr (inr (inl refl))), (f to_dir (false, inr (inr (inr (inl refl)))), tt))))
  apart_of (Move dir name to_dir to_name id d (Some y) false) i f = (tt, (tt, (f dir (false, inr (inr (inl refl))), (f to_dir (false, inr (inr (inr (inl refl)))), tt))))
  apart_of (Release id) i f = (tt, tt)

  each_past : (cs ds : List Change) → ((c : Change) → AllByRecursion (IsPast c) ds) → AllByRecursion (λ c. AllByRecursion (IsPast c) ds) cs
  each_past [] ds f = tt
  each_past (c ∷ cs) ds f = (f c, each_past cs ds f)

  made_past : (cs : List Change) (i parent j : ℕ) (name : List ℕ) (kind : _) → AllByRecursion (IsNotTouched i) cs
      → AllByRecursion (λ c. AllByRecursion (IsPast c) (New i parent name kind ∷ Touch j ∷ [])) cs
  made_past [] i parent j name kind a = tt
  made_past (c ∷ cs) i parent j name kind a = ((a.0, (tt, tt)), made_past cs i parent j name kind a.1)

  behind_past : (d e : Update) → IsBehind inodes d e → AllByRecursion (λ c. AllByRecursion (IsPast c) (changes e)) (changes d)
  behind_past d (Make dir name id k) b = made_past (changes d) (inode_in inodes id) (inode_in inodes dir) (inode_in inodes dir) name (kind_made k) (apart_of d (inode_in inodes id) (λ x h. b id (k, refl) x h))
  behind_past d (Write id off bytes) b = each_past (changes d) (changes (Write id off bytes)) (λ c. (tt, tt))
  behind_past d (Resize id len) b = each_past (changes d) (changes (Resize id len)) (λ c. (tt, tt))
  behind_past d (Remove dir name id true) b = each_past (changes d) (changes (Remove dir name id true)) (λ c. (tt, (tt, tt)))
  behind_past d (Remove dir name id false) b = each_past (changes d) (changes (Remove dir name id false)) (λ c. (tt, (tt, tt)))
  behind_past d (Move dir name to_dir to_name id k None stays) b = each_past (changes d) (changes (Move dir name to_dir to_name id k None stays)) (λ c. (tt, (tt, (tt, tt))))
  behind_past d (Move dir name to_dir to_name id k (Some y) true) b = each_past (changes d) (changes (Move dir name to_dir to_name id k (Some y) true)) (λ c. (tt, (tt, (tt, (tt, tt)))))
  behind_past d (Move dir name to_dir to_name id k (Some y) false) b = each_past (changes d) (changes (Move dir name to_dir to_name id k (Some y) false)) (λ c. (tt, (tt, (tt, (tt, tt)))))
  behind_past d (Release id) b = each_past (changes d) (changes (Release id)) (λ c. (tt, tt))

-- an update's changes stand in the inodes
abbrev pub Stands : ℕ → List ℕ → ℕ × Charged → Type 0
Stands n inodes e = AllByRecursion (MayStand n) (changes_of inodes empty e.1.0)

all_left : {A : Type 0} (P : A → Type 0) (xs ys : List A) → AllByRecursion P (xs ++ ys) → AllByRecursion P xs
all_left P [] ys a = tt
all_left P (x ∷ xs) ys a = (a.0, all_left P xs ys a.1)

all_right : {A : Type 0} (P : A → Type 0) (xs ys : List A) → AllByRecursion P (xs ++ ys) → AllByRecursion P ys
all_right P [] ys a = a
all_right P (x ∷ xs) ys a = all_right P xs ys a.1

all_back : {A : Type 0} (P : A → Type 0) (xs : List A) → AllByRecursion P (reverse xs) → AllByRecursion P xs
all_back P [] a = tt
all_back P (x ∷ xs) a =
    let b = subst (AllByRecursion P) (reverse-append (x ∷ []) xs) a in
    ((all_right P (reverse xs) (x ∷ []) b).0, all_back P xs (all_left P (reverse xs) (x ∷ []) b))

module _ (n : ℕ) (steps : n % 32 ≡ 0) (few : n ≤ 8192) (inodes : List ℕ) where
  -- the records of updates, the last of which comes first
  abbrev log : List (ℕ × Charged) → List Rec
  log [] = []
  log (e ∷ h) = log h ++ its_records n inodes e.1.0

  log_is : (h : List (ℕ × Charged)) → records_of_all n inodes (reverse h) ≡ log h
  log_is [] = refl
  log_is (e ∷ h) =
      ap (records_of_all n inodes) (reverse-append (e ∷ []) h)
      ∙ flat_map-append (λ (d : ℕ × Charged). its_records n inodes d.1.0) (reverse h) (e ∷ [])
      ∙ ap (λ (z : List Rec). records_of_all n inodes (reverse h) ++ z) (append-nil (its_records n inodes e.1.0))
      ∙ ap (λ (z : List Rec). z ++ its_records n inodes e.1.0) (log_is h)

  log_clear : (h : List (ℕ × Charged)) (e : ℕ × Charged) → Stands n inodes e → AllByRecursion (Stands n inodes) h → AllByRecursion (λ d. IsBehind inodes d.1.0 e.1.0) h
      → AreClear (log h) (its_records n inodes e.1.0)
  log_clear [] e s a b = tt
  log_clear (d ∷ h) e s a b =
      clear_left (log h) (its_records n inodes d.1.0) (its_records n inodes e.1.0) (log_clear h e s a.1 b.1)
      (clear_lists n steps few (changes_of inodes empty d.1.0) (changes_of inodes empty e.1.0) a.0 s (behind_past inodes d.1.0 e.1.0 b.0))

  log_first : (h : List (ℕ × Charged)) → AllByRecursion (Stands n inodes) h → AreOrdered inodes h → IsRangeFirst (log h)
  log_first [] a o = tt
  log_first (e ∷ h) a o =
      first_append (log h) (its_records n inodes e.1.0) (log_first h a.1 o.1) (list_first n steps few (changes_of inodes empty e.1.0) a.0 (own_past inodes e.1.0)) (log_clear h e a.0 a.1 o.0)

  -- the ranges of ordered updates may go first
  pub ranges_first : (h : List (ℕ × Charged)) → AllByRecursion (Stands n inodes) (reverse h) → AreOrdered inodes h → IsRangeFirst (records_of_all n inodes (reverse h))
  ranges_first h a o = subst IsRangeFirst (sym (log_is h)) (log_first h (all_back (Stands n inodes) h a) o)
