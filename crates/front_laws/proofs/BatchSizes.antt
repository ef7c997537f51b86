-- The records of a batch take what those of its updates take.
use Rattle.std.proofs.Common.{◌≡◌, ℕ, ◌+◌, ◌-◌, ◌≤◌, List, [], ◌∷◌, ◌++◌, length, refl, sym, ap, ◌∙◌, arith, length-append}
use Rattle.std.proofs.lemmas.List.{length-replicate}
use Rattle.std.specs.Prelude.{Bool, true, false, not, Option, Some, None, replicate}
use Rattle.std.specs.List.{AllByRecursion, sum_by}
use Rattle.std.proofs.lemmas.List.Sums.{sum_by-cons, sum_by-append}
use Rattle.ccfs_base.proofs.Kept.{name_few}
use Rattle.ccfs_base.specs.declared.records.Rec.{Rec}
use Rattle.ccfs_base.specs.declared.records.Rec.TheVariants as recs
use Rattle.delta_log.specs.Laws.{ranges_of, deltas_of}
use Rattle.flat_dirs.specs.Slot.{slot_bytes}
use Rattle.stream_cuts.specs.Cuts.{batch}
use Rattle.tree_model.specs.declared.rows.Update.{Update}
use Rattle.tree_model.specs.declared.rows.Update.TheVariants.{Make, Write, Resize, Remove, Move, Release}
use Rattle.tree_model.specs.declared.rows.Entry.{Entry}
use Rattle.tree_cuts.specs.Calls.{Charged}
use Rattle.history_model.specs.Histories.{start, charged_in}
use Rattle.image_model.specs.Carrying.{inode_in}
use Rattle.image_model.specs.Changes.{slot_of}
use Rattle.update_records.specs.Built.{is_built}
use Rattle.update_records.specs.Batches.{IsNamed}
use Rattle.front_laws.specs.Batches.{its_records, records_of_all}
use Rattle.front_laws.specs.Kept.{IsTame}
use Rattle.front_laws.specs.Laws.{BatchesHaveTheirSize, record_size, update_size}
use Rattle.front_laws.proofs.Entering.{IfUpdate, Holds, all_entered, all_batch}

-- ---- one update

pub slot_long : (parent : ℕ) (name : List ℕ) → length name ≤ 64 → length (slot_bytes (slot_of parent name)) ≡ 69
slot_long parent name few = omega (arith, length-append name (replicate (64 - length name) 0), length-replicate {A = ℕ} (64 - length name) 0)

-- a built update that gives a name, as each update of a kept history does
abbrev pub IsGood : Update → Type 0
IsGood u = (is_built u ≡ true) × IsNamed u

module _ (count : ℕ) (inodes : List ℕ) where
  abbrev HasSize : Update → Type 0
  HasSize u = sum_by record_size (its_records count inodes u) ≡ update_size u

  of_remove : (dir : ℕ) (name : List ℕ) (id : ℕ) (stays : Bool) → not stays ≡ true → HasSize (Remove dir name id stays)
  of_remove dir name id true built = absurd (cc)
  of_remove dir name id false built = refl

  of_move : (dir : ℕ) (name : List ℕ) (to_dir : ℕ) (to_name : List ℕ) (id : ℕ) (is_dir : Bool) (replaced : Option ℕ) (stays : Bool)
      → not stays ≡ true → length (slot_bytes (slot_of (inode_in inodes to_dir) to_name)) ≡ 69 → HasSize (Move dir name to_dir to_name id is_dir replaced stays)
  of_move dir name to_dir to_name id is_dir replaced true built long = absurd (cc)
  of_move dir name to_dir to_name id is_dir None false built long = omega (arith, long)
  of_move dir name to_dir to_name id is_dir (Some x) false built long = omega (arith, long)

  pub size_of : (u : Update) → IsGood u → HasSize u
  size_of (Make dir name id is_dir) good = let long = slot_long (inode_in inodes dir) name (name_few name good.1) in omega (arith, long)
  size_of (Write id off bytes) good = absurd (let z : false ≡ true = good.0 in cc)
  size_of (Resize id len) good = absurd (let z : false ≡ true = good.0 in cc)
  size_of (Remove dir name id stays) good = of_remove dir name id stays good.0
  size_of (Move dir name to_dir to_name id is_dir replaced stays) good =
      of_move dir name to_dir to_name id is_dir replaced stays good.0 (slot_long (inode_in inodes to_dir) to_name (name_few to_name good.1))
  size_of (Release id) good = absurd (let z : false ≡ true = good.0 in cc)

  -- ---- several

  pub size_of_all : (us : List (ℕ × Charged)) → AllByRecursion (Holds IsGood) us
      → sum_by record_size (records_of_all count inodes us) ≡ sum_by (λ e. update_size e.1.0) us
  size_of_all [] a = refl
  size_of_all (e ∷ us) a =
      sum_by-append record_size (its_records count inodes e.1.0) (records_of_all count inodes us)
      ∙ ap (λ z. z + sum_by record_size (records_of_all count inodes us)) (size_of e.1.0 a.0)
      ∙ ap (λ z. update_size e.1.0 + z) (size_of_all us a.1)
      ∙ sym (sum_by-cons (λ e. update_size e.1.0) e us)

-- the ranges and the other records of a list take what all of them take
pub sorted_size : (f : Rec → ℕ) (log : List Rec) → sum_by f (ranges_of log ++ deltas_of log) ≡ sum_by f log
sorted_size f log = sum_by-append f (ranges_of log) (deltas_of log) ∙ split log
  where
    split : (log : List Rec) → sum_by f (ranges_of log) + sum_by f (deltas_of log) ≡ sum_by f log
    split [] = refl
    split (recs.Range off bytes ∷ log) = omega (arith, split log, sum_by-cons f (recs.Range off bytes) (ranges_of log), sum_by-cons f (recs.Range off bytes) log)
    split (recs.Add off by ∷ log) = omega (arith, split log, sum_by-cons f (recs.Add off by) (deltas_of log), sum_by-cons f (recs.Add off by) log)
    split (recs.Bit off bit on ∷ log) = omega (arith, split log, sum_by-cons f (recs.Bit off bit on) (deltas_of log), sum_by-cons f (recs.Bit off bit on) log)

pub all_tame : (h : List Entry) → AllByRecursion (λ e. IsTame e.update) h → AllByRecursion (λ e. IfUpdate IsGood e.update) h
all_tame [] a = tt
all_tame (e ∷ h) a = (by e.update a.0, all_tame h a.1)
  where
    by : (o : Option Update) → IsTame o → IfUpdate IsGood o
    by None t = tt
    by (Some u) t = t

pub batches_have_their_size : BatchesHaveTheirSize
batches_have_their_size sizes t inodes h k kept =
    let us : List (ℕ × Charged) = batch (charged_in sizes (start t) h) k in
    sorted_size record_size (records_of_all sizes.inodes inodes us)
    ∙ size_of_all sizes.inodes inodes us (all_batch (Holds IsGood) (charged_in sizes (start t) h) k (all_entered sizes IsGood (start t) h (all_tame h kept.tame)))
