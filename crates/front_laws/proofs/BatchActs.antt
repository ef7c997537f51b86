-- The records of a batch act in at least one byte each.
use Rattle.std.proofs.Common.{◌≡◌, ℕ, ◌≤◌, List, [], ◌∷◌, ◌++◌, length, arith}
use Rattle.std.specs.Prelude.{Bool, true, false, not, Option, Some, None}
use Rattle.std.specs.List.{AllByRecursion}
use Rattle.ccfs_base.proofs.Kept.{name_few}
use Rattle.ccfs_base.specs.declared.records.Rec.{Rec}
use Rattle.ccfs_base.specs.declared.records.Rec.TheVariants as recs
use Rattle.delta_log.specs.Laws.{ranges_of, deltas_of}
use Rattle.flat_dirs.specs.Slot.{slot_bytes}
use Rattle.stream_cuts.specs.Cuts.{batch}
use Rattle.tree_model.specs.declared.rows.Update.{Update}
use Rattle.tree_model.specs.declared.rows.Update.TheVariants.{Make, Write, Resize, Remove, Move, Release}
use Rattle.tree_cuts.specs.Calls.{Charged}
use Rattle.history_model.specs.Histories.{start, charged_in}
use Rattle.image_model.specs.Carrying.{inode_in}
use Rattle.image_model.specs.Changes.{slot_of}
use Rattle.front_laws.specs.Batches.{its_records, records_of_all}
use Rattle.front_laws.specs.Laws.{BatchesAct, record_size}
use Rattle.front_laws.proofs.Entering.{Holds, all_entered, all_batch}
use Rattle.front_laws.proofs.BatchSizes.{IsGood, slot_long, all_tame}

abbrev All : List Rec → Type 0
All log = AllByRecursion (λ rec. 13 ≤ record_size rec) log

all_append : (a b : List Rec) → All a → All b → All (a ++ b)
all_append [] b p q = q
all_append (rec ∷ a) b p q = (p.0, all_append a b p.1 q)

all_ranges : (log : List Rec) → All log → All (ranges_of log)
all_ranges [] p = tt
all_ranges (recs.Range off bytes ∷ log) p = (p.0, all_ranges log p.1)
all_ranges (recs.Add off by ∷ log) p = all_ranges log p.1
all_ranges (recs.Bit off bit on ∷ log) p = all_ranges log p.1

all_deltas : (log : List Rec) → All log → All (deltas_of log)
all_deltas [] p = tt
all_deltas (recs.Range off bytes ∷ log) p = all_deltas log p.1
all_deltas (recs.Add off by ∷ log) p = (p.0, all_deltas log p.1)
all_deltas (recs.Bit off bit on ∷ log) p = (p.0, all_deltas log p.1)

module _ (count : ℕ) (inodes : List ℕ) where
  of_remove : (dir : ℕ) (name : List ℕ) (id : ℕ) (stays : Bool) → not stays ≡ true → All (its_records count inodes (Remove dir name id stays))
  of_remove dir name id true built = absurd (cc)
  of_remove dir name id false built = (omega arith, (omega arith, (omega arith, tt)))

  of_move : (dir : ℕ) (name : List ℕ) (to_dir : ℕ) (to_name : List ℕ) (id : ℕ) (is_dir : Bool) (replaced : Option ℕ) (stays : Bool)
      → not stays ≡ true → length (slot_bytes (slot_of (inode_in inodes to_dir) to_name)) ≡ 69 → All (its_records count inodes (Move dir name to_dir to_name id is_dir replaced stays))
  of_move dir name to_dir to_name id is_dir replaced true built long = absurd (cc)
  of_move dir name to_dir to_name id is_dir None false built long = (omega (arith, long), (omega arith, (omega arith, tt)))
  of_move dir name to_dir to_name id is_dir (Some x) false built long = (omega arith, (omega arith, (omega (arith, long), (omega arith, (omega arith, tt)))))

  act_of : (u : Update) → IsGood u → All (its_records count inodes u)
  act_of (Make dir name id is_dir) good =
      let long = slot_long (inode_in inodes dir) name (name_few name good.1) in (omega arith, (omega (arith, long), (omega arith, (omega arith, (omega arith, tt)))))
  act_of (Write id off bytes) good = absurd (let z : false ≡ true = good.0 in cc)
  act_of (Resize id len) good = absurd (let z : false ≡ true = good.0 in cc)
  act_of (Remove dir name id stays) good = of_remove dir name id stays good.0
  act_of (Move dir name to_dir to_name id is_dir replaced stays) good =
      of_move dir name to_dir to_name id is_dir replaced stays good.0 (slot_long (inode_in inodes to_dir) to_name (name_few to_name good.1))
  act_of (Release id) good = absurd (let z : false ≡ true = good.0 in cc)

  act_of_all : (us : List (ℕ × Charged)) → AllByRecursion (Holds IsGood) us → All (records_of_all count inodes us)
  act_of_all [] a = tt
  act_of_all (e ∷ us) a = all_append (its_records count inodes e.1.0) (records_of_all count inodes us) (act_of e.1.0 a.0) (act_of_all us a.1)

pub batches_act : BatchesAct
batches_act sizes t inodes h k kept =
    let us : List (ℕ × Charged) = batch (charged_in sizes (start t) h) k in
    let all = act_of_all sizes.inodes inodes us (all_batch (Holds IsGood) (charged_in sizes (start t) h) k (all_entered sizes IsGood (start t) h (all_tame h kept.tame))) in
    let log = records_of_all sizes.inodes inodes us in
    all_append (ranges_of log) (deltas_of log) (all_ranges log all) (all_deltas log all)
