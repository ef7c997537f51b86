-- The laws of what a front keeps.
use Rattle.std.specs.Prelude.{◌≡◌, ℕ, suc, ◌+◌, ◌-◌, ◌*◌, ◌<◌, ◌≤◌, true, Option, None, Some, List, [], ◌∷◌, ◌++◌, length}
use Rattle.std.specs.List.{AllByRecursion, sum_by}
use Rattle.std.specs.FinMap.{get, len}
use Rattle.block_layout.specs.Sizes.{good_inodes}
use Rattle.ccfs_base.specs.declared.commands.Command.{Command}
use Rattle.ccfs_base.specs.declared.records.Rec.{Rec}
use Rattle.ccfs_base.specs.declared.records.Rec.TheVariants as recs
use Rattle.ccfs_base.specs.Limits.{transaction_limit}
use Rattle.ccfs_base.specs.Records.{AreInside}
use Rattle.tree_model.specs.declared.rows.Update.{Update}
use Rattle.tree_model.specs.declared.rows.Update.TheVariants.{Make, Write, Resize, Remove, Move, Release}
use Rattle.tree_model.specs.declared.rows.Entry.{Entry}
use Rattle.tree_model.specs.Rows.{Rows}
use Rattle.tree_cuts.specs.Calls.{Sizes, Charged, unsealed_weight, unsealed_rows}
use Rattle.history_model.specs.State.{Now, stream_in}
use Rattle.history_model.specs.Histories.{start, entered_by, entry_of, steps_by, seal_count, tree_at, charged_in, MayCall}
use Rattle.stream_cuts.specs.Cuts.{batch}
use Rattle.image_model.specs.Volumes.{Volume}
use Rattle.image_model.specs.ChangeLaws.{AreBesideSame}
use Rattle.image_model.specs.Changes.{with_records}
use Rattle.shared_meta.specs.Area.{Area}
use Rattle.carried_volumes.specs.Plain.{IsPlain, IsDense}
use Rattle.carried_volumes.specs.Carried.{Carried, HaveInodes}
use Rattle.update_records.specs.Built.{is_built, AreSerialsBelow}
use Rattle.update_records.specs.Operations.{ops_of}
use Rattle.front_laws.specs.Inodes.{given, given_by, IsFree, HasLowestIf, with_inode}
use Rattle.front_laws.specs.Kept.{IsTame, IsKept, is_answered, now_of}
use Rattle.front_laws.specs.Batches.{its_records, batch_at, batches_from, sealed_in}
use Rattle.front_laws.specs.Owned.{AreOwned}
use Rattle.front_laws.specs.Logging.{metadata_size, AreLogsOf, MayLogAll}

-- ---- what a history left

-- an unsealed update: it is built, it names serials below n, it weighs 512 and gives up no block
pub record IsLight (n : ℕ) (e : ℕ × Charged) : Type 0 where
  pub built : is_built e.1.0 ≡ true
  pub below : AreSerialsBelow n e.1.0
  pub weight : e.1.1.weight ≡ 512
  pub no_blocks : e.1.1.gave_blocks ≡ 0

-- What a kept history left: a tree whose rows have their inodes, unsealed updates that own theirs, free serials from the next one
-- on, and sums within their bounds. No handle is open, and each actor's stream is one of the 64.
pub record IsKeptNow (sizes : Sizes) (inodes : List ℕ) (calls : ℕ) (n : Now) : Type 0 where
  pub plain : IsPlain n.tree
  pub have : HaveInodes sizes.inodes inodes n.tree
  pub owned : AreOwned inodes n.tree n.unsealed
  pub fresh : (s : ℕ) → n.next ≤ s → get n.tree s ≡ None
  pub light : AllByRecursion (IsLight (length inodes)) n.unsealed
  pub weigh : (s : ℕ) → unsealed_weight s n.unsealed ≤ transaction_limit
  pub rows : length (given inodes n.unsealed) ≡ unsealed_rows n.unsealed
  pub room : len n.tree + unsealed_rows n.unsealed ≤ sizes.inodes - 1
  pub seals : n.seals ≤ 65 * calls
  pub closed : n.handles ≡ []
  pub streams : (actor : ℕ) → stream_in n.choices actor < 64

abbrev pub HistoriesLeaveKeptStates : Type 0
HistoriesLeaveKeptStates = (sizes : Sizes) (t : Rows) (inodes : List ℕ) (h : List Entry) → IsKept sizes t inodes h → IsKeptNow sizes inodes (length h) (now_of sizes t h)

-- a front that was just made keeps an empty history
abbrev pub EmptyHistoriesAreKept : Type 0
EmptyHistoriesAreKept = (sizes : Sizes) (t : Rows) (inodes : List ℕ) → IsPlain t → HaveInodes sizes.inodes inodes t → IsDense t (length inodes) → IsKept sizes t inodes []

-- One more call is kept where its update is tame and a new row gets the lowest inode that is free behind the seals. i is that inode, and
-- any number where no row is made.
abbrev pub NextCallsAreKept : Type 0
NextCallsAreKept = (sizes : Sizes) (t : Rows) (inodes : List ℕ) (h : List Entry) (actor : ℕ) (c : Command) (e : Entry) (i : ℕ) → IsKept sizes t inodes h
    → e ≡ entry_of sizes (now_of sizes t h) actor c → MayCall actor c → is_answered c ≡ true → IsTame e.update
    → HasLowestIf sizes.inodes (with_inode e.update i inodes) (now_of sizes t h).tree (entered_by sizes (now_of sizes t h) e).unsealed e.update
    → IsKept sizes t (with_inode e.update i inodes) (h ++ e ∷ [])

-- There is a free inode wherever the rows, one more and those that were given up are at most the inodes less one.
abbrev pub AFreeInodeIsThere : Type 0
AFreeInodeIsThere = (count : ℕ) (inodes : List ℕ) (t : Rows) (unsealed : List (ℕ × Charged)) → HaveInodes count inodes t → IsPlain t
    → len t + 1 + length (given inodes unsealed) ≤ count - 1 → ((i : ℕ) → 2 ≤ i → i < count → IsFree inodes t unsealed i → ⊥) → ⊥

-- Where an update makes a row, there is room behind its seals: so there is a free inode.
abbrev pub RowsFitBehindSeals : Type 0
RowsFitBehindSeals = (sizes : Sizes) (t : Rows) (inodes : List ℕ) (h : List Entry) (actor : ℕ) (c : Command) (dir : ℕ) (name : List ℕ) (id : ℕ) (is_dir : _) → IsKept sizes t inodes h
    → (entry_of sizes (now_of sizes t h) actor c).update ≡ Some (Make dir name id is_dir) → MayCall actor c
    → len (now_of sizes t h).tree + 1 + length (given inodes (entered_by sizes (now_of sizes t h) (entry_of sizes (now_of sizes t h) actor c)).unsealed) ≤ sizes.inodes - 1

-- ---- records

-- more inodes behind the others leave what an update is told by
abbrev pub MoreInodesLeaveUpdates : Type 0
MoreInodesLeaveUpdates = (count : ℕ) (inodes more : List ℕ) (u : Update) → is_built u ≡ true → AreSerialsBelow (length inodes) u
    → (its_records count (inodes ++ more) u ≡ its_records count inodes u) × (ops_of (inodes ++ more) u ≡ ops_of inodes u) × (given_by (inodes ++ more) u ≡ given_by inodes u)

-- The records of a call's update may be logged behind its seals, in an area of the metadata's size whose logs are those of what is
-- unsealed then: no record disturbs one of another stream, and no range a raise or a flip of its own.
abbrev pub UpdatesMayBeLogged : Type 0
UpdatesMayBeLogged = (sizes : Sizes) (blocks : ℕ) (t : Rows) (inodes : List ℕ) (h : List Entry) (e : Entry) (u : Update) (cost : _) (rest : List (ℕ × Charged)) (a : Area)
    → IsKept sizes t inodes (h ++ e ∷ []) → e.update ≡ Some u → (now_of sizes t (h ++ e ∷ [])).unsealed ≡ (e.stream, (u, cost)) ∷ rest
    → good_inodes blocks sizes.inodes ≡ true → length a.base ≡ metadata_size sizes.inodes → AreLogsOf sizes.inodes inodes a rest
    → MayLogAll a e.stream (its_records sizes.inodes inodes u)

-- ---- batches

-- The records of a batch, put on any volume that carries the tree of the cut before it, give one that carries the tree of the next
-- cut, and leave what isn't inodes'. They lie in the metadata.
abbrev pub BatchesCarryOn : Type 0
BatchesCarryOn = (sizes : Sizes) (t : Rows) (inodes : List ℕ) (h : List Entry) (k : ℕ) (v : Volume) → IsKept sizes t inodes h → k < seal_count sizes (start t) h
    → v.inodes ≡ sizes.inodes → Carried v (tree_at sizes (start t) h k) inodes
    → Carried (with_records v (batch_at sizes t inodes h k).recs) (tree_at sizes (start t) h (suc k)) inodes
    × AreBesideSame v (with_records v (batch_at sizes t inodes h k).recs)
    × AreInside (metadata_size sizes.inodes) (batch_at sizes t inodes h k).recs

-- more calls, and more inodes behind the others, leave a batch
abbrev pub LongerKeepsBatches : Type 0
LongerKeepsBatches = (sizes : Sizes) (t : Rows) (inodes more : List ℕ) (h g : List Entry) (k : ℕ) → IsKept sizes t inodes h → k < seal_count sizes (start t) h
    → batch_at sizes t (inodes ++ more) (h ++ g) k ≡ batch_at sizes t inodes h k

-- the batches that one more call seals are those of its steps
abbrev pub SealsMakeBatches : Type 0
SealsMakeBatches = (sizes : Sizes) (t : Rows) (inodes : List ℕ) (h : List Entry) (e : Entry) (more : ℕ) → IsKept sizes t inodes (h ++ e ∷ [])
    → seal_count sizes (start t) (h ++ e ∷ []) ≡ seal_count sizes (start t) h + more
    → batches_from sizes t inodes (h ++ e ∷ []) (seal_count sizes (start t) h) more
    ≡ sealed_in sizes.inodes inodes (seal_count sizes (start t) h) (now_of sizes t h).unsealed (steps_by sizes (now_of sizes t h) e)

-- ---- sizes

-- how many bytes a record takes in a batch, with the 12 before it: of an add 20
abbrev pub record_size : Rec → ℕ
record_size (recs.Range off bytes) = 12 + length bytes
record_size (recs.Add off by) = 20
record_size (recs.Bit off bit on) = 13

abbrev pub drop_size : Option ℕ → ℕ
drop_size None = 0
drop_size (Some x) = 33

-- how many bytes the records of an update take: of making a row 170, of removing one 53, of moving one 121, and 33 more where it
-- replaces a file
abbrev pub update_size : Update → ℕ
update_size (Make dir name id is_dir) = 170
update_size (Write id off bytes) = 0
update_size (Resize id len) = 0
update_size (Remove dir name id stays) = 53
update_size (Move dir name to_dir to_name id is_dir replaced stays) = 121 + drop_size replaced
update_size (Release id) = 0

-- the records of a batch take what those of its updates take
abbrev pub BatchesHaveTheirSize : Type 0
BatchesHaveTheirSize = (sizes : Sizes) (t : Rows) (inodes : List ℕ) (h : List Entry) (k : ℕ) → IsKept sizes t inodes h
    → sum_by record_size (batch_at sizes t inodes h k).recs ≡ sum_by (λ e. update_size e.1.0) (batch (charged_in sizes (start t) h) k)

-- and each of them acts in at least one byte
abbrev pub BatchesAct : Type 0
BatchesAct = (sizes : Sizes) (t : Rows) (inodes : List ℕ) (h : List Entry) (k : ℕ) → IsKept sizes t inodes h
    → AllByRecursion (λ rec. 13 ≤ record_size rec) (batch_at sizes t inodes h k).recs

-- and weigh together at most what a transaction may, so that each batch fits an empty half of the journal
abbrev pub BatchesAreLight : Type 0
BatchesAreLight = (sizes : Sizes) (t : Rows) (inodes : List ℕ) (h : List Entry) (k : ℕ) → IsKept sizes t inodes h → k < seal_count sizes (start t) h
    → (batch_at sizes t inodes h k).weight ≤ transaction_limit
