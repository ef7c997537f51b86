-- What a commit of the next batch leaves, and what a session's volume shows.
use Rattle.std.proofs.Common.{◌≡◌, [], ◌∷◌, ℕ, suc, ◌+◌, ◌%◌, ◌≤◌, ◌<◌, ◌^◌, true, Option, Some, None, List, length, refl, sym, ◌∙◌, ap, subst, arith}
use Rattle.std.specs.List.{All, AllByRecursion}
use Rattle.std.proofs.lemmas.Bool.{eqb-true}
use Rattle.std.proofs.lemmas.Bool.Decides.{nat_tests}
use Rattle.std.proofs.lemmas.List.{length-take}
use Rattle.block_layout.specs.declared.geometry.Geometry.{Geometry}
use Rattle.block_layout.specs.Sizes.{data_start}
use Rattle.ccfs_base.specs.declared.records.Rec.{Rec}
use Rattle.ccfs_base.specs.declared.records.Rec.TheVariants as recs
use Rattle.ccfs_base.specs.Records.{AreInside}
use Rattle.gate_journal.specs.declared.batches.Batch.{Batch}
use Rattle.gate_journal.specs.declared.batches.Range.{Range}
use Rattle.gate_journal.specs.declared.halves.Half.{Half}
use Rattle.gate_journal.specs.Batches.{may_follow, Stands as StandsIn}
use Rattle.gate_journal.specs.Journal.{Journal}
use Rattle.gate_journal.specs.Halves.{journal_of, MayFollow}
use Rattle.atomic_volume.specs.Opening.{Contents, put_on}
use Rattle.atomic_volume.specs.Held.{contents_by}
use Rattle.image_model.specs.Fields.{block_place}
use Rattle.image_model.specs.Volumes as volumes
use Rattle.image_model.specs.Volumes.{Volume, volume_of, metadata}
use Rattle.image_model.specs.Reading.{IsWhole}
use Rattle.image_model.specs.Checks.{is_last}
use Rattle.image_model.specs.Changes.{with_records}
use Rattle.image_model.specs.ChangeLaws.{AreBesideSame}
use Rattle.tree_model.specs.declared.rows.Entry.{Entry}
use Rattle.tree_model.specs.Rows.{Rows}
use Rattle.tree_model.specs.Picture.{picture}
use Rattle.carried_volumes.specs.Carried.{Carried}
use Rattle.batch_ranges.specs.Ranges.{ranges_by, metadata_after, AreSome}
use Rattle.batch_ranges.specs.Laws.{with_ranges, numbered}
use Rattle.front_laws.specs.Batches.{batch_at}
use Rattle.front_laws.specs.Kept.{IsKept}
use Rattle.front_laws.specs.Logging.{metadata_size}
use Rattle.front_laws.specs.Laws.{record_size}
use Rattle.front_laws.proofs.BatchActs.{batches_act}
use Rattle.tree_cuts.specs.Calls.{Sizes}
use Rattle.front_core.specs.Fronts.{Fronted, seals_of}
use Rattle.recovery.specs.Recovering.{volume_in, picture_shown}
use Rattle.recovery.proofs.Carried.{carried_trees_are_shown}
use Rattle.ccfs_top.specs.Runs.{further}
use Rattle.ccfs_top.specs.JournalSpace.{recs_at, next_batch}
use Rattle.ccfs_top.specs.Sessions.{Settled, Shows, cut_tree}
use Rattle.carried_volumes.proofs.Standing.{carried_volumes_stand}
use Rattle.front_laws.proofs.CarryOn.{batches_carry_on}
use Rattle.batch_ranges.proofs.Putting.{ranges_put_records}
use Rattle.batch_ranges.proofs.Numbering.{numbers_are_beside}

-- ---- numbers

-- the number behind that of so many batches
pub next_number : (first k : ℕ) → ((first + k) % 2 ^ 64 + 1) % 2 ^ 64 ≡ further first (k + 1)
next_number first k = omega arith

pub further_small : (first k : ℕ) → further first k < 2 ^ 64
further_small first k = omega arith

-- the number behind the last may follow it
may_be_next : (last : Option ℕ) (k n : ℕ) → k < 2 ^ 64 → is_last last k ≡ true → n ≡ further k 1 → may_follow last n ≡ true
may_be_next None k n small is next = refl
may_be_next (Some l) k n small is next = follows l n (next ∙ ap (λ (z : ℕ). further z 1) (sym (eqb-true l k is))) (let same = eqb-true l k is in omega (arith, same, small))
  where
    follows : (l n : ℕ) → n ≡ further l 1 → l < 2 ^ 64 → may_follow (Some l) n ≡ true
    follows l n next small = grind (arith, nat_tests)

-- so may the next batch
pub may_follow_on : (size : ℕ) (j : Journal) (b : Batch) (first k : ℕ) → is_last j.last (further first k) ≡ true → b.number ≡ further first (k + 1) → All (StandsIn size) b.ranges → MayFollow size j b
may_follow_on size j b first k is next stand = record {
  ranges = stand;
  number = may_be_next j.last (further first k) b.number (further_small first k) is (next ∙ omega arith);
}

-- ---- the metadata

-- the metadata has its size
pub metadata_long : (g : Geometry) (bytes : List ℕ) → IsWhole g bytes → length (metadata (volume_of g bytes)) ≡ metadata_size g.inodes
metadata_long g bytes whole =
    let cut = length-take (block_place (data_start g.inodes)) bytes in
    let first = g.first_data_place in
    let end = g.data_to_the_end in
    cut ∙ omega (arith, whole, first, end)

-- ---- what a volume shows

-- contents that carry the tree of a cut show it
pub contents_show : (contents : Contents) (t : Rows) (inodes : List ℕ) (n : ℕ) → Carried (volume_in contents) t inodes → volumes.number (volume_in contents) ≡ n → is_last contents.last n ≡ true
    → picture_shown contents ≡ Some (n, picture t)
contents_show contents t inodes n carried number last =
    let stands = carried_volumes_stand (volume_in contents) t inodes carried in
    carried_trees_are_shown contents t inodes stands.0 stands.1 carried.plain.tree (ap (is_last contents.last) number ∙ last)
    ∙ ap (λ (z : ℕ). Some (z, picture t)) number

pub settled_shows : (g : Geometry) (half : Half) (bytes at_hand : List ℕ) (front : Fronted) (first k : ℕ) → Settled g bytes at_hand front first k → is_last (journal_of half).last (further first k) ≡ true
    → Shows g half bytes (further first k) (picture (cut_tree front k))
settled_shows g half bytes at_hand front first k settled last =
    contents_show (contents_by g half bytes) (cut_tree front k) front.inodes (further first k) settled.carried settled.number last

-- ---- the next batch

-- the batch of its records, under its number, is the next one
pub is_next : (at_hand : List ℕ) (front : Fronted) (first k : ℕ) (b : Batch) (recs : List Rec) (number : ℕ) → recs ≡ recs_at front k → number ≡ further first (k + 1)
    → b.number ≡ number → b.ranges ≡ ranges_by at_hand recs number → b ≡ next_batch at_hand front first k
is_next at_hand front first k b recs number same next named ranges =
    ap (λ (z : ℕ). record { number = z; ranges = b.ranges }) (named ∙ next)
    ∙ ap (λ (z : List Range). record { number = further first (k + 1); ranges = z }) (ranges ∙ ap (λ (z : List Rec). ranges_by at_hand z number) same ∙ ap (ranges_by at_hand (recs_at front k)) next)

-- and the metadata with it
pub hand_after : (at_hand hand : List ℕ) (front : Fronted) (first k : ℕ) (recs : List Rec) (number : ℕ) → recs ≡ recs_at front k → number ≡ further first (k + 1)
    → hand ≡ metadata_after at_hand recs number → hand ≡ metadata_after at_hand (recs_at front k) (further first (k + 1))
hand_after at_hand hand front first k recs number same next after =
    after ∙ ap (λ (z : List Rec). metadata_after at_hand z number) same ∙ ap (metadata_after at_hand (recs_at front k)) next

module _ (g : Geometry) (bytes at_hand : List ℕ) (front : Fronted) (first k : ℕ) (settled : Settled g bytes at_hand front first k)
    (kept : IsKept front.sizes front.opening front.inodes front.entries) (more : k < seals_of front) where
  same_inodes : g.inodes ≡ front.sizes.inodes
  same_inodes = ap (λ z. z.inodes) (sym settled.sizes)

  whole : IsWhole g bytes
  whole = settled.carried.sized.long

  carried_on : Carried (with_records (volume_of g bytes) (recs_at front k)) (cut_tree front (suc k)) front.inodes
      × AreBesideSame (volume_of g bytes) (with_records (volume_of g bytes) (recs_at front k))
      × AreInside (metadata_size front.sizes.inodes) (recs_at front k)
  carried_on = batches_carry_on front.sizes front.opening front.inodes front.entries k (volume_of g bytes) kept more same_inodes settled.carried

  long : length (metadata (volume_of g bytes)) ≡ metadata_size front.sizes.inodes
  long = metadata_long g bytes whole ∙ ap metadata_size same_inodes

  inside : AreInside (length (metadata (volume_of g bytes))) (recs_at front k)
  inside = subst (λ (z : ℕ). AreInside z (recs_at front k)) (sym long) carried_on.2

  -- its records lie in the metadata at hand
  pub recs_inside : AreInside (length at_hand) (recs_at front k)
  recs_inside = subst (λ (z : List ℕ). AreInside (length z) (recs_at front k)) (sym settled.copied) inside

  pub hand_enough : length at_hand ≤ length bytes
  hand_enough = let cut = length-take (block_place (data_start g.inodes)) bytes in let same = ap length settled.copied in omega (arith, cut, same)

  pub hand_some : 8 ≤ length at_hand
  hand_some =
      let size = ap length settled.copied ∙ metadata_long g bytes whole in
      let least = g.least_inodes in
      omega (arith, size, least)

  pub put_is : (with_ranges (volume_of g bytes) (ranges_by (metadata (volume_of g bytes)) (recs_at front k) (further first (k + 1))) ≡ numbered (further first (k + 1)) (with_records (volume_of g bytes) (recs_at front k)))
      × (metadata (numbered (further first (k + 1)) (with_records (volume_of g bytes) (recs_at front k))) ≡ metadata_after (metadata (volume_of g bytes)) (recs_at front k) (further first (k + 1)))
  put_is = ranges_put_records (volume_of g bytes) (recs_at front k) (further first (k + 1)) settled.carried.sized inside

  numbered_on : Carried (numbered (further first (k + 1)) (with_records (volume_of g bytes) (recs_at front k))) (cut_tree front (suc k)) front.inodes
      × (volumes.number (numbered (further first (k + 1)) (with_records (volume_of g bytes) (recs_at front k))) ≡ further first (k + 1))
  numbered_on = numbers_are_beside (with_records (volume_of g bytes) (recs_at front k)) (cut_tree front (suc k)) front.inodes (further first (k + 1)) (further_small first (k + 1)) carried_on.0

  module _ (ranges : List Range) (hand : List ℕ) (is : ranges ≡ ranges_by at_hand (recs_at front k) (further first (k + 1))) (hand_is : hand ≡ metadata_after at_hand (recs_at front k) (further first (k + 1))) where
    volume_is : with_ranges (volume_of g bytes) ranges ≡ numbered (further first (k + 1)) (with_records (volume_of g bytes) (recs_at front k))
    volume_is = ap (with_ranges (volume_of g bytes)) (is ∙ ap (λ (z : List ℕ). ranges_by z (recs_at front k) (further first (k + 1))) settled.copied) ∙ put_is.0

    -- it carries the tree of the next cut
    pub settled_on : Settled g (put_on bytes ranges) hand front first (k + 1)
    settled_on =
        let one : suc k ≡ k + 1 = omega arith in
        let there : Carried (with_ranges (volume_of g bytes) ranges) (cut_tree front (suc k)) front.inodes = subst (λ (z : Volume). Carried z (cut_tree front (suc k)) front.inodes) (sym volume_is) numbered_on.0 in
        record {
          sizes = settled.sizes;
          carried = subst (λ (z : ℕ). Carried (volume_of g (put_on bytes ranges)) (cut_tree front z) front.inodes) one there;
          copied = hand_is ∙ ap (λ (z : List ℕ). metadata_after z (recs_at front k) (further first (k + 1))) settled.copied ∙ sym put_is.1 ∙ ap metadata (sym volume_is);
          number = ap volumes.number volume_is ∙ numbered_on.1;
          few = omega (arith, more);
        }

-- the same of a volume with these bytes
pub settled_at : (g g' : Geometry) (bytes bytes' at_hand : List ℕ) (front front' : Fronted) (first first' k k' : ℕ) → g' ≡ g → bytes' ≡ bytes → front' ≡ front → first' ≡ first → k' ≡ k
    → Settled g bytes at_hand front first k → Settled g' bytes' at_hand front' first' k'
settled_at g g' bytes bytes' at_hand front front' first first' k k' sizes put same opening written settled =
    subst (λ (z : Geometry). Settled z bytes' at_hand front' first' k') (sym sizes)
    (subst (λ (z : List ℕ). Settled g z at_hand front' first' k') (sym put)
    (subst (λ (z : Fronted). Settled g bytes at_hand z first' k') (sym same)
    (subst (λ (z : ℕ). Settled g bytes at_hand front z k') (sym opening)
    (subst (λ (z : ℕ). Settled g bytes at_hand front first z) (sym written) settled))))

-- ---- the records act somewhere

some_of : (log : List Rec) → AllByRecursion (λ rec. 13 ≤ record_size rec) log → AreSome log
some_of [] p = tt
some_of (recs.Range off bytes ∷ log) p = let long = p.0 in (omega (arith, long), some_of log p.1)
some_of (recs.Add off by ∷ log) p = (omega arith, some_of log p.1)
some_of (recs.Bit off bit on ∷ log) p = (omega arith, some_of log p.1)

pub recs_some : (sizes : Sizes) (t : Rows) (inodes : List ℕ) (h : List Entry) (k : ℕ) → IsKept sizes t inodes h → AreSome (batch_at sizes t inodes h k).recs
recs_some sizes t inodes h k kept = some_of (batch_at sizes t inodes h k).recs (batches_act sizes t inodes h k kept)
