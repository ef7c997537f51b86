-- The room that batches take, one after the other.
use Rattle.std.proofs.Common.{◌≡◌, ℕ, suc, ◌+◌, ◌-◌, ◌<◌, ◌≤◌, Bool, true, false, cond, List, length, refl, sym, ap, ◌∙◌, arith}
use Rattle.std.specs.List.{sum_by}
use Rattle.std.proofs.lemmas.Bool.Decides.{nat_tests}
use Rattle.ccfs_base.specs.declared.records.Rec.{Rec}
use Rattle.ccfs_base.specs.declared.records.Rec.TheVariants as recs
use Rattle.gate_journal.specs.declared.batches.Batch.{Batch}
use Rattle.gate_journal.specs.declared.halves.Half.{Half}
use Rattle.gate_journal.specs.Batches.{batch_bytes}
use Rattle.gate_journal.specs.Journal.{Journal}
use Rattle.gate_journal.specs.Halves.{journal_of, fits, MayFollow, with_batch}
use Rattle.gate_journal.specs.Loading.{empty}
use Rattle.image_model.specs.Volumes.{Volume}
use Rattle.image_model.specs.Checks.{is_last}
use Rattle.carried_volumes.specs.Carried.{Carried}
use Rattle.batch_ranges.specs.Ranges.{size_of, batch_size}
use Rattle.front_laws.specs.Kept.{IsKept}
use Rattle.front_laws.specs.Laws.{record_size}
use Rattle.front_core.specs.Fronts.{Fronted, seals_of}
use Rattle.ccfs_top.specs.JournalSpace.{recs_at, journal_for, SpaceUsed, space_used, used_by, taken_by, taken_from, size_at, HasTaken}
use Rattle.ccfs_top.specs.Sessions.{cut_tree}
use Rattle.front_laws.proofs.BatchSizes.{batches_have_their_size}
use Rattle.front_laws.proofs.Covers.{batches_are_covered}
use Rattle.front_laws.proofs.BatchLight.{batches_are_light}

-- ---- the bytes of a batch

record_takes : (rec : Rec) → 12 + size_of rec ≡ record_size rec
record_takes (recs.Range off bytes) = refl
record_takes (recs.Add off by) = refl
record_takes (recs.Bit off bit on) = refl

-- those of some records, as both count them
sized_alike : (all : List Rec) → batch_size all ≡ 36 + sum_by record_size all
sized_alike all =
    let same : ◌≡◌ {A = Rec → ℕ} (λ rec. 12 + size_of rec) record_size = λ i rec. record_takes rec i in
    ap (λ (f : Rec → ℕ). 36 + sum_by f all) same

-- the batch of a front's records has the bytes that are counted for its updates
pub size_is : (front : Fronted) (k : ℕ) → IsKept front.sizes front.opening front.inodes front.entries → batch_size (recs_at front k) ≡ size_at front k
size_is front k kept =
    sized_alike (recs_at front k) ∙ ap (λ (z : ℕ). 36 + z) (batches_have_their_size front.sizes front.opening front.inodes front.entries k kept)

-- it has no more than an empty half takes, over a volume that carries the tree before it
pub is_light : (front : Fronted) (k : ℕ) (v : Volume) → IsKept front.sizes front.opening front.inodes front.entries → k < seals_of front → Carried v (cut_tree front k) front.inodes
    → batch_size (recs_at front k) ≤ 262144
is_light front k v kept more carried =
    let same = sized_alike (recs_at front k) in
    let covered = batches_are_covered front.sizes front.opening front.inodes front.entries k v kept more carried in
    let light = batches_are_light front.sizes front.opening front.inodes front.entries k kept more in
    omega (arith, same, covered, light)

-- ---- the journal for a batch

-- where the batch fits, it is the journal at hand
pub stays_for : (j : Journal) (bytes : ℕ) → fits j bytes ≡ true → j ≡ journal_for j bytes
stays_for j bytes fit = ap (λ (b : Bool). cond b j empty) (sym fit)

-- else it is the empty one
pub emptied_for : (j j' : Journal) (bytes : ℕ) → fits j bytes ≡ false → j' ≡ empty → j' ≡ journal_for j bytes
emptied_for j j' bytes full is = is ∙ ap (λ (b : Bool). cond b j empty) (sym full)

-- a batch that isn't accepted doesn't fit, where it may follow
pub is_full : (size : ℕ) (j : Journal) (b : Batch) (accepted : Bool) → (fits j (length (batch_bytes b)) ≡ true → MayFollow size j b → accepted ≡ true) → MayFollow size j b
    → accepted ≡ false → fits j (length (batch_bytes b)) ≡ false
is_full size j b accepted exact follows not = either (fits j (length (batch_bytes b))) refl
  where
    either : (fit : Bool) → fits j (length (batch_bytes b)) ≡ fit → fits j (length (batch_bytes b)) ≡ false
    either true is = absurd (cc (exact is follows, not))
    either false is = is

empty_fits : (bytes : ℕ) → bytes ≤ 262144 → fits empty bytes ≡ true
empty_fits bytes light = grind (arith, nat_tests)

-- a batch that is light fits
pub fits_for : (j : Journal) (bytes : ℕ) → bytes ≤ 262144 → fits (journal_for j bytes) bytes ≡ true
fits_for j bytes light = either (fits j bytes) refl
  where
    either : (b : Bool) → fits j bytes ≡ b → fits (journal_for j bytes) bytes ≡ true
    either true is = ap (λ (z : Bool). fits (cond z j empty) bytes) is ∙ is
    either false is = ap (λ (z : Bool). fits (cond z j empty) bytes) is ∙ empty_fits bytes light

-- the last number may be this one there, too
pub last_for : (j : Journal) (bytes n : ℕ) → is_last j.last n ≡ true → is_last (journal_for j bytes).last n ≡ true
last_for j bytes n last = either (fits j bytes)
  where
    either : (b : Bool) → is_last (cond b j empty).last n ≡ true
    either true = last
    either false = refl

-- ---- what is taken

room_for : (j : Journal) (bytes : ℕ) (fit : Bool) → space_used (cond fit j empty) ≡ cond fit (space_used j) (space_used empty)
room_for j bytes true = refl
room_for j bytes false = refl

pub room_left : (j j' : Journal) (b : Batch) (bytes : ℕ) → j' ≡ with_batch (journal_for j (length (batch_bytes b))) b → length (batch_bytes b) ≡ bytes → space_used j' ≡ taken_by (space_used j) bytes
room_left j j' b bytes is long =
    ap space_used is ∙ ap (λ (z : SpaceUsed). used_by z (length (batch_bytes b))) (room_for j (length (batch_bytes b)) (fits j (length (batch_bytes b)))) ∙ ap (taken_by (space_used j)) long

-- no batch
pub none_taken : (front : Fronted) (k : ℕ) (h : Half) → HasTaken front k k h h
none_taken front k h =
    let none : k - k ≡ 0 = omega arith in
    ap (taken_from (space_used (journal_of h)) (size_at front) k) (sym none)

-- one batch more
pub one_taken : (front : Fronted) (k most : ℕ) (h mid new : Half) → k ≤ most → HasTaken front k most h mid → space_used (journal_of new) ≡ taken_by (space_used (journal_of mid)) (size_at front most)
    → HasTaken front k (most + 1) h new
one_taken front k most h mid new le so_far one =
    let more : most + 1 - k ≡ suc (most - k) = omega (arith, le) in
    let at : most ≡ k + (most - k) = omega (arith, le) in
    one ∙ ap (λ (z : SpaceUsed). taken_by z (size_at front most)) so_far
    ∙ ap (λ (z : ℕ). taken_by (taken_from (space_used (journal_of h)) (size_at front) k (most - k)) (size_at front z)) at
    ∙ ap (taken_from (space_used (journal_of h)) (size_at front) k) (sym more)
