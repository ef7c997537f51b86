-- What is left on the way of a commit, where a checkpoint makes room first or none is needed.
use Rattle.std.proofs.Common.{◌≡◌, ℕ, ◌+◌, ◌<◌, ◌≤◌, true, List, refl, ◌∙◌, ap, arith}
use Rattle.std.proofs.lemmas.Bool.{eq-eqb}
use Rattle.disk_model.specs.declared.disk.Disk.{Ghosts}
use Rattle.block_layout.specs.declared.geometry.Geometry.{Geometry}
use Rattle.gate_journal.specs.declared.batches.Batch.{Batch}
use Rattle.gate_journal.specs.declared.halves.Half.{Half}
use Rattle.gate_journal.specs.Journal.{Journal}
use Rattle.gate_journal.specs.Halves.{journal_of}
use Rattle.gate_journal.specs.Runs.{LeavesBy}
use Rattle.atomic_volume.specs.Opening.{put_on}
use Rattle.atomic_volume.specs.Held.{contents_by, ReadsAs}
use Rattle.atomic_volume.specs.Commits.{committed, AllOrNothing}
use Rattle.atomic_volume.specs.Homing.{at_home, IsMoved}
use Rattle.image_model.specs.Checks.{is_last}
use Rattle.batch_ranges.specs.Ranges.{metadata_after}
use Rattle.front_laws.specs.Kept.{IsKept}
use Rattle.front_core.specs.Fronts.{Fronted, seals_of}
use Rattle.ccfs_top.specs.Runs.{further}
use Rattle.ccfs_top.specs.JournalSpace.{recs_at, next_batch, journal_for}
use Rattle.ccfs_top.specs.Sessions.{Settled, ShowsOneOf, cut_tree}
use Rattle.ccfs_top.proofs.JournalSpaces.{last_for}
use Rattle.ccfs_top.proofs.Committing.{settled_shows, settled_on, settled_at, contents_show}
use Rattle.ccfs_top.proofs.Leaving.{leaves_join, stays_shown, moved_shown, commit_shown}

-- A session's volume is settled after so many batches, and each image that a crash may leave is held by it.
pub record Stands {X : Type 0} (d : Ghosts X) (x : X) (g : Geometry) (half : Half) (bytes at_hand : List ℕ) (front : Fronted) (first k : ℕ) : Type 0 where
  pub settled : Settled g bytes at_hand front first k
  pub last : is_last (journal_of half).last (further first k) ≡ true
  pub sound : (c : List ℕ) → d.may_leave x c → ReadsAs g half bytes c

module _ {X : Type 0} (d : Ghosts X) (x : X) (g : Geometry) (half : Half) (bytes at_hand : List ℕ) (front : Fronted) (first k : ℕ) (s : Stands d x g half bytes at_hand front first k) where
  -- where nothing is done, its cut
  pub still_shown : ((s t : ℕ) (c : List ℕ) → s ≤ t → d.left_since x t c → d.left_since x s c) → ((c : List ℕ) → d.left_since x (d.moment x) c → d.may_leave x c)
      → LeavesBy d x x (ShowsOneOf front first k (k + 1))
  still_shown earlier only_now =
      stays_shown d g half bytes front first k (settled_shows g half bytes at_hand front first k s.settled s.last) x s.sound k (k + 1) (omega arith) (omega arith) earlier only_now

  -- where a checkpoint is done, or a part of it, its cut, too: at home the tree is the same, and no last number speaks against it
  pub room_shown : (y : X) → LeavesBy d x y (IsMoved (contents_by g half bytes) (d.may_leave x)) → LeavesBy d x y (ShowsOneOf front first k (k + 1))
  room_shown y way =
      moved_shown d g half bytes front first k (settled_shows g half bytes at_hand front first k s.settled s.last) x s.sound y k (k + 1) (omega arith) (omega arith)
      (contents_show (at_home (contents_by g half bytes)) (cut_tree front k) front.inodes (further first k) s.settled.carried s.settled.number refl) way

  -- where a batch is committed, or a part of it, its cut or the next one
  pub batch_shown : (y : X) (b : Batch) (hand : List ℕ) → Settled g (put_on bytes b.ranges) hand front first (k + 1) → b.number ≡ further first (k + 1)
      → LeavesBy d x y (AllOrNothing (contents_by g half bytes) b (d.may_leave x)) → LeavesBy d x y (ShowsOneOf front first k (k + 1))
  batch_shown y b hand on number way =
      commit_shown d g half bytes front first k (settled_shows g half bytes at_hand front first k s.settled s.last) x s.sound y b
      (contents_show (committed (contents_by g half bytes) b) (cut_tree front (k + 1)) front.inodes (further first (k + 1)) on.carried on.number (eq-eqb b.number (further first (k + 1)) number))
      way

-- where room is made, and then the next batch is committed, or a part of it
pub commit_left : {X : Type 0} (d : Ghosts X) (x m y : X) (g g' : Geometry) (half half' : Half) (bytes bytes' at_hand hand : List ℕ) (front : Fronted) (first k size : ℕ) (b : Batch)
    → Stands d x g half bytes at_hand front first k → IsKept front.sizes front.opening front.inodes front.entries → k < seals_of front
    → g' ≡ g → bytes' ≡ bytes → journal_of half' ≡ journal_for (journal_of half) size → ((c : List ℕ) → d.may_leave m c → ReadsAs g' half' bytes' c)
    → b ≡ next_batch at_hand front first k → hand ≡ metadata_after at_hand (recs_at front k) (further first (k + 1))
    → LeavesBy d x m (IsMoved (contents_by g half bytes) (d.may_leave x)) → LeavesBy d m y (AllOrNothing (contents_by g' half' bytes') b (d.may_leave m)) → LeavesBy d x y (ShowsOneOf front first k (k + 1))
commit_left d x m y g g' half half' bytes bytes' at_hand hand front first k size b s kept more same_g same roomy sound next after moved way =
    let there = settled_at g g' bytes bytes' at_hand front front first first k k same_g same refl refl refl s.settled in
    let last : is_last (journal_of half').last (further first k) ≡ true =
    ap (λ (j : Journal). is_last j.last (further first k)) roomy ∙ last_for (journal_of half) size (further first k) s.last in
    let on = settled_on g' bytes' at_hand front first k there kept more b.ranges hand (ap (λ (z : Batch). z.ranges) next) after in
    leaves_join d x m y (ShowsOneOf front first k (k + 1)) (room_shown d x g half bytes at_hand front first k s m moved)
    (batch_shown d m g' half' bytes' at_hand front first k (record { settled = there; last = last; sound = sound }) y b hand on (ap (λ (z : Batch). z.number) next) way)
