-- What a crash leaves on a session's way.
use Rattle.std.proofs.Common.{◌≡◌, inl, ⊎_elim, ℕ, ◌+◌, ◌≤◌, List, refl, ap, ◌∙◌, arith}
use Rattle.std.specs.declared.option.Option.TheVariants.{Some}
use Rattle.disk_model.specs.declared.disk.Disk.{Ghosts}
use Rattle.disk_model.proofs.Runs.{elapses_start, elapses_join, each_join}
use Rattle.block_layout.specs.declared.geometry.Geometry.{Geometry}
use Rattle.gate_journal.specs.declared.batches.Batch.{Batch}
use Rattle.gate_journal.specs.declared.halves.Half.{Half}
use Rattle.gate_journal.specs.Runs.{LeavesBy}
use Rattle.atomic_volume.specs.Opening.{Contents}
use Rattle.atomic_volume.specs.Held.{contents_by, ReadsAs}
use Rattle.atomic_volume.specs.Commits.{committed, AllOrNothing}
use Rattle.atomic_volume.specs.Homing.{at_home, IsMoved}
use Rattle.recovery.specs.Recovering.{picture_shown}
use Rattle.tree_model.specs.Picture.{picture}
use Rattle.front_core.specs.Fronts.{Fronted}
use Rattle.ccfs_top.specs.Runs.{further}
use Rattle.ccfs_top.specs.Sessions.{Shows, ShowsOneOf, cut_tree}
use Rattle.ccfs_top.proofs.Viewing.{shows_to}

-- ---- runs

pub leaves_join : {X : Type 0} (d : Ghosts X) (a b c : X) (P : List ℕ → Type 0) → LeavesBy d a b P → LeavesBy d b c P → LeavesBy d a c P
leaves_join d a b c P first second = record {
  time = elapses_join first.time second.time;
  each = each_join P first.time second.time first.each second.each;
}

pub leaves_wider : {X : Type 0} (d : Ghosts X) (a b : X) (P Q : List ℕ → Type 0) → ((c : List ℕ) → P c → Q c) → LeavesBy d a b P → LeavesBy d a b Q
leaves_wider d a b P Q so run = record { time = run.time; each = λ c left. so c (run.each c left) }

-- where nothing is done
pub stays_moved : {X : Type 0} (d : Ghosts X) (x : X) (contents : Contents) → ((s t : ℕ) (c : List ℕ) → s ≤ t → d.left_since x t c → d.left_since x s c) → ((c : List ℕ) → d.left_since x (d.moment x) c → d.may_leave x c)
    → LeavesBy d x x (IsMoved contents (d.may_leave x))
stays_moved d x contents earlier only_now = record {
  time = elapses_start d.moment d.left_since x earlier;
  each = λ c left. inl (c, only_now c left, refl);
}

-- ---- images that show a cut

-- a cut that lies between others
pub one_of_more : (front : Fronted) (first l m least most : ℕ) (c : List ℕ) → least ≤ l → m ≤ most → ShowsOneOf front first l m c → ShowsOneOf front first least most c
one_of_more front first l m least most c low high shows = let p = shows.enough in let q = shows.few in record { cut = shows.cut; enough = omega (arith, low, p); few = omega (arith, high, q); shows = shows.shows }

-- ---- what is left, where each image at the start was that of a volume which shows a cut

module _ {X : Type 0} (d : Ghosts X) (g : Geometry) (h : Half) (bytes : List ℕ) (front : Fronted) (first k : ℕ) (shows : Shows g h bytes (further first k) (picture (cut_tree front k)))
    (x : X) (sound : (c : List ℕ) → d.may_leave x c → ReadsAs g h bytes c) where
  held_cut : (least most : ℕ) (c : List ℕ) → least ≤ k → k ≤ most → d.may_leave x c → ShowsOneOf front first least most c
  held_cut least most c low high left = record { cut = k; enough = low; few = high; shows = shows_to c (contents_by g h bytes) (further first k, picture (cut_tree front k)) (sound c left).opens shows }

  -- where nothing is done, that cut
  pub stays_shown : (least most : ℕ) → least ≤ k → k ≤ most → ((s t : ℕ) (c : List ℕ) → s ≤ t → d.left_since x t c → d.left_since x s c) → ((c : List ℕ) → d.left_since x (d.moment x) c → d.may_leave x c)
      → LeavesBy d x x (ShowsOneOf front first least most)
  stays_shown least most low high earlier only_now = record {
    time = elapses_start d.moment d.left_since x earlier;
    each = λ c left. held_cut least most c low high (only_now c left);
  }

  -- where a checkpoint is done, or a part of it, that cut
  pub moved_shown : (y : X) (least most : ℕ) → least ≤ k → k ≤ most → picture_shown (at_home (contents_by g h bytes)) ≡ Some (further first k, picture (cut_tree front k))
      → LeavesBy d x y (IsMoved (contents_by g h bytes) (d.may_leave x)) → LeavesBy d x y (ShowsOneOf front first least most)
  moved_shown y least most low high home way = record {
    time = way.time;
    each = λ c left. record {
      cut = k;
      enough = low;
      few = high;
      shows = ⊎_elim
          (λ was. shows_to c (contents_by g h bytes) (further first k, picture (cut_tree front k)) (was.2 ∙ (sound was.0 was.1).opens) shows)
          (λ moved. shows_to c (at_home (contents_by g h bytes)) (further first k, picture (cut_tree front k)) moved home)
          (way.each c left);
    };
  }

  -- where a commit is done, or a part of it, that cut or the next one
  pub commit_shown : (y : X) (b : Batch) → picture_shown (committed (contents_by g h bytes) b) ≡ Some (further first (k + 1), picture (cut_tree front (k + 1)))
      → LeavesBy d x y (AllOrNothing (contents_by g h bytes) b (d.may_leave x)) → LeavesBy d x y (ShowsOneOf front first k (k + 1))
  commit_shown y b then way = record {
    time = way.time;
    each = λ c left. ⊎_elim
        (λ was. record {
          cut = k;
          enough = omega arith;
          few = omega arith;
          shows = shows_to c (contents_by g h bytes) (further first k, picture (cut_tree front k)) (was.2 ∙ (sound was.0 was.1).opens) shows;
        })
        (λ is. record {
          cut = k + 1;
          enough = omega arith;
          few = omega arith;
          shows = shows_to c (committed (contents_by g h bytes) b) (further first (k + 1), picture (cut_tree front (k + 1))) is then;
        })
        (way.each c left);
  }
