-- Runs of calls that only read.
use Rattle.std.proofs.Common.{◌≡◌, ◌≤◌, ⊎_elim, ℕ, List, false, ◌∙◌, refl}
use Rattle.disk_model.specs.Moments.{Elapses}
use Rattle.disk_model.specs.declared.disk.Disk.{Ghosts}
use Rattle.disk_model.proofs.Runs.{elapses_join, elapses_start}
use Rattle.gate_journal.specs.Runs.{Quiet}

-- no call at all
pub quiet_start : {X : Type 0} (d : Ghosts X) (x : X) → ((s t : ℕ) (c : List ℕ) → s ≤ t → d.left_since x t c → d.left_since x s c)
    → ((c : List ℕ) → d.left_since x (d.moment x) c → d.may_leave x c) → Quiet d x x
quiet_start d x earlier only_now = record {
  images = record { time = elapses_start d.moment d.left_since x earlier; each = only_now };
  contents = λ settled. refl;
  doubt = λ settled. settled;
}

-- one call that reads
pub quiet_one : {X : Type 0} (d : Ghosts X) (old new : X) → Elapses (d.moment old) (d.moment new) (d.left_since old) (d.left_since new)
    → ((c : List ℕ) → d.left_since new (d.moment old) c → d.may_leave old c)
    → (d.in_doubt old ≡ false → d.seen new ≡ d.seen old) → (d.in_doubt old ≡ false → d.in_doubt new ≡ false) → Quiet d old new
quiet_one d old new time crash contents doubt = record {
  images = record { time = time; each = crash };
  contents = contents;
  doubt = doubt;
}

-- a run behind another: an image that a crash between them may leave is one that was left since the start
pub quiet_then : {X : Type 0} (d : Ghosts X) (old mid new : X) → ((t : ℕ) (c : List ℕ) → t ≤ d.moment mid → d.may_leave mid c → d.left_since mid t c)
    → Quiet d old mid → Quiet d mid new → Quiet d old new
quiet_then d old mid new counts_now first second = record {
  images = record {
    time = elapses_join first.images.time second.images.time;
    each = λ c left. ⊎_elim (first.images.each c)
        (λ since_mid. first.images.each c (counts_now (d.moment old) c first.images.time.later (second.images.each c since_mid)))
        (second.images.time.nothing_else (d.moment old) c first.images.time.later left);
  };
  contents = λ settled. second.contents (first.doubt settled) ∙ first.contents settled;
  doubt = λ settled. second.doubt (first.doubt settled);
}
