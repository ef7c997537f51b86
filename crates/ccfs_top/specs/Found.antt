-- What an opening finds on a disk.
use Rattle.std.specs.Prelude.{◌≡◌, Bool, false, List, ℕ}

-- The contents once the opening's first sync answered Ok: an image that a crash at the call's start may leave, and the
-- contents at the start where the disk was in no doubt then.
pub record IsFound (may_leave : List ℕ → Type 0) (in_doubt : Bool) (seen : List ℕ) (found : List ℕ) : Type 0 where
  pub from_start : may_leave found
  pub as_seen : in_doubt ≡ false → found ≡ seen
