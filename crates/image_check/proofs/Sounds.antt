-- What is known of the table of a volume that passes all checks.
use Rattle.std.proofs.Common.{◌≡◌, ℕ}
use Rattle.std.specs.Prelude.{true, Option, None, List, []}
use Rattle.image_model.specs.Volumes.{Volume, table_of}
use Rattle.image_model.specs.Files.{is_file_at, file_bytes}
use Rattle.image_model.specs.Checks.{IsBare, first_failure, first_failure_for_now}
use Rattle.image_model.specs.Trees.{gone}
use Rattle.image_model.proofs.NoMore.{bare_is_no_more}
use Rattle.image_model.proofs.SoundTable.{IsSoundTable}
use Rattle.image_model.proofs.SoundVolumes.{sound_table, sound_beside_batches, bare_volumes_are_bare}

-- A volume that passes all checks for now.
pub record IsSound (v : Volume) : Type 0 where
  pub passes : first_failure None v ≡ None
  pub table : IsSoundTable (table_of v)
  pub bare : IsBare (table_of v)
  pub gone : (files : ℕ → List ℕ) → gone (table_of v) files ≡ []
  pub empty : (inode : ℕ) → is_file_at (table_of v) inode ≡ true → file_bytes v inode ≡ []

pub sound_of : (last : Option ℕ) (v : Volume) → first_failure_for_now last v ≡ None → IsSound v
sound_of last v none =
    let now = (bare_is_no_more last v).0 none in
    let beside : first_failure None v ≡ None = sound_beside_batches last v now.0 in
    let both = bare_volumes_are_bare v ((bare_is_no_more None v).1 (beside, now.1)) in
    record { passes = beside; table = sound_table v beside; bare = now.1; gone = both.0; empty = both.1 }
