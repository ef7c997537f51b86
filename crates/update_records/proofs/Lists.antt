-- Records and changes one list behind the other.
use Rattle.std.proofs.Common.{◌≡◌, ℕ, List, [], ◌∷◌, ◌++◌, refl, sym, ap, ◌∙◌, append_assoc}
use Rattle.ccfs_base.specs.declared.records.Rec.{Rec}
use Rattle.ccfs_base.specs.Records.{recorded, all_recorded}
use Rattle.image_model.specs.Volumes.{Volume}
use Rattle.image_model.specs.Changes.{Change, records_of, all_records, changed, files_after, files_changed}

pub all_recorded_append : (bytes : List ℕ) (xs ys : List Rec) → all_recorded bytes (xs ++ ys) ≡ all_recorded (all_recorded bytes xs) ys
all_recorded_append bytes [] ys = refl
all_recorded_append bytes (x ∷ xs) ys = all_recorded_append (recorded bytes x) xs ys

pub all_records_append : (n : ℕ) (xs ys : List Change) → all_records n (xs ++ ys) ≡ all_records n xs ++ all_records n ys
all_records_append n [] ys = refl
all_records_append n (x ∷ xs) ys =
    ap (λ (l : List Rec). records_of n x ++ l) (all_records_append n xs ys) ∙ sym (append_assoc (records_of n x) (all_records n xs) (all_records n ys))

-- a volume after some changes and then others is that after all of them
pub changed_append : (v : Volume) (xs ys : List Change) → changed (changed v xs) ys ≡ changed v (xs ++ ys)
changed_append v xs ys =
    ap (λ (bytes : List ℕ). record v { bytes = bytes })
    (sym (all_recorded_append v.bytes (all_records v.inodes xs) (all_records v.inodes ys))
    ∙ ap (all_recorded v.bytes) (sym (all_records_append v.inodes xs ys)))

pub files_changed_append : (files : ℕ → List ℕ) (xs ys : List Change) → files_changed (files_changed files xs) ys ≡ files_changed files (xs ++ ys)
files_changed_append files [] ys = refl
files_changed_append files (x ∷ xs) ys = files_changed_append (files_after files x) xs ys
