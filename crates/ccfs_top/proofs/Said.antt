-- A line that was written, or its front where the sink failed.
use Rattle.std.proofs.Common.{◌≡◌, inl, inr, ℕ, ◌<◌, List, ◌++◌, length, take, drop, Result, Ok, Err, OnOk, OnErr, refl, sym}
use Rattle.std.proofs.lemmas.List.{take-append-drop}
use Rattle.ccfs_top.specs.Ends.{IsSaid}

pub said : {T E : Type 0} (r : Result T E) (old new line : List ℕ) (failed : Type 0)
    → OnOk r (new ≡ old ++ line) → OnErr r ((n : ℕ) × (n < length line) × (new ≡ old ++ take n line)) → OnErr r failed
    → (s : List ℕ) × (new ≡ old ++ s) × IsSaid failed line s
said (Ok x) old new line failed ok err cause = (line, ok, inl refl)
said (Err e) old new line failed ok err cause = (take err.0 line, err.2, inr (cause, (drop err.0 line, sym (take-append-drop err.0 line))))
