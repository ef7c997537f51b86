-- Ranges put on bytes, one after the other.
use Rattle.std.proofs.Common.{◌≡◌, ℕ, ◌+◌, ◌<◌, List, [], ◌∷◌, ◌++◌, length, get_or, take, refl, sym, ◌∙◌, ap}
use Rattle.std.proofs.lemmas.List.{take_more}
use Rattle.disk_model.specs.Bytes.{patched}
use Rattle.gate_journal.specs.declared.batches.Range.{Range}
use Rattle.atomic_volume.specs.Opening.{put_on}

-- more ranges behind others
pub put_on-append : (bytes : List ℕ) (xs ys : List Range) → put_on bytes (xs ++ ys) ≡ put_on (put_on bytes xs) ys
put_on-append bytes [] ys = refl
put_on-append bytes (r ∷ rs) ys = put_on-append (patched bytes r.off r.bytes) rs ys

-- one range more
pub put_on_more : (bytes : List ℕ) (rs : List Range) (i : ℕ) (r : Range) → i < length rs → r ≡ get_or rs i r → patched (put_on bytes (take i rs)) r.off r.bytes ≡ put_on bytes (take (i + 1) rs)
put_on_more bytes rs i r less is =
    sym (ap (put_on bytes) (take_more rs i r less) ∙ put_on-append bytes (take i rs) (get_or rs i r ∷ []) ∙ ap (λ (x : Range). patched (put_on bytes (take i rs)) x.off x.bytes) (sym is))
