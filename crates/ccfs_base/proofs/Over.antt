-- Bytes that are put over others at a place, as the code writes it.
use Rattle.std.proofs.Common.{◌≡◌, ℕ, ◌+◌, ◌≤◌, List, [], ◌∷◌, ◌++◌, length, set, take, drop, refl, sym, ◌∙◌, add-one}
use Rattle.std.proofs.lemmas.List.{append_assoc, drop-drop}
use Rattle.std.proofs.lemmas.List.Edits.{sets, sets-eq}
use borrow.Rule.Slice.PartMut.{put_mid}
use Rattle.ccfs_base.specs.Places.{put}

-- as the code writes it
put_sets : (new bytes : List ℕ) (from : ℕ) → put bytes from new ≡ sets bytes from new
put_sets [] bytes from = refl
put_sets (b ∷ new) bytes from = put_sets new (set bytes from b) (from + 1) ∙ rw add-one refl

put_is : (new bytes : List ℕ) (from : ℕ) → from + length new ≤ length bytes → put bytes from new ≡ take from bytes ++ (new ++ drop (from + length new) bytes)
put_is new bytes from h = put_sets new bytes from ∙ sets-eq new bytes from h ∙ append_assoc (take from bytes) new (drop (from + length new) bytes)

-- after `bytes[from..from + n].copy_from_slice(new)`
pub put_mid_is : (new bytes : List ℕ) (from n : ℕ) → n ≡ length new → from + length new ≤ length bytes → put_mid from n bytes new ≡ put bytes from new
put_mid_is new bytes from n e h = rw e (rw drop-drop (sym (put_is new bytes from h)))
