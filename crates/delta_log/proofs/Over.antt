-- Bytes that are put over others, or beside them.
use Rattle.std.proofs.Common.{◌≡◌, ◌≢◌, ℕ, ◌+◌, ◌<◌, ◌≤◌, List, [], ◌∷◌, length, set, refl, sym, ap, ◌∙◌, arith}
use Rattle.std.proofs.lemmas.List.{set_comm, set-set}
use Rattle.ccfs_base.specs.Places.{put}

-- a byte outside the range may be set before or after
put-set : (new bytes : List ℕ) (from i b : ℕ) → (from ≤ i → i < from + length new → ⊥) → put (set bytes i b) from new ≡ set (put bytes from new) i b
put-set [] bytes from i b h = refl
put-set (a ∷ new) bytes from i b h =
    let n : i ≢ from = λ e. h (omega arith) (omega arith) in
    ap (λ (z : List ℕ). put z (from + 1) new) (set_comm bytes i from b a n)
    ∙ put-set new (set bytes from a) (from + 1) i b (λ p q. h (omega arith) (omega arith))

-- ranges that share no byte may be put in either order
pub put_comm : (more new bytes : List ℕ) (from at : ℕ) → ((x : ℕ) → from ≤ x → x < from + length new → at ≤ x → x < at + length more → ⊥)
    → put (put bytes from new) at more ≡ put (put bytes at more) from new
put_comm [] new bytes from at h = refl
put_comm (b ∷ more) new bytes from at h =
    ap (λ (z : List ℕ). put z (at + 1) more) (sym (put-set new bytes from at b (λ p q. h at p q (omega arith) (omega arith))))
    ∙ put_comm more new (set bytes at b) from (at + 1) (λ x p q r s. h x p q (omega arith) (omega arith))

-- of two ranges of one length at one place the later stays
pub put_put : (new more bytes : List ℕ) (from : ℕ) → length new ≡ length more → put (put bytes from new) from more ≡ put bytes from more
put_put [] [] bytes from e = refl
put_put [] (b ∷ more) bytes from e = absurd (omega arith)
put_put (a ∷ new) [] bytes from e = absurd (omega arith)
put_put (a ∷ new) (b ∷ more) bytes from e =
    ap (λ (z : List ℕ). put z (from + 1) more) (sym (put-set new (set bytes from a) (from + 1) from b (λ p q. omega arith)))
    ∙ put_put new more (set (set bytes from a) from b) (from + 1) (omega arith)
    ∙ ap (λ (z : List ℕ). put z (from + 1) more) (set-set bytes from a b)
