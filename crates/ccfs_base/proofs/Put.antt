-- Parts of bytes, and bytes with others put on them.
use Rattle.std.proofs.Common.{◌≡◌, ℕ, zero, suc, ◌+◌, ◌<◌, ◌≤◌, List, [], ◌∷◌, length, get_or, set, drop, refl, sym, ◌∙◌, arith}
use Rattle.std.proofs.lemmas.List.{length-set, length-take, length-drop, get_or-set_same, get_or-set_other, get_or-take, get_or-drop, same_lists, ext_get_or}
use Rattle.ccfs_base.specs.Places.{part, put}

pub length-put : (new bytes : List ℕ) (from : ℕ) → length (put bytes from new) ≡ length bytes
length-put [] bytes from = refl
length-put (b ∷ new) bytes from = length-put new (set bytes from b) (from + 1) ∙ length-set bytes from b

pub length-part : (from size : ℕ) (bytes : List ℕ) → from + size ≤ length bytes → length (part from size bytes) ≡ size
length-part from size bytes h = omega (arith, length-take size (drop from bytes), length-drop from bytes)

pub get_or-part : (from size : ℕ) (bytes : List ℕ) (i d : ℕ) → i < size → get_or (part from size bytes) i d ≡ get_or bytes (from + i) d
get_or-part from size bytes i d h = rw (get_or-take size (drop from bytes) i d h) (get_or-drop from bytes i d)

-- a byte outside the range stays
pub get_or-put_out : (new bytes : List ℕ) (from i d : ℕ) → (from ≤ i → i < from + length new → ⊥) → get_or (put bytes from new) i d ≡ get_or bytes i d
get_or-put_out [] bytes from i d h = refl
get_or-put_out (b ∷ new) bytes from i d h =
    get_or-put_out new (set bytes from b) (from + 1) i d (λ a c. h (omega arith) (omega arith))
    ∙ get_or-set_other bytes from i b d (λ e. h (omega arith) (omega arith))

-- a byte in the range is the one that was put there
pub get_or-put_in : (new bytes : List ℕ) (from k d : ℕ) → k < length new → from + length new ≤ length bytes → get_or (put bytes from new) (from + k) d ≡ get_or new k d
get_or-put_in [] bytes from k d h l = absurd (omega arith)
get_or-put_in (b ∷ new) bytes from zero d h l =
    let e : from + 0 ≡ from = omega arith in
    rw e (get_or-put_out new (set bytes from b) (from + 1) from d (λ a c. omega arith) ∙ get_or-set_same bytes from b d (omega arith))
get_or-put_in (b ∷ new) bytes from (suc k) d h l =
    let e : from + suc k ≡ (from + 1) + k = omega arith in
    rw e (get_or-put_in new (set bytes from b) (from + 1) k d (omega arith) (omega (arith, length-set bytes from b)))

-- what was put is read back
pub part_put : (new bytes : List ℕ) (from size : ℕ) → size ≡ length new → from + size ≤ length bytes → part from size (put bytes from new) ≡ new
part_put new bytes from size e h =
    let k : length (part from size (put bytes from new)) ≡ length new = omega (arith, length-part from size (put bytes from new) (omega (arith, length-put new bytes from))) in
    ext_get_or 0 (part from size (put bytes from new)) new k
    (λ i l. get_or-part from size (put bytes from new) i 0 (omega arith) ∙ get_or-put_in new bytes from i 0 (omega arith) (omega arith))

-- a part that shares no byte with it is as before
pub part_put_apart : (new bytes : List ℕ) (from at size : ℕ) → ((x : ℕ) → from ≤ x → x < from + length new → at ≤ x → x < at + size → ⊥)
    → part at size (put bytes from new) ≡ part at size bytes
part_put_apart new bytes from at size h =
    same_lists (part at size (put bytes from new)) (part at size bytes)
    (omega (arith, length-take size (drop at (put bytes from new)), length-take size (drop at bytes), length-drop at bytes, length-drop at (put bytes from new), length-put new bytes from))
    (λ k d l. let m : k < size = omega (arith, length-take size (drop at (put bytes from new))) in
    get_or-part at size (put bytes from new) k d m
    ∙ get_or-put_out new bytes from (at + k) d (λ a b. h (at + k) a b (omega arith) (omega arith))
    ∙ sym (get_or-part at size bytes k d m))
