-- Parts of bytes that are written over.
use Rattle.std.proofs.Common.{◌≡◌, ◌⊎◌, inl, inr, ⊎_elim, ℕ, ◌+◌, ◌-◌, ◌≤◌, ◌<◌, List, ◌++◌, length, get_or, set, take, drop, refl, sym, ◌∙◌, ap, arith, length-append}
use Rattle.std.proofs.lemmas.List.{ext_get_or, length-set, length-take-le, length-drop, get_or-take, get_or-drop, get_or-set_same, get_or-set_other, get_or_append_left, get_or-append_right}
use Rattle.disk_model.specs.Bytes.{part, patched, Torn}
use Rattle.disk_model.specs.Past.{length-patched}
use Rattle.disk_model.proofs.Places.{torn_place, part-patched, place-patched}

-- the length of a part within
pub length_part : (offset size : ℕ) (l : List ℕ) → offset + size ≤ length l → length (part offset size l) ≡ size
length_part offset size l inside = length-take-le size (drop offset l) (omega (arith, length-drop offset l, inside))

-- a place in a part
pub part_place : (offset size k : ℕ) (l : List ℕ) → k < size → get_or (part offset size l) k 0 ≡ get_or l (offset + k) 0
part_place offset size k l less = get_or-take size (drop offset l) k 0 less ∙ get_or-drop offset l k 0

in_front : (k u n : ℕ) → (k < u) ⊎ ((u ≤ k) × (k < u + n)) ⊎ (u + n ≤ k)
in_front k u n = grind arith

-- bytes put in a part of the whole stand in that part
pub part_of_patched : (offset size used : ℕ) (bytes l : List ℕ) → used + length bytes ≤ size → offset + size ≤ length l
    → part offset size (patched l (offset + used) bytes) ≡ take used (part offset size l) ++ (bytes ++ drop (used + length bytes) (part offset size l))
part_of_patched offset size used bytes l room inside =
    let n = length bytes in
    let left = part offset size (patched l (offset + used) bytes) in
    let right = take used (part offset size l) ++ (bytes ++ drop (used + n) (part offset size l)) in
    let long : length (patched l (offset + used) bytes) ≡ length l = length-patched l (offset + used) bytes (omega (arith, room, inside)) in
    let whole : length (part offset size l) ≡ size = length_part offset size l inside in
    let front : length (take used (part offset size l)) ≡ used = length-take-le used (part offset size l) (omega (arith, room, whole)) in
    let left_long : length left ≡ size = length_part offset size (patched l (offset + used) bytes) (omega (arith, long, inside)) in
    let right_long : length right ≡ size = omega (arith, length-append (take used (part offset size l)) (bytes ++ drop (used + n) (part offset size l)), length-append bytes (drop (used + n) (part offset size l)), length-drop (used + n) (part offset size l), whole, front, room) in
    ext_get_or 0 left right (left_long ∙ sym right_long) (λ k less.
    let within : k < size = omega (arith, left_long, less) in
    part_place offset size k (patched l (offset + used) bytes) within ∙ three offset size used bytes l room inside whole front k within (in_front k used n))
  where
    three : (offset size used : ℕ) (bytes l : List ℕ) → used + length bytes ≤ size → offset + size ≤ length l → length (part offset size l) ≡ size → length (take used (part offset size l)) ≡ used
        → (k : ℕ) → k < size → (k < used) ⊎ ((used ≤ k) × (k < used + length bytes)) ⊎ (used + length bytes ≤ k) → get_or (patched l (offset + used) bytes) (offset + k) 0 ≡ get_or (take used (part offset size l) ++ (bytes ++ drop (used + length bytes) (part offset size l))) k 0
    three offset size used bytes l room inside whole front k less (inl below) =
        place-patched l (offset + used) bytes (omega (arith, room, inside)) (offset + k) (inl (omega (arith, below)))
        ∙ sym (get_or_append_left (take used (part offset size l)) (bytes ++ drop (used + length bytes) (part offset size l)) 0 k (omega (arith, front, below)) ∙ get_or-take used (part offset size l) k 0 below ∙ part_place offset size k l less)
    three offset size used bytes l room inside whole front k less (inr (inl between)) =
        let n = length bytes in
        let at : offset + used + (k - used) ≡ offset + k = omega (arith, between.0) in
        ap (λ (i : ℕ). get_or (patched l (offset + used) bytes) i 0) (sym at) ∙ sym (part_place (offset + used) n (k - used) (patched l (offset + used) bytes) (omega (arith, between.0, between.1)))
        ∙ ap (λ (x : List ℕ). get_or x (k - used) 0) (part-patched l (offset + used) bytes (omega (arith, room, inside)))
        ∙ sym (get_or-append_right (take used (part offset size l)) (bytes ++ drop (used + n) (part offset size l)) used k 0 front between.0 ∙ get_or_append_left bytes (drop (used + n) (part offset size l)) 0 (k - used) (omega (arith, between.0, between.1)))
    three offset size used bytes l room inside whole front k less (inr (inr behind)) =
        let n = length bytes in
        let at : used + n + (k - used - n) ≡ k = omega (arith, behind) in
        place-patched l (offset + used) bytes (omega (arith, room, inside)) (offset + k) (inr (omega (arith, behind)))
        ∙ sym (get_or-append_right (take used (part offset size l)) (bytes ++ drop (used + n) (part offset size l)) used k 0 front (omega (arith, behind))
        ∙ get_or-append_right bytes (drop (used + n) (part offset size l)) n (k - used) 0 refl (omega (arith, behind))
        ∙ get_or-drop (used + n) (part offset size l) (k - used - n) 0 ∙ ap (λ (i : ℕ). get_or (part offset size l) i 0) at ∙ part_place offset size k l less)

-- a byte put in a part
pub part_of_byte : (offset size k : ℕ) (l c : List ℕ) → k < size → offset + size ≤ length l → Torn (offset + k) 1 l c
    → part offset size c ≡ set (part offset size l) k (get_or c (offset + k) 0)
part_of_byte offset size k l c less inside torn =
    let whole : length (part offset size l) ≡ size = length_part offset size l inside in
    let long : length (part offset size c) ≡ size = length_part offset size c (omega (arith, torn.same_length, inside)) in
    ext_get_or 0 (part offset size c) (set (part offset size l) k (get_or c (offset + k) 0)) (long ∙ sym (length-set (part offset size l) k (get_or c (offset + k) 0) ∙ whole)) (λ i lt.
    let within : i < size = omega (arith, long, lt) in
    part_place offset size i c within ∙ ⊎_elim
    (λ same. ap (λ (x : ℕ). get_or c (offset + x) 0) same ∙ sym (ap (λ (x : ℕ). get_or (set (part offset size l) k (get_or c (offset + k) 0)) x 0) same ∙ get_or-set_same (part offset size l) k (get_or c (offset + k) 0) 0 (omega (arith, whole, less))))
    (λ other. torn_place (offset + k) 1 l c torn (offset + i) (apart offset k i other)
    ∙ sym (get_or-set_other (part offset size l) k i (get_or c (offset + k) 0) 0 (λ is. ⊎_elim (λ lt1. omega (arith, is, lt1)) (λ lt1. omega (arith, is, lt1)) other) ∙ part_place offset size i l within))
    (same_or_not i k))
  where
    same_or_not : (i k : ℕ) → (i ≡ k) ⊎ ((i < k) ⊎ (k < i))
    same_or_not i k = grind arith

    apart : (offset k i : ℕ) → (i < k) ⊎ (k < i) → (offset + i < offset + k) ⊎ (offset + k + 1 ≤ offset + i)
    apart offset k i other = grind (arith, other)
