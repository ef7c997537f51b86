-- Reading places after writes.
use Rattle.std.proofs.Common.{◌≡◌, ◌⊎◌, inl, inr, ℕ, ◌+◌, ◌-◌, ◌≤◌, ◌<◌, List, ◌++◌, length, get_or, take, drop, refl, sym, ◌∙◌, ap, arith}
use Rattle.std.proofs.lemmas.List.{get_or-take, get_or-drop, drop-drop, take_at, drop_at, append_assoc, length-take-le, take-take, drop-take}
use Rattle.disk_model.specs.Bytes.{part, patched, Torn}
use Rattle.disk_model.specs.Past.{Torn-patched}

-- a place outside a torn range
pub torn_place : (offset n : ℕ) (old new : List ℕ) → Torn offset n old new → (k : ℕ) → (k < offset) ⊎ (offset + n ≤ k) → get_or new k 0 ≡ get_or old k 0
torn_place offset n old new torn k (inl below) = sym (get_or-take offset new k 0 below) ∙ ap (λ (l : List ℕ). get_or l k 0) torn.before ∙ get_or-take offset old k 0 below
torn_place offset n old new torn k (inr above) =
    let at : offset + n + (k - (offset + n)) ≡ k = omega arith in
    let new_at = get_or-drop (offset + n) new (k - (offset + n)) 0 in
    let old_at = get_or-drop (offset + n) old (k - (offset + n)) 0 in
    ap (λ (i : ℕ). get_or new i 0) (sym at) ∙ sym new_at ∙ ap (λ (l : List ℕ). get_or l (k - (offset + n)) 0) torn.after ∙ old_at ∙ ap (λ (i : ℕ). get_or old i 0) at

-- a part behind a torn range
pub torn_part_behind : (offset n a m : ℕ) (old new : List ℕ) → Torn offset n old new → offset + n ≤ a → part a m new ≡ part a m old
torn_part_behind offset n a m old new torn behind =
    let at : offset + n + (a - (offset + n)) ≡ a = omega arith in
    let split : (l : List ℕ) → drop a l ≡ drop (a - (offset + n)) (drop (offset + n) l) = λ l. ap (λ (i : ℕ). drop i l) (sym at) ∙ sym (drop-drop (a - (offset + n)) (offset + n) l) in
    ap (λ (l : List ℕ). take m l) (split new ∙ ap (λ (l : List ℕ). drop (a - (offset + n)) l) torn.after ∙ sym (split old))

-- a part before it
pub torn_part_before : (offset n a m : ℕ) (old new : List ℕ) → Torn offset n old new → a + m ≤ offset → part a m new ≡ part a m old
torn_part_before offset n a m old new torn before =
    let both : (l : List ℕ) → part a m l ≡ part a m (take offset l) = λ l. sym (drop-take a m l) ∙ ap (λ (x : List ℕ). drop a x) (sym (take-take (a + m) offset l before)) ∙ drop-take a m (take offset l) in
    both new ∙ ap (λ (l : List ℕ). part a m l) torn.before ∙ sym (both old)

-- the part that was written
pub part-patched : (old : List ℕ) (offset : ℕ) (bytes : List ℕ) → offset + length bytes ≤ length old → part offset (length bytes) (patched old offset bytes) ≡ bytes
part-patched old offset bytes inside =
    let front : length (take offset old) ≡ offset = length-take-le offset old (omega arith) in
    let whole : patched old offset bytes ≡ take offset old ++ (bytes ++ drop (offset + length bytes) old) = append_assoc (take offset old) bytes (drop (offset + length bytes) old) in
    ap (λ (l : List ℕ). part offset (length bytes) l) whole
    ∙ ap (λ (l : List ℕ). take (length bytes) l) (drop_at (take offset old) (bytes ++ drop (offset + length bytes) old) offset front)
    ∙ take_at bytes (drop (offset + length bytes) old) (length bytes) refl

pub place-patched : (old : List ℕ) (offset : ℕ) (bytes : List ℕ) → offset + length bytes ≤ length old → (k : ℕ) → (k < offset) ⊎ (offset + length bytes ≤ k) → get_or (patched old offset bytes) k 0 ≡ get_or old k 0
place-patched old offset bytes inside = torn_place offset (length bytes) old (patched old offset bytes) (Torn-patched old offset bytes inside)
