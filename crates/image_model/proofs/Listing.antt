-- Lists of pointers that grow.
use Rattle.std.proofs.Common.{◌≡◌, ℕ, zero, suc, ◌+◌, ◌-◌, ◌<◌, ◌≤◌, min, List, [], ◌∷◌, ◌++◌, map, sym, ap, ◌∙◌, append_assoc, arith}
use Rattle.std.specs.Prelude.{true, false, cond}
use Rattle.std.specs.List.{range_with_len, flat_map}
use Rattle.std.proofs.lemmas.Bool.{lt-ltb, le-ltb}
use Rattle.std.proofs.lemmas.List.{append-nil, map-append, flat_map_more}
use Rattle.ccfs_base.specs.Limits.{pages}
use Rattle.image_model.specs.declared.pointer.Pointer.{Pointer}
use Rattle.image_model.specs.declared.pointer.Pointer.TheVariants.{Page, ToIndirect}
use Rattle.image_model.specs.Volumes.{Table}
use Rattle.image_model.specs.Files.{is_file_at, length_at, file_pointers, pointers_at}

pub range_more : (a n : ℕ) → range_with_len a (suc n) ≡ range_with_len a n ++ (a + n) ∷ []
range_more a zero = let e : a ≡ a + 0 = omega arith in ap (λ z. z ∷ []) e
range_more a (suc n) =
    let e : a + 1 + n ≡ a + suc n = omega arith in
    ap (λ z. a ∷ z) (range_more (a + 1) n ∙ ap (λ z. range_with_len (a + 1) n ++ z ∷ []) e)

pub no_pages : (xs : List Pointer) (inode from : ℕ) → xs ≡ xs ++ map (Page inode) (range_with_len from (from - from))
no_pages xs inode from =
    let e : from - from ≡ 0 = omega arith in
    sym (append-nil xs) ∙ sym (ap (λ n. xs ++ map (Page inode) (range_with_len from n)) e)

-- one page more
pub pages_more : (xs now : List Pointer) (inode from page : ℕ) → from ≤ page → now ≡ xs ++ map (Page inode) (range_with_len from (page - from))
    → now ++ Page inode page ∷ [] ≡ xs ++ map (Page inode) (range_with_len from (page + 1 - from))
pages_more xs now inode from page low is =
    let more : page + 1 - from ≡ suc (page - from) = omega arith in
    let last : from + (page - from) ≡ page = omega arith in
    ap (λ z. z ++ Page inode page ∷ []) is
    ∙ append_assoc xs (map (Page inode) (range_with_len from (page - from))) (Page inode page ∷ [])
    ∙ ap (λ z. xs ++ (map (Page inode) (range_with_len from (page - from)) ++ Page inode z ∷ [])) (sym last)
    ∙ ap (λ z. xs ++ z) (sym (map-append (Page inode) (range_with_len from (page - from)) ((from + (page - from)) ∷ [])))
    ∙ ap (λ z. xs ++ map (Page inode) z) (sym (range_more from (page - from)))
    ∙ ap (λ n. xs ++ map (Page inode) (range_with_len from n)) (sym more)

pub few_pages : (xs now : List Pointer) (inode count : ℕ) → count ≤ 24 → now ≡ xs ++ map (Page inode) (range_with_len 0 (count - 0)) → now ≡ xs ++ file_pointers inode count
few_pages xs now inode count few is =
    let least : min count 24 ≡ count - 0 = omega arith in
    is ∙ ap (λ z. xs ++ z) (sym (append-nil (map (Page inode) (range_with_len 0 (count - 0)))))
    ∙ ap (λ n. xs ++ (map (Page inode) (range_with_len 0 n) ++ [])) (sym least)
    ∙ ap (λ b. xs ++ (map (Page inode) (range_with_len 0 (min count 24)) ++ cond b (ToIndirect inode ∷ map (Page inode) (range_with_len 24 (count - 24))) [])) (sym (le-ltb 24 count few))

pub many_pages : (xs first now : List Pointer) (inode count : ℕ) → 24 < count → first ≡ xs ++ map (Page inode) (range_with_len 0 24)
    → now ≡ (first ++ ToIndirect inode ∷ []) ++ map (Page inode) (range_with_len 24 (count - 24)) → now ≡ xs ++ file_pointers inode count
many_pages xs first now inode count many is_first is =
    let least : min count 24 ≡ 24 = omega arith in
    let front : List Pointer = map (Page inode) (range_with_len 0 24) in
    let behind : List Pointer = map (Page inode) (range_with_len 24 (count - 24)) in
    is ∙ ap (λ z. (z ++ ToIndirect inode ∷ []) ++ behind) is_first
    ∙ append_assoc (xs ++ front) (ToIndirect inode ∷ []) behind
    ∙ append_assoc xs front (ToIndirect inode ∷ behind)
    ∙ ap (λ n. xs ++ (map (Page inode) (range_with_len 0 n) ++ (ToIndirect inode ∷ behind))) (sym least)
    ∙ ap (λ b. xs ++ (map (Page inode) (range_with_len 0 (min count 24)) ++ cond b (ToIndirect inode ∷ behind) [])) (sym (lt-ltb 24 count many))

-- the list of what f makes of the numbers below n, and of n too
flat_more : (f : ℕ → List Pointer) (n : ℕ) → flat_map f (range_with_len 0 n) ++ f n ≡ flat_map f (range_with_len 0 (n + 1))
flat_more f n =
    let more : n + 1 ≡ suc n = omega arith in
    let here : 0 + n ≡ n = omega arith in
    flat_map_more f [] (range_with_len 0 n) n
    ∙ ap (λ z. flat_map f (range_with_len 0 n ++ z ∷ [])) (sym here)
    ∙ ap (λ z. flat_map f z) (sym (range_more 0 n))
    ∙ ap (λ z. flat_map f (range_with_len 0 z)) (sym more)

pub a_file_more : (t : Table) (n : ℕ) (was now : List Pointer) → is_file_at t n ≡ true → was ≡ flat_map (pointers_at t) (range_with_len 0 n)
    → now ≡ was ++ file_pointers n (pages (length_at t n)) → now ≡ flat_map (pointers_at t) (range_with_len 0 (n + 1))
a_file_more t n was now file is step =
    step ∙ ap (λ z. z ++ file_pointers n (pages (length_at t n))) is
    ∙ ap (λ b. flat_map (pointers_at t) (range_with_len 0 n) ++ cond b (file_pointers n (pages (length_at t n))) []) (sym file)
    ∙ flat_more (pointers_at t) n

pub no_file_more : (t : Table) (n : ℕ) (was : List Pointer) → is_file_at t n ≡ false → was ≡ flat_map (pointers_at t) (range_with_len 0 n)
    → was ≡ flat_map (pointers_at t) (range_with_len 0 (n + 1))
no_file_more t n was none is =
    is ∙ sym (append-nil (flat_map (pointers_at t) (range_with_len 0 n)))
    ∙ ap (λ b. flat_map (pointers_at t) (range_with_len 0 n) ++ cond b (file_pointers n (pages (length_at t n))) []) (sym none)
    ∙ flat_more (pointers_at t) n
