-- A file whose pages lie in the volume has as many bytes as its length tells.
use Rattle.std.proofs.Common.{◌≡◌, ℕ, zero, suc, ◌+◌, ◌-◌, ◌*◌, ◌<◌, ◌≤◌, min, List, [], ◌∷◌, ◌++◌, length, take, map, slice_index, refl, sym, ap, ◌∙◌, inl, inr, length-append, length-take, arith}
use Rattle.std.specs.Prelude.{Bool, true, cond, not, ◌==◌, nat_le, nat_lt, Option, Some, None, option_map, slice_get, MatchOption}
use Rattle.std.specs.List.{range_with_len, flat_map, list_all, list_any}
use Rattle.std.specs.Option.{option_and_then}
use Rattle.std.proofs.lemmas.Bool.{cases_eq, cases_lt, and_parts, and_from, or_parts, not-false, leb-true, ltb-true, lt-ltb}
use Rattle.std.proofs.lemmas.List.{length-map}
use Rattle.std.proofs.lemmas.List.Folds.{list_all-append, list_all-map}
use Rattle.std.proofs.lemmas.Option.{none-some, slice_get-get_or}
use Rattle.block_layout.specs.Sizes.{block_size}
use Rattle.ccfs_base.specs.Limits.{pages}
use Rattle.ccfs_base.proofs.Put.{length-part}
use Rattle.image_model.specs.declared.pointer.Pointer.{Pointer}
use Rattle.image_model.specs.declared.pointer.Pointer.TheVariants.{Page, ToIndirect}
use Rattle.image_model.specs.declared.check.Check.TheVariants as checks
use Rattle.image_model.specs.Fields.{block_place, direct_pages}
use Rattle.image_model.specs.Lowest.{lowest, NoneBelow, IsLowest}
use Rattle.image_model.specs.Volumes.{Volume, Table, table_of, block_bytes, first_data}
use Rattle.image_model.specs.Files.{is_file_at, length_at, file_pointers, pointers_at, pointers, named, named_blocks, holder, file_bytes}
use Rattle.image_model.specs.Checks.{all_built, is_data_block, is_bad_pointer, bad_pointer, failure}
use Rattle.image_model.specs.Carrying.{IsWhole}
use Rattle.image_model.proofs.Least.{lowest_is_lowest}
use Rattle.image_model.proofs.CarriedTables.{IsUsed, file_is_used}

-- ---- all of a list

all_by_place : (p : ℕ → Bool) (xs : List ℕ) → ((k : ℕ) → k < length xs → p (slice_index xs k) ≡ true) → list_all p xs ≡ true
all_by_place p [] each = refl
all_by_place p (x ∷ xs) each = and_from (p x) (list_all p xs) (each 0 (omega arith)) (all_by_place p xs (λ k h. each (suc k) (omega arith)))

in_flat : (p : Pointer → Bool) (f : ℕ → List Pointer) (a n i : ℕ) → list_all p (flat_map f (range_with_len a n)) ≡ true → a ≤ i → i < a + n → list_all p (f i) ≡ true
in_flat p f a zero i all low high = absurd (omega arith)
in_flat p f a (suc n) i all low high =
    let parts = and_parts (list_all p (f a)) (list_all p (flat_map f (range_with_len (a + 1) n))) (sym (list_all-append p (f a) (flat_map f (range_with_len (a + 1) n))) ∙ all) in
    elim (cases_eq i a) [
      | inl e ↦ ap (λ z. list_all p (f z)) e ∙ parts.0
      | inr ne ↦ in_flat p f (a + 1) n i parts.1 (omega arith) (omega arith)
    ]

in_map : (p : Pointer → Bool) (f : ℕ → Pointer) (a n i : ℕ) → list_all p (map f (range_with_len a n)) ≡ true → a ≤ i → i < a + n → p (f i) ≡ true
in_map p f a zero i all low high = absurd (omega arith)
in_map p f a (suc n) i all low high =
    let parts = and_parts (p (f a)) (list_all p (map f (range_with_len (a + 1) n))) all in
    elim (cases_eq i a) [
      | inl e ↦ ap (λ z. p (f z)) e ∙ parts.0
      | inr ne ↦ in_map p f (a + 1) n i parts.1 (omega arith) (omega arith)
    ]

-- each page of a file is among its pointers
in_file : (p : Pointer → Bool) (inode count page : ℕ) → list_all p (file_pointers inode count) ≡ true → page < count → p (Page inode page) ≡ true
in_file p inode count page all within =
    let front : List Pointer = map (Page inode) (range_with_len 0 (min count direct_pages)) in
    let behind : List Pointer = map (Page inode) (range_with_len direct_pages (count - direct_pages)) in
    let rest : List Pointer = cond (nat_lt direct_pages count) (ToIndirect inode ∷ behind) [] in
    let parts = and_parts (list_all p front) (list_all p rest) (sym (list_all-append p front rest) ∙ all) in
    elim (cases_lt page 24) [
      | inl direct ↦ in_map p (Page inode) 0 (min count 24) page parts.0 (omega arith) (omega arith)
      | inr far ↦
          let many : nat_lt 24 count ≡ true = lt-ltb 24 count (omega arith) in
          let more = and_parts (p (ToIndirect inode)) (list_all p behind) (sym (ap (λ b. list_all p (cond b (ToIndirect inode ∷ behind) [])) many) ∙ parts.1) in
          in_map p (Page inode) 24 (count - 24) page more.1 far (omega arith)
    ]

-- ---- blocks

no_pointer : (v : Volume) (o : Option Pointer) → option_map (holder v) o ≡ None → o ≡ None
no_pointer v None e = refl
no_pointer v (Some p) e = absurd (none-some (holder v p) (sym e))

none_bad : (v : Volume) (o : Option ℕ) → MatchOption o (NoneBelow (is_bad_pointer v) (length (pointers (table_of v)))) (IsLowest (is_bad_pointer v) (length (pointers (table_of v))))
    → option_and_then (slice_get (pointers (table_of v))) o ≡ None → NoneBelow (is_bad_pointer v) (length (pointers (table_of v)))
none_bad v None none e = none
none_bad v (Some i) is e = absurd (none-some _ (sym e ∙ slice_get-get_or (pointers (table_of v)) i (Page 0 0) is.within))

-- where no pointer is bad, each block that is named is a data block
named_data : (v : Volume) → failure all_built None v checks.Pointer ≡ None → list_all (is_data_block v) (named_blocks v) ≡ true
named_data v right =
    let count : ℕ = length (pointers (table_of v)) in
    let none : NoneBelow (is_bad_pointer v) count = none_bad v (lowest (is_bad_pointer v) count) (lowest_is_lowest (is_bad_pointer v) count) (no_pointer v (bad_pointer v) right) in
    let long : length (named_blocks v) ≡ length (pointers (table_of v)) = length-map (pointers (table_of v)) (named v) in
    all_by_place (is_data_block v) (named_blocks v) (λ k h.
    let block : ℕ = slice_index (named_blocks v) k in
    not-false (is_data_block v block) (or_parts (not (is_data_block v block)) (list_any (λ earlier. earlier == block) (take k (named_blocks v))) (none k (omega arith))).0)

-- a data block has all its bytes
long_block : (v : Volume) → IsWhole v → (block : ℕ) → is_data_block v block ≡ true → length (block_bytes v block) ≡ 4096
long_block v whole block data_ =
    let parts = and_parts (nat_le (first_data v) block) (nat_lt block v.blocks) data_ in
    let low : first_data v ≤ block = leb-true (first_data v) block parts.0 in
    let high : block < v.blocks = ltb-true block v.blocks parts.1 in
    length-part (block_place block) block_size v.bytes (omega arith)

long_pages : (f : ℕ → List ℕ) (a n : ℕ) → ((k : ℕ) → a ≤ k → k < a + n → length (f k) ≡ 4096) → length (flat_map f (range_with_len a n)) ≡ 4096 * n
long_pages f a zero each = refl
long_pages f a (suc n) each =
    let here : length (f a) ≡ 4096 = each a (omega arith) (omega arith) in
    let more : length (flat_map f (range_with_len (a + 1) n)) ≡ 4096 * n = long_pages f (a + 1) n (λ k l h. each k (omega arith) (omega arith)) in
    let both : length (f a ++ flat_map f (range_with_len (a + 1) n)) ≡ length (f a) + length (flat_map f (range_with_len (a + 1) n)) = length-append (f a) (flat_map f (range_with_len (a + 1) n)) in
    omega arith

pub whole_files : (v : Volume) → IsWhole v → failure all_built None v checks.Pointer ≡ None → (inode : ℕ) → is_file_at (table_of v) inode ≡ true → length_at (table_of v) inode ≡ length (file_bytes v inode)
whole_files v whole right inode file =
    let t : Table = table_of v in
    let used : IsUsed t inode = (file_is_used t inode file).0 in
    let long : ℕ = length_at t inode in
    let is_data : Pointer → Bool = λ p. is_data_block v (named v p) in
    let all : list_all is_data (pointers t) ≡ true = sym (list_all-map (is_data_block v) (named v) (pointers t)) ∙ named_data v right in
    let its : list_all is_data (pointers_at t inode) ≡ true = in_flat is_data (pointers_at t) 0 v.inodes inode all (omega arith) (let h : inode < v.inodes = used.within in omega arith) in
    let of_file : list_all is_data (file_pointers inode (pages long)) ≡ true = sym (ap (λ b. list_all is_data (cond b (file_pointers inode (pages long)) [])) file) ∙ its in
    let page_bytes : ℕ → List ℕ = λ page. block_bytes v (named v (Page inode page)) in
    let total : length (flat_map page_bytes (range_with_len 0 (pages long))) ≡ 4096 * pages long
    = long_pages page_bytes 0 (pages long) (λ k l h. long_block v whole (named v (Page inode k)) (in_file is_data inode (pages long) k of_file (omega arith))) in
    let cut : length (take long (flat_map page_bytes (range_with_len 0 (pages long)))) ≡ min long (length (flat_map page_bytes (range_with_len 0 (pages long)))) = length-take long (flat_map page_bytes (range_with_len 0 (pages long))) in
    omega arith
