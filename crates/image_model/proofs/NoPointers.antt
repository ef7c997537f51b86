-- Where all files are empty, there are no pointers.
use Rattle.std.proofs.Common.{◌≡◌, ℕ, zero, suc, ◌+◌, ◌≤◌, List, [], ◌++◌, refl, sym, ap, ◌∙◌, inl, inr, arith}
use Rattle.std.specs.Prelude.{Bool, true, false, cond, ◌&&◌, nat_lt, Option, Some, None, flat_map}
use Rattle.std.specs.List.{range_with_len}
use Rattle.std.proofs.lemmas.Bool.{and_parts, ltb-true, ltb-false, le-leb, cases_Bool}
use Rattle.ccfs_base.specs.Limits.{pages}
use Rattle.inode_table.specs.declared.attrs.Attr.{Attr}
use Rattle.image_model.specs.declared.pointer.Pointer.{Pointer}
use Rattle.image_model.specs.declared.check.Check.TheVariants as checks
use Rattle.image_model.specs.Volumes.{Volume, Table, table_of}
use Rattle.image_model.specs.Files.{is_dir_attr, is_file_attr, is_dir_kind, is_dir_at, is_file_at, length_told, length_at, file_pointers, pointers_at, pointers}
use Rattle.image_model.specs.Lowest.{NoneBelow}
use Rattle.image_model.specs.Checks.{bare, is_entry, is_bad_attr, is_bad_record, failure}
use Rattle.image_model.proofs.NoMore.{with_records}
use Rattle.image_model.proofs.Halves.{right}

none_at_all : (f : ℕ → List Pointer) (n a : ℕ) → ((i : ℕ) → f i ≡ []) → flat_map f (range_with_len a n) ≡ []
none_at_all f zero a none = refl
none_at_all f (suc n) a none = ap (λ z. z ++ flat_map f (range_with_len (a + 1) n)) (none a) ∙ none_at_all f n (a + 1) none

one_kind : (x : Bool) → x ≡ true → cond x false true ≡ true → ⊥
one_kind true e h = absurd (let z : false ≡ true = h in cc)
one_kind false e h = absurd (let z : false ≡ true = e in cc)

not_both : (a : Option Attr) → is_dir_attr a ≡ true → is_file_attr a ≡ true → ⊥
not_both None d f = absurd (let z : false ≡ true = d in cc)
not_both (Some a) d f = one_kind (is_dir_kind a.kind) d f

-- a file that isn't too long where no byte is allowed has none
no_length : (a : Option Attr) → is_file_attr a ≡ true → is_bad_attr 0 a ≡ false → length_told a ≡ 0
no_length None f e = refl
no_length (Some a) f e =
    let short : nat_lt 0 a.length ≡ false = ap (λ b. b && nat_lt 0 a.length) (sym f) ∙ e in
    let least : a.length ≤ 0 = ltb-false 0 a.length short in
    omega arith

module _ (t : Table) (root : is_dir_at t 0 ≡ true) (orphans : is_dir_at t 1 ≡ true) (records : NoneBelow (is_bad_record bare t) t.inodes) where
  attr_of_dir : (i : ℕ) → is_dir_at t i ≡ true → is_dir_attr (t.attr i) ≡ true
  attr_of_dir i d = (and_parts (t.is_used i) (is_dir_attr (t.attr i)) (and_parts (nat_lt i t.inodes) (t.is_used i && is_dir_attr (t.attr i)) d).1).1

  no_bytes : (i : ℕ) → nat_lt i t.inodes ≡ true → t.is_used i ≡ true → is_file_attr (t.attr i) ≡ true → length_at t i ≡ 0
  no_bytes zero h u f = absurd (not_both (t.attr 0) (attr_of_dir 0 root) f)
  no_bytes (suc zero) h u f = absurd (not_both (t.attr 1) (attr_of_dir 1 orphans) f)
  no_bytes (suc (suc i)) h u f =
      let entry : is_entry t (suc (suc i)) ≡ true = ap (λ b. b && t.is_used (suc (suc i))) (le-leb 2 (suc (suc i)) (omega arith)) ∙ u in
      let good : is_bad_attr 0 (t.attr (suc (suc i))) ≡ false =
      ap (λ b. b && is_bad_attr 0 (t.attr (suc (suc i)))) (sym entry) ∙ records (suc (suc i)) (ltb-true (suc (suc i)) t.inodes h) in
      no_length (t.attr (suc (suc i))) f good

  none_at : (i : ℕ) → pointers_at t i ≡ []
  none_at i = elim (cases_Bool (is_file_at t i)) [
    | inl f ↦
        let outer = and_parts (nat_lt i t.inodes) (t.is_used i && is_file_attr (t.attr i)) f in
        let inner = and_parts (t.is_used i) (is_file_attr (t.attr i)) outer.1 in
        ap (λ b. cond b (file_pointers i (pages (length_at t i))) []) f ∙ ap (λ n. file_pointers i (pages n)) (no_bytes i outer.0 inner.0 inner.1)
    | inr none ↦ ap (λ b. cond b (file_pointers i (pages (length_at t i))) []) none
  ]

pub bare_has_no_pointers : (last : Option ℕ) (v : Volume) → failure bare last v checks.Root ≡ None → failure bare last v checks.Record ≡ None → pointers (table_of v) ≡ []
bare_has_no_pointers last v roots records =
    let both = and_parts (is_dir_at (table_of v) 0) (is_dir_at (table_of v) 1) (right _ 263 roots) in
    none_at_all (pointers_at (table_of v)) v.inodes 0 (none_at (table_of v) both.0 both.1 (with_records bare last v records))
