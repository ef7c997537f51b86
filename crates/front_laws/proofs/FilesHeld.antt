-- The files of a volume are those of the tree that it carries.
use Rattle.std.proofs.Common.{◌≡◌, ◌≢◌, inl, inr, ℕ, ◌≤◌, List, [], refl, sym, ap, ◌∙◌, arith}
use Rattle.std.specs.Prelude.{Bool, true, false, cond, ◌&&◌, nat_le, nat_lt, Option, None, Some}
use Rattle.std.proofs.lemmas.Bool.{cases_Bool, cases_eq, and_from, lt-ltb, le-leb}
use Rattle.ccfs_base.specs.Limits.{file_max}
use Rattle.inode_table.specs.declared.attrs.Attr.{Attr}
use Rattle.file_bodies.specs.Files.{Files}
use Rattle.tree_model.specs.declared.rows.Row.{Row}
use Rattle.tree_model.specs.Rows.{Rows, kind, is_dir, IsFile}
use Rattle.image_model.specs.Volumes.{Volume, Table, table_of}
use Rattle.image_model.specs.Files.{is_dir_kind, is_dir_attr, is_file_attr, is_file_at, file_bytes}
use Rattle.image_model.specs.Checks.{all_built, is_entry, is_bad_attr}
use Rattle.image_model.specs.Trees.{row_at, row_by_inode, with_parent}
use Rattle.image_model.specs.Carrying.{inode_in}
use Rattle.image_model.proofs.CarriedTables.{HasRow, row_there, row_of_used, dir_body, dir_is_used, file_is_used}
use Rattle.image_model.proofs.NoMore.{with_records}
use Rattle.carried_volumes.specs.Carried.{Carried, no_bytes}
use Rattle.carried_volumes.proofs.Roots.{roots}
use Rattle.front_laws.specs.Covers.{files_of}
use Rattle.front_laws.proofs.Rows.{row_of, file_there}
use Rattle.front_laws.proofs.EmptyOps.{no_file_bytes}
use Rattle.front_laws.proofs.FileSets.{AreFilesOf}

-- ---- attributes

file_attr : (o : Option Attr) → is_dir_attr o ≡ false → is_bad_attr file_max o ≡ false → is_file_attr o ≡ true
file_attr None dir good = absurd (let z : true ≡ false = good in cc)
file_attr (Some a) dir good = ap (λ b. cond b false true) dir

no_dir : (b : Bool) → cond b false true ≡ true → b ≡ false
no_dir true e = sym e
no_dir false e = refl

file_no_dir : (o : Option Attr) → is_file_attr o ≡ true → is_dir_attr o ≡ false
file_no_dir None e = refl
file_no_dir (Some a) e = no_dir (is_dir_kind a.kind) e

differ : true ≡ false → ⊥
differ e = cc

some_bool : {a b : Bool} → Some a ≡ Some b → a ≡ b
some_bool e = cc

some_row : {a b : Row} → Some a ≡ Some b → a ≡ b
some_row e = cc

-- ---- a volume

module _ (v : Volume) (t : Rows) (inodes : List ℕ) (carried : Carried v t inodes) where
  abbrev table : Table
  table = table_of v

  -- the inode of a file of the tree is one of the volume
  is_there : (s : ℕ) → IsFile t s → is_file_at table (inode_in inodes s) ≡ true
  is_there s f =
      let i : ℕ = inode_in inodes s in
      let r = row_of t s (file_there t s f) in
      let h : HasRow table no_bytes i (with_parent (inode_in inodes) r.0) = row_there table no_bytes i _ (carried.rows.renamed.each s r.0 r.1).1 in
      let body : is_dir r.0.body ≡ false = some_bool (sym (ap kind r.1) ∙ f) in
      let dir : is_dir_attr (table.attr i) ≡ false = sym (dir_body (table.attr i) []) ∙ ap (λ (q : Row). is_dir q.body) h.is ∙ body in
      let low : i ≢ 0 = λ e. differ (sym (dir_is_used table 0 (roots v t inodes carried.rows).0).1 ∙ ap (λ j. is_dir_attr (table.attr j)) (sym e) ∙ dir) in
      let other : i ≢ 1 = h.other in
      let high : 2 ≤ i = high_one i low other in
      let entry : is_entry table i ≡ true = and_from (nat_le 2 i) (table.is_used i) (le-leb 2 i high) h.used in
      let good : is_bad_attr file_max (table.attr i) ≡ false =
      ap (λ b. b && is_bad_attr file_max (table.attr i)) (sym entry) ∙ with_records all_built None v carried.rows.records i h.within in
      and_from (nat_lt i table.inodes) (table.is_used i && is_file_attr (table.attr i)) (lt-ltb i table.inodes h.within)
      (and_from (table.is_used i) (is_file_attr (table.attr i)) h.used (file_attr (table.attr i) dir good))
    where
      high_one : (i : ℕ) → i ≢ 0 → i ≢ 1 → 2 ≤ i
      high_one i a b = elim (cases_eq i 0) [ inl e ↦ absurd (a e) | inr e ↦ elim (cases_eq i 1) [ inl g ↦ absurd (b g) | inr g ↦ omega arith ] ]

  -- and a file of the volume is one of the tree
  row_of_file : (i : ℕ) → is_file_at table i ≡ true → (s : ℕ) × (IsFile t s × (inode_in inodes s ≡ i))
  row_of_file i e =
      let u = file_is_used table i e in
      let dir : is_dir_attr (table.attr i) ≡ false = file_no_dir (table.attr i) u.1 in
      let other : i ≢ 1 = λ q. differ (sym (dir_is_used table 1 (roots v t inodes carried.rows).1).1 ∙ ap (λ j. is_dir_attr (table.attr j)) (sym q) ∙ dir) in
      let row = row_of_used table no_bytes i u.0.within u.0.used other in
      let w = carried.rows.renamed.all i (row_by_inode table no_bytes i) row in
      let same : row_by_inode table no_bytes i ≡ with_parent (inode_in inodes) w.1.0
      = some_row (sym row ∙ ap (row_at table no_bytes) (sym w.1.2) ∙ (carried.rows.renamed.each w.0 w.1.0 w.1.1).1) in
      let body : is_dir w.1.0.body ≡ false = sym (ap (λ (q : Row). is_dir q.body) same) ∙ dir_body (table.attr i) [] ∙ dir in
      (w.0, (ap kind w.1.1 ∙ ap (λ b. Some b) body, w.1.2))

  -- so its files are those of the tree
  pub files_are : AreFilesOf inodes t (files_of v)
  files_are = record {
    each = λ s f. let i : ℕ = inode_in inodes s in
        ap (λ b. cond b (Some (file_bytes v i)) None) (is_there s f) ∙ ap (λ (z : List ℕ). Some z) (no_file_bytes v i (carried.rows.sized i (is_there s f)));
    none = λ i no. elim (cases_Bool (is_file_at table i)) [
      | inl e ↦ let w = row_of_file i e in absurd (no w.0 w.1.0 w.1.1)
      | inr e ↦ ap (λ b. cond b (Some (file_bytes v i)) None) e
    ];
  }

  -- and all files of the tree are its files
  pub are_its_files : (files : Files) → AreFilesOf inodes t files → (i : ℕ) → files i ≡ files_of v i
  are_its_files files is i = elim (cases_Bool (is_file_at table i)) [
    | inl e ↦ let w = row_of_file i e in
        ap files (sym w.1.1) ∙ is.each w.0 w.1.0 ∙ sym (files_are.each w.0 w.1.0) ∙ ap (files_of v) w.1.1
    | inr e ↦
        let no : (s : ℕ) → IsFile t s → inode_in inodes s ≢ i = λ s f q. differ (sym (is_there s f) ∙ ap (is_file_at table) q ∙ e) in
        is.none i no ∙ sym (files_are.none i no)
  ]
