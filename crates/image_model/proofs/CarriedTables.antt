-- Tables that tell the same of an inode, and what a change of one inode leaves as it was.
use Rattle.std.proofs.Common.{◌≡◌, ◌≢◌, ℕ, ◌<◌, ◌≤◌, List, length, refl, sym, ap, ◌∙◌, inl, inr, arith}
use Rattle.std.specs.Prelude.{true, false, cond, not, ◌&&◌, ◌==◌, nat_le, nat_lt, Option, Some, None, option_map}
use Rattle.std.proofs.lemmas.Bool.{cases_eq, cases_lt, and_parts, and_from, ne_eqb, lt-ltb, le-ltb, ltb-true, not-true, eqb-false}
use Rattle.std.proofs.lemmas.Option.{cond_some}
use Rattle.inode_table.specs.declared.attrs.Attr.{Attr}
use Rattle.inode_table.specs.declared.attrs.Kind.{Kind}
use Rattle.inode_table.specs.declared.attrs.Kind.TheVariants as kinds
use Rattle.tree_model.specs.declared.rows.Row.{Row}
use Rattle.tree_model.specs.Rows.{Rows, is_dir}
use Rattle.tree_model.specs.Updates.{store}
use Rattle.image_model.specs.Lowest.{NoneBelow}
use Rattle.image_model.specs.Volumes.{Table}
use Rattle.image_model.specs.Files.{is_dir_attr, is_file_attr, is_dir_at, is_file_at, length_at, length_told}
use Rattle.image_model.specs.Checks.{all_built, is_bad_attr, is_bad_record}
use Rattle.image_model.specs.Trees.{has_row, parent_given, name_given, body_given, body_of_kind, row_by_inode, row_at, with_parent}
use Rattle.image_model.specs.Carrying.{inode_in, IsRenamed}
use Rattle.image_model.specs.Changes.{orphan_name}
use Rattle.image_model.specs.ChangeLaws.{AreSameTables, AreOrphansNamed}
use Rattle.image_model.proofs.CarriedRows.{IsAlone, renamed_at}

-- ---- agreement

-- u tells of the inode what t tells
pub record AgreesAt (t u : Table) (j : ℕ) : Type 0 where
  pub inodes : u.inodes ≡ t.inodes
  pub used : u.is_used j ≡ t.is_used j
  pub attr : u.attr j ≡ t.attr j
  pub slot : u.slot j ≡ t.slot j

pub same_row : (t u : Table) (files gs : ℕ → List ℕ) (j : ℕ) → AgreesAt t u j → gs j ≡ files j → row_at u gs j ≡ row_at t files j
same_row t u files gs j a e = λ z. cond (nat_lt j (a.inodes z) && (a.used z && not (j == 1))) (Some (record {
  parent = parent_given (cond (j == 0) None (a.slot z));
  name = name_given (cond (j == 0) None (a.slot z));
  body = body_given (a.attr z) (e z);
})) None

pub same_dir : (t u : Table) (j : ℕ) → AgreesAt t u j → is_dir_at u j ≡ is_dir_at t j
same_dir t u j a = λ z. nat_lt j (a.inodes z) && (a.used z && is_dir_attr (a.attr z))

pub same_file : (t u : Table) (j : ℕ) → AgreesAt t u j → is_file_at u j ≡ is_file_at t j
same_file t u j a = λ z. nat_lt j (a.inodes z) && (a.used z && is_file_attr (a.attr z))

pub same_record : (t u : Table) (j : ℕ) → AgreesAt t u j → is_bad_record all_built u j ≡ is_bad_record all_built t j
same_record t u j a = λ z. nat_le 2 j && a.used z && is_bad_attr all_built.longest (a.attr z)

-- an inode past the last has no row, and is no directory or file
pub row_past : (t : Table) (files : ℕ → List ℕ) (j : ℕ) → t.inodes ≤ j → row_at t files j ≡ None
row_past t files j h = ap (λ b. cond (b && (t.is_used j && not (j == 1))) (Some (row_by_inode t files j)) None) (le-ltb j t.inodes h)

pub dir_past : (t : Table) (j : ℕ) → t.inodes ≤ j → is_dir_at t j ≡ false
dir_past t j h = ap (λ b. b && (t.is_used j && is_dir_attr (t.attr j))) (le-ltb j t.inodes h)

pub file_past : (t : Table) (j : ℕ) → t.inodes ≤ j → is_file_at t j ≡ false
file_past t j h = ap (λ b. b && (t.is_used j && is_file_attr (t.attr j))) (le-ltb j t.inodes h)

-- ---- a row in a table

-- an inode has this row
pub record HasRow (t : Table) (files : ℕ → List ℕ) (i : ℕ) (q : Row) : Type 0 where
  pub within : i < t.inodes
  pub used : t.is_used i ≡ true
  pub other : i ≢ 1
  pub is : row_by_inode t files i ≡ q

pub row_there : (t : Table) (files : ℕ → List ℕ) (i : ℕ) (q : Row) → row_at t files i ≡ Some q → HasRow t files i q
row_there t files i q e =
    let c = cond_some (has_row t i) (row_by_inode t files i) q e in
    let outer = and_parts (nat_lt i t.inodes) (t.is_used i && not (i == 1)) c.0 in
    let inner = and_parts (t.is_used i) (not (i == 1)) outer.1 in
    record { within = ltb-true i t.inodes outer.0; used = inner.0; other = eqb-false i 1 (not-true (i == 1) inner.1); is = c.1 }

-- a used inode but the orphan directory has its row
pub row_of_used : (t : Table) (files : ℕ → List ℕ) (i : ℕ) → i < t.inodes → t.is_used i ≡ true → i ≢ 1 → row_at t files i ≡ Some (row_by_inode t files i)
row_of_used t files i within used other =
    ap (λ b. cond (b && (t.is_used i && not (i == 1))) (Some (row_by_inode t files i)) None) (lt-ltb i t.inodes within)
    ∙ ap (λ b. cond (b && not (i == 1)) (Some (row_by_inode t files i)) None) used
    ∙ ap (λ b. cond (not b) (Some (row_by_inode t files i)) None) (ne_eqb i 1 other)

-- a row with a directory for its body has a directory's attributes
pub dir_body : (o : Option Attr) (bytes : List ℕ) → is_dir (body_given o bytes) ≡ is_dir_attr o
dir_body None bytes = refl
dir_body (Some a) bytes = elim (a.kind) as (λ (k : Kind). is_dir (body_of_kind k a.changes bytes) ≡ is_dir_attr (Some (record { kind = k; length = a.length; changes = a.changes }))) [
  | kinds.Dir ↦ refl
  | kinds.File ↦ refl
]

-- the parts of a directory or file that is used
pub record IsUsed (t : Table) (i : ℕ) : Type 0 where
  pub within : i < t.inodes
  pub used : t.is_used i ≡ true

pub dir_is_used : (t : Table) (i : ℕ) → is_dir_at t i ≡ true → IsUsed t i × (is_dir_attr (t.attr i) ≡ true)
dir_is_used t i e =
    let outer = and_parts (nat_lt i t.inodes) (t.is_used i && is_dir_attr (t.attr i)) e in
    let inner = and_parts (t.is_used i) (is_dir_attr (t.attr i)) outer.1 in
    (record { within = ltb-true i t.inodes outer.0; used = inner.0 }, inner.1)

pub file_is_used : (t : Table) (i : ℕ) → is_file_at t i ≡ true → IsUsed t i × (is_file_attr (t.attr i) ≡ true)
file_is_used t i e =
    let outer = and_parts (nat_lt i t.inodes) (t.is_used i && is_file_attr (t.attr i)) e in
    let inner = and_parts (t.is_used i) (is_file_attr (t.attr i)) outer.1 in
    (record { within = ltb-true i t.inodes outer.0; used = inner.0 }, inner.1)

pub used_dir : (t : Table) (i : ℕ) → i < t.inodes → t.is_used i ≡ true → is_dir_attr (t.attr i) ≡ true → is_dir_at t i ≡ true
used_dir t i within used dir =
    and_from (nat_lt i t.inodes) (t.is_used i && is_dir_attr (t.attr i)) (lt-ltb i t.inodes within) (and_from (t.is_used i) (is_dir_attr (t.attr i)) used dir)

-- ---- a table that carries rows

-- A slot is there, and names an orphan by its inode.
abbrev pub IsNamed : Table → ℕ → Type 0
IsNamed t inode = (parent : ℕ) × ((name : List ℕ) × (t.slot inode ≡ Some (record { parent = parent; name = name })) × (parent ≡ 1 → name ≡ orphan_name inode))

-- A table with contents for its files has these rows by serials. That the rows are a tree is said apart.
pub record CarriesIn (t : Table) (files : ℕ → List ℕ) (rows : Rows) (inodes : List ℕ) : Type 0 where
  pub root : is_dir_at t 0 ≡ true
  pub orphans : is_dir_at t 1 ≡ true
  pub records : NoneBelow (is_bad_record all_built t) t.inodes
  pub sized : (j : ℕ) → is_file_at t j ≡ true → length_at t j ≡ length (files j)
  pub named : AreOrphansNamed t
  pub renamed : IsRenamed inodes rows (row_at t files)

-- what is to be shown of the inode that a change is of
pub record IsRight (t : Table) (files : ℕ → List ℕ) (i : ℕ) : Type 0 where
  pub dir : i < 2 → is_dir_at t i ≡ true
  pub good : is_bad_record all_built t i ≡ false
  pub sized : is_file_at t i ≡ true → length_at t i ≡ length (files i)
  pub named : 2 ≤ i → t.is_used i ≡ true → IsNamed t i

pub one_changes : (t u : Table) (files gs : ℕ → List ℕ) (rows : Rows) (inodes : List ℕ) (s : ℕ) (o : Option Row)
    → CarriesIn t files rows inodes → s < length inodes → IsAlone inodes rows s → u.inodes ≡ t.inodes
    → ((j : ℕ) → j ≢ inode_in inodes s → AgreesAt t u j × (gs j ≡ files j)) → IsRight u gs (inode_in inodes s)
    → row_at u gs (inode_in inodes s) ≡ option_map (with_parent (inode_in inodes)) o
    → CarriesIn u gs (store rows s o) inodes
one_changes t u files gs rows inodes s o c within only count beside here row =
    let i : ℕ = inode_in inodes s in
    record {
      root = elim (cases_eq 0 i) [
        | inl e ↦ ap (is_dir_at u) e ∙ here.dir (omega arith)
        | inr ne ↦ same_dir t u 0 (beside 0 ne).0 ∙ c.root
      ];
      orphans = elim (cases_eq 1 i) [
        | inl e ↦ ap (is_dir_at u) e ∙ here.dir (omega arith)
        | inr ne ↦ same_dir t u 1 (beside 1 ne).0 ∙ c.orphans
      ];
      records = λ j h. elim (cases_eq j i) [
        | inl e ↦ ap (is_bad_record all_built u) e ∙ here.good
        | inr ne ↦ same_record t u j (beside j ne).0 ∙ c.records j (omega arith)
      ];
      sized = λ j h. elim (cases_eq j i) [
        | inl e ↦ ap (length_at u) e ∙ here.sized (ap (is_file_at u) (sym e) ∙ h) ∙ ap (λ k. length (gs k)) (sym e)
        | inr ne ↦
            let a : AgreesAt t u j = (beside j ne).0 in
            ap length_told a.attr ∙ c.sized j (sym (same_file t u j a) ∙ h) ∙ ap (λ bs. length bs) (sym (beside j ne).1)
      ];
      named = λ j least h used. elim (cases_eq j i) [
        | inl e ↦ moved_named u i j (sym e) (here.named (omega arith) (ap u.is_used (sym e) ∙ used))
        | inr ne ↦
            let a : AgreesAt t u j = (beside j ne).0 in
            let n = c.named j least (omega arith) (sym a.used ∙ used) in
            (n.0, (n.1.0, a.slot ∙ n.1.1, n.1.2))
      ];
      renamed = renamed_at inodes rows (row_at t files) (row_at u gs) s o c.renamed within only (λ j ne. same_row t u files gs j (beside j ne).0 (beside j ne).1) row;
    }
  where
    moved_named : (u : Table) (i j : ℕ) → i ≡ j → IsNamed u i → IsNamed u j
    moved_named u i j e n = (n.0, (n.1.0, ap u.slot (sym e) ∙ n.1.1, λ z. n.1.2 z ∙ ap orphan_name e))

-- ---- tables that tell the same

agrees : (t u : Table) → AreSameTables t u → (j : ℕ) → j < t.inodes → AgreesAt t u j
agrees t u same j h = record { inodes = same.inodes; used = same.used j h; attr = same.attrs j h; slot = same.slots j h }

pub same_carries : (t u : Table) (files : ℕ → List ℕ) (rows : Rows) (inodes : List ℕ) → AreSameTables t u → CarriesIn t files rows inodes → CarriesIn u files rows inodes
same_carries t u files rows inodes same c =
    let count : u.inodes ≡ t.inodes = same.inodes in
    let zero_in : 0 < t.inodes = (dir_is_used t 0 c.root).0.within in
    let one_in : 1 < t.inodes = (dir_is_used t 1 c.orphans).0.within in
    let all_rows : (j : ℕ) → row_at u files j ≡ row_at t files j = λ j. elim (cases_lt j t.inodes) [
      | inl below ↦ same_row t u files files j (agrees t u same j below) refl
      | inr above ↦ row_past u files j (omega arith) ∙ sym (row_past t files j above)
    ] in
    record {
      root = same_dir t u 0 (agrees t u same 0 zero_in) ∙ c.root;
      orphans = same_dir t u 1 (agrees t u same 1 one_in) ∙ c.orphans;
      records = λ j h. same_record t u j (agrees t u same j (omega arith)) ∙ c.records j (omega arith);
      sized = λ j h.
          let within : j < u.inodes = (file_is_used u j h).0.within in
          let a : AgreesAt t u j = agrees t u same j (omega arith) in
          ap length_told a.attr ∙ c.sized j (sym (same_file t u j a) ∙ h);
      named = λ j least h used.
          let a : AgreesAt t u j = agrees t u same j (omega arith) in
          let n = c.named j least (omega arith) (sym a.used ∙ used) in
          (n.0, (n.1.0, a.slot ∙ n.1.1, n.1.2));
      renamed = record {
        each = λ s r e. ((c.renamed.each s r e).0, all_rows (inode_in inodes s) ∙ (c.renamed.each s r e).1);
        all = λ i r e. c.renamed.all i r (sym (all_rows i) ∙ e);
        once = c.renamed.once;
      };
    }
