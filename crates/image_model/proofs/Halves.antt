-- A volume carries a tree where both of its halves do.
use Rattle.std.proofs.Common.{◌≡◌, ℕ, List, refl, sym, ap, subst, ◌∙◌, inl, inr}
use Rattle.std.specs.Prelude.{Bool, true, false, cond, ◌&&◌, ◌==◌, not, nat_lt, Option, Some, None}
use Rattle.std.proofs.lemmas.Bool.{and_parts, eqb-true, eq-eqb, cases_Bool}
use Rattle.inode_table.specs.declared.attrs.Attr.{Attr}
use Rattle.inode_table.specs.declared.attrs.Kind.{Kind}
use Rattle.inode_table.specs.declared.attrs.Kind.TheVariants as kinds
use Rattle.tree_model.specs.declared.rows.Body.{Body}
use Rattle.tree_model.specs.Rows.{Rows}
use Rattle.image_model.specs.declared.check.Check.{Check}
use Rattle.image_model.specs.declared.check.Limits.{Limits}
use Rattle.image_model.specs.declared.check.Check.TheVariants as checks
use Rattle.image_model.specs.Volumes.{Volume, Table, table_of, free_blocks, free_inodes, clear_blocks, clear_inodes}
use Rattle.image_model.specs.Files.{is_file_at, is_file_attr, is_dir_kind, file_bytes}
use Rattle.image_model.specs.Checks.{all_built, unless, or_next, failure, first_failure_under}
use Rattle.image_model.specs.Trees.{has_row, row_by_inode, row_at, body_given, body_of_kind, parent_given, name_given, slot_seen}
use Rattle.image_model.specs.Carrying.{IsRenamed, Carries, IsWhole, CarriesRows, HoldsFiles}
use Rattle.image_model.proofs.CarriedBytes.{whole_files}

-- ---- all checks

-- no check fails, each by itself
pub record NonesFail (limits : Limits) (last : Option ℕ) (v : Volume) : Type 0 where
  pub formatted : failure limits last v checks.Format ≡ None
  pub roots : failure limits last v checks.Root ≡ None
  pub records : failure limits last v checks.Record ≡ None
  pub slots : failure limits last v checks.Slot ≡ None
  pub twins : failure limits last v checks.Twin ≡ None
  pub rings : failure limits last v checks.Ring ≡ None
  pub named_once : failure limits last v checks.Pointer ≡ None
  pub marked : failure limits last v checks.Bits ≡ None
  pub counted : failure limits last v checks.Counts ≡ None

parts : (check : Check) (o : Option ℕ) (next : Option (Check × ℕ)) → or_next check o next ≡ None → (o ≡ None) × (next ≡ None)
parts check None next e = (refl, e)
parts check (Some block) next e = absurd (cc)

pub each_passes : (limits : Limits) (last : Option ℕ) (v : Volume) → first_failure_under limits last v ≡ None → NonesFail limits last v
each_passes limits last v none =
    let a = parts checks.Format _ _ none in
    let b = parts checks.Root _ _ a.1 in
    let c = parts checks.Record _ _ b.1 in
    let d = parts checks.Slot _ _ c.1 in
    let e = parts checks.Twin _ _ d.1 in
    let f = parts checks.Ring _ _ e.1 in
    let g = parts checks.Pointer _ _ f.1 in
    let h = parts checks.Bits _ _ g.1 in
    let i = parts checks.Counts _ _ h.1 in
    record { formatted = a.0; roots = b.0; records = c.0; slots = d.0; twins = e.0; rings = f.0; named_once = g.0; marked = h.0; counted = i.0 }

joined : (check : Check) (o : Option ℕ) (next : Option (Check × ℕ)) → o ≡ None → next ≡ None → or_next check o next ≡ None
joined check o next e more = ap (λ z. or_next check z next) e ∙ more

pub all_pass : (limits : Limits) (last : Option ℕ) (v : Volume) → NonesFail limits last v → first_failure_under limits last v ≡ None
all_pass limits last v n =
    joined checks.Format _ _ n.formatted (joined checks.Root _ _ n.roots (joined checks.Record _ _ n.records (joined checks.Slot _ _ n.slots
    (joined checks.Twin _ _ n.twins (joined checks.Ring _ _ n.rings (joined checks.Pointer _ _ n.named_once (joined checks.Bits _ _ n.marked
    (joined checks.Counts _ _ n.counted refl))))))))

-- ---- counts

pub right : (b : Bool) (block : ℕ) → unless b block ≡ None → b ≡ true
right true block e = refl
right false block e = absurd (cc)

-- ---- rows with other contents

same_body : (a : Option Attr) (xs ys : List ℕ) → (is_file_attr a ≡ true → xs ≡ ys) → body_given a xs ≡ body_given a ys
same_body None xs ys same = refl
same_body (Some a) xs ys same = elim (a.kind) as (λ (k : Kind). (cond (is_dir_kind k) false true ≡ true → xs ≡ ys) → body_of_kind k a.changes xs ≡ body_of_kind k a.changes ys) [
  | kinds.Dir ↦ λ h. refl
  | kinds.File ↦ λ h. ap (body_of_kind kinds.File a.changes) (h refl)
] same

same_at : (t : Table) (fs gs : ℕ → List ℕ) → ((i : ℕ) → is_file_at t i ≡ true → fs i ≡ gs i) → (i : ℕ) → row_at t fs i ≡ row_at t gs i
same_at t fs gs same i = elim (cases_Bool (has_row t i)) [
  | inl there ↦
      let outer = and_parts (nat_lt i t.inodes) (t.is_used i && not (i == 1)) there in
      let inner = and_parts (t.is_used i) (not (i == 1)) outer.1 in
      let body : body_given (t.attr i) (fs i) ≡ body_given (t.attr i) (gs i) =
      same_body (t.attr i) (fs i) (gs i) (λ file. same i (ap (λ b. b && (t.is_used i && is_file_attr (t.attr i))) outer.0 ∙ ap (λ b. b && is_file_attr (t.attr i)) inner.0 ∙ file)) in
      ap (λ (b : Body). cond (has_row t i) (Some (record { parent = parent_given (slot_seen t i); name = name_given (slot_seen t i); body = b })) None) body
  | inr gone ↦ ap (λ b. cond b (Some (row_by_inode t fs i)) None) gone ∙ sym (ap (λ b. cond b (Some (row_by_inode t gs i)) None) gone)
]

same_rows : (t : Table) (fs gs : ℕ → List ℕ) → ((i : ℕ) → is_file_at t i ≡ true → fs i ≡ gs i) → row_at t fs ≡ row_at t gs
same_rows t fs gs same = let each = same_at t fs gs same in λ z. λ i. each i z

-- ---- both halves

pub apart : (v : Volume) (t : Rows) (inodes : List ℕ) → IsWhole v → Carries v t inodes → CarriesRows v (file_bytes v) t inodes × HoldsFiles v (file_bytes v)
apart v t inodes whole c =
    let n = each_passes all_built None v c.sound in
    let counts = and_parts (free_blocks v == clear_blocks v) (free_inodes v == clear_inodes v) (right _ 260 n.counted) in (
      record {
        formatted = n.formatted;
        roots = n.roots;
        records = n.records;
        slots = n.slots;
        twins = n.twins;
        rings = n.rings;
        counted = eqb-true _ _ counts.1;
        sized = whole_files v whole n.named_once;
        renamed = c.renamed;
      },
      record { contents = λ inode file. refl; named_once = n.named_once; marked = n.marked; counted = eqb-true _ _ counts.0 },
    )

pub together : (v : Volume) (t : Rows) (inodes : List ℕ) (files : ℕ → List ℕ) → CarriesRows v files t inodes → HoldsFiles v files → Carries v t inodes
together v t inodes files c h =
    let counts : failure all_built None v checks.Counts ≡ None =
    ap (λ b. unless (b && free_inodes v == clear_inodes v) 260) (eq-eqb _ _ h.counted)
    ∙ ap (λ b. unless b 260) (eq-eqb _ _ c.counted) in
    record {
      sound = all_pass all_built None v (record {
        formatted = c.formatted;
        roots = c.roots;
        records = c.records;
        slots = c.slots;
        twins = c.twins;
        rings = c.rings;
        named_once = h.named_once;
        marked = h.marked;
        counted = counts;
      });
      renamed = subst (IsRenamed inodes t) (same_rows (table_of v) files (file_bytes v) h.contents) c.renamed;
    }

pub two_halves : (v : Volume) (t : Rows) (inodes : List ℕ)
    → (IsWhole v → Carries v t inodes → CarriesRows v (file_bytes v) t inodes × HoldsFiles v (file_bytes v))
    × ((files : ℕ → List ℕ) → CarriesRows v files t inodes → HoldsFiles v files → Carries v t inodes)
two_halves v t inodes = (apart v t inodes, together v t inodes)
