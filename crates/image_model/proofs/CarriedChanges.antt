-- What each change does to a table that carries rows.
use Rattle.std.proofs.Common.{◌≡◌, ◌≢◌, ℕ, ◌+◌, ◌%◌, ◌^◌, ◌<◌, ◌≤◌, List, [], length, refl, sym, ap, ◌∙◌, inl, inr, arith}
use Rattle.std.specs.Prelude.{Bool, true, false, cond, not, ◌&&◌, ◌==◌, nat_le, nat_lt, Option, Some, None, option_map}
use Rattle.std.specs.FinMap.{get}
use Rattle.std.proofs.lemmas.Bool.{cases_eq, and_left, and_right, eq-eqb, ne_eqb, le-leb, le-ltb, both_ways}
use Rattle.ccfs_base.specs.Limits.{file_max}
use Rattle.inode_table.specs.declared.attrs.Attr.{Attr}
use Rattle.inode_table.specs.declared.attrs.Kind.{Kind}
use Rattle.inode_table.specs.declared.attrs.Kind.TheVariants as kinds
use Rattle.flat_dirs.specs.declared.slot.Slot.{Slot}
use Rattle.tree_model.specs.declared.rows.Body.{Body}
use Rattle.tree_model.specs.declared.rows.Body.TheVariants as bodies
use Rattle.tree_model.specs.declared.rows.Row.{Row}
use Rattle.tree_model.specs.Rows.{Rows}
use Rattle.tree_model.specs.Updates.{store, counted, refilled, on_row, on_body, new_body, unplaced}
use Rattle.image_model.specs.Volumes.{Table}
use Rattle.image_model.specs.Files.{is_dir_attr, is_file_attr, is_dir_at, length_told}
use Rattle.image_model.specs.Checks.{is_entry, is_bad_attr}
use Rattle.image_model.specs.Trees.{slot_seen, parent_given, name_given, body_given, body_of_kind, row_by_inode, row_at, with_parent}
use Rattle.image_model.specs.Carrying.{inode_in}
use Rattle.image_model.specs.Changes.{Change, New, Drop, Touch, Enter, Fill, inode_of, new_attr, slot_of, with_at, touched, with_length, table_after, files_after, orphan_name, kind_made, bytes_at}
use Rattle.image_model.proofs.CarriedRows.{IsAlone, alone_by_row}
use Rattle.image_model.proofs.CarriedTables.{AgreesAt, HasRow, row_there, row_of_used, file_is_used, CarriesIn, IsRight, one_changes}

-- ---- a function with another value at one place

pub at_here : {A : Type 0} (i : ℕ) (x : A) (f : ℕ → A) → with_at i x f i ≡ x
at_here i x f = ap (λ b. cond b x (f i)) (eq-eqb i i refl)

pub at_apart : {A : Type 0} (i : ℕ) (x : A) (f : ℕ → A) (j : ℕ) → j ≢ i → with_at i x f j ≡ f j
at_apart i x f j ne = ap (λ b. cond b x (f j)) (ne_eqb j i ne)

-- a change leaves all other inodes as they were
beside_at : (t : Table) (files : ℕ → List ℕ) (c : Change) (j : ℕ) → j ≢ inode_of c → AgreesAt t (table_after t c) j × (files_after files c j ≡ files j)
beside_at t files (New inode parent name kind) j ne = (
  record {
    inodes = refl;
    used = at_apart inode true t.is_used j ne;
    attr = at_apart inode (Some (new_attr kind)) t.attr j ne;
    slot = at_apart inode (Some (slot_of parent name)) t.slot j ne;
  },
  at_apart inode [] files j ne,
)
beside_at t files (Drop inode) j ne = (record { inodes = refl; used = at_apart inode false t.is_used j ne; attr = refl; slot = refl }, refl)
beside_at t files (Touch inode) j ne =
    (record { inodes = refl; used = refl; attr = at_apart inode (option_map touched (t.attr inode)) t.attr j ne; slot = refl }, refl)
beside_at t files (Enter inode parent name) j ne =
    (record { inodes = refl; used = refl; attr = refl; slot = at_apart inode (Some (slot_of parent name)) t.slot j ne }, refl)
beside_at t files (Fill inode bytes) j ne =
    (record { inodes = refl; used = refl; attr = at_apart inode (option_map (with_length (length bytes)) (t.attr inode)) t.attr j ne; slot = refl }, at_apart inode bytes files j ne)

pub count_stays : (t : Table) (c : Change) → (table_after t c).inodes ≡ t.inodes
count_stays t (New inode parent name kind) = refl
count_stays t (Drop inode) = refl
count_stays t (Touch inode) = refl
count_stays t (Enter inode parent name) = refl
count_stays t (Fill inode bytes) = refl

-- ---- rows of an inode

-- a row that its slot places
row_with : (u : Table) (gs : ℕ → List ℕ) (i : ℕ) (slot : Option Slot) (b : Body) → i < u.inodes → u.is_used i ≡ true → i ≢ 1 → i ≢ 0 → u.slot i ≡ slot → body_given (u.attr i) (gs i) ≡ b
    → row_at u gs i ≡ Some (record { parent = parent_given slot; name = name_given slot; body = b })
row_with u gs i slot b within used other low is body =
    let seen : slot_seen u i ≡ slot = ap (λ z. cond z None (u.slot i)) (ne_eqb i 0 low) ∙ is in
    row_of_used u gs i within used other ∙ λ z. Some (record { parent = parent_given (seen z); name = name_given (seen z); body = body z })

-- a row in a directory but 1
in_directory : (p : ℕ) (name : List ℕ) (b : Body) → p ≢ 1
    → ◌≡◌ {A = Option Row} (Some (record { parent = parent_given (Some (slot_of p name)); name = name_given (Some (slot_of p name)); body = b })) (Some (record { parent = Some p; name = name; body = b }))
in_directory p name b h =
    let no : (p == 1) ≡ false = ne_eqb p 1 h in
    λ z. Some (record { parent = cond (no z) None (Some p); name = cond (no z) [] name; body = b })

-- a row with another body
body_changes : (t u : Table) (files gs : ℕ → List ℕ) (i : ℕ) (q : Row) (f : Body → Body) → u.inodes ≡ t.inodes → u.is_used i ≡ t.is_used i → u.slot i ≡ t.slot i
    → body_given (u.attr i) (gs i) ≡ f (body_given (t.attr i) (files i)) → row_at t files i ≡ Some q → row_at u gs i ≡ Some (record q { body = f q.body })
body_changes t u files gs i q f count used slot body e =
    let h : HasRow t files i q = row_there t files i q e in
    let in_table : i < t.inodes = h.within in
    row_of_used u gs i (omega arith) (used ∙ h.used) h.other
    ∙ (λ z. Some (record { parent = parent_given (cond (i == 0) None (slot z)); name = name_given (cond (i == 0) None (slot z)); body = body z }))
    ∙ ap (λ (r : Row). Some (record r { body = f r.body })) h.is

-- inodes 0 and 1 are directories
low_dir : (t : Table) (files : ℕ → List ℕ) (rows : Rows) (inodes : List ℕ) → CarriesIn t files rows inodes → (i : ℕ) → i < 2 → is_dir_at t i ≡ true
low_dir t files rows inodes c i h = elim (cases_eq i 0) [
  | inl e ↦ ap (is_dir_at t) e ∙ c.root
  | inr ne ↦ (let one : i ≡ 1 = omega arith in ap (is_dir_at t) one ∙ c.orphans)
]

-- ---- a new inode

new_good : (k : Kind) → is_bad_attr file_max (Some (new_attr k)) ≡ false
new_good kinds.Dir = refl
new_good kinds.File = refl

new_right : (t : Table) (files : ℕ → List ℕ) (i p : ℕ) (name : List ℕ) (k : Kind) → 2 ≤ i → p ≢ 1 → IsRight (table_after t (New i p name k)) (files_after files (New i p name k)) i
new_right t files i p name k least apart = record {
  dir = λ h. absurd (omega arith);
  good = and_right (is_entry (table_after t (New i p name k)) i) (is_bad_attr file_max (with_at i (Some (new_attr k)) t.attr i))
      (ap (is_bad_attr file_max) (at_here i (Some (new_attr k)) t.attr) ∙ new_good k);
  sized = λ h. ap length_told (at_here i (Some (new_attr k)) t.attr) ∙ sym (ap (λ bs. length bs) (at_here i [] files));
  named = λ h used. (p, (name, at_here i (Some (slot_of p name)) t.slot, λ e. absurd (apart e)));
}

new_body_given : (is_dir : Bool) → body_given (Some (new_attr (kind_made is_dir))) [] ≡ new_body is_dir
new_body_given true = refl
new_body_given false = refl

pub new_carries : (t : Table) (files : ℕ → List ℕ) (rows : Rows) (inodes : List ℕ) (s d : ℕ) (name : List ℕ) (is_dir : Bool)
    → CarriesIn t files rows inodes → s < length inodes → 2 ≤ inode_in inodes s → inode_in inodes s < t.inodes → inode_in inodes d ≢ 1
    → t.is_used (inode_in inodes s) ≡ false
    → CarriesIn (table_after t (New (inode_in inodes s) (inode_in inodes d) name (kind_made is_dir))) (files_after files (New (inode_in inodes s) (inode_in inodes d) name (kind_made is_dir)))
    (store rows s (Some (record { parent = Some d; name = name; body = new_body is_dir }))) inodes
new_carries t files rows inodes s d name is_dir c within least in_table apart unused =
    let i : ℕ = inode_in inodes s in
    let p : ℕ = inode_in inodes d in
    let change : Change = New i p name (kind_made is_dir) in
    let u : Table = table_after t change in
    let attr : with_at i (Some (new_attr (kind_made is_dir))) t.attr i ≡ Some (new_attr (kind_made is_dir)) = at_here i (Some (new_attr (kind_made is_dir))) t.attr in
    let bytes : with_at i [] files i ≡ [] = at_here i [] files in
    let alone : IsAlone inodes rows s = λ l q e same. absurd (
    let h : HasRow t files (inode_in inodes l) (with_parent (inode_in inodes) q) = row_there t files (inode_in inodes l) (with_parent (inode_in inodes) q) (c.renamed.each l q e).1 in
    both_ways (t.is_used i) unused (ap t.is_used (sym same) ∙ h.used)) in
    one_changes t u files (files_after files change) rows inodes s (Some (record { parent = Some d; name = name; body = new_body is_dir })) c within alone refl
    (λ j ne. beside_at t files change j ne) (new_right t files i p name (kind_made is_dir) least apart)
    (row_with u (files_after files change) i (Some (slot_of p name)) (new_body is_dir) in_table (at_here i true t.is_used) (λ e. omega arith) (λ e. omega arith)
    (at_here i (Some (slot_of p name)) t.slot) ((λ z. body_given (attr z) (bytes z)) ∙ new_body_given is_dir)
    ∙ in_directory p name (new_body is_dir) apart)

-- ---- an inode given up

pub drop_carries : (t : Table) (files : ℕ → List ℕ) (rows : Rows) (inodes : List ℕ) (s : ℕ) (r : Row) → CarriesIn t files rows inodes → get rows s ≡ Some r → 2 ≤ inode_in inodes s
    → CarriesIn (table_after t (Drop (inode_in inodes s))) (files_after files (Drop (inode_in inodes s))) (store rows s None) inodes
drop_carries t files rows inodes s r c is least =
    let i : ℕ = inode_in inodes s in
    let u : Table = table_after t (Drop i) in
    let clear : with_at i false t.is_used i ≡ false = at_here i false t.is_used in
    one_changes t u files files rows inodes s None c (c.renamed.each s r is).0 (alone_by_row inodes rows (row_at t files) c.renamed s r is) refl
    (λ j ne. beside_at t files (Drop i) j ne)
    (record {
      dir = λ h. absurd (omega arith);
      good = and_left (is_entry u i) (is_bad_attr file_max (t.attr i)) (and_right (nat_le 2 i) (with_at i false t.is_used i) clear);
      sized = λ h. absurd (both_ways (u.is_used i) clear (file_is_used u i h).0.used);
      named = λ h used. absurd (both_ways (u.is_used i) clear used);
    })
    (ap (λ b. cond b (Some (row_by_inode u files i)) None)
    (and_right (nat_lt i t.inodes) (with_at i false t.is_used i && not (i == 1)) (and_left (with_at i false t.is_used i) (not (i == 1)) clear)))

-- ---- a directory's count of changes

touched_body : (o : Option Attr) (bytes : List ℕ) → body_given (option_map touched o) bytes ≡ counted (body_given o bytes)
touched_body None bytes = refl
touched_body (Some a) bytes = elim (a.kind) as (λ (k : Kind). body_of_kind k ((a.changes + 1) % 2 ^ 64) bytes ≡ counted (body_of_kind k a.changes bytes)) [
  | kinds.Dir ↦ refl
  | kinds.File ↦ refl
]

touched_dir : (o : Option Attr) → is_dir_attr (option_map touched o) ≡ is_dir_attr o
touched_dir None = refl
touched_dir (Some a) = refl

touched_file : (o : Option Attr) → is_file_attr (option_map touched o) ≡ is_file_attr o
touched_file None = refl
touched_file (Some a) = refl

touched_long : (o : Option Attr) → length_told (option_map touched o) ≡ length_told o
touched_long None = refl
touched_long (Some a) = refl

touched_good : (o : Option Attr) → is_bad_attr file_max (option_map touched o) ≡ is_bad_attr file_max o
touched_good None = refl
touched_good (Some a) = refl

pub touch_carries : (t : Table) (files : ℕ → List ℕ) (rows : Rows) (inodes : List ℕ) (s : ℕ) (r : Row) → CarriesIn t files rows inodes → get rows s ≡ Some r
    → CarriesIn (table_after t (Touch (inode_in inodes s))) (files_after files (Touch (inode_in inodes s))) (store rows s (on_body counted (get rows s))) inodes
touch_carries t files rows inodes s r c is =
    let i : ℕ = inode_in inodes s in
    let u : Table = table_after t (Touch i) in
    let attr : with_at i (option_map touched (t.attr i)) t.attr i ≡ option_map touched (t.attr i) = at_here i (option_map touched (t.attr i)) t.attr in
    let told = c.renamed.each s r is in
    let h : HasRow t files i (with_parent (inode_in inodes) r) = row_there t files i (with_parent (inode_in inodes) r) told.1 in
    one_changes t u files files rows inodes s (on_body counted (get rows s)) c told.0 (alone_by_row inodes rows (row_at t files) c.renamed s r is) refl
    (λ j ne. beside_at t files (Touch i) j ne)
    (record {
      dir = λ low. ap (λ b. nat_lt i t.inodes && (t.is_used i && b)) (ap is_dir_attr attr ∙ touched_dir (t.attr i)) ∙ low_dir t files rows inodes c i low;
      good = ap (λ b. is_entry t i && b) (ap (is_bad_attr file_max) attr ∙ touched_good (t.attr i)) ∙ c.records i h.within;
      sized = λ file. ap length_told attr ∙ touched_long (t.attr i)
          ∙ c.sized i (sym (ap (λ b. nat_lt i t.inodes && (t.is_used i && b)) (ap is_file_attr attr ∙ touched_file (t.attr i))) ∙ file);
      named = λ least used. c.named i least h.within used;
    })
    (body_changes t u files files i (with_parent (inode_in inodes) r) counted refl refl refl (ap (λ o. body_given o (files i)) attr ∙ touched_body (t.attr i) (files i)) told.1
    ∙ sym (ap (λ o. option_map (with_parent (inode_in inodes)) (on_body counted o)) is))

-- ---- another place

enter_carries : (t : Table) (files : ℕ → List ℕ) (rows : Rows) (inodes : List ℕ) (s : ℕ) (r : Row) (p : ℕ) (name : List ℕ) (o : Option Row) → CarriesIn t files rows inodes → get rows s ≡ Some r
    → inode_in inodes s ≢ 0 → (p ≡ 1 → name ≡ orphan_name (inode_in inodes s))
    → ◌≡◌ {A = Option Row} (Some (record { parent = parent_given (Some (slot_of p name)); name = name_given (Some (slot_of p name)); body = r.body })) (option_map (with_parent (inode_in inodes)) o)
    → CarriesIn (table_after t (Enter (inode_in inodes s) p name)) (files_after files (Enter (inode_in inodes s) p name)) (store rows s o) inodes
enter_carries t files rows inodes s r p name o c is low named row =
    let i : ℕ = inode_in inodes s in
    let u : Table = table_after t (Enter i p name) in
    let slot : with_at i (Some (slot_of p name)) t.slot i ≡ Some (slot_of p name) = at_here i (Some (slot_of p name)) t.slot in
    let told = c.renamed.each s r is in
    let h : HasRow t files i (with_parent (inode_in inodes) r) = row_there t files i (with_parent (inode_in inodes) r) told.1 in
    one_changes t u files files rows inodes s o c told.0 (alone_by_row inodes rows (row_at t files) c.renamed s r is) refl
    (λ j ne. beside_at t files (Enter i p name) j ne)
    (record {
      dir = λ few. low_dir t files rows inodes c i few;
      good = c.records i h.within;
      sized = λ file. c.sized i file;
      named = λ least used. (p, (name, slot, named));
    })
    (row_with u files i (Some (slot_of p name)) r.body h.within h.used h.other low slot (ap (λ (q : Row). q.body) h.is) ∙ row)

pub place_carries : (t : Table) (files : ℕ → List ℕ) (rows : Rows) (inodes : List ℕ) (s : ℕ) (r : Row) (d : ℕ) (name : List ℕ) → CarriesIn t files rows inodes → get rows s ≡ Some r
    → inode_in inodes s ≢ 0 → inode_in inodes d ≢ 1
    → CarriesIn (table_after t (Enter (inode_in inodes s) (inode_in inodes d) name)) (files_after files (Enter (inode_in inodes s) (inode_in inodes d) name))
    (store rows s (on_row (λ q. record q { parent = Some d; name = name }) (get rows s))) inodes
place_carries t files rows inodes s r d name c is low apart =
    enter_carries t files rows inodes s r (inode_in inodes d) name (on_row (λ q. record q { parent = Some d; name = name }) (get rows s)) c is low (λ e. absurd (apart e))
    (in_directory (inode_in inodes d) name r.body apart
    ∙ sym (ap (λ o. option_map (with_parent (inode_in inodes)) (on_row (λ q. record q { parent = Some d; name = name }) o)) is))

pub orphan_carries : (t : Table) (files : ℕ → List ℕ) (rows : Rows) (inodes : List ℕ) (s : ℕ) (r : Row) → CarriesIn t files rows inodes → get rows s ≡ Some r → inode_in inodes s ≢ 0
    → CarriesIn (table_after t (Enter (inode_in inodes s) 1 (orphan_name (inode_in inodes s)))) (files_after files (Enter (inode_in inodes s) 1 (orphan_name (inode_in inodes s))))
    (store rows s (unplaced (get rows s))) inodes
orphan_carries t files rows inodes s r c is low =
    enter_carries t files rows inodes s r 1 (orphan_name (inode_in inodes s)) (unplaced (get rows s)) c is low (λ e. refl)
    (sym (ap (λ o. option_map (with_parent (inode_in inodes)) (unplaced o)) is))

-- ---- a file's bytes

filled_good : (most long : ℕ) → long ≤ most → (o : Option Attr) → is_bad_attr most o ≡ false → is_bad_attr most (option_map (with_length long) o) ≡ false
filled_good most long h None bad = absurd (cc)
filled_good most long h (Some a) bad = and_right (is_file_attr (Some a)) (nat_lt most long) (le-ltb most long h)

filled_long : (most long : ℕ) (o : Option Attr) → is_bad_attr most o ≡ false → length_told (option_map (with_length long) o) ≡ long
filled_long most long None bad = absurd (cc)
filled_long most long (Some a) bad = refl

filled_body : (most long : ℕ) (o : Option Attr) (bytes old : List ℕ) → is_bad_attr most o ≡ false → body_given (option_map (with_length long) o) bytes ≡ refilled (λ _. bytes) (body_given o old)
filled_body most long None bytes old bad = absurd (cc)
filled_body most long (Some a) bytes old bad = elim (a.kind) as (λ (k : Kind). body_of_kind k a.changes bytes ≡ refilled (λ _. bytes) (body_of_kind k a.changes old)) [
  | kinds.Dir ↦ refl
  | kinds.File ↦ refl
]

-- a used inode from 2 on has attributes, of a file that isn't too long
pub entry_good : (t : Table) (files : ℕ → List ℕ) (rows : Rows) (inodes : List ℕ) → CarriesIn t files rows inodes → (i : ℕ) → 2 ≤ i → i < t.inodes → t.is_used i ≡ true → is_bad_attr file_max (t.attr i) ≡ false
entry_good t files rows inodes c i least within used =
    sym (ap (λ b. b && t.is_used i && is_bad_attr file_max (t.attr i)) (le-leb 2 i least) ∙ ap (λ b. b && is_bad_attr file_max (t.attr i)) used) ∙ c.records i within

pub fill_carries : (t : Table) (files : ℕ → List ℕ) (rows : Rows) (inodes : List ℕ) (s : ℕ) (r : Row) (bytes : List ℕ) → CarriesIn t files rows inodes → get rows s ≡ Some r
    → 2 ≤ inode_in inodes s → length bytes ≤ file_max
    → CarriesIn (table_after t (Fill (inode_in inodes s) bytes)) (files_after files (Fill (inode_in inodes s) bytes)) (store rows s (on_body (refilled (λ _. bytes)) (get rows s))) inodes
fill_carries t files rows inodes s r bytes c is least short =
    let i : ℕ = inode_in inodes s in
    let u : Table = table_after t (Fill i bytes) in
    let gs : ℕ → List ℕ = files_after files (Fill i bytes) in
    let attr : with_at i (option_map (with_length (length bytes)) (t.attr i)) t.attr i ≡ option_map (with_length (length bytes)) (t.attr i)
    = at_here i (option_map (with_length (length bytes)) (t.attr i)) t.attr in
    let contents : with_at i bytes files i ≡ bytes = at_here i bytes files in
    let told = c.renamed.each s r is in
    let h : HasRow t files i (with_parent (inode_in inodes) r) = row_there t files i (with_parent (inode_in inodes) r) told.1 in
    let good : is_bad_attr file_max (t.attr i) ≡ false = entry_good t files rows inodes c i least h.within h.used in
    one_changes t u files gs rows inodes s (on_body (refilled (λ _. bytes)) (get rows s)) c told.0 (alone_by_row inodes rows (row_at t files) c.renamed s r is) refl
    (λ j ne. beside_at t files (Fill i bytes) j ne)
    (record {
      dir = λ low. absurd (omega arith);
      good = and_right (is_entry t i) (is_bad_attr file_max (u.attr i)) (ap (is_bad_attr file_max) attr ∙ filled_good file_max (length bytes) short (t.attr i) good);
      sized = λ file. ap length_told attr ∙ filled_long file_max (length bytes) (t.attr i) good ∙ sym (ap (λ bs. length bs) contents);
      named = λ low used. c.named i least h.within used;
    })
    (body_changes t u files gs i (with_parent (inode_in inodes) r) (refilled (λ _. bytes)) refl refl refl
    ((λ z. body_given (attr z) (contents z)) ∙ filled_body file_max (length bytes) (t.attr i) bytes (files i) good) told.1
    ∙ sym (ap (λ o. option_map (with_parent (inode_in inodes)) (on_body (refilled (λ _. bytes)) o)) is))

-- a function of the bytes that stand there makes these bytes
pub refills : (f : List ℕ → List ℕ) (o : Option Row) → on_body (refilled (λ _. f (bytes_at o))) o ≡ on_body (refilled f) o
refills f None = refl
refills f (Some r) = elim (r.body) as (λ (b : Body). ◌≡◌ {A = Option Row} (Some (record r { body = refilled (λ _. f (bytes_at (Some (record r { body = b })))) b })) (Some (record r { body = refilled f b }))) [
  | bodies.Dir changes ↦ refl
  | bodies.File bytes ↦ refl
]
