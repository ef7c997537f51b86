-- The records of an update carry the tree before it to the tree after it.
use Rattle.std.proofs.Common.{◌≡◌, ◌≢◌, ℕ, ◌+◌, ◌<◌, ◌≤◌, List, [], ◌∷◌, length, refl, sym, ap, subst, ◌∙◌, inl, inr, arith}
use Rattle.std.specs.Prelude.{Bool, true, false, ◌&&◌, nat_lt, Option, Some, None}
use Rattle.std.specs.FinMap.{get}
use Rattle.std.proofs.lemmas.Bool.{cases_eq, and_from, lt-ltb, ltb-false}
use Rattle.std.proofs.lemmas.Grind.{common_steps}
use Rattle.std.proofs.lemmas.Option.{none-some}
use Rattle.ccfs_base.specs.Contents.{resized, written}
use Rattle.ccfs_base.specs.Limits.{file_max}
use Rattle.ccfs_base.specs.Names.{is_name}
use Rattle.inode_table.specs.declared.attrs.Attr.{Attr}
use Rattle.inode_table.specs.declared.attrs.Kind.{Kind}
use Rattle.inode_table.specs.declared.attrs.Kind.TheVariants as kinds
use Rattle.tree_model.specs.declared.rows.Row.{Row}
use Rattle.tree_model.specs.declared.rows.Update.{Update}
use Rattle.tree_model.specs.declared.rows.Update.TheVariants.{Make, Write, Resize, Remove, Move, Release}
use Rattle.tree_model.specs.Rows.{Rows, place, kind, IsDir, IsFile, IsEntry, IsTree}
use Rattle.tree_model.specs.Updates.{Place, Count, store, edited, counted, refilled, on_row, on_body, new_body, left_of, apply, Fits}
use Rattle.tree_model.proofs.Chains.{not_both}
use Rattle.tree_model.proofs.TreeKept.{tree_kept}
use Rattle.image_model.specs.Volumes.{Volume, Table, table_of}
use Rattle.image_model.specs.Files.{is_file_attr, length_told}
use Rattle.image_model.specs.Checks.{is_bad_attr}
use Rattle.image_model.specs.Trees.{body_given, body_of_kind, with_parent}
use Rattle.image_model.specs.Carrying.{inode_in, CarriesRows}
use Rattle.image_model.specs.Changes.{Change, New, Touch, Enter, Fill, files_after, files_changed, changed, changes_of, leaving, kind_made, bytes_at, bytes_of_body}
use Rattle.image_model.specs.ChangeLaws.{IsSized, AreOrphansNamed, Needs, RecordsChangeTables, UpdatesAreCarried}
use Rattle.image_model.specs.CarriedLaws.{UpdatesLeaveTheRest}
use Rattle.image_model.proofs.CarriedRows.{store_here, store_apart}
use Rattle.image_model.proofs.CarriedTables.{HasRow}
use Rattle.image_model.proofs.CarriedChanges.{new_carries, entry_good, refills}
use Rattle.image_model.proofs.CarriedSound.{dir_row, root_alone}
use Rattle.image_model.proofs.CarriedSteps.{Stands, few_inodes, stands, carries, step, then_more, its_row, touch_step, leave_step, place_step, fill_step}

-- ---- rows that are there

-- a serial has a row
abbrev Has : Rows → ℕ → Type 0
Has t s = (r : Row) × (get t s ≡ Some r)

kind_row : (o : Option Row) (b : Bool) → kind o ≡ Some b → (r : Row) × (o ≡ Some r)
kind_row None b e = absurd (none-some b e)
kind_row (Some r) b e = (r, refl)

entry_row : (o : Option Row) (p : ℕ × List ℕ) → place o ≡ Some p → (r : Row) × (o ≡ Some r)
entry_row None p e = absurd (none-some p e)
entry_row (Some r) p e = (r, refl)

has_store : (t : Rows) (s : ℕ) (o : Option Row) (r : Row) → o ≡ Some r → (l : ℕ) → Has t l → Has (store t s o) l
has_store t s o r is l h = elim (cases_eq l s) [
  | inl e ↦ (r, ap (get (store t s o)) e ∙ store_here t s o ∙ is)
  | inr ne ↦ (h.0, store_apart t s o l ne ∙ h.1)
]

-- ---- bytes

written_short : (off : ℕ) (bytes old : List ℕ) → off + length bytes ≤ file_max → length old ≤ file_max → length (written off bytes old) ≤ file_max
written_short off bytes old a b = grind (arith, common_steps)

resized_short : (size : ℕ) (old : List ℕ) → size ≤ file_max → length (resized size old) ≤ file_max
resized_short size old a = grind (arith, common_steps)

-- ---- from a volume that carries the tree before

module _ (law : RecordsChangeTables) (from v : Volume) (files : ℕ → List ℕ) (t : Rows) (inodes : List ℕ) (st : Stands from v files t inodes) (tree : IsTree t) where
  -- a row that isn't the root's has another inode
  low : (s : ℕ) → Has t s → s ≢ 0 → inode_in inodes s ≢ 0
  low s h ne at = ne (root_alone (table_of v) files t inodes st.table tree (few_inodes v st.whole) s h.0 h.1 at)

  entry_low : (s d : ℕ) (n : List ℕ) → IsEntry t d n s → inode_in inodes s ≢ 0
  entry_low s d n entry = low s (entry_row (get t s) (d, n) entry) (λ e. none-some (d, n) (sym (ap place tree.root.1) ∙ ap (λ z. place (get t z)) (sym e) ∙ entry))

  file_low : (s : ℕ) → IsFile t s → inode_in inodes s ≢ 0
  file_low s file = low s (kind_row (get t s) false file) (λ e. not_both t 0 (subst (IsFile t) e file) (ap kind tree.root.1))

  -- ---- Make

  make_stands : (dir : ℕ) (name : List ℕ) (id : ℕ) (is_dir : Bool) → Fits t (Make dir name id is_dir) → Needs v inodes (Make dir name id is_dir)
      → Stands from (changed v (changes_of inodes t (Make dir name id is_dir))) (files_changed files (changes_of inodes t (Make dir name id is_dir))) (apply t (Make dir name id is_dir)) inodes
  make_stands dir name id is_dir fit needs =
      let d = dir_row (get t dir) fit.0 in
      let h : HasRow (table_of v) files (inode_in inodes dir) (with_parent (inode_in inodes) d.0) = its_row from v files t inodes st dir d.0 d.1 in
      let in_table : inode_in inodes dir < v.inodes = h.within in
      let few : v.inodes ≤ 8192 = few_inodes v st.whole in
      let first : Change = New (inode_in inodes id) (inode_in inodes dir) name (kind_made is_dir) in
      let made : Row = record { parent = Some dir; name = name; body = new_body is_dir } in
      let one : Stands from (changed v (first ∷ [])) (files_after files first) (store t id (Some made)) inodes
      = step law from v files (files_after files first) t (store t id (Some made)) inodes first st (needs.3, needs.4, omega arith, needs.0)
      (new_carries (table_of v) files t inodes id dir name is_dir st.table needs.1 needs.2 needs.3 h.other needs.4) in
      let there : get (store t id (Some made)) dir ≡ Some d.0
      = store_apart t id (Some made) dir (λ e. none-some d.0 (sym fit.2 ∙ ap (get t) (sym e) ∙ d.1)) ∙ d.1 in
      then_more from v first (Touch (inode_in inodes dir) ∷ []) (files_after files first) (apply t (Make dir name id is_dir)) inodes
      (touch_step law from (changed v (first ∷ [])) (files_after files first) (store t id (Some made)) inodes dir d.0 one there)

  -- ---- Remove and Release

  remove_stands : (dir : ℕ) (name : List ℕ) (id : ℕ) (stays : Bool) → Fits t (Remove dir name id stays)
      → Stands from (changed v (changes_of inodes t (Remove dir name id stays))) (files_changed files (changes_of inodes t (Remove dir name id stays))) (apply t (Remove dir name id stays)) inodes
  remove_stands dir name id stays fit =
      let r = entry_row (get t id) (dir, name) fit.0 in
      let is_dir : IsDir t dir = tree.parents id dir name fit.0 in
      let d = dir_row (get t dir) is_dir in
      let first : Change = leaving (inode_in inodes id) stays in
      let apart : dir ≢ id = λ e. (fit.1 (subst (IsDir t) e is_dir)).0 id name (fit.0 ∙ ap (λ z. Some (z, name)) e) in
      let one : Stands from (changed v (first ∷ [])) (files_after files first) (store t id (left_of stays (get t id))) inodes
      = leave_step law from v files t inodes id r.0 stays st r.1 (entry_low id dir name fit.0) in
      let there : get (store t id (left_of stays (get t id))) dir ≡ Some d.0 = store_apart t id (left_of stays (get t id)) dir apart ∙ d.1 in
      then_more from v first (Touch (inode_in inodes dir) ∷ []) (files_after files first) (apply t (Remove dir name id stays)) inodes
      (touch_step law from (changed v (first ∷ [])) (files_after files first) (store t id (left_of stays (get t id))) inodes dir d.0 one there)

  release_stands : (id : ℕ) → Fits t (Release id)
      → Stands from (changed v (changes_of inodes t (Release id))) (files_changed files (changes_of inodes t (Release id))) (apply t (Release id)) inodes
  release_stands id fit =
      let r = kind_row (get t id) false fit.0 in
      leave_step law from v files t inodes id r.0 false st r.1 (file_low id fit.0)

  -- ---- Write and Resize

  -- no file's bytes are too many
  old_short : (s : ℕ) (r : Row) → get t s ≡ Some r → inode_in inodes s ≢ 0 → length (bytes_at (get t s)) ≤ file_max
  old_short s r is not_root =
      let i : ℕ = inode_in inodes s in
      let h : HasRow (table_of v) files i (with_parent (inode_in inodes) r) = its_row from v files t inodes st s r is in
      let other : i ≢ 1 = h.other in
      let u : Table = table_of v in
      subst (λ o. length (bytes_at o) ≤ file_max) (sym is)
      (subst (λ (q : Row). length (bytes_of_body q.body) ≤ file_max) h.is
      (short_body (u.attr i) (files i) (entry_good u files t inodes st.table i (omega arith) h.within h.used)
      (λ file. st.table.sized i (and_from (nat_lt i u.inodes) (u.is_used i && is_file_attr (u.attr i)) (lt-ltb i u.inodes h.within) (and_from (u.is_used i) (is_file_attr (u.attr i)) h.used file)))))
    where
      short_body : (o : Option Attr) (bytes : List ℕ) → is_bad_attr file_max o ≡ false → (is_file_attr o ≡ true → length_told o ≡ length bytes) → length (bytes_of_body (body_given o bytes)) ≤ file_max
      short_body None bytes bad sized = absurd (cc)
      short_body (Some a) bytes bad sized = by a.kind bad sized
        where
          by : (k : Kind) → is_bad_attr file_max (Some (record a { kind = k })) ≡ false → (is_file_attr (Some (record a { kind = k })) ≡ true → a.length ≡ length bytes) → length (bytes_of_body (body_of_kind k a.changes bytes)) ≤ file_max
          by kinds.Dir b f = omega arith
          by kinds.File b f =
              let most : a.length ≤ file_max = ltb-false file_max a.length b in
              let same : a.length ≡ length bytes = f refl in
              omega arith

  refill_stands : (id : ℕ) (f : List ℕ → List ℕ) → IsFile t id → (length (bytes_at (get t id)) ≤ file_max → length (f (bytes_at (get t id))) ≤ file_max)
      → Stands from (changed v (Fill (inode_in inodes id) (f (bytes_at (get t id))) ∷ [])) (files_after files (Fill (inode_in inodes id) (f (bytes_at (get t id)))))
      (store t id (on_body (refilled f) (get t id))) inodes
  refill_stands id f file short =
      let r = kind_row (get t id) false file in
      let not_root : inode_in inodes id ≢ 0 = file_low id file in
      let bytes : List ℕ = f (bytes_at (get t id)) in
      subst (λ o. Stands from (changed v (Fill (inode_in inodes id) bytes ∷ [])) (files_after files (Fill (inode_in inodes id) bytes)) (store t id o) inodes) (refills f (get t id))
      (fill_step law from v files t inodes id r.0 bytes st r.1 not_root (short (old_short id r.0 r.1 not_root)))

  write_stands : (id off : ℕ) (bytes : List ℕ) → Fits t (Write id off bytes)
      → Stands from (changed v (changes_of inodes t (Write id off bytes))) (files_changed files (changes_of inodes t (Write id off bytes))) (apply t (Write id off bytes)) inodes
  write_stands id off bytes fit = refill_stands id (written off bytes) fit.0 (λ h. written_short off bytes (bytes_at (get t id)) fit.2 h)

  resize_stands : (id len : ℕ) → Fits t (Resize id len)
      → Stands from (changed v (changes_of inodes t (Resize id len))) (files_changed files (changes_of inodes t (Resize id len))) (apply t (Resize id len)) inodes
  resize_stands id len fit = refill_stands id (resized len) fit.0 (λ h. resized_short len (bytes_at (get t id)) fit.1)

-- ---- Move

-- what a move does behind the file that it replaces
module _ (law : RecordsChangeTables) (from : Volume) (inodes : List ℕ) (dir to_dir id : ℕ) (to_name : List ℕ) (low : inode_in inodes id ≢ 0) (good : is_name to_name ≡ true) where
  move_on : (v : Volume) (files : ℕ → List ℕ) (t : Rows) → Stands from v files t inodes → Has t id → Has t dir → Has t to_dir
      → Stands from (changed v (Enter (inode_in inodes id) (inode_in inodes to_dir) to_name ∷ Touch (inode_in inodes dir) ∷ Touch (inode_in inodes to_dir) ∷ [])) files
      (edited ((id, Place to_dir to_name) ∷ (dir, Count) ∷ (to_dir, Count) ∷ []) t) inodes
  move_on v files t st its source target =
      let enter : Change = Enter (inode_in inodes id) (inode_in inodes to_dir) to_name in
      let placed : Option Row = on_row (λ q. record q { parent = Some to_dir; name = to_name }) (get t id) in
      let placed_row : Row = record (its.0) { parent = Some to_dir; name = to_name } in
      let is_placed : placed ≡ Some placed_row = ap (on_row (λ q. record q { parent = Some to_dir; name = to_name })) its.1 in
      let v1 : Volume = changed v (enter ∷ []) in
      let t1 : Rows = store t id placed in
      let one : Stands from v1 files t1 inodes = place_step law from v files t inodes id to_dir its.0 target.0 to_name st its.1 target.1 low good in
      let source1 : Has t1 dir = has_store t id placed placed_row is_placed dir source in
      let target1 : Has t1 to_dir = has_store t id placed placed_row is_placed to_dir target in
      let v2 : Volume = changed v1 (Touch (inode_in inodes dir) ∷ []) in
      let t2 : Rows = store t1 dir (on_body counted (get t1 dir)) in
      let two : Stands from v2 files t2 inodes = touch_step law from v1 files t1 inodes dir source1.0 one source1.1 in
      let target2 : Has t2 to_dir = has_store t1 dir (on_body counted (get t1 dir)) (record (source1.0) { body = counted source1.0.body }) (ap (on_body counted) source1.1) to_dir target1 in
      let t3 : Rows = store t2 to_dir (on_body counted (get t2 to_dir)) in
      then_more from v enter (Touch (inode_in inodes dir) ∷ Touch (inode_in inodes to_dir) ∷ []) files t3 inodes
      (then_more from v1 (Touch (inode_in inodes dir)) (Touch (inode_in inodes to_dir) ∷ []) files t3 inodes
      (touch_step law from v2 files t2 inodes to_dir target2.0 two target2.1))

move_stands : RecordsChangeTables → (from v : Volume) (files : ℕ → List ℕ) (t : Rows) (inodes : List ℕ) → Stands from v files t inodes → IsTree t
    → (dir : ℕ) (name : List ℕ) (to_dir : ℕ) (to_name : List ℕ) (id : ℕ) (is_dir : Bool) (replaced : Option ℕ) (stays : Bool)
    → Fits t (Move dir name to_dir to_name id is_dir replaced stays) → is_name to_name ≡ true
    → Stands from (changed v (changes_of inodes t (Move dir name to_dir to_name id is_dir replaced stays))) (files_changed files (changes_of inodes t (Move dir name to_dir to_name id is_dir replaced stays)))
    (apply t (Move dir name to_dir to_name id is_dir replaced stays)) inodes
move_stands law from v files t inodes st tree dir name to_dir to_name id is_dir None stays fit good =
    move_on law from inodes dir to_dir id to_name (entry_low law from v files t inodes st tree id dir name fit.0) good v files t st
    (entry_row (get t id) (dir, name) fit.0) (kind_row (get t dir) true (tree.parents id dir name fit.0)) (kind_row (get t to_dir) true fit.2)
move_stands law from v files t inodes st tree dir name to_dir to_name id is_dir (Some x) stays fit good =
    let file : IsFile t x = fit.4.1 in
    let old = kind_row (get t x) false file in
    let first : Change = leaving (inode_in inodes x) stays in
    let left : Option Row = left_of stays (get t x) in
    let stood : IsDir t dir = tree.parents id dir name fit.0 in
    let its : Has t id = entry_row (get t id) (dir, name) fit.0 in
    let d : Has t dir = kind_row (get t dir) true stood in
    let e : Has t to_dir = kind_row (get t to_dir) true fit.2 in
    let one : Stands from (changed v (first ∷ [])) (files_after files first) (store t x left) inodes
    = leave_step law from v files t inodes x old.0 stays st old.1 (file_low law from v files t inodes st tree x file) in
    then_more from v first (Enter (inode_in inodes id) (inode_in inodes to_dir) to_name ∷ Touch (inode_in inodes dir) ∷ Touch (inode_in inodes to_dir) ∷ []) (files_after files first)
    (apply t (Move dir name to_dir to_name id is_dir (Some x) stays)) inodes
    (move_on law from inodes dir to_dir id to_name (entry_low law from v files t inodes st tree id dir name fit.0) good (changed v (first ∷ [])) (files_after files first) (store t x left) one
    (its.0, store_apart t x left id (λ same. fit.3 (ap (λ z. Some z) (sym same))) ∙ its.1)
    (d.0, store_apart t x left dir (λ same. not_both t x file (subst (IsDir t) same stood)) ∙ d.1)
    (e.0, store_apart t x left to_dir (λ same. not_both t x file (subst (IsDir t) same fit.2)) ∙ e.1))

-- ---- all updates

update_stands : RecordsChangeTables → (from v : Volume) (files : ℕ → List ℕ) (t : Rows) (inodes : List ℕ) → Stands from v files t inodes → IsTree t → (u : Update) → Fits t u → Needs v inodes u
    → Stands from (changed v (changes_of inodes t u)) (files_changed files (changes_of inodes t u)) (apply t u) inodes
update_stands law from v files t inodes st tree (Make dir name id is_dir) fit needs = make_stands law from v files t inodes st tree dir name id is_dir fit needs
update_stands law from v files t inodes st tree (Write id off bytes) fit needs = write_stands law from v files t inodes st tree id off bytes fit
update_stands law from v files t inodes st tree (Resize id len) fit needs = resize_stands law from v files t inodes st tree id len fit
update_stands law from v files t inodes st tree (Remove dir name id stays) fit needs = remove_stands law from v files t inodes st tree dir name id stays fit
update_stands law from v files t inodes st tree (Move dir name to_dir to_name id is_dir replaced stays) fit needs =
    move_stands law from v files t inodes st tree dir name to_dir to_name id is_dir replaced stays fit needs
update_stands law from v files t inodes st tree (Release id) fit needs = release_stands law from v files t inodes st tree id fit

module _ (law : RecordsChangeTables) (v : Volume) (files : ℕ → List ℕ) (t : Rows) (inodes : List ℕ) (u : Update) (whole : IsSized v) (carried : CarriesRows v files t inodes)
    (named : AreOrphansNamed (table_of v)) (tree : IsTree t) (fit : Fits t u) (needs : Needs v inodes u) where
  stands_after : Stands v (changed v (changes_of inodes t u)) (files_changed files (changes_of inodes t u)) (apply t u) inodes
  stands_after = update_stands law v v files t inodes (stands v files t inodes whole carried named) tree u fit needs

pub updates_are_carried : RecordsChangeTables → UpdatesAreCarried
updates_are_carried law v files t inodes u whole carried named tree fit needs =
    carries v (changed v (changes_of inodes t u)) (files_changed files (changes_of inodes t u)) (apply t u) inodes
    (stands_after law v files t inodes u whole carried named tree fit needs) (tree_kept t u tree fit)

pub updates_leave_the_rest : RecordsChangeTables → UpdatesLeaveTheRest
updates_leave_the_rest law v files t inodes u whole carried named tree fit needs =
    let s : Stands v (changed v (changes_of inodes t u)) (files_changed files (changes_of inodes t u)) (apply t u) inodes = stands_after law v files t inodes u whole carried named tree fit needs in
    (s.whole, s.beside)
