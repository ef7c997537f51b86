-- Volumes that carry rows, tree or not, and what the records of one change make of them.
use Rattle.std.proofs.Common.{◌≡◌, ◌≢◌, ℕ, ◌+◌, ◌-◌, ◌%◌, ◌^◌, ◌<◌, ◌≤◌, List, [], ◌∷◌, ◌++◌, length, refl, sym, ap, subst, ◌∙◌, append-nil, arith}
use Rattle.std.specs.Prelude.{Bool, true, false, ◌&&◌, ◌==◌, Option, Some, None}
use Rattle.std.specs.FinMap.{get}
use Rattle.std.proofs.lemmas.Bool.{and_parts, and_from, leb-true}
use Rattle.std.proofs.lemmas.Option.{none-some, MatchOption-at_none}
use native.Mathlib.Nat.{add-mod_right, mod-eq_of_lt}
use Rattle.ccfs_base.specs.Limits.{file_max}
use Rattle.ccfs_base.specs.declared.records.Rec.{Rec}
use Rattle.ccfs_base.specs.Names.{is_name}
use Rattle.ccfs_base.specs.Records.{recorded, all_recorded}
use Rattle.free_maps.specs.Bits.{failing}
use Rattle.free_maps.proofs.Failing.{failing-same, failing-le, failing-but_one}
use Rattle.inode_table.specs.Records.{record_block}
use Rattle.tree_model.specs.declared.rows.Row.{Row}
use Rattle.tree_model.specs.Rows.{Rows, IsTree}
use Rattle.tree_model.specs.Updates.{store, counted, refilled, on_row, on_body, left_of}
use Rattle.image_model.specs.declared.check.Check.TheVariants as checks
use Rattle.image_model.specs.Fields.{counter_block, slot_block}
use Rattle.image_model.specs.Lowest.{lowest, NoneBelow, IsLowest}
use Rattle.image_model.specs.Volumes.{Volume, Table, table_of, free_inodes, clear_inodes, is_used}
use Rattle.image_model.specs.Files.{is_dir_at}
use Rattle.image_model.specs.Checks.{all_built, is_last, is_bad_record, is_bad_slot, is_twin, is_in_ring, block_of, unless, failure}
use Rattle.image_model.specs.Trees.{with_parent}
use Rattle.image_model.specs.Carrying.{inode_in, CarriesRows}
use Rattle.image_model.specs.Changes.{Change, New, Drop, Touch, Enter, Fill, with_at, table_after, files_after, changed, all_records, records_of, leaving, orphan_name}
use Rattle.image_model.specs.ChangeLaws.{IsSized, MayBe, AreOrphansNamed, AreSameTables, AreBesideSame, free_after, RecordsChangeTables}
use Rattle.image_model.proofs.Halves.{right}
use Rattle.image_model.proofs.Least.{lowest_is_lowest, lowest_none}
use Rattle.image_model.proofs.CarriedNames.{orphan_is_name}
use Rattle.image_model.proofs.CarriedTables.{CarriesIn, HasRow, row_there, same_carries}
use Rattle.image_model.proofs.CarriedChanges.{at_here, at_apart, count_stays, drop_carries, touch_carries, place_carries, orphan_carries, fill_carries}
use Rattle.image_model.proofs.CarriedSound.{slots_pass, twins_pass, rings_pass}

-- ---- volumes

-- A volume's metadata carries rows, which need not be a tree. Beside inodes it tells what the volume told that changes began with.
pub record Stands (from v : Volume) (files : ℕ → List ℕ) (rows : Rows) (inodes : List ℕ) : Type 0 where
  pub whole : IsSized v
  pub beside : AreBesideSame from v
  pub formatted : failure all_built None v checks.Format ≡ None
  pub counted : free_inodes v ≡ clear_inodes v
  pub table : CarriesIn (table_of v) files rows inodes

pub few_inodes : (v : Volume) → IsSized v → v.inodes ≤ 8192
few_inodes v s =
    let parts = and_parts _ _ s.inodes in
    let bounds = and_parts _ _ (and_parts _ _ parts.0).0 in
    leb-true v.inodes 8192 bounds.1

no_block : (block : ℕ → ℕ) (o : Option ℕ) → block_of block o ≡ None → o ≡ None
no_block block None e = refl
no_block block (Some x) e = absurd (none-some (block x) (sym e))

-- a volume that carries a tree carries its rows
pub stands : (v : Volume) (files : ℕ → List ℕ) (rows : Rows) (inodes : List ℕ) → IsSized v → CarriesRows v files rows inodes → AreOrphansNamed (table_of v) → Stands v v files rows inodes
stands v files rows inodes whole c named =
    let roots = and_parts (is_dir_at (table_of v) 0) (is_dir_at (table_of v) 1) (right (is_dir_at (table_of v) 0 && is_dir_at (table_of v) 1) (record_block 0) c.roots) in
    let bad : ℕ → Bool = is_bad_record all_built (table_of v) in
    record {
      whole = whole;
      beside = record {
        blocks = refl;
        inodes = refl;
        long = refl;
        the_number = refl;
        the_format = refl;
        the_free_blocks = refl;
        bits = λ item h. refl;
        pages = λ inode page h k. refl;
        indirects = λ inode h. refl;
      };
      formatted = c.formatted;
      counted = c.counted;
      table = record {
        root = roots.0;
        orphans = roots.1;
        records = MatchOption-at_none (NoneBelow bad v.inodes) (IsLowest bad v.inodes) (no_block record_block (lowest bad v.inodes) c.records) (lowest_is_lowest bad v.inodes);
        sized = c.sized;
        named = named;
        renamed = c.renamed;
      };
    }

-- and where the rows are a tree it carries them
pub carries : (from v : Volume) (files : ℕ → List ℕ) (rows : Rows) (inodes : List ℕ) → Stands from v files rows inodes → IsTree rows → CarriesRows v files rows inodes × AreOrphansNamed (table_of v)
carries from v files rows inodes s tree =
    let t : Table = table_of v in
    let few : v.inodes ≤ 8192 = few_inodes v s.whole in (
      record {
        formatted = s.formatted;
        roots = ap (λ b. unless b (record_block 0)) (and_from (is_dir_at t 0) (is_dir_at t 1) s.table.root s.table.orphans);
        records = ap (block_of record_block) (lowest_none (is_bad_record all_built t) v.inodes s.table.records);
        slots = ap (block_of (slot_block v.inodes)) (lowest_none (is_bad_slot all_built t) v.inodes (slots_pass t files rows inodes s.table tree few));
        twins = ap (block_of (slot_block v.inodes)) (lowest_none (is_twin t) v.inodes (twins_pass t files rows inodes s.table tree few));
        rings = ap (block_of (slot_block v.inodes)) (lowest_none (is_in_ring t) v.inodes (rings_pass t files rows inodes s.table tree few));
        counted = s.counted;
        sized = s.table.sized;
        renamed = s.table.renamed;
      },
      s.table.named,
    )

-- ---- the count of free inodes

one_fewer : (free now most : ℕ) → free ≡ now + 1 → free ≤ most → most ≤ 8192 → (free + (2 ^ 64 - 1)) % 2 ^ 64 ≡ now
one_fewer free now most e l few =
    let sum : free + (2 ^ 64 - 1) ≡ now + 2 ^ 64 = omega arith in
    rw sum (add-mod_right now (2 ^ 64) ∙ mod-eq_of_lt (omega arith))

one_more : (free now most : ℕ) → free + 1 ≡ now → free ≤ most → most ≤ 8192 → (free + 1) % 2 ^ 64 ≡ now
one_more free now most e l few = mod-eq_of_lt (omega arith) ∙ e

count_right : (t : Table) (free : ℕ) (c : Change) → t.inodes ≤ 8192 → free ≡ failing t.is_used t.inodes → MayBe t c → free_after c free ≡ failing (table_after t c).is_used t.inodes
count_right t free (New inode parent name kind) few e m =
    let most : failing t.is_used t.inodes ≤ t.inodes = failing-le t.is_used t.inodes in
    let one : failing (with_at inode true t.is_used) t.inodes + 1 ≡ failing t.is_used t.inodes
    = failing-but_one (with_at inode true t.is_used) t.is_used inode t.inodes m.0 (at_here inode true t.is_used) m.1 (λ i ne. at_apart inode true t.is_used i ne) in
    one_fewer free (failing (with_at inode true t.is_used) t.inodes) t.inodes (e ∙ sym one) (omega arith) few
count_right t free (Drop inode) few e m =
    let most : failing t.is_used t.inodes ≤ t.inodes = failing-le t.is_used t.inodes in
    let one : failing t.is_used t.inodes + 1 ≡ failing (with_at inode false t.is_used) t.inodes
    = failing-but_one t.is_used (with_at inode false t.is_used) inode t.inodes m.0 m.1 (at_here inode false t.is_used) (λ i ne. sym (at_apart inode false t.is_used i ne)) in
    one_more free (failing (with_at inode false t.is_used) t.inodes) t.inodes (ap (λ z. z + 1) e ∙ one) (omega arith) few
count_right t free (Touch inode) few e m = e
count_right t free (Enter inode parent name) few e m = e
count_right t free (Fill inode bytes) few e m = e

-- ---- one change

-- what is the same after one step and the next is the same after both
beside_both : (u v w : Volume) → AreBesideSame u v → AreBesideSame v w → AreBesideSame u w
beside_both u v w a b =
    let count : v.inodes ≡ u.inodes = a.inodes in
    record {
      blocks = b.blocks ∙ a.blocks;
      inodes = b.inodes ∙ a.inodes;
      long = b.long ∙ a.long;
      the_number = b.the_number ∙ a.the_number;
      the_format = b.the_format ∙ a.the_format;
      the_free_blocks = b.the_free_blocks ∙ a.the_free_blocks;
      bits = λ item h. b.bits item h ∙ a.bits item h;
      pages = λ inode page h k. b.pages inode page (omega arith) k ∙ a.pages inode page h k;
      indirects = λ inode h. b.indirects inode (omega arith) ∙ a.indirects inode h;
    }

pub step : RecordsChangeTables → (from v : Volume) (files gs : ℕ → List ℕ) (rows after : Rows) (inodes : List ℕ) (c : Change) → Stands from v files rows inodes → MayBe (table_of v) c
    → CarriesIn (table_after (table_of v) c) gs after inodes → Stands from (changed v (c ∷ [])) gs after inodes
step law from v files gs rows after inodes c s may carried =
    let w : Volume = changed v (c ∷ []) in
    let told = law v c s.whole may in
    let same : AreSameTables (table_after (table_of v) c) (table_of w) = told.0 in
    let beside : AreBesideSame v w = told.1 in
    let count : (table_after (table_of v) c).inodes ≡ v.inodes = count_stays (table_of v) c in
    record {
      whole = record { blocks = s.whole.blocks; inodes = s.whole.inodes; long = beside.long ∙ s.whole.long };
      beside = beside_both from v w s.beside beside;
      formatted = (λ z. unless (beside.the_format z == 1 && is_last None (beside.the_number z)) counter_block) ∙ s.formatted;
      counted = told.2 ∙ count_right (table_of v) (free_inodes v) c (few_inodes v s.whole) s.counted may
          ∙ failing-same (table_after (table_of v) c).is_used (is_used w) v.inodes (λ i h. sym (same.used i (omega arith)));
      table = same_carries (table_after (table_of v) c) (table_of w) gs after inodes same carried;
    }

-- ---- several changes

all_recorded-append : (bytes : List ℕ) (xs ys : List Rec) → all_recorded bytes (xs ++ ys) ≡ all_recorded (all_recorded bytes xs) ys
all_recorded-append bytes [] ys = refl
all_recorded-append bytes (x ∷ xs) ys = all_recorded-append (recorded bytes x) xs ys

changed_first : (v : Volume) (c : Change) (more : List Change) → changed (changed v (c ∷ [])) more ≡ changed v (c ∷ more)
changed_first v c more =
    ap (λ (bytes : List ℕ). record v { bytes = bytes })
    (ap (λ recs. all_recorded (all_recorded v.bytes recs) (all_records v.inodes more)) (append-nil (records_of v.inodes c))
    ∙ sym (all_recorded-append v.bytes (records_of v.inodes c) (all_records v.inodes more)))

-- what stands after the first change and then the others stands after all
pub then_more : (from v : Volume) (c : Change) (more : List Change) (files : ℕ → List ℕ) (rows : Rows) (inodes : List ℕ) → Stands from (changed (changed v (c ∷ [])) more) files rows inodes → Stands from (changed v (c ∷ more)) files rows inodes
then_more from v c more files rows inodes s = subst (λ w. Stands from w files rows inodes) (changed_first v c more) s

-- ---- the changes of a row that stands

pub its_row : (from v : Volume) (files : ℕ → List ℕ) (rows : Rows) (inodes : List ℕ) → Stands from v files rows inodes → (s : ℕ) (r : Row) → get rows s ≡ Some r → HasRow (table_of v) files (inode_in inodes s) (with_parent (inode_in inodes) r)
its_row from v files rows inodes st s r is = row_there (table_of v) files (inode_in inodes s) (with_parent (inode_in inodes) r) (st.table.renamed.each s r is).1

pub touch_step : RecordsChangeTables → (from v : Volume) (files : ℕ → List ℕ) (rows : Rows) (inodes : List ℕ) (s : ℕ) (r : Row) → Stands from v files rows inodes → get rows s ≡ Some r
    → Stands from (changed v (Touch (inode_in inodes s) ∷ [])) files (store rows s (on_body counted (get rows s))) inodes
touch_step law from v files rows inodes s r st is =
    step law from v files files rows (store rows s (on_body counted (get rows s))) inodes (Touch (inode_in inodes s)) st (its_row from v files rows inodes st s r is).within
    (touch_carries (table_of v) files rows inodes s r st.table is)

-- the row loses its entry
pub leave_step : RecordsChangeTables → (from v : Volume) (files : ℕ → List ℕ) (rows : Rows) (inodes : List ℕ) (s : ℕ) (r : Row) (stays : Bool) → Stands from v files rows inodes → get rows s ≡ Some r → inode_in inodes s ≢ 0
    → Stands from (changed v (leaving (inode_in inodes s) stays ∷ [])) (files_after files (leaving (inode_in inodes s) stays)) (store rows s (left_of stays (get rows s))) inodes
leave_step law from v files rows inodes s r true st is low =
    let h : HasRow (table_of v) files (inode_in inodes s) (with_parent (inode_in inodes) r) = its_row from v files rows inodes st s r is in
    let in_table : inode_in inodes s < v.inodes = h.within in
    let few : v.inodes ≤ 8192 = few_inodes v st.whole in
    step law from v files files rows (store rows s (left_of true (get rows s))) inodes (Enter (inode_in inodes s) 1 (orphan_name (inode_in inodes s))) st
    (in_table, omega arith, orphan_is_name (inode_in inodes s) (omega arith))
    (orphan_carries (table_of v) files rows inodes s r st.table is low)
leave_step law from v files rows inodes s r false st is low =
    let h : HasRow (table_of v) files (inode_in inodes s) (with_parent (inode_in inodes) r) = its_row from v files rows inodes st s r is in
    let other : inode_in inodes s ≢ 1 = h.other in
    step law from v files files rows (store rows s (left_of false (get rows s))) inodes (Drop (inode_in inodes s)) st (h.within, h.used)
    (drop_carries (table_of v) files rows inodes s r st.table is (omega arith))

pub place_step : RecordsChangeTables → (from v : Volume) (files : ℕ → List ℕ) (rows : Rows) (inodes : List ℕ) (s d : ℕ) (r e : Row) (name : List ℕ) → Stands from v files rows inodes → get rows s ≡ Some r → get rows d ≡ Some e
    → inode_in inodes s ≢ 0 → is_name name ≡ true
    → Stands from (changed v (Enter (inode_in inodes s) (inode_in inodes d) name ∷ [])) files (store rows s (on_row (λ q. record q { parent = Some d; name = name }) (get rows s))) inodes
place_step law from v files rows inodes s d r e name st is dir low good =
    let h : HasRow (table_of v) files (inode_in inodes s) (with_parent (inode_in inodes) r) = its_row from v files rows inodes st s r is in
    let k : HasRow (table_of v) files (inode_in inodes d) (with_parent (inode_in inodes) e) = its_row from v files rows inodes st d e dir in
    let in_table : inode_in inodes d < v.inodes = k.within in
    let few : v.inodes ≤ 8192 = few_inodes v st.whole in
    step law from v files files rows (store rows s (on_row (λ q. record q { parent = Some d; name = name }) (get rows s))) inodes (Enter (inode_in inodes s) (inode_in inodes d) name) st
    (h.within, omega arith, good) (place_carries (table_of v) files rows inodes s r d name st.table is low k.other)

pub fill_step : RecordsChangeTables → (from v : Volume) (files : ℕ → List ℕ) (rows : Rows) (inodes : List ℕ) (s : ℕ) (r : Row) (bytes : List ℕ) → Stands from v files rows inodes → get rows s ≡ Some r
    → inode_in inodes s ≢ 0 → length bytes ≤ file_max
    → Stands from (changed v (Fill (inode_in inodes s) bytes ∷ [])) (files_after files (Fill (inode_in inodes s) bytes)) (store rows s (on_body (refilled (λ _. bytes)) (get rows s))) inodes
fill_step law from v files rows inodes s r bytes st is low short =
    let h : HasRow (table_of v) files (inode_in inodes s) (with_parent (inode_in inodes) r) = its_row from v files rows inodes st s r is in
    let other : inode_in inodes s ≢ 1 = h.other in
    step law from v files (files_after files (Fill (inode_in inodes s) bytes)) rows (store rows s (on_body (refilled (λ _. bytes)) (get rows s))) inodes (Fill (inode_in inodes s) bytes) st
    (h.within, omega arith) (fill_carries (table_of v) files rows inodes s r bytes st.table is (omega arith) short)
