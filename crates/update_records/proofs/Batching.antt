-- A volume that carries a tree carries the tree after any updates that follow each other, once their records are put on it.
use Rattle.std.proofs.Common.{◌≡◌, ℕ, ◌<◌, ◌≤◌, List, [], ◌∷◌, ◌++◌, refl, subst, ◌∙◌, arith}
use Rattle.std.specs.Prelude.{false}
use Rattle.std.proofs.lemmas.Bool.{false_from_ne_true}
use Rattle.tree_model.specs.declared.rows.Update.{Update}
use Rattle.tree_model.specs.declared.rows.Update.TheVariants.{Make, Write, Resize, Remove, Move, Release}
use Rattle.tree_model.specs.Rows.{Rows}
use Rattle.tree_model.specs.Updates.{apply, Fits}
use Rattle.tree_model.proofs.TreeKept.{tree_kept}
use Rattle.image_model.specs.Volumes.{Volume, table_of, is_used}
use Rattle.image_model.specs.Trees.{row_by_inode}
use Rattle.image_model.specs.Carrying.{CarriesRows}
use Rattle.image_model.specs.Changes.{Change, changed, changes_of, files_changed}
use Rattle.image_model.specs.ChangeLaws.{AreBesideSame, Needs}
use Rattle.image_model.proofs.CarriedTables.{row_of_used}
use Rattle.image_model.proofs.CarriedUpdates.{updates_are_carried, updates_leave_the_rest}
use Rattle.image_model.proofs.ChangingTables.{records_change_tables}
use Rattle.update_records.specs.Batches.{tree_after, changes_of_all, IsNoRows, HasItsInode, IsNamed}
use Rattle.update_records.specs.BatchLaws.{Stands, BatchesAreCarried}
use Rattle.update_records.proofs.Lists.{changed_append, files_changed_append}

-- ---- what is the same

beside_none : (v : Volume) → AreBesideSame v v
beside_none v = record {
  blocks = refl;
  inodes = refl;
  long = refl;
  the_number = refl;
  the_format = refl;
  the_free_blocks = refl;
  bits = λ item h. refl;
  pages = λ inode page h k. refl;
  indirects = λ inode h. refl;
}

-- what is the same after one step and the next is the same after both
beside_both : (u v w : Volume) → AreBesideSame u v → AreBesideSame v w → AreBesideSame u w
beside_both u v w a b =
    let count : v.inodes ≡ u.inodes = a.inodes in
    record {
      blocks = b.blocks ∙ a.blocks;
      inodes = b.inodes ∙ a.inodes;
      long = b.long ∙ a.long;
      the_number = b.the_number ∙ a.the_number;
      the_format = b.the_format ∙ a.the_format;
      the_free_blocks = b.the_free_blocks ∙ a.the_free_blocks;
      bits = λ item h. b.bits item h ∙ a.bits item h;
      pages = λ inode page h k. b.pages inode page (omega arith) k ∙ a.pages inode page h k;
      indirects = λ inode h. b.indirects inode (omega arith) ∙ a.indirects inode h;
    }

-- ---- one update

-- an inode from 2 on that is no row's isn't used: a used one but the orphan directory has a row
free_inode : (v : Volume) (files : ℕ → List ℕ) (t : Rows) (inodes : List ℕ) (i : ℕ) → CarriesRows v files t inodes → 2 ≤ i → i < v.inodes → IsNoRows inodes t i → is_used v i ≡ false
free_inode v files t inodes i c least within free = false_from_ne_true (is_used v i) (λ used.
    let row = c.renamed.all i (row_by_inode (table_of v) files i) (row_of_used (table_of v) files i within used (λ e. omega arith)) in
    free row.0 row.1.0 row.1.1 row.1.2)

needs : (v : Volume) (files : ℕ → List ℕ) (t : Rows) (inodes : List ℕ) (u : Update) → CarriesRows v files t inodes → IsNamed u → HasItsInode v.inodes inodes t u → Needs v inodes u
needs v files t inodes (Make dir name id is_dir) c named has = (named, has.0, has.1, has.2, free_inode v files t inodes _ c has.1 has.2 has.3)
needs v files t inodes (Write id off bytes) c named has = tt
needs v files t inodes (Resize id len) c named has = tt
needs v files t inodes (Remove dir name id stays) c named has = tt
needs v files t inodes (Move dir name to_dir to_name id is_dir replaced stays) c named has = named
needs v files t inodes (Release id) c named has = tt

-- what one update gives
one : (v : Volume) (files : ℕ → List ℕ) (t : Rows) (inodes : List ℕ) (u : Update) → Stands v files t inodes → Fits t u → IsNamed u → HasItsInode v.inodes inodes t u
    → Stands (changed v (changes_of inodes t u)) (files_changed files (changes_of inodes t u)) (apply t u) inodes
    × AreBesideSame v (changed v (changes_of inodes t u))
one v files t inodes u s fits named has =
    let need : Needs v inodes u = needs v files t inodes u s.rows named has in
    let carried = updates_are_carried records_change_tables v files t inodes u s.sized s.rows s.orphans s.tree fits need in
    let rest = updates_leave_the_rest records_change_tables v files t inodes u s.sized s.rows s.orphans s.tree fits need in
    (record { sized = rest.0; rows = carried.0; orphans = carried.1; tree = tree_kept t u s.tree fits }, rest.1)

-- ---- all of them

-- what a volume and contents of files are after updates
abbrev Are : (from w : Volume) (files : ℕ → List ℕ) (t : Rows) (inodes : List ℕ) → Type 0
Are from w files t inodes = Stands w files t inodes × AreBesideSame from w

pub batches_are_carried : BatchesAreCarried
batches_are_carried v files t inodes [] s fit named has = (s, beside_none v)
batches_are_carried v files t inodes (u ∷ us) s fit named has =
    let first : List Change = changes_of inodes t u in
    let more : List Change = changes_of_all inodes (apply t u) us in
    let w : Volume = changed v first in
    let a : Are v w (files_changed files first) (apply t u) inodes = one v files t inodes u s fit.0 named.0 has.0 in
    let b : Are w (changed w more) (files_changed (files_changed files first) more) (tree_after (apply t u) us) inodes
    = batches_are_carried w (files_changed files first) (apply t u) inodes us a.0 fit.1 named.1 has.1 in
    let both : Are v (changed w more) (files_changed (files_changed files first) more) (tree_after (apply t u) us) inodes
    = (b.0, beside_both v w (changed w more) a.1 b.1) in
    subst (λ (gs : ℕ → List ℕ). Are v (changed v (first ++ more)) gs (tree_after (apply t u) us) inodes) (files_changed_append files first more)
    (subst (λ (x : Volume). Are v x (files_changed (files_changed files first) more) (tree_after (apply t u) us) inodes) (changed_append v first more) both)
