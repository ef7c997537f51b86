-- The inodes of serials without rows are free to choose.
use Rattle.std.proofs.Common.{◌≡◌, ℕ, List, refl, sym, ap, ◌∙◌}
use Rattle.std.specs.Prelude.{Option, Some, None, option_map}
use Rattle.std.specs.FinMap.{get}
use Rattle.tree_model.specs.declared.rows.Row.{Row}
use Rattle.tree_model.specs.Rows.{Rows, spot, place, IsEntry, IsTree}
use Rattle.image_model.specs.Volumes.{table_of}
use Rattle.image_model.specs.Trees.{row_at, with_parent}
use Rattle.image_model.specs.Carrying.{inode_in, IsRenamed}
use Rattle.image_model.specs.CarriedLaws.{HaveSameInodes, FreeSerialsMayChange}
use Rattle.image_model.proofs.CarriedSound.{dir_row}

module _ (t : Rows) (inodes others : List ℕ) (tree : IsTree t) (same : HaveSameInodes t inodes others) where
  -- the parent of a row has a row too
  same_parent : (s : ℕ) (r : Row) → get t s ≡ Some r → (o : Option ℕ) → r.parent ≡ o → option_map (inode_in inodes) o ≡ option_map (inode_in others) o
  same_parent s r is None e = refl
  same_parent s r is (Some d) e =
      let entry : IsEntry t d r.name s = ap place is ∙ ap (λ o. spot o r.name) e in
      let dir = dir_row (get t d) (tree.parents s d r.name entry) in
      ap (λ z. Some z) (sym (same d dir.0 dir.1).1)

  same_row : (s : ℕ) (r : Row) → get t s ≡ Some r → with_parent (inode_in inodes) r ≡ with_parent (inode_in others) r
  same_row s r is = let parent = same_parent s r is r.parent refl in λ z. record r { parent = parent z }

  renamed : (row : ℕ → Option Row) → IsRenamed inodes t row → IsRenamed others t row
  renamed row h = record {
    each = λ s r is. ((same s r is).0, ap row (same s r is).1 ∙ (h.each s r is).1 ∙ ap (λ (q : Row). Some q) (same_row s r is));
    all = λ i r is. (
        let w : (s : ℕ) × ((q : Row) × (get t s ≡ Some q) × (inode_in inodes s ≡ i)) = h.all i r is in
        (w.0, (w.1.0, w.1.1, (same w.0 w.1.0 w.1.1).1 ∙ w.1.2)));
    once = λ s u r q is also e. h.once s u r q is also (sym (same s r is).1 ∙ e ∙ (same u q also).1);
  }

pub free_serials_may_change : FreeSerialsMayChange
free_serials_may_change v files t inodes others c tree same = record {
  formatted = c.formatted;
  roots = c.roots;
  records = c.records;
  slots = c.slots;
  twins = c.twins;
  rings = c.rings;
  counted = c.counted;
  sized = c.sized;
  renamed = renamed t inodes others tree same (row_at (table_of v) files) c.renamed;
}
