-- Rows by serials and by inodes, when one row changes.
use Rattle.std.proofs.Common.{◌≡◌, ◌≢◌, ℕ, ◌<◌, List, length, refl, sym, ap, ◌∙◌, inl, inr}
use Rattle.std.specs.Prelude.{cond, Option, Some, None, option_map}
use Rattle.std.specs.FinMap.{get}
use Rattle.std.proofs.lemmas.Bool.{cases_eq, eq-eqb, ne_eqb}
use Rattle.std.proofs.lemmas.Option.{none-some}
use Rattle.tree_model.specs.declared.rows.Row.{Row}
use Rattle.tree_model.specs.Rows.{Rows}
use Rattle.tree_model.specs.Updates.{store}
use Rattle.tree_model.proofs.Edited.{get_store}
use Rattle.image_model.specs.Trees.{with_parent}
use Rattle.image_model.specs.Carrying.{inode_in, IsRenamed}

pub store_here : (t : Rows) (s : ℕ) (o : Option Row) → get (store t s o) s ≡ o
store_here t s o = get_store t s o s ∙ ap (λ b. cond b o (get t s)) (eq-eqb s s refl)

pub store_apart : (t : Rows) (s : ℕ) (o : Option Row) (l : ℕ) → l ≢ s → get (store t s o) l ≡ get t l
store_apart t s o l apart = get_store t s o l ∙ ap (λ b. cond b o (get t l)) (ne_eqb l s apart)

-- no other serial with a row has the inode of this one
abbrev pub IsAlone : List ℕ → Rows → ℕ → Type 0
IsAlone inodes t s = (l : ℕ) (q : Row) → get t l ≡ Some q → inode_in inodes l ≡ inode_in inodes s → l ≡ s

pub alone_by_row : (inodes : List ℕ) (t : Rows) (row : ℕ → Option Row) → IsRenamed inodes t row → (s : ℕ) (r : Row) → get t s ≡ Some r → IsAlone inodes t s
alone_by_row inodes t row h s r is l q a e = h.once l s q r a is e

-- the row of one serial becomes another, or none
pub renamed_at : (inodes : List ℕ) (t : Rows) (row after : ℕ → Option Row) (s : ℕ) (o : Option Row)
    → IsRenamed inodes t row → s < length inodes → IsAlone inodes t s → ((j : ℕ) → j ≢ inode_in inodes s → after j ≡ row j)
    → after (inode_in inodes s) ≡ option_map (with_parent (inode_in inodes)) o → IsRenamed inodes (store t s o) after
renamed_at inodes t row after s o h within only beside here = record { each = each_row; all = all_rows; once = one_inode }
  where
    each_row : (l : ℕ) (q : Row) → get (store t s o) l ≡ Some q → (l < length inodes) × (after (inode_in inodes l) ≡ Some (with_parent (inode_in inodes) q))
    each_row l q a = elim (cases_eq l s) [
      | inl e ↦
          let o_is : o ≡ Some q = sym (store_here t s o) ∙ ap (get (store t s o)) (sym e) ∙ a in
          (rw e within, ap (λ z. after (inode_in inodes z)) e ∙ here ∙ ap (option_map (with_parent (inode_in inodes))) o_is)
      | inr ne ↦
          let old : get t l ≡ Some q = sym (store_apart t s o l ne) ∙ a in
          let told = h.each l q old in
          (told.0, beside (inode_in inodes l) (λ z. ne (only l q old z)) ∙ told.1)
    ]

    here_or_none : (i : ℕ) (q : Row) → i ≡ inode_in inodes s → after i ≡ Some q → (p : Option Row) → o ≡ p → (l : ℕ) × ((r : Row) × (get (store t s o) l ≡ Some r) × (inode_in inodes l ≡ i))
    here_or_none i q e a None is = absurd (none-some q (sym (ap (option_map (with_parent (inode_in inodes))) is) ∙ sym here ∙ ap after (sym e) ∙ a))
    here_or_none i q e a (Some p) is = (s, (p, store_here t s o ∙ is, sym e))

    all_rows : (i : ℕ) (q : Row) → after i ≡ Some q → (l : ℕ) × ((r : Row) × (get (store t s o) l ≡ Some r) × (inode_in inodes l ≡ i))
    all_rows i q a = elim (cases_eq i (inode_in inodes s)) [
      | inl e ↦ here_or_none i q e a o refl
      | inr ne ↦
          let w : (l : ℕ) × ((r : Row) × (get t l ≡ Some r) × (inode_in inodes l ≡ i)) = h.all i q (sym (beside i ne) ∙ a) in
          (w.0, (w.1.0, store_apart t s o w.0 (λ z. ne (sym w.1.2 ∙ ap (inode_in inodes) z)) ∙ w.1.1, w.1.2))
    ]

    one_inode : (l u : ℕ) (r q : Row) → get (store t s o) l ≡ Some r → get (store t s o) u ≡ Some q → inode_in inodes l ≡ inode_in inodes u → l ≡ u
    one_inode l u r q a b e = elim (cases_eq l s) [
      | inl x ↦ elim (cases_eq u s) [
        | inl y ↦ x ∙ sym y
        | inr y ↦ absurd (y (only u q (sym (store_apart t s o u y) ∙ b) (sym e ∙ ap (inode_in inodes) x)))
      ]
      | inr x ↦ elim (cases_eq u s) [
        | inl y ↦ absurd (x (only l r (sym (store_apart t s o l x) ∙ a) (e ∙ ap (inode_in inodes) y)))
        | inr y ↦ h.once l u r q (sym (store_apart t s o l x) ∙ a) (sym (store_apart t s o u y) ∙ b) e
      ]
    ]
