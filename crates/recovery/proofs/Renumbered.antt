-- A tree whose rows have other serials has the same items below each row.
use Rattle.std.proofs.Common.{◌≡◌, ℕ, zero, suc, ◌+◌, List, [], ◌∷◌, ◌++◌, refl, sym, ap, subst, ◌∙◌, inl, inr}
use Rattle.std.proofs.Math.Path.{ap₂}
use Rattle.std.specs.Prelude.{Bool, true, false, cond, ◌&&◌, T, Option, Some, None, option_map, length, map}
use Rattle.std.specs.List.{flat_map}
use Rattle.std.specs.Ordering.{is_lt, eq_by_cmp}
use Rattle.std.specs.FinMap.{get, find, is_sorted, entries, entries_sorted, same_map, get-entries, from_sorted, get-from_sorted, entries-from_sorted}
use Rattle.std.specs.FinMap.Entries.{below_all}
use Rattle.std.proofs.lemmas.Bool.{cases_eq}
use Rattle.std.proofs.lemmas.Cmp.{nat_list_cmp_total}
use Rattle.std.proofs.lemmas.List.{length-map}
use Rattle.tree_model.specs.declared.rows.Row.{Row}
use Rattle.tree_model.specs.declared.picturing.Item.{Item}
use Rattle.tree_model.specs.Rows.{Rows, place, place_of, kind, IsEntry, IsTree}
use Rattle.tree_model.specs.Entries.{Index, entries_of, entry, children}
use Rattle.tree_model.specs.Picture.{item_kind, head, items}
use Rattle.tree_model.proofs.MapView.{bytes_same}
use Rattle.tree_model.proofs.Index.{bytes_cmp}
use Rattle.tree_model.proofs.Found.{entry_stands, entry_is, vacant_none, none_vacant}
use Rattle.image_model.specs.Trees.{with_parent}
use Rattle.image_model.specs.Carrying.{inode_in, IsRenamed}
use Rattle.image_model.proofs.PreorderLists.{In}
use Rattle.image_model.proofs.Preorder.{in_child}
use Rattle.image_model.proofs.SoundNumbers.{moved, spot_moved, moved_from}

-- ---- entries with other serials

-- the same names, each with what f makes of its serial
abbrev renumbered : (ℕ → ℕ) → List (List ℕ × ℕ) → List (List ℕ × ℕ)
renumbered f es = map (λ e. (e.0, f e.1)) es

found_renumbered : (f : ℕ → ℕ) (n : List ℕ) (es : List (List ℕ × ℕ)) → find bytes_cmp n (renumbered f es) ≡ option_map f (find bytes_cmp n es)
found_renumbered f n [] = refl
found_renumbered f n (e ∷ es) =
    ap (cond (eq_by_cmp bytes_cmp n e.0) (Some (f e.1))) (found_renumbered f n es)
    ∙ elim (eq_by_cmp bytes_cmp n e.0) as (λ b. cond b (Some (f e.1)) (option_map f (find bytes_cmp n es)) ≡ option_map f (cond b (Some e.1) (find bytes_cmp n es))) [ true ↦ refl | false ↦ refl ]

below_renumbered : (f : ℕ → ℕ) (n : List ℕ) (es : List (List ℕ × ℕ)) → below_all bytes_cmp n (renumbered f es) ≡ below_all bytes_cmp n es
below_renumbered f n [] = refl
below_renumbered f n (e ∷ es) = ap (λ b. is_lt (bytes_cmp n e.0) && b) (below_renumbered f n es)

sorted_renumbered : (f : ℕ → ℕ) (es : List (List ℕ × ℕ)) → is_sorted bytes_cmp (renumbered f es) ≡ is_sorted bytes_cmp es
sorted_renumbered f [] = refl
sorted_renumbered f (e ∷ es) = ap₂ (λ a b. a && b) (below_renumbered f e.0 es) (sorted_renumbered f es)

-- entries that have at each name what f makes of those of another index
entries_renumbered : (f : ℕ → ℕ) (m n : Index) → ((q : List ℕ) → get n q ≡ option_map f (get m q)) → entries n ≡ renumbered f (entries m)
entries_renumbered f m n same =
    let sorted : T (is_sorted bytes_cmp (renumbered f (entries m))) = subst T (sym (sorted_renumbered f (entries m))) (entries_sorted m) in
    let is : n ≡ from_sorted (renumbered f (entries m)) = same_map nat_list_cmp_total bytes_same _ _ (λ q.
    same q ∙ ap (option_map f) (get-entries m q) ∙ sym (found_renumbered f q (entries m)) ∙ sym (get-from_sorted bytes_cmp (renumbered f (entries m)) q sorted)) in
    ap entries is ∙ entries-from_sorted bytes_cmp (renumbered f (entries m)) sorted

flat_renumbered : (f : ℕ → ℕ) (g h : ℕ → List Item) (es : List (List ℕ × ℕ)) → ((e : List ℕ × ℕ) → In es e → g (f e.1) ≡ h e.1)
    → flat_map (λ e. g e.1) (renumbered f es) ≡ flat_map (λ e. h e.1) es
flat_renumbered f g h [] same = refl
flat_renumbered f g h (e ∷ es) same = ap₂ (λ a b. a ++ b) (same e (inl refl)) (flat_renumbered f g h es (λ d i. same d (inr i)))

-- ---- rows with other serials

-- a row that stands somewhere, or is something, is there
row_placed : (o : Option Row) (p : ℕ × List ℕ) → place o ≡ Some p → (r : Row) × (o ≡ Some r)
row_placed None p e = absurd (let z : ◌≡◌ {A = Option (ℕ × List ℕ)} None (Some p) = e in cc)
row_placed (Some r) p e = (r, refl)

row_of_kind : (o : Option Row) (b : Bool) → kind o ≡ Some b → (r : Row) × (o ≡ Some r)
row_of_kind None b e = absurd (let z : ◌≡◌ {A = Option Bool} None (Some b) = e in cc)
row_of_kind (Some r) b e = (r, refl)

-- ---- two trees

module _ (t w : Rows) (tree : IsTree t) (other : IsTree w) (inodes : List ℕ) (h : IsRenamed inodes t (λ i. get w i)) where
  abbrev f : ℕ → ℕ
  f s = inode_in inodes s

  there : (s : ℕ) (r : Row) → get t s ≡ Some r → get w (f s) ≡ Some (with_parent f r)
  there s r is = (h.each s r is).1

  -- the root is the root
  pub same_root : f 0 ≡ 0
  same_root = elim (cases_eq (f 0) 0) [
    | inl e ↦ e
    | inr ne ↦ absurd (
        let root = tree.root in
        let at = there 0 _ root.1 in
        other.gone (f 0) ne (ap place at) (ap kind at))
  ]

  -- ---- entries

  placed : (s : ℕ) (r : Row) → get t s ≡ Some r → place_of w (f s) ≡ moved f (place_of t s)
  placed s r is = ap place (there s r is) ∙ spot_moved f r.parent r.name ∙ sym (ap (λ o. moved f (place o)) is)

  entry_forth : (d x : ℕ) (n : List ℕ) → IsEntry t d n x → IsEntry w (f d) n (f x)
  entry_forth d x n e = let r = row_placed (get t x) (d, n) e in placed x r.0 r.1 ∙ ap (moved f) e

  entry_back : (d y : ℕ) (n : List ℕ) (q : Row) → get t d ≡ Some q → IsEntry w (f d) n y → (x : ℕ) × IsEntry t d n x
  entry_back d y n q is e =
      let r = row_placed (get w y) (f d, n) e in
      let s : (u : ℕ) × ((p : Row) × (get t u ≡ Some p) × (f u ≡ y)) = h.all y r.0 r.1 in
      let m = moved_from f (place_of t s.0) (f d) n (sym (placed s.0 s.1.0 s.1.1) ∙ ap (place_of w) s.1.2 ∙ e) in
      let p = row_of_kind (get t m.0) true (tree.parents s.0 m.0 n m.1.0) in
      let same : m.0 ≡ d = h.once m.0 d p.0 q p.1 is m.1.1 in
      (s.0, subst (λ z. IsEntry t z n s.0) same m.1.0)

  same_entry : (d : ℕ) (q : Row) → get t d ≡ Some q → (n : List ℕ) → entry w (f d) n ≡ option_map f (entry t d n)
  same_entry d q is n = elim (entry t d n) as (λ o. entry t d n ≡ o → entry w (f d) n ≡ option_map f o) [
    | None ↦ λ e. none_vacant w (f d) n (λ y p. let b = entry_back d y n q is p in vacant_none t d n e b.0 b.1)
    | Some x ↦ λ e. (entry_is w other (f d) n (f x)).1 (entry_forth d x n (entry_stands t d n x e))
  ] refl

  same_children : (d : ℕ) (q : Row) → get t d ≡ Some q → children w (f d) ≡ renumbered f (children t d)
  same_children d q is = entries_renumbered f (entries_of t d) (entries_of w (f d)) (same_entry d q is)

  -- ---- items

  same_head : (depth x : ℕ) (r : Row) → get t x ≡ Some r → head w depth (f x) (get w (f x)) ≡ head t depth x (get t x)
  same_head depth x r is =
      ap (head w depth (f x)) (there x r is)
      ∙ ap (λ (n : ℕ). (record { depth = depth; name = r.name; kind = item_kind n r.body }) ∷ [])
      (ap (λ (es : List (List ℕ × ℕ)). length es) (same_children x r is) ∙ length-map (children t x) (λ (e : List ℕ × ℕ). (e.0, f e.1)))
      ∙ sym (ap (head t depth x) is)

  pub same_items : (levels depth x : ℕ) (r : Row) → get t x ≡ Some r → items levels w depth (f x) ≡ items levels t depth x
  same_items zero depth x r is = same_head depth x r is
  same_items (suc l) depth x r is = ap₂ (λ a b. a ++ b) (same_head depth x r is)
      (ap (flat_map (λ (e : List ℕ × ℕ). items l w (depth + 1) e.1)) (same_children x r is)
      ∙ flat_renumbered f (items l w (depth + 1)) (items l t (depth + 1)) (children t x)
      (λ e i. let c = row_placed (get t e.1) (x, e.0) (in_child t tree x e i) in same_items l (depth + 1) e.1 c.0 c.1))
