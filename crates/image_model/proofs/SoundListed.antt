-- The inodes of a sound table in order of their serials: those of the preorder, and then the gone files.
use Rattle.std.proofs.Common.{◌≡◌, ℕ, zero, suc, ◌<◌, ◌≢◌, List, ◌++◌, length, slice_index, refl, sym, ap, subst, ◌∙◌, ◌⊎◌, inl, inr, arith}
use Rattle.std.specs.Prelude.{Bool, true, cond, not, ◌&&◌, ◌==◌, nat_lt, is_none, is_some, Option, Some, None, option_map}
use Rattle.std.specs.List.{range_with_len}
use Rattle.std.specs.FinMap.{get, len}
use Rattle.std.proofs.lemmas.Bool.{and_parts, and_from, cases_eq, ne_eqb, eqb-false, not-true, not_from_false, ltb-true}
use Rattle.tree_model.specs.declared.rows.Row.{Row}
use Rattle.tree_model.specs.Rows.{Rows, spot, place, place_of, parent_in, parent_of, up, IsTree}
use Rattle.tree_model.proofs.Chains.{up_last}
use Rattle.image_model.specs.Volumes.{Table}
use Rattle.image_model.specs.Trees.{has_row, row_at, by_inodes, preorder, is_unplaced, gone, inodes_of, row_by_serial, by_serials, with_parent}
use Rattle.image_model.specs.Carrying.{IsRenamed}
use Rattle.image_model.proofs.RowsBelow.{rows_are_those}
use Rattle.image_model.proofs.PreorderLists.{In, in_left, in_right, in_either, once_both, in_filter, in_filtered, once_filter, in_range, once_range, first_place}
use Rattle.image_model.proofs.Preorder.{in_below, once_preorder, is_row, root_row, rooted_in}
use Rattle.image_model.proofs.SoundNumbers.{Numbers, numbered_tree, renamed, rows_are_places}
use Rattle.image_model.proofs.SoundTable.{IsSoundTable, got, row_there, inodes_tree}

-- ---- rows that stand nowhere

unplaced_there : (o : Option Row) → is_unplaced o ≡ true → is_some o ≡ true
unplaced_there None e = e
unplaced_there (Some r) e = refl

spot_none : (o : Option ℕ) (n : List ℕ) → is_none o ≡ true → spot o n ≡ None
spot_none None n e = refl
spot_none (Some d) n e = absurd (cc)

none_spot : (o : Option ℕ) (n : List ℕ) → spot o n ≡ None → is_none o ≡ true
none_spot None n e = refl
none_spot (Some d) n e = absurd (cc)

unplaced_nowhere : (o : Option Row) → is_unplaced o ≡ true → place o ≡ None
unplaced_nowhere None e = refl
unplaced_nowhere (Some r) e = spot_none r.parent r.name e

nowhere_unplaced : (o : Option Row) → is_some o ≡ true → place o ≡ None → is_unplaced o ≡ true
nowhere_unplaced None there e = there
nowhere_unplaced (Some r) there e = none_spot r.parent r.name e

-- ---- the list

-- a preorder begins with its row
begins : (levels x : ℕ) (rows : Rows) (more : List ℕ) → (0 < length (preorder levels rows x ++ more)) × (slice_index (preorder levels rows x ++ more) 0 ≡ x)
begins zero x rows more = (omega arith, refl)
begins (suc l) x rows more = (omega arith, refl)

module _ (t : Table) (files : ℕ → List ℕ) (sound : IsSoundTable t) where
  abbrev rows : Rows
  rows = by_inodes t files

  abbrev inodes : List ℕ
  inodes = inodes_of t files

  abbrev picture : List ℕ
  picture = preorder (len rows) rows 0

  tree : IsTree rows
  tree = inodes_tree t files sound

  abbrev is_gone : ℕ → Bool
  is_gone i = not (i == 0) && is_unplaced (row_at t files i)

  -- what is known of a gone file
  pub gone_is : (x : ℕ) → In (gone t files) x → (x ≢ 0) × ((is_some (get rows x) ≡ true) × (place_of rows x ≡ None))
  gone_is x h =
      let passes = and_parts (not (x == 0)) (is_unplaced (row_at t files x)) (in_filtered is_gone (range_with_len 0 t.inodes) x h).0 in (
        eqb-false x 0 (not-true (x == 0) passes.0),
        (ap (λ o. is_some o) (got t files sound x) ∙ unplaced_there (row_at t files x) passes.1, ap place (got t files sound x) ∙ unplaced_nowhere (row_at t files x) passes.1),
      )

  is_gone_in : (x : ℕ) → x ≢ 0 → is_some (get rows x) ≡ true → place_of rows x ≡ None → In (gone t files) x
  is_gone_in x ne there none =
      let has : has_row t x ≡ true = sym (row_there t files sound x) ∙ there in
      let below : x < t.inodes = ltb-true x t.inodes (and_parts (nat_lt x t.inodes) (t.is_used x && not (x == 1)) has).0 in
      let passes : is_unplaced (row_at t files x) ≡ true =
      nowhere_unplaced (row_at t files x) (ap (λ o. is_some o) (sym (got t files sound x)) ∙ there) (ap place (sym (got t files sound x)) ∙ none) in
      in_filter is_gone (range_with_len 0 t.inodes) x (and_from (not (x == 0)) (is_unplaced (row_at t files x)) (not_from_false (x == 0) (ne_eqb x 0 ne)) passes)
      (in_range 0 t.inodes x (omega arith) (omega arith))

  -- a row that is below another has a parent
  below_has_parent : (k x : ℕ) → up (parent_of rows) (suc k) x ≡ Some 0 → (y : ℕ) × (parent_of rows x ≡ Some y)
  below_has_parent k x p = elim (parent_of rows x) as (λ o. parent_of rows x ≡ o → (y : ℕ) × (o ≡ Some y)) [
    | None ↦ λ e. absurd (let z : ◌≡◌ {A = Option ℕ} None (Some 0) = sym (up_last (parent_of rows) k x e) ∙ p in cc)
    | Some y ↦ λ e. (y, refl)
  ] refl

  root_or_child : (x : ℕ) → In picture x → (x ≡ 0) ⊎ ((y : ℕ) × (parent_of rows x ≡ Some y))
  root_or_child x h =
      let b = in_below rows tree (len rows) 0 x h in
      by_steps b.0 b.1
    where
      by_steps : (k : ℕ) → up (parent_of rows) k x ≡ Some 0 → (x ≡ 0) ⊎ ((y : ℕ) × (parent_of rows x ≡ Some y))
      by_steps zero p = inl (let q : ◌≡◌ {A = Option ℕ} (Some x) (Some 0) = p in cc)
      by_steps (suc k) p = inr (below_has_parent k x p)

  apart : (x : ℕ) → In picture x → In (gone t files) x → ⊥
  apart x h g =
      let file = gone_is x g in
      elim (root_or_child x h) [
        | inl e ↦ file.0 e
        | inr w ↦ (let z : ◌≡◌ {A = Option ℕ} None (Some w.0) = sym (ap parent_in file.1.1) ∙ w.1 in cc)
      ]

  each : (x : ℕ) → In inodes x → is_some (get rows x) ≡ true
  each x h = elim (in_either picture (gone t files) x h) [
    | inl p ↦ elim (root_or_child x p) [
      | inl e ↦ ap (λ z. is_some (get rows z)) e ∙ root_row rows tree
      | inr w ↦ is_row rows tree x w.0 w.1
    ]
    | inr g ↦ (gone_is x g).1.0
  ]

  all : (x : ℕ) → is_some (get rows x) ≡ true → In inodes x
  all x there = elim (place_of rows x) as (λ o. place_of rows x ≡ o → In inodes x) [
    | None ↦ λ e. elim (cases_eq x 0) [
      | inl root ↦ in_left picture (gone t files) x (rooted_in rows tree 0 x there (ap (λ z. Some z) root))
      | inr other ↦ in_right picture (gone t files) x (is_gone_in x other there e)
    ]
    | Some p ↦ λ e.
        let r = tree.rooted x p.0 p.1 e in
        in_left picture (gone t files) x (rooted_in rows tree r.0 x there r.1)
  ] refl

  pub numbers : Numbers rows inodes
  numbers = record {
    once = once_both picture (gone t files) (once_preorder rows tree (len rows) 0 0 refl) (once_filter is_gone (range_with_len 0 t.inodes) (once_range 0 t.inodes)) apart;
    some = (begins (len rows) 0 rows (gone t files)).0;
    root = (begins (len rows) 0 rows (gone t files)).1;
    each = each;
    all = all;
  }

  -- ---- the tree by serials

  by_number : (s : ℕ) → get (by_serials t files) s ≡ cond (nat_lt s (length inodes)) (option_map (with_parent (first_place inodes)) (get rows (slice_index inodes s))) None
  by_number s = rows_are_those (row_by_serial t files) (length inodes) s
      ∙ ap (λ o. cond (nat_lt s (length inodes)) (option_map (with_parent (first_place inodes)) o) None) (sym (got t files sound (slice_index inodes s)))

  pub serials_tree : IsTree (by_serials t files)
  serials_tree = numbered_tree rows tree inodes numbers (by_serials t files) by_number

  same_rows : (λ i. get rows i) ≡ row_at t files
  same_rows = let at = got t files sound in λ z. λ i. at i z

  pub serials_renamed : IsRenamed inodes (by_serials t files) (row_at t files)
  serials_renamed = subst (IsRenamed inodes (by_serials t files)) same_rows (renamed rows tree inodes numbers (by_serials t files) by_number)

  pub serials_are_places : (s : ℕ) → is_some (get (by_serials t files) s) ≡ nat_lt s (length inodes)
  serials_are_places = rows_are_places rows tree inodes numbers (by_serials t files) by_number
