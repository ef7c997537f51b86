-- What unsealed updates own as streams are sealed and updates enter.
use Rattle.std.proofs.Common.{◌≡◌, ◌≢◌, ◌⊎◌, inl, inr, ℕ, ◌<◌, List, [], ◌∷◌, refl, sym, ap, subst, ◌∙◌}
use Rattle.std.specs.Prelude.{Bool, true, false, not, ◌&&◌, ◌||◌, ◌==◌, None, Some, map}
use Rattle.std.specs.List.{list_any}
use Rattle.std.specs.FinMap.{len}
use Rattle.std.proofs.lemmas.Bool.{eqb-true, eq-eqb, cases_eq, cases_Bool, false_from_ne_true}
use Rattle.stream_cuts.specs.Streams.{without, MayEnter}
use Rattle.stream_cuts.proofs.Forcing.{numbered_without}
use Rattle.tree_model.specs.declared.rows.Update.{Update}
use Rattle.tree_model.specs.declared.rows.Update.TheVariants.{Make, Write, Resize, Remove, Move, Release}
use Rattle.tree_model.specs.declared.keys.Key.TheVariants.{Entry, Node}
use Rattle.tree_model.specs.Rows.{Rows, place_of, IsTree}
use Rattle.tree_model.specs.Keys.{shape_key, keys_of, meets}
use Rattle.tree_model.proofs.Placed.{placed_make, placed_move}
use Rattle.tree_model.proofs.Locks.{In, Stands, no_entry, no_node_back, at_here, node_same, needed_apart, node_replaced}
use Rattle.tree_model.proofs.Frames.{place_frame, Moved}
use Rattle.tree_model.specs.Updates.{Fits, apply}
use Rattle.tree_cuts.specs.Calls.{Charge, Charged}
use Rattle.tree_cuts.proofs.Plain.{ChargedMeet}
use Rattle.history_laws.proofs.Turns.{Born}
use Rattle.image_model.specs.Carrying.{inode_in}
use Rattle.carried_volumes.specs.Carried.{HaveInodes}
use Rattle.update_records.specs.Built.{is_built}
use Rattle.front_laws.specs.Inodes.{IsFree, left_out_for, has, dropped, given_by, given}
use Rattle.front_laws.specs.Owned.{Among, IsRow, has_node, places, IsDroppedBy, IsEnteredBy, AreOwned}
use Rattle.front_laws.proofs.Among.{at_among, all_among, among_left, among_was, given_all, given_none, node_in, in_entry, entry_in}
use Rattle.front_laws.proofs.Turning.{IsMade, kind_row, entry_row, has_itself, row_stays, row_goes, row_came, row_made, dropped_in, dropped_row}

-- the inode at the place of a new row is free
abbrev pub HasFree : List ℕ → Rows → List (ℕ × Charged) → Update → Type 0
HasFree inodes t unsealed (Make dir name id is_dir) = IsFree inodes t unsealed (inode_in inodes id)
HasFree inodes t unsealed (Write id off bytes) = Unit {0}
HasFree inodes t unsealed (Resize id len) = Unit {0}
HasFree inodes t unsealed (Remove dir name id stays) = Unit {0}
HasFree inodes t unsealed (Move dir name to_dir to_name id is_dir replaced stays) = Unit {0}
HasFree inodes t unsealed (Release id) = Unit {0}

-- ---- sealing

dropped_left : (unsealed : List (ℕ × Charged)) (r s x : ℕ) → r ≢ s → IsDroppedBy unsealed r x → IsDroppedBy (without s unsealed) r x
dropped_left unsealed r s x ne d = (d.0, among_left d.0 s unsealed (λ q. ne (sym d.2 ∙ q)) d.1, d.2, d.3)

entered_left : (unsealed : List (ℕ × Charged)) (r s : ℕ) (t : Rows) (x : ℕ) → r ≢ s → IsEnteredBy unsealed r t x → IsEnteredBy (without s unsealed) r t x
entered_left unsealed r s t x ne d = let f = d.1.2 in (d.0, (d.1.0, d.1.1, (f.0, among_left f.0 s unsealed (λ q. ne (sym f.2 ∙ q)) f.1, f.2, f.3)))

-- sealing a stream leaves the others what they own
pub owned_sealed : (inodes : List ℕ) (t : Rows) (unsealed : List (ℕ × Charged)) (s : ℕ) → AreOwned inodes t unsealed → AreOwned inodes t (without s unsealed)
owned_sealed inodes t unsealed s own = record {
  held = λ x r. (let i : ℕ = inode_in inodes x in
      given_none inodes i (without s unsealed) (all_among (λ e. has i (given_by inodes e.1.0) ≡ false) (without s unsealed)
      (λ e a. at_among (λ e. has i (given_by inodes e.1.0) ≡ false) e unsealed (given_all inodes i unsealed (own.held x r)) (among_was e s unsealed a).0)));
  nodes = λ e a x p. (let w = among_was e s unsealed a in elim (own.nodes e w.0 x p) [ inl r ↦ inl r | inr d ↦ inr (dropped_left unsealed e.0 s x w.1 d) ]);
  entries = λ e a x p. (let w = among_was e s unsealed a in elim (own.entries e w.0 x p) [ inl r ↦ inl (entered_left unsealed e.0 s t x w.1 r) | inr d ↦ inr (dropped_left unsealed e.0 s x w.1 d) ]);
  numbered = numbered_without s unsealed own.numbered;
}

-- ---- what a built update acts on

no_node : (x : ℕ) (b c : Bool) → In (Node x b) (shape_key c) → ⊥
no_node x b true (inl p) = cc
no_node x b true (inr z) = z
no_node x b false z = z

-- the nodes of its keys are rows, but for that of a row that it makes
node_row : (t : Rows) (u : Update) → IsTree t → Fits t u → is_built u ≡ true → (x : ℕ) (b : Bool) → In (Node x b) (keys_of u) → IsRow t x ⊎ IsMade u x
node_row t (Make dir name id d) w f built x b (inl p) = absurd (cc)
node_row t (Make dir name id d) w f built x b (inr (inl p)) = let same : id ≡ x = cc in inr (d, ap (λ z. Born z d) same)
node_row t (Make dir name id d) w f built x b (inr (inr (inl p))) = let same : dir ≡ x = cc in inl (subst (IsRow t) same (kind_row t dir true f.0))
node_row t (Make dir name id d) w f built x b (inr (inr (inr z))) = absurd z
node_row t (Write id off bytes) w f built x b i = absurd (cc)
node_row t (Resize id len) w f built x b i = absurd (cc)
node_row t (Remove dir name id stays) w f built x b (inl p) = absurd (cc)
node_row t (Remove dir name id stays) w f built x b (inr (inl p)) = let same : id ≡ x = cc in inl (subst (IsRow t) same (entry_row t dir name id f.0))
node_row t (Remove dir name id stays) w f built x b (inr (inr (inl p))) = let same : dir ≡ x = cc in inl (subst (IsRow t) same (kind_row t dir true (w.parents id dir name f.0)))
node_row t (Remove dir name id stays) w f built x b (inr (inr (inr z))) = absurd z
node_row t (Move dir name to_dir to_name id d r stays) w f built x b (inl p) = absurd (cc)
node_row t (Move dir name to_dir to_name id d r stays) w f built x b (inr (inl p)) = absurd (cc)
node_row t (Move dir name to_dir to_name id d r stays) w f built x b (inr (inr (inl p))) = let same : dir ≡ x = cc in inl (subst (IsRow t) same (kind_row t dir true (w.parents id dir name f.0)))
node_row t (Move dir name to_dir to_name id d r stays) w f built x b (inr (inr (inr (inl p)))) = let same : to_dir ≡ x = cc in inl (subst (IsRow t) same (kind_row t to_dir true f.2))
node_row t (Move dir name to_dir to_name id d None stays) w f built x b (inr (inr (inr (inr i)))) = absurd (no_node x b (d && not (dir == to_dir)) i)
node_row t (Move dir name to_dir to_name id d (Some y) stays) w f built x b (inr (inr (inr (inr (inl p))))) = let same : y ≡ x = cc in inl (subst (IsRow t) same (kind_row t y false f.4.1))
node_row t (Move dir name to_dir to_name id d (Some y) stays) w f built x b (inr (inr (inr (inr (inr i))))) = absurd (no_node x b (d && not (dir == to_dir)) i)
node_row t (Release id) w f built x b i = absurd (cc)

-- a row that it gives an entry stands there
placed_entry : (t : Rows) (u : Update) → Fits t u → (x : ℕ) → places x u ≡ true → (d : ℕ) × ((n : List ℕ) × (place_of (apply t u) x ≡ Some (d, n)) × In (Entry d n true) (keys_of u))
placed_entry t (Make dir name id d) f x p =
    (dir, (name, subst (λ z. place_of (apply t (Make dir name id d)) z ≡ Some (dir, name)) (eqb-true id x p) (placed_make t dir name id d id ∙ at_here id _ _), inl refl))
placed_entry t (Write id off bytes) f x p = absurd (cc)
placed_entry t (Resize id len) f x p = absurd (cc)
placed_entry t (Remove dir name id stays) f x p = absurd (cc)
placed_entry t (Move dir name to_dir to_name id d r stays) f x p = (
  to_dir,
  (
    to_name,
    subst (λ z. place_of (apply t (Move dir name to_dir to_name id d r stays)) z ≡ Some (to_dir, to_name)) (eqb-true id x p)
        (placed_move t dir name to_dir to_name id d r stays f.1 f.3 id ∙ at_here id _ _),
    inr (inl refl),
  ),
)
placed_entry t (Release id) f x p = absurd (cc)

-- a row whose node it changes stands somewhere then, or it drops the row
changed_stands : (t : Rows) (u : Update) → Fits t u → is_built u ≡ true → (x : ℕ) → In (Node x true) (keys_of u) → Stands (apply t u) x ⊎ (has x (dropped u) ≡ true)
changed_stands t (Make dir name id d) f built x (inl p) = absurd (cc)
changed_stands t (Make dir name id d) f built x (inr (inl p)) =
    inl (subst (λ z. Stands (apply t (Make dir name id d)) z) (node_same id x p) (dir, name, placed_make t dir name id d id ∙ at_here id _ _))
changed_stands t (Make dir name id d) f built x (inr (inr (inl p))) = absurd (needed_apart dir x p)
changed_stands t (Make dir name id d) f built x (inr (inr (inr z))) = absurd z
changed_stands t (Write id off bytes) f built x i = absurd (cc)
changed_stands t (Resize id len) f built x i = absurd (cc)
changed_stands t (Remove dir name id true) f built x i = absurd (cc)
changed_stands t (Remove dir name id false) f built x (inl p) = absurd (cc)
changed_stands t (Remove dir name id false) f built x (inr (inl p)) = inr (subst (λ z. has x (z ∷ []) ≡ true) (sym (node_same id x p)) (has_itself x))
changed_stands t (Remove dir name id false) f built x (inr (inr (inl p))) = absurd (needed_apart dir x p)
changed_stands t (Remove dir name id false) f built x (inr (inr (inr z))) = absurd z
changed_stands t (Move dir name to_dir to_name id d r true) f built x i = absurd (cc)
changed_stands t (Move dir name to_dir to_name id d r false) f built x i =
    inr (subst (λ z. has x (left_out_for z false) ≡ true) (sym (node_replaced x dir to_dir name to_name r (d && not (dir == to_dir)) i)) (has_itself x))
changed_stands t (Release id) f built x i = absurd (cc)

-- ---- entering

dropped_later : (e : ℕ × Charged) (unsealed : List (ℕ × Charged)) (s x : ℕ) → IsDroppedBy unsealed s x → IsDroppedBy (e ∷ unsealed) s x
dropped_later e unsealed s x d = (d.0, inr d.1, d.2, d.3)

-- an inode that an update gives up is that of a row that it drops
given_row : (inodes : List ℕ) (i : ℕ) (ds : List ℕ) → has i (map (inode_in inodes) ds) ≡ true → (y : ℕ) × (has y ds ≡ true) × (inode_in inodes y ≡ i)
given_row inodes i [] p = absurd (cc)
given_row inodes i (y ∷ ds) p = elim (cases_Bool (inode_in inodes y == i)) [
  | inl q ↦ (y, ap (λ b. b || list_any (λ j. j == y) ds) (eq-eqb y y refl), eqb-true (inode_in inodes y) i q)
  | inr q ↦ (let r = given_row inodes i ds (ap (λ b. b || has i (map (inode_in inodes) ds)) (sym q) ∙ p) in
      (r.0, elim (y == r.0) as (λ b. (b || has r.0 ds) ≡ true) [ true ↦ refl | false ↦ r.1 ], r.2))
]

module _ (count : ℕ) (inodes : List ℕ) (t : Rows) (unsealed : List (ℕ × Charged)) (s : ℕ) (u : Update) (cost : Charge)
    (have : HaveInodes count inodes t) (own : AreOwned inodes t unsealed) (built : is_built u ≡ true) (f : Fits t u)
    (may : MayEnter ChargedMeet s (u, cost) unsealed) where
  abbrev now : List (ℕ × Charged)
  now = (s, (u, cost)) ∷ unsealed

  -- an update of another stream doesn't meet this one
  own_stream : (e : ℕ × Charged) → Among e unsealed → (meets e.1.0 u ≡ false → ⊥) → e.0 ≡ s
  own_stream e i bad = elim (cases_eq e.0 s) [
    | inl p ↦ p
    | inr ne ↦ absurd (bad (false_from_ne_true (meets e.1.0 u) (at_among (λ e. e.0 ≢ s → ChargedMeet e.1 (u, cost) → ⊥) e unsealed may i ne)))
  ]

  -- the update gives up no inode of a row that stays
  none_given : (x : ℕ) → IsRow t x → IsRow (apply t u) x → has (inode_in inodes x) (given_by inodes u) ≡ false
  none_given x was r = false_from_ne_true (has (inode_in inodes x) (given_by inodes u)) (λ p.
      let g = given_row inodes (inode_in inodes x) (dropped u) p in
      let y : IsRow t g.0 = dropped_row t u f g.0 g.1 in
      let same : g.0 ≡ x = have.apart g.0 x y.0 was.0 y.1 was.1 g.2 in
      row_goes t u x (subst (λ z. has z (dropped u) ≡ true) same g.1) r)

  -- what it drops an update of its stream dropped
  dropped_now : (x : ℕ) → has x (dropped u) ≡ true → IsDroppedBy now s x
  dropped_now x p = ((s, (u, cost)), inl refl, refl, p)

  entered_now : (x d : ℕ) (n : List ℕ) → place_of (apply t u) x ≡ Some (d, n) → In (Entry d n true) (keys_of u) → IsEnteredBy now s (apply t u) x
  entered_now x d n p i = (d, (n, p, ((s, (u, cost)), inl refl, refl, in_entry d n u i)))

  held_now : HasFree inodes t unsealed u → (x : ℕ) → IsRow (apply t u) x → has (inode_in inodes x) (given inodes now) ≡ false
  held_now free x r = given_none inodes (inode_in inodes x) now (both.0, given_all inodes (inode_in inodes x) unsealed both.1)
    where
      new : (v : Update) → HasFree inodes t unsealed v → IsMade v x → (has (inode_in inodes x) (given_by inodes v) ≡ false) × (has (inode_in inodes x) (given inodes unsealed) ≡ false)
      new (Make dir name id d) h m = let same : id ≡ x = (let e = m.1 in cc) in (refl, subst (λ z. has (inode_in inodes z) (given inodes unsealed) ≡ false) same h.not_given)
      new (Write id off bytes) h m = absurd (let e = m.1 in cc)
      new (Resize id len) h m = absurd (let e = m.1 in cc)
      new (Remove dir name id true) h m = absurd (let e = m.1 in cc)
      new (Remove dir name id false) h m = absurd (let e = m.1 in cc)
      new (Move dir name to_dir to_name id d None stays) h m = absurd (let e = m.1 in cc)
      new (Move dir name to_dir to_name id d (Some y) true) h m = absurd (let e = m.1 in cc)
      new (Move dir name to_dir to_name id d (Some y) false) h m = absurd (let e = m.1 in cc)
      new (Release id) h m = absurd (let e = m.1 in cc)

      both : (has (inode_in inodes x) (given_by inodes u) ≡ false) × (has (inode_in inodes x) (given inodes unsealed) ≡ false)
      both = elim (row_came t u x r) [ inl was ↦ (none_given x was r, own.held x was) | inr m ↦ new u free m ]

  -- what an unsealed update changes or needs
  nodes_before : (e : ℕ × Charged) → Among e unsealed → (x : ℕ) → has_node x e.1.0 ≡ true → IsRow (apply t u) x ⊎ IsDroppedBy now e.0 x
  nodes_before e i x p = elim (own.nodes e i x p) [
    | inr d ↦ inr (dropped_later (s, (u, cost)) unsealed e.0 x d)
    | inl was ↦ elim (row_stays t u x was) [
      | inl r ↦ inl r
      | inr d ↦ inr (let n = node_in x e.1.0 p in
          let same : e.0 ≡ s = own_stream e i (λ m. no_node_back e.1.0 u x n.0 m n.1 (dropped_in u x d)) in
          subst (λ z. IsDroppedBy now z x) (sym same) (dropped_now x d))
    ]
  ]

  -- what this update changes or needs
  nodes_own : IsTree t → (x : ℕ) → has_node x u ≡ true → IsRow (apply t u) x ⊎ IsDroppedBy now s x
  nodes_own tree x p = let n = node_in x u p in elim (node_row t u tree f built x n.0 n.1) [
    | inr m ↦ inl (row_made t u x m)
    | inl was ↦ elim (row_stays t u x was) [ inl r ↦ inl r | inr d ↦ inr (dropped_now x d) ]
  ]

  nodes_now : IsTree t → (e : ℕ × Charged) → Among e now → (x : ℕ) → has_node x e.1.0 ≡ true → IsRow (apply t u) x ⊎ IsDroppedBy now e.0 x
  nodes_now tree e (inl q) x p = subst (λ (z : ℕ × Charged). has_node x z.1.0 ≡ true → IsRow (apply t u) x ⊎ IsDroppedBy now z.0 x) q (nodes_own tree x) p
  nodes_now tree e (inr i) x p = nodes_before e i x p

  -- the entry of a row that moves is one that this update changes
  moved_now : (x : ℕ) → Moved t u x → IsEnteredBy now s (apply t u) x ⊎ IsDroppedBy now s x
  moved_now x m = elim stands [ inl z ↦ inl (entered_now x z.0 z.1 z.2 (m.0.1 z.0 z.1 z.2)) | inr d ↦ inr (dropped_now x d) ]
    where
      stands : Stands (apply t u) x ⊎ (has x (dropped u) ≡ true)
      stands = elim m.1 [ inl i ↦ changed_stands t u f built x i | inr z ↦ inl z.1 ]

  entries_before : (e : ℕ × Charged) → Among e unsealed → (x : ℕ) → places x e.1.0 ≡ true → IsEnteredBy now e.0 (apply t u) x ⊎ IsDroppedBy now e.0 x
  entries_before e i x p = elim (own.entries e i x p) [
    | inr d ↦ inr (dropped_later (s, (u, cost)) unsealed e.0 x d)
    | inl z ↦ (let d = z.0 in let n = z.1.0 in let g = z.1.2 in elim (place_frame t u f x) [
      | inl same ↦ inl (d, (n, same ∙ z.1.1, (g.0, inr g.1, g.2, g.3)))
      | inr m ↦ (let own_g : g.0.0 ≡ s = own_stream g.0 g.1 (λ q. no_entry g.0.1.0 u d n q (entry_in d n g.0.1.0 g.3) (m.0.0 d n z.1.1)) in
          subst (λ r. IsEnteredBy now r (apply t u) x ⊎ IsDroppedBy now r x) (sym own_g ∙ g.2) (moved_now x m))
    ])
  ]

  entries_now : (e : ℕ × Charged) → Among e now → (x : ℕ) → places x e.1.0 ≡ true → IsEnteredBy now e.0 (apply t u) x ⊎ IsDroppedBy now e.0 x
  entries_now e (inl q) x p = subst (λ (z : ℕ × Charged). places x z.1.0 ≡ true → IsEnteredBy now z.0 (apply t u) x ⊎ IsDroppedBy now z.0 x) q
      (λ h. let y = placed_entry t u f x h in inl (entered_now x y.0 y.1.0 y.1.1 y.1.2)) p
  entries_now e (inr i) x p = entries_before e i x p

-- An update that enters owns what it acts on, where no unsealed update of another stream meets it. It is to be built: a file that stays
-- open without a name stands at no entry, and no update dropped it.
pub owned_entered : (count : ℕ) (inodes : List ℕ) (t : Rows) (unsealed : List (ℕ × Charged)) (s : ℕ) (u : Update) (cost : Charge)
    → IsTree t → HaveInodes count inodes t → AreOwned inodes t unsealed → is_built u ≡ true → Fits t u → s < 64
    → MayEnter ChargedMeet s (u, cost) unsealed → HasFree inodes t unsealed u → AreOwned inodes (apply t u) ((s, (u, cost)) ∷ unsealed)
owned_entered count inodes t unsealed s u cost tree have own built f below may free = record {
  held = held_now count inodes t unsealed s u cost have own built f may free;
  nodes = nodes_now count inodes t unsealed s u cost have own built f may tree;
  entries = entries_now count inodes t unsealed s u cost have own built f may;
  numbered = (below, own.numbered);
}
