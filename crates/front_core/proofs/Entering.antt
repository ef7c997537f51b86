-- The inodes that are kept as taken behind one more update.
use Rattle.std.proofs.Common.{◌≡◌, ◌≢◌, ◌⊎◌, inl, inr, ℕ, ◌<◌, ◌≤◌, List, [], ◌∷◌, ◌++◌, append-nil, refl, sym, ap, subst, ◌∙◌}
use Rattle.std.specs.Prelude.{Bool, true, false, ◌==◌, None, Some, map, reverse}
use Rattle.std.specs.FinMap.{get}
use Rattle.std.proofs.lemmas.Bool.{cases_eq, eqb-true, eq-eqb, ne_eqb, or_cases, or_left, or_right}
use Rattle.std.proofs.lemmas.List.{reverse-append}
use Rattle.std.proofs.lemmas.Grind.{flat_map-append}
use Rattle.stream_cuts.specs.Streams.{keep_if, of_stream}
use Rattle.tree_model.specs.declared.rows.Row.{Row}
use Rattle.tree_model.specs.declared.rows.Update.{Update}
use Rattle.tree_model.specs.declared.rows.Update.TheVariants.{Make, Write, Resize, Remove, Move, Release}
use Rattle.tree_model.specs.declared.rows.Body.TheVariants.{Dir}
use Rattle.tree_model.specs.Rows.{Rows, IsTree}
use Rattle.tree_model.specs.Updates.{apply, Fits}
use Rattle.tree_model.proofs.TreeKept.{tree_kept}
use Rattle.tree_cuts.specs.Calls.{Charge, Charged}
use Rattle.history_laws.proofs.Turns.{Turn, Same, Born, Dead, turn_of}
use Rattle.image_model.specs.Carrying.{inode_in}
use Rattle.free_maps.specs.Maps.{is_set}
use Rattle.carried_volumes.specs.Carried.{HaveInodes}
use Rattle.front_laws.specs.Inodes.{has, dropped, given_by, given, IsFree}
use Rattle.front_laws.specs.Owned.{IsRow, AreOwned}
use Rattle.front_laws.proofs.Rows.{born_born}
use Rattle.front_laws.proofs.Turning.{IsMade, row_stays, row_goes, row_came, row_made, dropped_row}
use Rattle.front_core.specs.Free.{Taken, AreTaken, given_at}
use Rattle.front_core.proofs.Given.{IsGivenIn, in_and_out, given_in, in_given, none_given, not_given, given_by_stream, stream_gave}

-- ---- the rows that an update drops

-- none of them is the root, which stays one
dropped_apart : (t : Rows) (u : Update) → IsTree t → Fits t u → (x : ℕ) → has x (dropped u) ≡ true → x ≢ 0
dropped_apart t u tree f x p =
    let root = (tree_kept t u tree f).root in
    let row : IsRow (apply t u) 0 = (record { parent = None; name = []; body = Dir root.0 }, root.1) in
    λ e. row_goes t u x p (subst (IsRow (apply t u)) (sym e) row)

-- an inode that it gives up is that of a row that it drops
pub row_of_given : (inodes : List ℕ) (i : ℕ) (ds : List ℕ) → has i (map (inode_in inodes) ds) ≡ true → (y : ℕ) × (has y ds ≡ true) × (inode_in inodes y ≡ i)
row_of_given inodes i [] p = absurd (cc)
row_of_given inodes i (y ∷ ds) p = elim (or_cases (inode_in inodes y == i) (has i (map (inode_in inodes) ds)) p) [
  | inl q ↦ (y, or_left (y == y) (has y ds) (eq-eqb y y refl), eqb-true (inode_in inodes y) i q)
  | inr q ↦ (let r = row_of_given inodes i ds q in (r.0, or_right (y == r.0) (has r.0 ds) r.1, r.2))
]

-- and the other way round
given_of_row : (inodes : List ℕ) (y : ℕ) (ds : List ℕ) → has y ds ≡ true → has (inode_in inodes y) (map (inode_in inodes) ds) ≡ true
given_of_row inodes y [] p = absurd (cc)
given_of_row inodes y (x ∷ ds) p = elim (or_cases (x == y) (has y ds) p) [
  | inl q ↦ or_left (inode_in inodes x == inode_in inodes y) _ (eq-eqb _ _ (ap (inode_in inodes) (eqb-true x y q)))
  | inr q ↦ or_right (inode_in inodes x == inode_in inodes y) _ (given_of_row inodes y ds q)
]

-- ---- the row that an update makes

module _ (u : Update) (dir : ℕ) (name : List ℕ) (id : ℕ) (b : Bool) (is : u ≡ Make dir name id b) where
  pub made_here : IsMade u id
  made_here = (b, ap turn_of is)

  pub made_alone : (x : ℕ) → IsMade u x → id ≡ x
  made_alone x m = born_born (sym (ap turn_of is) ∙ m.1)

-- any other update makes none
pub no_maker : (u : Update) → ((dir : ℕ) (name : List ℕ) (id : ℕ) (b : Bool) → u ≡ Make dir name id b → ⊥) → (x : ℕ) → IsMade u x → ⊥
no_maker (Make dir name id b) n x m = n dir name id b refl
no_maker (Write id off bytes) n x m = let z : ◌≡◌ {A = Turn} Same (Born x m.0) = m.1 in cc
no_maker (Resize id len) n x m = let z : ◌≡◌ {A = Turn} Same (Born x m.0) = m.1 in cc
no_maker (Remove dir name id true) n x m = let z : ◌≡◌ {A = Turn} Same (Born x m.0) = m.1 in cc
no_maker (Remove dir name id false) n x m = let z : ◌≡◌ {A = Turn} (Dead id) (Born x m.0) = m.1 in cc
no_maker (Move dir name to_dir to_name id b None stays) n x m = let z : ◌≡◌ {A = Turn} Same (Born x m.0) = m.1 in cc
no_maker (Move dir name to_dir to_name id b (Some y) true) n x m = let z : ◌≡◌ {A = Turn} Same (Born x m.0) = m.1 in cc
no_maker (Move dir name to_dir to_name id b (Some y) false) n x m = let z : ◌≡◌ {A = Turn} (Dead y) (Born x m.0) = m.1 in cc
no_maker (Release id) n x m = let z : ◌≡◌ {A = Turn} (Dead id) (Born x m.0) = m.1 in cc

-- an update that gives up an inode makes none
pub none_made : (inodes : List ℕ) (u : Update) (i x : ℕ) → given_by inodes u ≡ i ∷ [] → IsMade u x → ⊥
none_made inodes u i x p = no_maker u made x
  where
    made : (dir : ℕ) (name : List ℕ) (id : ℕ) (b : Bool) → u ≡ Make dir name id b → ⊥
    made dir name id b is = let z : ◌≡◌ {A = List ℕ} [] (i ∷ []) = sym (ap (given_by inodes) is) ∙ p in cc

module _ (count : ℕ) (inodes : List ℕ) (t : Rows) (unsealed : List (ℕ × Charged)) (s : ℕ) (u : Update) (cost : Charge)
    (tree : IsTree t) (have : HaveInodes count inodes t) (owned : AreOwned inodes t unsealed) (fits : Fits t u) where
  abbrev now : List (ℕ × Charged)
  now = (s, (u, cost)) ∷ unsealed

  -- no row that the update makes has an inode
  abbrev IsNotMade : ℕ → Type 0
  IsNotMade i = (x : ℕ) → IsMade u x → inode_in inodes x ≢ i

  -- what the update gives up was a row's
  given_now : (i : ℕ) → has i (given_by inodes u) ≡ true → (y : ℕ) × IsRow t y × (y ≢ 0) × (inode_in inodes y ≡ i)
  given_now i p = let g = row_of_given inodes i (dropped u) p in (g.0, dropped_row t u fits g.0 g.1, dropped_apart t u tree fits g.0 g.1, g.2)

  -- so it wasn't given up before
  given_once : (i : ℕ) → has i (given_by inodes u) ≡ true → has i (given inodes unsealed) ≡ true → ⊥
  given_once i p q = let g = given_now i p in in_and_out (has i (given inodes unsealed)) q (subst (λ z. has z (given inodes unsealed) ≡ false) g.3 (owned.held g.0 g.1))

  -- ---- free inodes

  stays_free : (i : ℕ) → IsFree inodes t unsealed i → IsNotMade i → IsFree inodes (apply t u) now i
  stays_free i f n = record {
    no_row = λ (x : ℕ) (r : Row) (row : get (apply t u) x ≡ Some r) (same : inode_in inodes x ≡ i). elim (row_came t u x (r, row)) [
      | inl w ↦ f.no_row x w.0 w.1 same
      | inr m ↦ n x m same
    ];
    not_given = none_given inodes i now (λ (g : IsGivenIn inodes i now). elim g.1 [
      | inl e ↦ (let p : has i (given_by inodes u) ≡ true = ap (λ (z : ℕ × Charged). has i (given_by inodes z.1.0)) e ∙ g.2 in
          let y = given_now i p in f.no_row y.0 y.1.0 y.1.1 y.3)
      | inr a ↦ not_given inodes i unsealed g.0 f.not_given a g.2
    ]);
  }

  was_free : (i : ℕ) → IsFree inodes (apply t u) now i → IsFree inodes t unsealed i
  was_free i f = record {
    no_row = λ (x : ℕ) (r : Row) (row : get t x ≡ Some r) (same : inode_in inodes x ≡ i). elim (row_stays t u x (r, row)) [
      | inl w ↦ f.no_row x w.0 w.1 same
      | inr d ↦ not_given inodes i now (s, (u, cost)) f.not_given (inl refl) (subst (λ z. has z (given_by inodes u) ≡ true) same (given_of_row inodes x (dropped u) d))
    ];
    not_given = none_given inodes i unsealed (λ (g : IsGivenIn inodes i unsealed). not_given inodes i now g.0 f.not_given (inr g.1) g.2);
  }

  not_made : (i : ℕ) → IsFree inodes (apply t u) now i → IsNotMade i
  not_made i f x m e = let w = row_made t u x m in f.no_row x w.0 w.1 e

  -- ---- what the streams gave up

  -- a stream gave up an inode before, or the update does
  gave_now : (q i : ℕ) → has i (given inodes (of_stream q now)) ≡ true
      → ((s ≡ q) × (has i (given_by inodes u) ≡ true)) ⊎ (has i (given inodes (of_stream q unsealed)) ≡ true)
  gave_now q i p = let g = given_by_stream inodes i q now p in elim g.1 [
    | inl e ↦ inl (ap (λ (z : ℕ × Charged). z.0) e ∙ g.2, ap (λ (z : ℕ × Charged). has i (given_by inodes z.1.0)) e ∙ g.3)
    | inr a ↦ inr (stream_gave inodes i q unsealed g.0 a g.2 g.3)
  ]

  gave_before : (q i : ℕ) → has i (given inodes (of_stream q unsealed)) ≡ true → has i (given inodes unsealed) ≡ true
  gave_before q i p = let g = given_by_stream inodes i q unsealed p in in_given inodes i unsealed g.0 g.1 g.3

  own_list : given inodes (reverse (of_stream s now)) ≡ given inodes (reverse (of_stream s unsealed)) ++ given_by inodes u
  own_list =
      ap (λ b. given inodes (reverse (keep_if b (s, (u, cost)) (of_stream s unsealed)))) (eq-eqb s s refl)
      ∙ ap (λ (z : List (ℕ × Charged)). given inodes z) (reverse-append ((s, (u, cost)) ∷ []) (of_stream s unsealed))
      ∙ flat_map-append (λ (d : ℕ × Charged). given_by inodes d.1.0) (reverse (of_stream s unsealed)) ((s, (u, cost)) ∷ [])
      ∙ ap (λ z. given inodes (reverse (of_stream s unsealed)) ++ z) (append-nil (given_by inodes u))

  other_list : (r : ℕ) → r ≢ s → given inodes (reverse (of_stream r now)) ≡ given inodes (reverse (of_stream r unsealed))
  other_list r n = ap (λ b. given inodes (reverse (keep_if b (s, (u, cost)) (of_stream r unsealed)))) (ne_eqb s r (λ e. n (sym e)))

  -- ---- all of it

  pub taken_entered : (old new : Taken) → AreTaken count inodes t unsealed old → new.count ≡ old.count
      → ((x : ℕ) → IsMade u x → is_set new.bits (inode_in inodes x) ≡ true) → ((i : ℕ) → IsNotMade i → is_set new.bits i ≡ is_set old.bits i)
      → given_at new s ≡ given_at old s ++ given_by inodes u → ((r : ℕ) → r ≢ s → given_at new r ≡ given_at old r)
      → AreTaken count inodes (apply t u) now new
  taken_entered old new are counts made rest own others = record {
    counted = counts ∙ are.counted;
    clear = λ i high low c.
        (let n : IsNotMade i = λ (x : ℕ) (m : IsMade u x) (e : inode_in inodes x ≡ i). in_and_out (is_set new.bits i) (subst (λ z. is_set new.bits z ≡ true) e (made x m)) c in
        stays_free i (are.clear i high low (sym (rest i n) ∙ c)) n);
    free = λ i high low f. rest i (not_made i f) ∙ are.free i high low (was_free i f);
    own = λ r l. elim (cases_eq r s) [
      | inl e ↦ subst (λ z. given_at new z ≡ given inodes (reverse (of_stream z now))) (sym e)
          (own ∙ ap (λ z. z ++ given_by inodes u) (are.own s (subst (λ z. z < 64) e l)) ∙ sym own_list)
      | inr n ↦ others r n ∙ are.own r l ∙ sym (other_list r n)
    ];
    inside = λ i p. (let g = given_in inodes i now p in elim g.1 [
      | inl e ↦ (let y = given_now i (ap (λ (z : ℕ × Charged). has i (given_by inodes z.1.0)) e ∙ g.2) in
          (subst (λ z. 2 ≤ z) y.3 (have.high y.0 y.1.0 y.2 y.1.1), subst (λ z. z < count) y.3 (have.there y.0 y.1.0 y.1.1)))
      | inr a ↦ are.inside i (in_given inodes i unsealed g.0 a g.2)
    ]);
    apart = λ q r i ne p k. elim (gave_now q i p) [
      | inl a ↦ elim (gave_now r i k) [
        | inl b ↦ ne (sym a.0 ∙ b.0)
        | inr b ↦ given_once i a.1 (gave_before r i b)
      ]
      | inr a ↦ elim (gave_now r i k) [
        | inl b ↦ given_once i b.1 (gave_before q i a)
        | inr b ↦ are.apart q r i ne a b
      ]
    ];
  }
