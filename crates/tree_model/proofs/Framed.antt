-- Where two updates don't meet, one applies before the other exactly where it applies after it.
use Rattle.std.proofs.Common.{◌≡◌, ℕ, zero, suc, inl, inr, List, refl, sym, ap, subst, ◌∙◌, ◌≢◌}
use Rattle.std.specs.Prelude.{Bool, true, false, not, ◌&&◌, ◌==◌}
use Rattle.std.specs.declared.option.Option.{Option}
use Rattle.std.specs.declared.option.Option.TheVariants.{None, Some}
use Rattle.std.specs.FinMap.{get}
use Rattle.std.proofs.lemmas.Option.{same_Some}
use Rattle.std.proofs.lemmas.Bool.{ne_eqb, cases_eq}
use Rattle.tree_model.specs.declared.rows.Row.{Row}
use Rattle.tree_model.specs.declared.rows.Update.{Update}
use Rattle.tree_model.specs.declared.rows.Update.TheVariants.{Make, Write, Resize, Remove, Move, Release}
use Rattle.tree_model.specs.declared.keys.Key.TheVariants.{Entry, Node, Shape}
use Rattle.tree_model.specs.Rows.{Rows, kind, place_of, kind_of, parent_in, parent_of, IsDir, IsFile, IsEntry, IsEmpty, IsClear, IsTree, up_from, up}
use Rattle.tree_model.specs.Updates.{apply, Fits, MayReplace}
use Rattle.tree_model.specs.Keys.{replaced_key, shape_key, keys_of, meets}
use Rattle.tree_model.proofs.Chains.{parent_entry, not_both, clear_of_file, clear_of_child}
use Rattle.tree_model.proofs.Locks.{node_same, needed_apart, entry_same, node_replaced, In, no_entry, no_node, no_node_back, no_shape, Stands, none_not, in_append_right}
use Rattle.tree_model.proofs.Frames.{place_frame, kind_frame, entry_dir}

-- the keys of u and v don't clash
pub record Apart (u v : Update) : Type 0 where
  pub entries : (d : ℕ) (n : List ℕ) → In (Entry d n true) (keys_of u) → In (Entry d n true) (keys_of v) → ⊥
  pub nodes : (x : ℕ) (b : Bool) → In (Node x true) (keys_of u) → In (Node x b) (keys_of v) → ⊥
  pub nodes_back : (x : ℕ) (b : Bool) → In (Node x b) (keys_of u) → In (Node x true) (keys_of v) → ⊥
  pub shapes : In Shape (keys_of u) → In Shape (keys_of v) → ⊥

pub apart_from : (u v : Update) → meets u v ≡ false → Apart u v
apart_from u v m = record {
  entries = λ d n i j. no_entry u v d n m i j;
  nodes = λ x b i j. no_node u v x b m i j;
  nodes_back = λ x b i j. no_node_back u v x b m i j;
  shapes = λ i j. no_shape u v m i j;
}

pub apart_back : (u v : Update) → Apart u v → Apart v u
apart_back u v a = record {
  entries = λ d n i j. a.entries d n j i;
  nodes = λ x b i j. a.nodes_back x b j i;
  nodes_back = λ x b i j. a.nodes x b j i;
  shapes = λ i j. a.shapes j i;
}

only_entry : (t : Rows) (dir : ℕ) (name : List ℕ) (id : ℕ) (stays : Bool) (d : ℕ) (n : List ℕ) → IsEntry t dir name id
    → In (Entry d n true) (keys_of (Remove dir name id stays)) → IsEntry t d n id
only_entry t dir name id stays d n e (inl p) = let s = entry_same dir d name n p in subst (λ z. IsEntry t z n id) s.0 (subst (λ z. IsEntry t dir z id) s.1 e)
only_entry t dir name id stays d n e (inr (inl p)) = absurd (cc)
only_entry t dir name id stays d n e (inr (inr (inl p))) = absurd (cc)
only_entry t dir name id stays d n e (inr (inr (inr z))) = absurd z

-- y is an empty directory that u removes: it stands at each entry that u changes
abbrev pub IsRemoved : Rows → Update → ℕ → Type 0
IsRemoved t u y = IsEmpty t y × Stands t y × ((d : ℕ) (n : List ℕ) → In (Entry d n true) (keys_of u) → IsEntry t d n y)

pub not_file : (t : Rows) (x y : ℕ) → Node x true ≡ Node y true → IsFile t x → IsDir t y → ⊥
not_file t x y p file dir = not_both t y (subst (IsFile t) (node_same x y p) file) dir

not_free : (t : Rows) (x y : ℕ) → Node x true ≡ Node y true → get t x ≡ None → IsDir t y → ⊥
not_free t x y p free dir = let bad : ◌≡◌ {A = Option Bool} None (Some true) = sym (ap kind free) ∙ ap (kind_of t) (node_same x y p) ∙ dir in cc

-- what a move replaces is no directory
pub not_replaced : (t : Rows) (d : ℕ) (n : List ℕ) (k : Bool) (r : Option ℕ) (y : ℕ) → MayReplace t d n k r → IsDir t y → r ≢ Some y
not_replaced t d n k None y m dir e = let bad : ◌≡◌ {A = Option ℕ} None (Some y) = e in cc
not_replaced t d n k (Some x) y m dir e = not_both t y (subst (IsFile t) (same_Some x y e) m.1) dir

-- a directory whose node an update changes is removed by it
pub emptied : (t : Rows) (u : Update) (y : ℕ) → Fits t u → In (Node y true) (keys_of u) → IsDir t y → IsRemoved t u y
emptied t (Make dir name id d) y f (inl p) h = absurd (cc)
emptied t (Make dir name id d) y f (inr (inl p)) h = absurd (not_free t id y p f.2 h)
emptied t (Make dir name id d) y f (inr (inr (inl p))) h = absurd (needed_apart dir y p)
emptied t (Make dir name id d) y f (inr (inr (inr z))) h = absurd z
emptied t (Write id off bytes) y f (inl p) h = absurd (not_file t id y p f.0 h)
emptied t (Write id off bytes) y f (inr z) h = absurd z
emptied t (Resize id len) y f (inl p) h = absurd (not_file t id y p f.0 h)
emptied t (Resize id len) y f (inr z) h = absurd z
emptied t (Remove dir name id stays) y f (inl p) h = absurd (cc)
emptied t (Remove dir name id stays) y f (inr (inl p)) h =
    let e : id ≡ y = node_same id y p in
    subst (IsRemoved t (Remove dir name id stays)) e ((f.1 (subst (IsDir t) (sym e) h)).0, (dir, name, f.0), λ d n j. only_entry t dir name id stays d n f.0 j)
emptied t (Remove dir name id stays) y f (inr (inr (inl p))) h = absurd (needed_apart dir y p)
emptied t (Remove dir name id stays) y f (inr (inr (inr z))) h = absurd z
emptied t (Move dir name to_dir to_name id d r stays) y f i h = absurd (not_replaced t to_dir to_name d r y f.4 h (node_replaced y dir to_dir name to_name r _ i))
emptied t (Release id) y f (inl p) h = absurd (not_file t id y p f.0 h)
emptied t (Release id) y f (inr z) h = absurd z

kind_none : (o : Option Row) → kind o ≡ None → o ≡ None
kind_none None p = refl
kind_none (Some r) p = absurd (cc)

module _ (t : Rows) (u v : Update) (f : Fits t u) (a : Apart u v) where
  kind_stays : (x : ℕ) (b : Bool) → In (Node x b) (keys_of v) → kind_of (apply t u) x ≡ kind_of t x
  kind_stays x b i = elim (kind_frame t u f x) [ inl p ↦ p | inr m ↦ absurd (a.nodes x b m.0 i) ]

  entry_forth : (d : ℕ) (n : List ℕ) (x : ℕ) → In (Entry d n true) (keys_of v) → IsEntry t d n x → IsEntry (apply t u) d n x
  entry_forth d n x i e = elim (place_frame t u f x) [ inl p ↦ p ∙ e | inr m ↦ absurd (a.entries d n (m.0.0 d n e) i) ]

  entry_back : (d : ℕ) (n : List ℕ) (x : ℕ) → In (Entry d n true) (keys_of v) → IsEntry (apply t u) d n x → IsEntry t d n x
  entry_back d n x i e = elim (place_frame t u f x) [ inl p ↦ sym p ∙ e | inr m ↦ absurd (a.entries d n (m.0.1 d n e) i) ]

  empty_forth : (d : ℕ) → In (Node d true) (keys_of v) → IsEmpty t d → IsEmpty (apply t u) d
  empty_forth d i h x n e = elim (place_frame t u f x) [ inl p ↦ h x n (sym p ∙ e) | inr m ↦ a.nodes_back d false (entry_dir u d n true (m.0.1 d n e)) i ]

  empty_back : (d : ℕ) → In (Node d true) (keys_of v) → IsEmpty (apply t u) d → IsEmpty t d
  empty_back d i h x n e = elim (place_frame t u f x) [ inl p ↦ h x n (p ∙ e) | inr m ↦ a.nodes_back d false (entry_dir u d n true (m.0.0 d n e)) i ]

  -- the kind of a row that v moves
  kind_moved : (d : ℕ) (n : List ℕ) (x : ℕ) → In (Entry d n true) (keys_of v) → IsEntry t d n x → kind_of (apply t u) x ≡ kind_of t x
  kind_moved d n x i e = elim (kind_frame t u f x) [
    | inl p ↦ p
    | inr m ↦ absurd (elim m.1 [ inl p ↦ none_not d n _ p e | inr p ↦ none_not d n _ p (entry_forth d n x i e) ])
  ]

  nowhere_forth : (x : ℕ) → In (Node x true) (keys_of v) → place_of t x ≡ None → place_of (apply t u) x ≡ None
  nowhere_forth x i e = elim (place_frame t u f x) [
    | inl p ↦ p ∙ e
    | inr m ↦ absurd (elim m.1 [ inl j ↦ a.nodes x true j i | inr s ↦ (let w : Stands t x = s.0 in none_not w.0 w.1 _ e w.2) ])
  ]

  nowhere_back : (x : ℕ) → In (Node x true) (keys_of v) → place_of (apply t u) x ≡ None → place_of t x ≡ None
  nowhere_back x i e = elim (place_frame t u f x) [
    | inl p ↦ sym p ∙ e
    | inr m ↦ absurd (elim m.1 [ inl j ↦ a.nodes x true j i | inr s ↦ (let w : Stands (apply t u) x = s.1 in none_not w.0 w.1 _ e w.2) ])
  ]

  absent_forth : (x : ℕ) → In (Node x true) (keys_of v) → get t x ≡ None → get (apply t u) x ≡ None
  absent_forth x i e = kind_none _ (kind_stays x true i ∙ ap kind e)

  absent_back : (x : ℕ) → In (Node x true) (keys_of v) → get (apply t u) x ≡ None → get t x ≡ None
  absent_back x i e = kind_none _ (sym (kind_stays x true i) ∙ ap kind e)

  -- the chain of a directory that u needn't change, where u changes no shape
  chain_stays : IsTree t → In Shape (keys_of v) → (d : ℕ) (b : Bool) → In (Node d b) (keys_of v) → IsDir t d → (k : ℕ)
      → (up (parent_of (apply t u)) k d ≡ up (parent_of t) k d) × ((y : ℕ) → up (parent_of t) k d ≡ Some y → IsDir t y × (In (Node y true) (keys_of u) → ⊥))
  chain_stays w s d b i h zero = (
    refl,
    λ y p. (let e : d ≡ y = same_Some d y p in (subst (IsDir t) e h, λ j. a.nodes d b (subst (λ z. In (Node z true) (keys_of u)) (sym e) j) i)),
  )
  chain_stays w s d b i h (suc k) =
      let ih = chain_stays w s d b i h k in (
        ap (up_from (parent_of (apply t u))) ih.0
            ∙ elim (up (parent_of t) k d) as (λ o. up (parent_of t) k d ≡ o → up_from (parent_of (apply t u)) o ≡ up_from (parent_of t) o) [
              | None ↦ λ e. refl
              | Some y ↦ λ e. let g = ih.1 y e in elim (place_frame t u f y) [
                | inl p ↦ ap parent_in p
                | inr m ↦ elim m.1 [
                  | inl j ↦ absurd (g.1 j)
                  | inr q ↦ elim q.2 [ inl same ↦ same | inr r ↦ absurd (elim r [ inl file ↦ not_both t y file g.0 | inr sh ↦ a.shapes sh s ]) ]
                ]
              ]
            ] refl,
        λ z p. elim (up (parent_of t) k d) as (λ o. up (parent_of t) k d ≡ o → up_from (parent_of t) o ≡ Some z → IsDir t z × (In (Node z true) (keys_of u) → ⊥)) [
          | None ↦ λ e q. absurd (cc)
          | Some y ↦ λ e q.
              let r = parent_entry (place_of t y) z q in
              let dir : IsDir t z = w.parents y z r.0 r.1 in
              (dir, λ j. (emptied t u z f j dir).0 y r.0 r.1)
        ] refl p,
      )

  clear_forth : IsTree t → In Shape (keys_of v) → (x d : ℕ) (b : Bool) → In (Node d b) (keys_of v) → IsDir t d → IsClear t x d → IsClear (apply t u) x d
  clear_forth w s x d b i h c k p = c k (sym (chain_stays w s d b i h k).0 ∙ p)

  clear_back : IsTree t → In Shape (keys_of v) → (x d : ℕ) (b : Bool) → In (Node d b) (keys_of v) → IsDir t d → IsClear (apply t u) x d → IsClear t x d
  clear_back w s x d b i h c k p = c k ((chain_stays w s d b i h k).0 ∙ p)

-- a move that needs no shape goes nowhere below itself
clear_by : (t : Rows) → IsTree t → (b c : Bool) (dir to_dir id : ℕ) (name : List ℕ) → kind_of t id ≡ Some b → IsDir t to_dir → IsEntry t dir name id
    → (In Shape (shape_key (b && not (dir == to_dir))) → IsClear t id to_dir) → IsClear t id to_dir
clear_by t w false c dir to_dir id name k h e s = clear_of_file t w id to_dir k h
clear_by t w true c dir to_dir id name k h e s = elim (cases_eq dir to_dir) [
  | inl p ↦ subst (IsClear t id) p (clear_of_child t w id dir name e)
  | inr ne ↦ s (subst (λ z. In Shape (shape_key (not z))) (sym (ne_eqb dir to_dir ne)) (inl refl))
]

shape_in : (dir : ℕ) (name : List ℕ) (to_dir : ℕ) (to_name : List ℕ) (id : ℕ) (d : Bool) (r : Option ℕ) (stays : Bool)
    → In Shape (shape_key (d && not (dir == to_dir))) → In Shape (keys_of (Move dir name to_dir to_name id d r stays))
shape_in dir name to_dir to_name id d r stays i = inr (inr (inr (inr (in_append_right Shape (replaced_key r) _ i))))

pub fits_forth : (t : Rows) (u v : Update) → IsTree t → IsTree (apply t u) → Fits t u → Apart u v → Fits t v → Fits (apply t u) v
fits_forth t u (Make dir name id d) w w2 f a g =
    let v : Update = Make dir name id d in
    (kind_stays t u v f a dir false (inr (inr (inl refl))) ∙ g.0, (λ x e. g.1 x (entry_back t u v f a dir name x (inl refl) e)), absent_forth t u v f a id (inr (inl refl)) g.2)
fits_forth t u (Write id off bytes) w w2 f a g = (kind_stays t u (Write id off bytes) f a id true (inl refl) ∙ g.0, g.1, g.2)
fits_forth t u (Resize id len) w w2 f a g = (kind_stays t u (Resize id len) f a id true (inl refl) ∙ g.0, g.1)
fits_forth t u (Remove dir name id stays) w w2 f a g =
    let v : Update = Remove dir name id stays in (
      entry_forth t u v f a dir name id (inl refl) g.0,
      λ h. (let r = g.1 (sym (kind_stays t u v f a id true (inr (inl refl))) ∙ h) in (empty_forth t u v f a id (inr (inl refl)) r.0, r.1)),
    )
fits_forth t u (Release id) w w2 f a g =
    let v : Update = Release id in (kind_stays t u v f a id true (inl refl) ∙ g.0, nowhere_forth t u v f a id (inl refl) g.1)
fits_forth t u (Move dir name to_dir to_name id d r stays) w w2 f a g =
    let v : Update = Move dir name to_dir to_name id d r stays in
    let e : IsEntry (apply t u) dir name id = entry_forth t u v f a dir name id (inl refl) g.0 in
    let k : kind_of (apply t u) id ≡ Some d = kind_moved t u v f a dir name id (inl refl) g.0 ∙ g.1 in
    let h : IsDir (apply t u) to_dir = kind_stays t u v f a to_dir false (inr (inr (inr (inl refl)))) ∙ g.2 in (
      e,
      k,
      h,
      g.3,
      elim r as (λ o. Apart u (Move dir name to_dir to_name id d o stays) → MayReplace t to_dir to_name d o → MayReplace (apply t u) to_dir to_name d o) [
        | None ↦ λ b m x e. m x (entry_back t u (Move dir name to_dir to_name id d None stays) f b to_dir to_name x (inr (inl refl)) e)
        | Some x ↦ λ b m. (
          entry_forth t u (Move dir name to_dir to_name id d (Some x) stays) f b to_dir to_name x (inr (inl refl)) m.0,
          kind_stays t u (Move dir name to_dir to_name id d (Some x) stays) f b x true (inr (inr (inr (inr (inl refl))))) ∙ m.1,
          m.2,
        )
      ] a g.4,
      clear_by (apply t u) w2 d true dir to_dir id name k h e (λ s. clear_forth t u v f a w (shape_in dir name to_dir to_name id d r stays s) id to_dir false (inr (inr (inr (inl refl)))) g.2 g.5),
    )

pub fits_back : (t : Rows) (u v : Update) → IsTree t → Fits t u → Apart u v → Fits (apply t u) v → Fits t v
fits_back t u (Make dir name id d) w f a g =
    let v : Update = Make dir name id d in
    (sym (kind_stays t u v f a dir false (inr (inr (inl refl)))) ∙ g.0, (λ x e. g.1 x (entry_forth t u v f a dir name x (inl refl) e)), absent_back t u v f a id (inr (inl refl)) g.2)
fits_back t u (Write id off bytes) w f a g = (sym (kind_stays t u (Write id off bytes) f a id true (inl refl)) ∙ g.0, g.1, g.2)
fits_back t u (Resize id len) w f a g = (sym (kind_stays t u (Resize id len) f a id true (inl refl)) ∙ g.0, g.1)
fits_back t u (Remove dir name id stays) w f a g =
    let v : Update = Remove dir name id stays in (
      entry_back t u v f a dir name id (inl refl) g.0,
      λ h. (let r = g.1 (kind_stays t u v f a id true (inr (inl refl)) ∙ h) in (empty_back t u v f a id (inr (inl refl)) r.0, r.1)),
    )
fits_back t u (Release id) w f a g =
    let v : Update = Release id in (sym (kind_stays t u v f a id true (inl refl)) ∙ g.0, nowhere_back t u v f a id (inl refl) g.1)
fits_back t u (Move dir name to_dir to_name id d r stays) w f a g =
    let v : Update = Move dir name to_dir to_name id d r stays in
    let e : IsEntry t dir name id = entry_back t u v f a dir name id (inl refl) g.0 in
    let k : kind_of t id ≡ Some d = sym (kind_moved t u v f a dir name id (inl refl) e) ∙ g.1 in
    let h : IsDir t to_dir = sym (kind_stays t u v f a to_dir false (inr (inr (inr (inl refl))))) ∙ g.2 in (
      e,
      k,
      h,
      g.3,
      elim r as (λ o. Apart u (Move dir name to_dir to_name id d o stays) → MayReplace (apply t u) to_dir to_name d o → MayReplace t to_dir to_name d o) [
        | None ↦ λ b m x e. m x (entry_forth t u (Move dir name to_dir to_name id d None stays) f b to_dir to_name x (inr (inl refl)) e)
        | Some x ↦ λ b m. (
          entry_back t u (Move dir name to_dir to_name id d (Some x) stays) f b to_dir to_name x (inr (inl refl)) m.0,
          sym (kind_stays t u (Move dir name to_dir to_name id d (Some x) stays) f b x true (inr (inr (inr (inr (inl refl)))))) ∙ m.1,
          m.2,
        )
      ] a g.4,
      clear_by t w d true dir to_dir id name k h e (λ s. clear_back t u v f a w (shape_in dir name to_dir to_name id d r stays s) id to_dir false (inr (inr (inr (inl refl)))) h g.5),
    )
