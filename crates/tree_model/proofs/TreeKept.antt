-- An update that applies keeps a tree a tree.
use Rattle.std.proofs.Common.{◌≡◌, ℕ, ◌≢◌, inl, inr, List, [], ◌∷◌, refl, sym, ap, subst, ◌∙◌}
use Rattle.std.specs.Prelude.{Bool, true, false, cond, ◌==◌}
use Rattle.std.specs.declared.option.Option.{Option}
use Rattle.std.specs.declared.option.Option.TheVariants.{None, Some}
use Rattle.std.specs.FinMap.{get}
use Rattle.std.proofs.lemmas.Option.{same_Some}
use Rattle.std.proofs.lemmas.Bool.{eq-eqb}
use Rattle.ccfs_base.specs.Contents.{resized, written}
use Rattle.tree_model.specs.declared.rows.Row.{Row}
use Rattle.tree_model.specs.declared.rows.Update.{Update}
use Rattle.tree_model.specs.declared.rows.Update.TheVariants.{Make, Write, Resize, Remove, Move, Release}
use Rattle.tree_model.specs.declared.keys.Key.TheVariants.{Node}
use Rattle.tree_model.specs.Rows.{Rows, kind, place_of, kind_of, IsDir, IsFile, IsTree}
use Rattle.tree_model.specs.Updates.{Rework, Refill, Place, Count, change, edited, edits, apply, left_of, Fits, MayReplace}
use Rattle.tree_model.specs.Keys.{keys_of}
use Rattle.tree_model.specs.Laws.{Applies}
use Rattle.tree_model.proofs.Chains.{not_both}
use Rattle.tree_model.proofs.Edited.{act, get_edited, kind_count, kind_refilled, kind_placed}
use Rattle.tree_model.proofs.Placed.{act_here, placed_make}
use Rattle.tree_model.proofs.Locks.{node_same, needed_apart, node_replaced, In, Stands, locks, none_not}
use Rattle.tree_model.proofs.Frames.{place_frame, kind_frame}
use Rattle.tree_model.proofs.Framed.{not_file}
use Rattle.tree_model.proofs.EntriesKept.{root_list, root_free, parents_kept, unique_kept}
use Rattle.tree_model.proofs.RootedKept.{rooted_kept}

kind_left : (stays : Bool) (o : Option Row) → kind (left_of stays o) ≡ Some true → (kind o ≡ Some true) × (stays ≡ true)
kind_left true None p = absurd (let z : ◌≡◌ {A = Option Bool} None (Some true) = p in cc)
kind_left true (Some r) p = (p, refl)
kind_left false o p = absurd (let z : ◌≡◌ {A = Option Bool} None (Some true) = p in cc)

kind_act_count : (s x : ℕ) (o : Option Row) → kind (act s (x, Count) o) ≡ kind o
kind_act_count s x o = elim (s == x) as (λ b. kind (cond b (change Count o) o) ≡ kind o) [ true ↦ kind_count o | false ↦ refl ]

kind_act_here : (s : ℕ) (f : Option Row → Option Row) (o : Option Row) → kind (act s (s, Rework f) o) ≡ kind (f o)
kind_act_here s f o = ap kind (act_here s s (Rework f) o refl)

file_at : (t : Rows) (id : ℕ) (g : List ℕ → List ℕ) → IsFile t id → IsFile (edited ((id, Refill g) ∷ []) t) id
file_at t id g f =
    ap kind (get_edited ((id, Refill g) ∷ []) t id ∙ act_here id id (Refill g) (get t id) refl) ∙ kind_refilled g (get t id) ∙ f

kind_act_place : (s x d : ℕ) (n : List ℕ) (o : Option Row) → kind (act s (x, Place d n) o) ≡ kind o
kind_act_place s x d n o = elim (s == x) as (λ b. kind (cond b (change (Place d n) o) o) ≡ kind o) [ true ↦ kind_placed d n o | false ↦ refl ]

gone_move : (t : Rows) (dir : ℕ) (name : List ℕ) (to_dir : ℕ) (to_name : List ℕ) (id : ℕ) (k : Bool) (o : Option ℕ) (stays : Bool) (x : ℕ)
    → MayReplace t to_dir to_name k o → o ≡ Some x → kind_of (apply t (Move dir name to_dir to_name id k o stays)) x ≡ Some true → ⊥
gone_move t dir name to_dir to_name id k None stays x m e r = let bad : ◌≡◌ {A = Option ℕ} None (Some x) = e in cc
gone_move t dir name to_dir to_name id k (Some y) stays x m e r =
    let s : y ≡ x = same_Some y x e in
    let u : Update = Move dir name to_dir to_name id k (Some y) stays in
    let h : kind (left_of stays (get t y)) ≡ Some true
    = sym (ap kind (get_edited (edits u) t y) ∙ kind_act_count y to_dir _ ∙ kind_act_count y dir _ ∙ kind_act_place y id to_dir to_name _ ∙ kind_act_here y (left_of stays) (get t y))
    ∙ subst (λ w. kind_of (apply t u) w ≡ Some true) (sym s) r in
    not_both t y m.1 (kind_left stays (get t y) h).0

-- a row whose node u changes is no directory without a parent afterwards
gone_at : (t : Rows) (u : Update) → Fits t u → (x : ℕ) → In (Node x true) (keys_of u) → place_of (apply t u) x ≡ None → kind_of (apply t u) x ≡ Some true → ⊥
gone_at t (Make dir name id k) f x (inl p) q r = cc
gone_at t (Make dir name id k) f x (inr (inl p)) q r =
    none_not dir name (place_of (apply t (Make dir name id k)) x) q
    (placed_make t dir name id k x ∙ ap (λ b. cond b (Some (dir, name)) (place_of t x)) (eq-eqb x id (sym (node_same id x p))))
gone_at t (Make dir name id k) f x (inr (inr (inl p))) q r = needed_apart dir x p
gone_at t (Make dir name id k) f x (inr (inr (inr z))) q r = z
gone_at t (Write id off bytes) f x (inl p) q r = not_file (apply t (Write id off bytes)) id x p (file_at t id (written off bytes) f.0) r
gone_at t (Write id off bytes) f x (inr z) q r = z
gone_at t (Resize id len) f x (inl p) q r = not_file (apply t (Resize id len)) id x p (file_at t id (resized len) f.0) r
gone_at t (Resize id len) f x (inr z) q r = z
gone_at t (Release id) f x (inl p) q r =
    let u : Update = Release id in
    let k : kind (left_of false (get t id)) ≡ Some true
    = sym (ap kind (get_edited (edits u) t id) ∙ kind_act_here id (left_of false) (get t id)) ∙ ap (kind_of (apply t u)) (node_same id x p) ∙ r in
    let bad : false ≡ true = (kind_left false (get t id) k).1 in cc
gone_at t (Release id) f x (inr z) q r = z
gone_at t (Remove dir name id stays) f x (inl p) q r = cc
gone_at t (Remove dir name id stays) f x (inr (inl p)) q r =
    let u : Update = Remove dir name id stays in
    let k : kind (left_of stays (get t id)) ≡ Some true
    = sym (ap kind (get_edited (edits u) t id) ∙ kind_act_count id dir _ ∙ kind_act_here id (left_of stays) (get t id)) ∙ ap (kind_of (apply t u)) (node_same id x p) ∙ r in
    let g = kind_left stays (get t id) k in
    let bad : true ≡ false = sym g.1 ∙ (f.1 g.0).1 in cc
gone_at t (Remove dir name id stays) f x (inr (inr (inl p))) q r = needed_apart dir x p
gone_at t (Remove dir name id stays) f x (inr (inr (inr z))) q r = z
gone_at t (Move dir name to_dir to_name id k o stays) f x i q r = gone_move t dir name to_dir to_name id k o stays x f.4 (node_replaced x dir to_dir name to_name o _ i) r

gone_kept : (t : Rows) (u : Update) → IsTree t → Fits t u → (x : ℕ) → x ≢ 0 → place_of (apply t u) x ≡ None → kind_of (apply t u) x ≢ Some true
gone_kept t u w f x ne p k = elim (kind_frame t u f x) [
  | inl same ↦ (let d : IsDir t x = sym same ∙ k in elim (place_frame t u f x) [
    | inl q ↦ w.gone x ne (sym q ∙ p) d
    | inr m ↦ elim m.1 [
      | inl j ↦ gone_at t u f x j p k
      | inr s ↦ (let z : Stands (apply t u) x = s.1 in none_not z.0 z.1 (place_of (apply t u) x) p z.2)
    ]
  ])
  | inr m ↦ gone_at t u f x m.0 p k
]

pub tree_kept : (t : Rows) (u : Update) → IsTree t → Fits t u → IsTree (apply t u)
tree_kept t u w f = record {
  root = (let r = root_list t u w (root_free t u w f) (edits u) (get t 0) (locks t u f) w.root in (r.0, get_edited (edits u) t 0 ∙ r.1));
  parents = parents_kept t u w f;
  unique = unique_kept t u w f;
  rooted = rooted_kept t u w f;
  gone = gone_kept t u w f;
}

pub keeps : (t : Rows) (u : Update) → Applies t u → IsTree (apply t u)
keeps t u a = tree_kept t u a.0 a.1
