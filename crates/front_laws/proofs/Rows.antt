-- Which rows are there before and after an update, and which nodes it has.
use Rattle.std.proofs.Common.{◌≡◌, ◌≢◌, ◌⊎◌, inl, inr, ℕ, List, refl, sym, ap, subst, ◌∙◌}
use Rattle.std.specs.Prelude.{Bool, true, false, cond, not, ◌&&◌, ◌==◌}
use Rattle.std.specs.declared.option.Option.{Option}
use Rattle.std.specs.declared.option.Option.TheVariants.{None, Some}
use Rattle.std.specs.FinMap.{get}
use Rattle.std.proofs.lemmas.Bool.{eq-eqb, ne_eqb, cases_eq}
use Rattle.tree_model.specs.declared.rows.Row.{Row}
use Rattle.tree_model.specs.declared.rows.Update.{Update}
use Rattle.tree_model.specs.declared.rows.Update.TheVariants.{Make, Write, Resize, Remove, Move, Release}
use Rattle.tree_model.specs.declared.keys.Key.TheVariants.{Entry, Node}
use Rattle.tree_model.specs.Rows.{Rows, kind, place, kind_of, IsTree, IsDir, IsFile, IsEntry}
use Rattle.tree_model.specs.Updates.{apply, Fits}
use Rattle.tree_model.specs.Keys.{keys_of, shape_key}
use Rattle.tree_model.proofs.Locks.{In}
use Rattle.history_laws.proofs.Turns.{Turn, Same, Born, Dead, leaves, turn_of, turned, kinds}

-- an update drops a row, or makes one
abbrev pub Drops : Update → ℕ → Type 0
Drops u x = turn_of u ≡ Dead x

abbrev pub Makes : Update → ℕ → Type 0
Makes u x = (d : Bool) × (turn_of u ≡ Born x d)

-- it changes a node, or has it at all
abbrev pub Changes : Update → ℕ → Type 0
Changes u x = In (Node x true) (keys_of u)

abbrev pub HasNode : Update → ℕ → Type 0
HasNode u x = (b : Bool) × In (Node x b) (keys_of u)

-- there is a row
abbrev pub IsThere : Rows → ℕ → Type 0
IsThere t x = kind_of t x ≢ None

pub row_of : (t : Rows) (x : ℕ) → IsThere t x → (r : Row) × (get t x ≡ Some r)
row_of t x there = of (get t x) refl
  where
    of : (o : Option Row) → get t x ≡ o → (r : Row) × (get t x ≡ Some r)
    of None e = absurd (there (ap kind e))
    of (Some r) e = (r, e)

pub none_some : {A : Type 0} {a : A} → None ≡ Some a → ⊥
none_some e = cc

pub there_of : (t : Rows) (x : ℕ) (r : Row) → get t x ≡ Some r → IsThere t x
there_of t x r e n = none_some (sym n ∙ ap kind e)

-- ---- rows before and after

pub dead_dead : {y z : ℕ} → Dead y ≡ Dead z → y ≡ z
dead_dead e = cc

pub born_born : {y z : ℕ} {c d : Bool} → Born y c ≡ Born z d → y ≡ z
born_born e = cc

pub same_dead : {y : ℕ} → Same ≡ Dead y → ⊥
same_dead e = cc

pub same_born : {y : ℕ} {c : Bool} → Same ≡ Born y c → ⊥
same_born e = cc

pub born_dead : {y z : ℕ} {c : Bool} → Born y c ≡ Dead z → ⊥
born_dead e = cc

forth_by : (t : Rows) (u : Update) (x : ℕ) (w : Turn) → turn_of u ≡ w → kind_of (apply t u) x ≡ turned w x (kind_of t x) → IsThere t x → IsThere (apply t u) x ⊎ Drops u x
unfolding turned
forth_by t u x Same p k r = inl (λ e. r (sym k ∙ e))
forth_by t u x (Born id d) p k r = elim (cases_eq x id) [
  | inl q ↦ inl (λ e. none_some (sym e ∙ k ∙ ap (λ z. cond z (Some d) (kind_of t x)) (eq-eqb x id q)))
  | inr q ↦ inl (λ e. r (ap (λ z. cond z (Some d) (kind_of t x)) (sym (ne_eqb x id q)) ∙ sym k ∙ e))
]
forth_by t u x (Dead id) p k r = elim (cases_eq x id) [
  | inl q ↦ inr (p ∙ ap (λ z. Dead z) (sym q))
  | inr q ↦ inl (λ e. r (ap (λ z. cond z None (kind_of t x)) (sym (ne_eqb x id q)) ∙ sym k ∙ e))
]

-- a row stays, or is dropped
pub forth : (t : Rows) (u : Update) (x : ℕ) → IsThere t x → IsThere (apply t u) x ⊎ Drops u x
forth t u x r = forth_by t u x (turn_of u) refl (kinds t u x) r

back_by : (t : Rows) (u : Update) (x : ℕ) (w : Turn) → turn_of u ≡ w → kind_of (apply t u) x ≡ turned w x (kind_of t x) → IsThere (apply t u) x
    → (IsThere t x × (Drops u x → ⊥)) ⊎ Makes u x
unfolding turned
back_by t u x Same p k r = inl ((λ e. r (k ∙ e)), λ d. same_dead (sym p ∙ d))
back_by t u x (Born id d) p k r = elim (cases_eq x id) [
  | inl q ↦ inr (d, p ∙ ap (λ z. Born z d) (sym q))
  | inr q ↦ inl ((λ e. r (k ∙ ap (λ z. cond z (Some d) (kind_of t x)) (ne_eqb x id q) ∙ e)), λ z. born_dead (sym p ∙ z))
]
back_by t u x (Dead id) p k r = elim (cases_eq x id) [
  | inl q ↦ absurd (r (k ∙ ap (λ z. cond z None (kind_of t x)) (eq-eqb x id q)))
  | inr q ↦ inl ((λ e. r (k ∙ ap (λ z. cond z None (kind_of t x)) (ne_eqb x id q) ∙ e)), λ z. q (sym (dead_dead (sym p ∙ z))))
]

-- a row was there before and isn't dropped, or is made
pub back : (t : Rows) (u : Update) (x : ℕ) → IsThere (apply t u) x → (IsThere t x × (Drops u x → ⊥)) ⊎ Makes u x
back t u x r = back_by t u x (turn_of u) refl (kinds t u x) r

pub made_there : (t : Rows) (u : Update) (x : ℕ) → Makes u x → IsThere (apply t u) x
unfolding turned
made_there t u x k e = none_some (sym e ∙ kinds t u x ∙ ap (λ w. turned w x (kind_of t x)) k.1 ∙ ap (λ z. cond z (Some k.0) (kind_of t x)) (eq-eqb x x refl))

pub not_both : (u : Update) (x y : ℕ) → Drops u x → Makes u y → ⊥
not_both u x y d k = born_dead (sym k.1 ∙ d)

pub one_made : (u : Update) (x y : ℕ) → Makes u x → Makes u y → x ≡ y
one_made u x y k j = born_born (sym k.1 ∙ j.1)

-- ---- the nodes of an update

pub dir_there : (t : Rows) (x : ℕ) → IsDir t x → IsThere t x
dir_there t x d e = none_some (sym e ∙ d)

pub file_there : (t : Rows) (x : ℕ) → IsFile t x → IsThere t x
file_there t x d e = none_some (sym e ∙ d)

pub placed_there : (t : Rows) (x d : ℕ) (n : List ℕ) → IsEntry t d n x → IsThere t x
placed_there t x d n e = of (get t x) e
  where
    of : (o : Option Row) → place o ≡ Some (d, n) → kind o ≢ None
    of None p q = none_some p
    of (Some r) p q = none_some (sym q)

node_id : (i x : ℕ) (c b : Bool) → Node i c ≡ Node x b → i ≡ x
node_id i x c b e = cc

not_entry : (d x : ℕ) (n : List ℕ) (c b : Bool) → Entry d n c ≡ Node x b → ⊥
not_entry d x n c b e = cc

not_shape : (c : Bool) (x : ℕ) (b : Bool) → In (Node x b) (shape_key c) → ⊥
not_shape true x b (inl p) = cc
not_shape true x b (inr z) = z
not_shape false x b z = z

-- what an update changes or needs is a row before it, or is made by it
pub node_there : (t : Rows) (u : Update) (x : ℕ) (b : Bool) → IsTree t → Fits t u → In (Node x b) (keys_of u) → IsThere t x ⊎ Makes u x
node_there t (Make dir name id d) x b tree f (inl p) = absurd (not_entry dir x name true b p)
node_there t (Make dir name id d) x b tree f (inr (inl p)) = inr (d, ap (λ z. Born z d) (node_id id x true b p))
node_there t (Make dir name id d) x b tree f (inr (inr (inl p))) = inl (subst (IsThere t) (node_id dir x false b p) (dir_there t dir f.0))
node_there t (Make dir name id d) x b tree f (inr (inr (inr z))) = absurd z
node_there t (Write id off bytes) x b tree f (inl p) = inl (subst (IsThere t) (node_id id x true b p) (file_there t id f.0))
node_there t (Write id off bytes) x b tree f (inr z) = absurd z
node_there t (Resize id len) x b tree f (inl p) = inl (subst (IsThere t) (node_id id x true b p) (file_there t id f.0))
node_there t (Resize id len) x b tree f (inr z) = absurd z
node_there t (Remove dir name id stays) x b tree f (inl p) = absurd (not_entry dir x name true b p)
node_there t (Remove dir name id stays) x b tree f (inr (inl p)) = inl (subst (IsThere t) (node_id id x true b p) (placed_there t id dir name f.0))
node_there t (Remove dir name id stays) x b tree f (inr (inr (inl p))) = inl (subst (IsThere t) (node_id dir x false b p) (dir_there t dir (tree.parents id dir name f.0)))
node_there t (Remove dir name id stays) x b tree f (inr (inr (inr z))) = absurd z
node_there t (Move dir name to_dir to_name id d r stays) x b tree f (inl p) = absurd (not_entry dir x name true b p)
node_there t (Move dir name to_dir to_name id d r stays) x b tree f (inr (inl p)) = absurd (not_entry to_dir x to_name true b p)
node_there t (Move dir name to_dir to_name id d r stays) x b tree f (inr (inr (inl p))) = inl (subst (IsThere t) (node_id dir x false b p) (dir_there t dir (tree.parents id dir name f.0)))
node_there t (Move dir name to_dir to_name id d r stays) x b tree f (inr (inr (inr (inl p)))) = inl (subst (IsThere t) (node_id to_dir x false b p) (dir_there t to_dir f.2))
node_there t (Move dir name to_dir to_name id d None stays) x b tree f (inr (inr (inr (inr z)))) = absurd (not_shape (d && not (dir == to_dir)) x b z)
node_there t (Move dir name to_dir to_name id d (Some y) stays) x b tree f (inr (inr (inr (inr (inl p))))) = inl (subst (IsThere t) (node_id y x true b p) (file_there t y f.4.1))
node_there t (Move dir name to_dir to_name id d (Some y) stays) x b tree f (inr (inr (inr (inr (inr z))))) = absurd (not_shape (d && not (dir == to_dir)) x b z)
node_there t (Release id) x b tree f (inl p) = inl (subst (IsThere t) (node_id id x true b p) (file_there t id f.0))
node_there t (Release id) x b tree f (inr z) = absurd z

pub left_dead : (id x : ℕ) (stays : Bool) → leaves id stays ≡ Dead x → id ≡ x
left_dead id x true e = absurd (same_dead e)
left_dead id x false e = dead_dead e

pub left_born : (id x : ℕ) (c stays : Bool) → leaves id stays ≡ Born x c → ⊥
left_born id x c true e = same_born e
left_born id x c false e = born_dead (sym e)

-- it changes the node of a row that it drops or makes
pub drops_changes : (u : Update) (x : ℕ) → Drops u x → Changes u x
drops_changes (Make dir name id d) x e = absurd (born_dead e)
drops_changes (Write id off bytes) x e = absurd (same_dead e)
drops_changes (Resize id len) x e = absurd (same_dead e)
drops_changes (Remove dir name id stays) x e = inr (inl (ap (λ z. Node z true) (left_dead id x stays e)))
drops_changes (Move dir name to_dir to_name id d None stays) x e = absurd (same_dead e)
drops_changes (Move dir name to_dir to_name id d (Some y) stays) x e = inr (inr (inr (inr (inl (ap (λ z. Node z true) (left_dead y x stays e))))))
drops_changes (Release id) x e = inl (ap (λ z. Node z true) (dead_dead e))

pub makes_changes : (u : Update) (x : ℕ) → Makes u x → Changes u x
makes_changes (Make dir name id d) x e = inr (inl (ap (λ z. Node z true) (born_born e.1)))
makes_changes (Write id off bytes) x e = absurd (same_born e.1)
makes_changes (Resize id len) x e = absurd (same_born e.1)
makes_changes (Remove dir name id stays) x e = absurd (left_born id x e.0 stays e.1)
makes_changes (Move dir name to_dir to_name id d None stays) x e = absurd (same_born e.1)
makes_changes (Move dir name to_dir to_name id d (Some y) stays) x e = absurd (left_born y x e.0 stays e.1)
makes_changes (Release id) x e = absurd (born_dead (sym e.1))

-- and only making a row makes one
pub only_make : (u : Update) (x : ℕ) → Makes u x → (dir : ℕ) × (name : List ℕ) × (d : Bool) × (u ≡ Make dir name x d)
only_make (Make dir name id d) x e = (dir, name, d, ap (λ z. Make dir name z d) (born_born e.1))
only_make (Write id off bytes) x e = absurd (same_born e.1)
only_make (Resize id len) x e = absurd (same_born e.1)
only_make (Remove dir name id stays) x e = absurd (left_born id x e.0 stays e.1)
only_make (Move dir name to_dir to_name id d None stays) x e = absurd (same_born e.1)
only_make (Move dir name to_dir to_name id d (Some y) stays) x e = absurd (left_born y x e.0 stays e.1)
only_make (Release id) x e = absurd (born_dead (sym e.1))
