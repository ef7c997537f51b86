-- An update that applies has the keys of all that it changes.
use Rattle.std.proofs.Common.{◌≡◌, ℕ, ◌≢◌, ◌⊎◌, inl, inr, List, [], ◌∷◌, ◌++◌, refl, sym, ap, subst, ◌∙◌}
use Rattle.std.specs.Prelude.{◌==◌, Bool, true, false, cond, not, ◌&&◌, ◌||◌}
use Rattle.std.specs.declared.option.Option.{Option}
use Rattle.std.specs.declared.option.Option.TheVariants.{None, Some}
use Rattle.std.specs.List.{AllByRecursion, list_any}
use Rattle.std.specs.Cmp.Lexicographic.{pointwise}
use Rattle.std.specs.FinMap.{get}
use Rattle.std.proofs.Math.Bool.{or_comm}
use Rattle.std.proofs.lemmas.Option.{some_pair_parts}
use Rattle.std.proofs.lemmas.Bool.{eq-eqb, ne_eqb, cases_eq, or_parts}
use Rattle.tree_model.specs.declared.rows.Update.{Update}
use Rattle.tree_model.specs.declared.rows.Update.TheVariants.{Make, Write, Resize, Remove, Move, Release}
use Rattle.tree_model.specs.declared.keys.Key.{Key}
use Rattle.tree_model.specs.declared.keys.Key.TheVariants.{Entry, Node, Shape}
use Rattle.tree_model.specs.Rows.{Rows, place, place_of, kind_of, parent_in, parent_of, IsFile, IsEntry}
use Rattle.tree_model.specs.Updates.{Edit, Rework, Refill, Place, Count, edits, apply, Fits}
use Rattle.tree_model.specs.Keys.{replaced_key, clash, shape_key, keys_of, meets}
use Rattle.tree_model.proofs.Placed.{placed_make, placed_remove, placed_release, placed_move}

-- k is among these keys
abbrev pub In : Key → List Key → Type 0
In k [] = ⊥
In k (j ∷ js) = (j ≡ k) ⊎ In k js

-- ---- keys that are the same
pub node_same : (x y : ℕ) → Node x true ≡ Node y true → x ≡ y
node_same x y p = cc

pub needed_apart : (x y : ℕ) → Node x false ≡ Node y true → ⊥
needed_apart x y p = cc

pub entry_same : (d e : ℕ) (n m : List ℕ) → Entry d n true ≡ Entry e m true → (d ≡ e) × (n ≡ m)
entry_same d e n m p = let a : d ≡ e = cc in let b : n ≡ m = cc in (a, b)

-- the only node that a move changes is that of the row that it replaces
pub node_replaced : (x dir to_dir : ℕ) (name to_name : List ℕ) (r : Option ℕ) (b : Bool)
    → In (Node x true) (Entry dir name true ∷ Entry to_dir to_name true ∷ Node dir false ∷ Node to_dir false ∷ replaced_key r ++ shape_key b) → r ≡ Some x
node_replaced x dir to_dir name to_name r b (inl p) = absurd (cc)
node_replaced x dir to_dir name to_name r b (inr (inl p)) = absurd (cc)
node_replaced x dir to_dir name to_name r b (inr (inr (inl p))) = absurd (needed_apart dir x p)
node_replaced x dir to_dir name to_name r b (inr (inr (inr (inl p)))) = absurd (needed_apart to_dir x p)
node_replaced x dir to_dir name to_name None true (inr (inr (inr (inr (inl p))))) = absurd (cc)
node_replaced x dir to_dir name to_name None true (inr (inr (inr (inr (inr z))))) = absurd z
node_replaced x dir to_dir name to_name None false (inr (inr (inr (inr z)))) = absurd z
node_replaced x dir to_dir name to_name (Some y) b (inr (inr (inr (inr (inl p))))) = ap (λ z. Some z) (node_same y x p)
node_replaced x dir to_dir name to_name (Some y) true (inr (inr (inr (inr (inr (inl p)))))) = absurd (cc)
node_replaced x dir to_dir name to_name (Some y) true (inr (inr (inr (inr (inr (inr z)))))) = absurd z
node_replaced x dir to_dir name to_name (Some y) false (inr (inr (inr (inr (inr z))))) = absurd z

-- ---- keys of updates that don't meet
any_no : (test : Key → Bool) (js : List Key) (k : Key) → list_any test js ≡ false → In k js → test k ≡ false
any_no test (j ∷ js) k p (inl e) = ap test (sym e) ∙ (or_parts (test j) (list_any test js) p).0
any_no test (j ∷ js) k p (inr i) = any_no test js k (or_parts (test j) (list_any test js) p).1 i
any_no test [] k p i = absurd i

pub apart : (u v : Update) (a b : Key) → meets u v ≡ false → In a (keys_of u) → In b (keys_of v) → clash a b ≡ false
apart u v a b m i j = any_no (clash a) (keys_of v) b (any_no (λ c. list_any (clash c) (keys_of v)) (keys_of u) a m i) j

same_itself : (n : List ℕ) → pointwise ◌==◌ n n ≡ true
same_itself [] = refl
same_itself (x ∷ n) = ap (λ b. b && pointwise ◌==◌ n n) (eq-eqb x x refl) ∙ same_itself n

pub no_entry : (u v : Update) (d : ℕ) (n : List ℕ) → meets u v ≡ false → In (Entry d n true) (keys_of u) → In (Entry d n true) (keys_of v) → ⊥
no_entry u v d n m i j =
    let c : clash (Entry d n true) (Entry d n true) ≡ false = apart u v (Entry d n true) (Entry d n true) m i j in
    let e : clash (Entry d n true) (Entry d n true) ≡ true = ap (λ b. b && (pointwise ◌==◌ n n && true)) (eq-eqb d d refl) ∙ ap (λ b. b && true) (same_itself n) in
    let bad : false ≡ true = sym c ∙ e in cc

pub no_node : (u v : Update) (x : ℕ) (b : Bool) → meets u v ≡ false → In (Node x true) (keys_of u) → In (Node x b) (keys_of v) → ⊥
no_node u v x b m i j =
    let c : clash (Node x true) (Node x b) ≡ false = apart u v (Node x true) (Node x b) m i j in
    let e : clash (Node x true) (Node x b) ≡ true = ap (λ z. z && true) (eq-eqb x x refl) in
    let bad : false ≡ true = sym c ∙ e in cc

pub no_node_back : (u v : Update) (x : ℕ) (b : Bool) → meets u v ≡ false → In (Node x b) (keys_of u) → In (Node x true) (keys_of v) → ⊥
no_node_back u v x b m i j =
    let c : clash (Node x b) (Node x true) ≡ false = apart u v (Node x b) (Node x true) m i j in
    let e : clash (Node x b) (Node x true) ≡ true = ap (λ z. z && (b || true)) (eq-eqb x x refl) ∙ or_comm b true in
    let bad : false ≡ true = sym c ∙ e in cc

pub no_shape : (u v : Update) → meets u v ≡ false → In Shape (keys_of u) → In Shape (keys_of v) → ⊥
no_shape u v m i j = let c : true ≡ false = apart u v Shape Shape m i j in cc

-- ---- the keys behind each edit
-- where x stands before and after are entries that u changes
abbrev pub Settles : Rows → Update → ℕ → Type 0
Settles t u x = ((d : ℕ) (n : List ℕ) → IsEntry t d n x → In (Entry d n true) (keys_of u)) × ((d : ℕ) (n : List ℕ) → IsEntry (apply t u) d n x → In (Entry d n true) (keys_of u))

-- x stands somewhere
abbrev pub Stands : Rows → ℕ → Type 0
Stands t x = (d : ℕ) × (n : List ℕ) × IsEntry t d n x

-- the keys that an update which applies has for an edit at x: who makes a row another or nothing changes its node, and
-- who moves one changes both of its entries, and where a directory gets another parent the shape
abbrev pub LockAt : Rows → Update → ℕ → Edit → Type 0
LockAt t u x (Rework f) = In (Node x true) (keys_of u) × Settles t u x × ((place_of t x ≡ None) ⊎ (place_of (apply t u) x ≡ None))
LockAt t u x (Refill f) = In (Node x true) (keys_of u)
LockAt t u x (Place d n) = Settles t u x × Stands t x × Stands (apply t u) x × ((parent_of (apply t u) x ≡ parent_of t x) ⊎ (IsFile t x ⊎ In Shape (keys_of u)))
LockAt t u x Count = In (Node x false) (keys_of u)

abbrev pub Locked : Rows → Update → List (ℕ × Edit) → Type 0
Locked t u = AllByRecursion (λ a. LockAt t u a.0 a.1)

pub some_same : (d e : ℕ) (n m : List ℕ) (o : Option (ℕ × List ℕ)) → o ≡ Some (d, n) → o ≡ Some (e, m) → Entry d n true ≡ Entry e m true
some_same d e n m o p q = let s = some_pair_parts d e n m (sym p ∙ q) in ap (λ z. Entry z n true) s.0 ∙ ap (λ z. Entry e z true) s.1

pub none_not : (d : ℕ) (n : List ℕ) (o : Option (ℕ × List ℕ)) → o ≡ None → o ≡ Some (d, n) → ⊥
none_not d n o p q = let r : ◌≡◌ {A = Option (ℕ × List ℕ)} None (Some (d, n)) = sym p ∙ q in cc

place_absent : (t : Rows) (x : ℕ) → get t x ≡ None → place_of t x ≡ None
place_absent t x p = ap place p

pub at_here : {A : Type 0} (s : ℕ) (a b : A) → cond (s == s) a b ≡ a
at_here s a b = ap (λ c. cond c a b) (eq-eqb s s refl)

pub at_apart : {A : Type 0} (s x : ℕ) (a b : A) → s ≢ x → cond (s == x) a b ≡ b
at_apart s x a b ne = ap (λ c. cond c a b) (ne_eqb s x ne)

pub in_append_right : (k : Key) (js ks : List Key) → In k ks → In k (js ++ ks)
in_append_right k [] ks i = i
in_append_right k (j ∷ js) ks i = inr (in_append_right k js ks i)

shape_or : (t : Rows) (u : Update) (dir to_dir id : ℕ) (d : Bool) → kind_of t id ≡ Some d → (In Shape (shape_key (d && not (dir == to_dir))) → In Shape (keys_of u))
    → parent_of t id ≡ Some dir → parent_of (apply t u) id ≡ Some to_dir → (parent_of (apply t u) id ≡ parent_of t id) ⊎ (IsFile t id ⊎ In Shape (keys_of u))
shape_or t u dir to_dir id false k i p q = inr (inl k)
shape_or t u dir to_dir id true k i p q = elim (cases_eq dir to_dir) [
  | inl e ↦ inl (q ∙ ap (λ z. Some z) (sym e) ∙ sym p)
  | inr ne ↦ inr (inr (i (subst (λ b. In Shape (shape_key (not b))) (sym (ne_eqb dir to_dir ne)) (inl refl))))
]

pub locks : (t : Rows) (u : Update) → Fits t u → Locked t u (edits u)
locks t (Make dir name id d) f =
    let now : place_of (apply t (Make dir name id d)) id ≡ Some (dir, name) = placed_make t dir name id d id ∙ at_here id _ _ in
    let was : place_of t id ≡ None = place_absent t id f.2 in
    ((inr (inl refl), ((λ e m p. absurd (none_not e m _ was p)), (λ e m p. inl (some_same dir e name m _ now p))), inl was), (inr (inr (inl refl)), tt))
locks t (Write id off bytes) f = (inl refl, tt)
locks t (Resize id len) f = (inl refl, tt)
locks t (Remove dir name id stays) f =
    let now : place_of (apply t (Remove dir name id stays)) id ≡ None = placed_remove t dir name id stays id ∙ at_here id _ _ in
    ((inr (inl refl), ((λ e m p. inl (some_same dir e name m _ f.0 p)), (λ e m p. absurd (none_not e m _ now p))), inr now), (inr (inr (inl refl)), tt))
locks t (Release id) f =
    let now : place_of (apply t (Release id)) id ≡ None = placed_release t id id ∙ at_here id _ _ in
    ((inl refl, ((λ e m p. absurd (none_not e m _ f.1 p)), (λ e m p. absurd (none_not e m _ now p))), inr now), tt)
locks t (Move dir name to_dir to_name id d None stays) f =
    let u : Update = Move dir name to_dir to_name id d None stays in
    let now : place_of (apply t u) id ≡ Some (to_dir, to_name) = placed_move t dir name to_dir to_name id d None stays f.1 f.3 id ∙ at_here id _ _ in (
      (
        ((λ e m p. inl (some_same dir e name m _ f.0 p)), (λ e m p. inr (inl (some_same to_dir e to_name m _ now p)))),
        (dir, name, f.0),
        (to_dir, to_name, now),
        shape_or t u dir to_dir id d f.1 (λ i. inr (inr (inr (inr i)))) (ap parent_in f.0) (ap parent_in now),
      ),
      (inr (inr (inl refl)), (inr (inr (inr (inl refl))), tt)),
    )
locks t (Move dir name to_dir to_name id d (Some x) stays) f =
    let u : Update = Move dir name to_dir to_name id d (Some x) stays in
    let now : place_of (apply t u) id ≡ Some (to_dir, to_name) = placed_move t dir name to_dir to_name id d (Some x) stays f.1 f.3 id ∙ at_here id _ _ in
    let ne : x ≢ id = λ e. f.3 (ap (λ z. Some z) e) in
    let away : place_of (apply t u) x ≡ None = placed_move t dir name to_dir to_name id d (Some x) stays f.1 f.3 x ∙ at_apart x id _ _ ne ∙ at_here x _ _ in (
      (inr (inr (inr (inr (inl refl)))), ((λ e m p. inr (inl (some_same to_dir e to_name m _ f.4.0 p))), (λ e m p. absurd (none_not e m _ away p))), inr away),
      (
        (
          ((λ e m p. inl (some_same dir e name m _ f.0 p)), (λ e m p. inr (inl (some_same to_dir e to_name m _ now p)))),
          (dir, name, f.0),
          (to_dir, to_name, now),
          shape_or t u dir to_dir id d f.1 (λ i. inr (inr (inr (inr (inr i))))) (ap parent_in f.0) (ap parent_in now),
        ),
        (inr (inr (inl refl)), (inr (inr (inr (inl refl))), tt)),
      ),
    )
