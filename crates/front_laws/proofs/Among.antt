-- Updates among others, and keys among those of an update.
use Rattle.std.proofs.Common.{◌≡◌, ◌≢◌, inl, inr, ℕ, List, [], ◌∷◌, ◌++◌, refl, sym, ap, subst, ◌∙◌}
use Rattle.std.specs.Prelude.{Bool, true, false, not, ◌&&◌, ◌||◌, ◌==◌, Option, None, Some}
use Rattle.std.specs.List.{AllByRecursion, list_any}
use Rattle.std.specs.Cmp.Lexicographic.{pointwise, same_text}
use Rattle.std.proofs.lemmas.Bool.{eqb-true, eq-eqb, ne_eqb, cases_eq, cases_Bool, and_parts, or_parts}
use Rattle.std.proofs.lemmas.List.Folds.{list_any-append}
use Rattle.stream_cuts.specs.Streams.{keep_if, without}
use Rattle.tree_model.specs.declared.rows.Update.{Update}
use Rattle.tree_model.specs.declared.rows.Update.TheVariants.{Make, Write, Resize, Remove, Move, Release}
use Rattle.tree_model.specs.declared.keys.Key.{Key}
use Rattle.tree_model.specs.declared.keys.Key.TheVariants.{Entry, Node, Shape}
use Rattle.tree_model.specs.Keys.{replaced_key, shape_key, keys_of}
use Rattle.tree_model.proofs.Locks.{In}
use Rattle.tree_cuts.specs.Calls.{Charged}
use Rattle.front_laws.specs.Inodes.{has, given_by, given}
use Rattle.front_laws.specs.Owned.{Among, is_node, has_node, is_entry_key, changes_entry}

-- ---- updates

-- what holds of all holds of one among them
pub at_among : (P : (ℕ × Charged) → Type 0) (e : ℕ × Charged) (h : List (ℕ × Charged)) → AllByRecursion P h → Among e h → P e
at_among P e [] a i = absurd i
at_among P e (d ∷ h) a (inl p) = subst P p a.0
at_among P e (d ∷ h) a (inr i) = at_among P e h a.1 i

-- and what holds of each one holds of all
pub all_among : (P : (ℕ × Charged) → Type 0) (h : List (ℕ × Charged)) → ((e : ℕ × Charged) → Among e h → P e) → AllByRecursion P h
all_among P [] f = tt
all_among P (d ∷ h) f = (f d (inl refl), all_among P h (λ e i. f e (inr i)))

-- an update of another stream stays as a stream is sealed
pub among_left : (e : ℕ × Charged) (s : ℕ) (h : List (ℕ × Charged)) → e.0 ≢ s → Among e h → Among e (without s h)
among_left e s [] ne i = i
among_left e s (d ∷ h) ne (inl p) =
    subst (λ b. Among e (keep_if (not b) d (without s h))) (sym (ne_eqb d.0 s (λ q. ne (sym (ap (λ (z : ℕ × Charged). z.0) p) ∙ q)))) (inl p)
among_left e s (d ∷ h) ne (inr i) =
    let rest = among_left e s h ne i in
    elim (d.0 == s) as (λ b. Among e (keep_if (not b) d (without s h))) [ true ↦ rest | false ↦ inr rest ]

-- and those that are left are of other streams
among_first : (e d : ℕ × Charged) (s : ℕ) (h : List (ℕ × Charged)) → d.0 ≢ s → (Among e (without s h) → Among e h × (e.0 ≢ s)) → Among e (d ∷ without s h) → Among e (d ∷ h) × (e.0 ≢ s)
among_first e d s h ne f (inl p) = (inl p, λ q. ne (ap (λ (z : ℕ × Charged). z.0) p ∙ q))
among_first e d s h ne f (inr j) = let r = f j in (inr r.0, r.1)

pub among_was : (e : ℕ × Charged) (s : ℕ) (h : List (ℕ × Charged)) → Among e (without s h) → Among e h × (e.0 ≢ s)
among_was e s [] i = absurd i
among_was e s (d ∷ h) i = elim (cases_eq d.0 s) [
  | inl p ↦ (let r = among_was e s h (subst (λ b. Among e (keep_if (not b) d (without s h))) (eq-eqb d.0 s p) i) in (inr r.0, r.1))
  | inr ne ↦ among_first e d s h ne (among_was e s h) (subst (λ b. Among e (keep_if (not b) d (without s h))) (ne_eqb d.0 s ne) i)
]

-- ---- inodes that were given up

pub given_all : (inodes : List ℕ) (i : ℕ) (h : List (ℕ × Charged)) → has i (given inodes h) ≡ false → AllByRecursion (λ e. has i (given_by inodes e.1.0) ≡ false) h
given_all inodes i [] p = tt
given_all inodes i (e ∷ h) p =
    let q = or_parts (has i (given_by inodes e.1.0)) (has i (given inodes h)) (sym (list_any-append (λ j. j == i) (given_by inodes e.1.0) (given inodes h)) ∙ p) in
    (q.0, given_all inodes i h q.1)

pub given_none : (inodes : List ℕ) (i : ℕ) (h : List (ℕ × Charged)) → AllByRecursion (λ e. has i (given_by inodes e.1.0) ≡ false) h → has i (given inodes h) ≡ false
given_none inodes i [] a = refl
given_none inodes i (e ∷ h) a =
    list_any-append (λ j. j == i) (given_by inodes e.1.0) (given inodes h) ∙ ap (λ b. b || has i (given inodes h)) a.0 ∙ given_none inodes i h a.1

-- ---- keys

later : (test : Key → Bool) (k : Key) (ks : List Key) → list_any test ks ≡ true → list_any test (k ∷ ks) ≡ true
later test k ks p = elim (test k) as (λ b. (b || list_any test ks) ≡ true) [ true ↦ refl | false ↦ p ]

-- a test that one of the keys passes
pub in_any : (test : Key → Bool) (k : Key) (ks : List Key) → test k ≡ true → In k ks → list_any test ks ≡ true
in_any test k [] t i = absurd i
in_any test k (j ∷ ks) t (inl p) = ap (λ b. b || list_any test ks) (ap test p ∙ t)
in_any test k (j ∷ ks) t (inr i) = later test j ks (in_any test k ks t i)

node_is : (x : ℕ) (k : Key) → is_node x k ≡ true → (b : Bool) × (k ≡ Node x b)
node_is x (Entry d n c) p = absurd (cc)
node_is x (Node y c) p = (c, ap (λ z. Node z c) (eqb-true y x p))
node_is x Shape p = absurd (cc)

node_among : (x : ℕ) (ks : List Key) → list_any (is_node x) ks ≡ true → (b : Bool) × In (Node x b) ks
node_among x [] p = absurd (cc)
node_among x (k ∷ ks) p = elim (cases_Bool (is_node x k)) [
  | inl q ↦ (let r = node_is x k q in (r.0, inl r.1))
  | inr q ↦ (let r = node_among x ks (ap (λ b. b || list_any (is_node x) ks) (sym q) ∙ p) in (r.0, inr r.1))
]

-- a node that an update changes or needs has a key
pub node_in : (x : ℕ) (u : Update) → has_node x u ≡ true → (b : Bool) × In (Node x b) (keys_of u)
node_in x u p = node_among x (keys_of u) p

pub in_node : (x : ℕ) (b : Bool) (u : Update) → In (Node x b) (keys_of u) → has_node x u ≡ true
in_node x b u i = in_any (is_node x) (Node x b) (keys_of u) (eq-eqb x x refl) i

same_itself : (n : List ℕ) → pointwise ◌==◌ n n ≡ true
same_itself [] = refl
same_itself (x ∷ n) = ap (λ b. b && pointwise ◌==◌ n n) (eq-eqb x x refl) ∙ same_itself n

-- an entry whose key an update has is one that it changes
pub in_entry : (d : ℕ) (n : List ℕ) (u : Update) → In (Entry d n true) (keys_of u) → changes_entry d n u ≡ true
in_entry d n u i = in_any (is_entry_key d n) (Entry d n true) (keys_of u) (ap (λ b. b && pointwise ◌==◌ n n) (eq-eqb d d refl) ∙ same_itself n) i

-- each entry that an update has a key of it changes
abbrev IsChange : Key → Type 0
IsChange (Entry d n c) = c ≡ true
IsChange (Node x c) = Unit {0}
IsChange Shape = Unit {0}

changes_rest : (r : Option ℕ) (b : Bool) → AllByRecursion IsChange (replaced_key r ++ shape_key b)
changes_rest None true = (tt, tt)
changes_rest None false = tt
changes_rest (Some x) true = (tt, (tt, tt))
changes_rest (Some x) false = (tt, tt)

changes : (u : Update) → AllByRecursion IsChange (keys_of u)
changes (Make dir name id d) = (refl, (tt, (tt, tt)))
changes (Write id off bytes) = (tt, tt)
changes (Resize id len) = (tt, tt)
changes (Remove dir name id stays) = (refl, (tt, (tt, tt)))
changes (Move dir name to_dir to_name id d replaced stays) = (refl, (refl, (tt, (tt, changes_rest replaced (d && not (dir == to_dir))))))
changes (Release id) = (tt, tt)

entry_is : (d : ℕ) (n : List ℕ) (k : Key) → is_entry_key d n k ≡ true → IsChange k → k ≡ Entry d n true
entry_is d n (Entry e m c) p g =
    let q = and_parts (e == d) (pointwise ◌==◌ m n) p in
    ap (λ z. Entry z m c) (eqb-true e d q.0) ∙ ap (λ (z : List ℕ). Entry d z c) (same_text m n (sym q.1)) ∙ ap (Entry d n) g
entry_is d n (Node y c) p g = absurd (cc)
entry_is d n Shape p g = absurd (cc)

entry_among : (d : ℕ) (n : List ℕ) (ks : List Key) → AllByRecursion IsChange ks → list_any (is_entry_key d n) ks ≡ true → In (Entry d n true) ks
entry_among d n [] a p = absurd (cc)
entry_among d n (k ∷ ks) a p = elim (cases_Bool (is_entry_key d n k)) [
  | inl q ↦ inl (entry_is d n k q a.0)
  | inr q ↦ inr (entry_among d n ks a.1 (ap (λ b. b || list_any (is_entry_key d n) ks) (sym q) ∙ p))
]

pub entry_in : (d : ℕ) (n : List ℕ) (u : Update) → changes_entry d n u ≡ true → In (Entry d n true) (keys_of u)
entry_in d n u p = entry_among d n (keys_of u) (changes u) p
