-- After an update that applies the root is there, each row stands in a directory, and no two stand at one place.
use Rattle.std.proofs.Common.{◌≡◌, ℕ, ◌≢◌, ◌⊎◌, inl, inr, List, [], ◌∷◌, ◌++◌, refl, sym, ap, subst, ◌∙◌}
use Rattle.std.specs.Prelude.{Bool, true, false, cond, ◌==◌}
use Rattle.std.specs.declared.option.Option.{Option}
use Rattle.std.specs.declared.option.Option.TheVariants.{None, Some}
use Rattle.std.proofs.lemmas.Bool.{eqb-true, eqb-false}
use Rattle.tree_model.specs.declared.rows.Body.TheVariants.{Dir}
use Rattle.tree_model.specs.declared.rows.Row.{Row}
use Rattle.tree_model.specs.declared.rows.Update.{Update}
use Rattle.tree_model.specs.declared.rows.Update.TheVariants.{Make, Write, Resize, Remove, Move, Release}
use Rattle.tree_model.specs.declared.keys.Key.TheVariants.{Entry, Node}
use Rattle.tree_model.specs.Rows.{Rows, place, kind, place_of, IsDir, IsEntry, IsTree}
use Rattle.tree_model.specs.Updates.{Edit, Rework, Refill, Place, Count, change, apply, Fits, MayReplace}
use Rattle.tree_model.specs.Keys.{replaced_key, shape_key, keys_of}
use Rattle.tree_model.proofs.Edited.{act, row_after}
use Rattle.tree_model.proofs.Placed.{placed_make, placed_remove, placed_move, is_that}
use Rattle.tree_model.proofs.Locks.{entry_same, In, Stands, Locked, none_not}
use Rattle.tree_model.proofs.Frames.{place_frame, kind_frame}
use Rattle.tree_model.proofs.Framed.{emptied}

-- the root's row
abbrev pub Root : Option Row → Type 0
Root o = (n : ℕ) × (o ≡ Some (record { parent = None; name = []; body = Dir n }))

pub root_list : (t : Rows) (u : Update) → IsTree t → (In (Node 0 true) (keys_of u) → ⊥) → (es : List (ℕ × Edit)) (o : Option Row) → Locked t u es → Root o → Root (row_after es 0 o)
root_list t u w held [] o l r = r
root_list t u w held ((x, Count) ∷ es) o l r = root_list t u w held es (act 0 (x, Count) o) l.1
    (elim (0 == x) as (λ b. Root (cond b (change Count o) o)) [ true ↦ (_, ap (change Count) r.1) | false ↦ r ])
root_list t u w held ((x, Rework f) ∷ es) o l r = root_list t u w held es (act 0 (x, Rework f) o) l.1
    (elim (0 == x) as (λ b. 0 == x ≡ b → Root (cond b (change (Rework f) o) o)) [
      | true ↦ λ p. absurd (held (subst (λ z. In (Node z true) (keys_of u)) (sym (eqb-true 0 x p)) l.0.0))
      | false ↦ λ p. r
    ] refl)
root_list t u w held ((x, Refill f) ∷ es) o l r = root_list t u w held es (act 0 (x, Refill f) o) l.1
    (elim (0 == x) as (λ b. 0 == x ≡ b → Root (cond b (change (Refill f) o) o)) [
      | true ↦ λ p. absurd (held (subst (λ z. In (Node z true) (keys_of u)) (sym (eqb-true 0 x p)) l.0))
      | false ↦ λ p. r
    ] refl)
root_list t u w held ((x, Place d n) ∷ es) o l r = root_list t u w held es (act 0 (x, Place d n) o) l.1
    (elim (0 == x) as (λ b. 0 == x ≡ b → Root (cond b (change (Place d n) o) o)) [
      | true ↦ λ p. absurd (let s : Stands t 0 = subst (Stands t) (sym (eqb-true 0 x p)) l.0.1 in let q = w.root in none_not s.0 s.1 (place_of t 0) (ap place q.1) s.2)
      | false ↦ λ p. r
    ] refl)

root_dir : (t : Rows) → IsTree t → IsDir t 0
root_dir t w = let q = w.root in ap kind q.1

pub root_free : (t : Rows) (u : Update) → IsTree t → Fits t u → In (Node 0 true) (keys_of u) → ⊥
root_free t u w f i = let r = emptied t u 0 f i (root_dir t w) in let s = r.1 in let q = w.root in none_not s.0 s.1 (place_of t 0) (ap place q.1) s.2

in_replaced : (d : ℕ) (n : List ℕ) (r : Option ℕ) (b : Bool) → In (Entry d n true) (replaced_key r ++ shape_key b) → ⊥
in_replaced d n None true (inl p) = cc
in_replaced d n None true (inr z) = z
in_replaced d n None false z = z
in_replaced d n (Some x) b (inl p) = cc
in_replaced d n (Some x) true (inr (inl p)) = cc
in_replaced d n (Some x) true (inr (inr z)) = z
in_replaced d n (Some x) false (inr z) = z

-- what holds of the entries that an update names holds of each entry that it changes
one_entry : (P : ℕ → List ℕ → Type 0) (dir : ℕ) (name : List ℕ) (x y : ℕ) (b c : Bool) → P dir name
    → (d : ℕ) (n : List ℕ) → In (Entry d n true) (Entry dir name true ∷ Node x b ∷ Node y c ∷ []) → P d n
one_entry P dir name x y b c h d n (inl p) = let e = entry_same dir d name n p in subst (λ z. P z n) e.0 (subst (P dir) e.1 h)
one_entry P dir name x y b c h d n (inr (inl p)) = absurd (cc)
one_entry P dir name x y b c h d n (inr (inr (inl p))) = absurd (cc)
one_entry P dir name x y b c h d n (inr (inr (inr z))) = absurd z

two_entries : (P : ℕ → List ℕ → Type 0) (dir : ℕ) (name : List ℕ) (to_dir : ℕ) (to_name : List ℕ) (id : ℕ) (k : Bool) (r : Option ℕ) (stays : Bool)
    → P dir name → P to_dir to_name → (d : ℕ) (n : List ℕ) → In (Entry d n true) (keys_of (Move dir name to_dir to_name id k r stays)) → P d n
two_entries P dir name to_dir to_name id k r stays h g d n (inl p) = let e = entry_same dir d name n p in subst (λ z. P z n) e.0 (subst (P dir) e.1 h)
two_entries P dir name to_dir to_name id k r stays h g d n (inr (inl p)) = let e = entry_same to_dir d to_name n p in subst (λ z. P z n) e.0 (subst (P to_dir) e.1 g)
two_entries P dir name to_dir to_name id k r stays h g d n (inr (inr (inl p))) = absurd (cc)
two_entries P dir name to_dir to_name id k r stays h g d n (inr (inr (inr (inl p)))) = absurd (cc)
two_entries P dir name to_dir to_name id k r stays h g d n (inr (inr (inr (inr i)))) = absurd (in_replaced d n r _ i)

entry_is_dir : (t : Rows) (u : Update) → IsTree t → Fits t u → (d : ℕ) (n : List ℕ) → In (Entry d n true) (keys_of u) → IsDir t d
entry_is_dir t (Make dir name id k) w f d n i = one_entry (λ d n. IsDir t d) dir name id dir true false f.0 d n i
entry_is_dir t (Remove dir name id k) w f d n i = one_entry (λ d n. IsDir t d) dir name id dir true false (w.parents id dir name f.0) d n i
entry_is_dir t (Write id off bytes) w f d n (inl p) = absurd (cc)
entry_is_dir t (Write id off bytes) w f d n (inr z) = absurd z
entry_is_dir t (Resize id len) w f d n (inl p) = absurd (cc)
entry_is_dir t (Resize id len) w f d n (inr z) = absurd z
entry_is_dir t (Release id) w f d n (inl p) = absurd (cc)
entry_is_dir t (Release id) w f d n (inr z) = absurd z
entry_is_dir t (Move dir name to_dir to_name id k r stays) w f d n i = two_entries (λ d n. IsDir t d) dir name to_dir to_name id k r stays (w.parents id dir name f.0) f.2 d n i

dir_kept : (t : Rows) (u : Update) → Fits t u → (d : ℕ) → IsDir t d → (In (Node d true) (keys_of u) → ⊥) → IsDir (apply t u) d
dir_kept t u f d h held = elim (kind_frame t u f d) [ inl p ↦ p ∙ h | inr m ↦ absurd (held m.0) ]

pub parents_kept : (t : Rows) (u : Update) → IsTree t → Fits t u → (x d : ℕ) (n : List ℕ) → IsEntry (apply t u) d n x → IsDir (apply t u) d
parents_kept t u w f x d n e = elim (place_frame t u f x) [
  | inl p ↦ (let was : IsEntry t d n x = sym p ∙ e in let h : IsDir t d = w.parents x d n was in
      dir_kept t u f d h (λ i. (emptied t u d f i h).0 x n was))
  | inr m ↦ (let i : In (Entry d n true) (keys_of u) = m.0.1 d n e in let h : IsDir t d = entry_is_dir t u w f d n i in
      dir_kept t u f d h (λ j. (let r = emptied t u d f j h in r.0 d n (r.2 d n i))))
]

pub cond_some : {A : Type 0} (b : Bool) (x y z : A) → cond b x y ≡ z → ((b ≡ true) × (x ≡ z)) ⊎ ((b ≡ false) × (y ≡ z))
cond_some true x y z p = inl (refl, p)
cond_some false x y z p = inr (refl, p)

-- the row that an update names
abbrev the_id : Update → ℕ
the_id (Make dir name id k) = id
the_id (Write id off bytes) = id
the_id (Resize id len) = id
the_id (Remove dir name id stays) = id
the_id (Move dir name to_dir to_name id k r stays) = id
the_id (Release id) = id

-- who stands at an entry that u changes is the row that u names
pub move_stands : (t : Rows) (dir : ℕ) (name : List ℕ) (to_dir : ℕ) (to_name : List ℕ) (id : ℕ) (k : Bool) (r : Option ℕ) (stays : Bool)
    → IsTree t → Fits t (Move dir name to_dir to_name id k r stays)
    → (d : ℕ) (n : List ℕ) (x : ℕ) → IsEntry (apply t (Move dir name to_dir to_name id k r stays)) d n x → (x ≡ id) ⊎ (IsEntry t d n x × (r ≢ Some x))
move_stands t dir name to_dir to_name id k r stays w f d n x e =
    elim (cond_some (x == id) (Some (to_dir, to_name)) (cond (is_that r x) None (place_of t x)) (Some (d, n)) (sym (placed_move t dir name to_dir to_name id k r stays f.1 f.3 x) ∙ e)) [
      | inl p ↦ inl (eqb-true x id p.0)
      | inr p ↦ inr (elim r as (λ o. cond (is_that o x) None (place_of t x) ≡ Some (d, n) → IsEntry t d n x × (o ≢ Some x)) [
        | None ↦ λ q. (q, λ bad. (let z : ◌≡◌ {A = Option ℕ} None (Some x) = bad in cc))
        | Some y ↦ λ q. elim (cond_some (x == y) None (place_of t x) (Some (d, n)) q) [
          | inl z ↦ absurd (let bad : ◌≡◌ {A = Option (ℕ × List ℕ)} None (Some (d, n)) = z.1 in cc)
          | inr z ↦ (z.1, λ bad. (let c : ◌≡◌ {A = Option ℕ} (Some y) (Some x) = bad in let s : y ≡ x = cc in eqb-false x y z.0 (sym s)))
        ]
      ] p.1)
    ]

settled_one : (t : Rows) (u : Update) → IsTree t → Fits t u → (d : ℕ) (n : List ℕ) → In (Entry d n true) (keys_of u) → (x : ℕ) → IsEntry (apply t u) d n x → x ≡ the_id u
settled_one t (Make dir name id k) w f d n i = one_entry (λ d n. (x : ℕ) → IsEntry (apply t (Make dir name id k)) d n x → x ≡ id) dir name id dir true false
    (λ x e. elim (cond_some (x == id) (Some (dir, name)) (place_of t x) (Some (dir, name)) (sym (placed_make t dir name id k x) ∙ e)) [ inl p ↦ eqb-true x id p.0 | inr p ↦ absurd (f.1 x p.1) ]) d n i
settled_one t (Remove dir name id k) w f d n i = one_entry (λ d n. (x : ℕ) → IsEntry (apply t (Remove dir name id k)) d n x → x ≡ id) dir name id dir true false
    (λ x e. elim (cond_some (x == id) None (place_of t x) (Some (dir, name)) (sym (placed_remove t dir name id k x) ∙ e)) [ inl p ↦ eqb-true x id p.0 | inr p ↦ w.unique x id dir name p.1 f.0 ]) d n i
settled_one t (Write id off bytes) w f d n (inl p) = absurd (cc)
settled_one t (Write id off bytes) w f d n (inr z) = absurd z
settled_one t (Resize id len) w f d n (inl p) = absurd (cc)
settled_one t (Resize id len) w f d n (inr z) = absurd z
settled_one t (Release id) w f d n (inl p) = absurd (cc)
settled_one t (Release id) w f d n (inr z) = absurd z
settled_one t (Move dir name to_dir to_name id k r stays) w f d n i =
    let u : Update = Move dir name to_dir to_name id k r stays in
    two_entries (λ d n. (x : ℕ) → IsEntry (apply t u) d n x → x ≡ id) dir name to_dir to_name id k r stays
    (λ x e. elim (move_stands t dir name to_dir to_name id k r stays w f dir name x e) [ inl p ↦ p | inr p ↦ w.unique x id dir name p.0 f.0 ])
    (λ x e. elim (move_stands t dir name to_dir to_name id k r stays w f to_dir to_name x e) [
      | inl p ↦ p
      | inr p ↦ absurd (elim r as (λ o. MayReplace t to_dir to_name k o → (o ≢ Some x) → ⊥) [
        | None ↦ λ m ne. m x p.0
        | Some y ↦ λ m ne. ne (ap (λ z. Some z) (w.unique y x to_dir to_name m.0 p.0))
      ] f.4 p.1)
    ]) d n i

pub unique_kept : (t : Rows) (u : Update) → IsTree t → Fits t u → (x y d : ℕ) (n : List ℕ) → IsEntry (apply t u) d n x → IsEntry (apply t u) d n y → x ≡ y
unique_kept t u w f x y d n e g =
    let both : In (Entry d n true) (keys_of u) → x ≡ y = λ i. settled_one t u w f d n i x e ∙ sym (settled_one t u w f d n i y g) in
    elim (place_frame t u f x) [
      | inl p ↦ elim (place_frame t u f y) [ inl q ↦ w.unique x y d n (sym p ∙ e) (sym q ∙ g) | inr m ↦ both (m.0.1 d n g) ]
      | inr m ↦ both (m.0.1 d n e)
    ]
