-- Indexes that tell where rows stand, and how they change as rows leave and come to places.
use Rattle.std.proofs.Common.{◌≡◌, ℕ, ◌≢◌, List, refl, sym, ap, subst, ◌∙◌}
use Rattle.std.specs.Prelude.{Bool, true, false, cond, ◌&&◌, ◌==◌, ◌↔◌}
use Rattle.std.specs.declared.option.Option.{Option}
use Rattle.std.specs.declared.option.Option.TheVariants.{None, Some}
use Rattle.std.specs.Ordering.{eq_by_cmp, is_eq}
use Rattle.std.specs.FinMap.{get, insert, remove, empty, same_map, get-insert, get-remove, get-empty}
use Rattle.std.proofs.lemmas.Bool.{and_parts, and_from, eqb-true, eq-eqb}
use Rattle.std.proofs.lemmas.Cmp.{nat_list_cmp_total}
use Rattle.std.proofs.lemmas.Option.{same_Some}
use Rattle.std.specs.Cmp.{tied_itself}
use Rattle.tree_model.specs.Rows.{Rows, place_of, IsTree}
use Rattle.tree_model.specs.Entries.{Index, entries_of, entry}
use Rattle.tree_model.proofs.MapView.{tied, bytes_same}
use Rattle.tree_model.proofs.Index.{bytes_cmp}
use Rattle.tree_model.proofs.Found.{entry_is}
use Rattle.tree_model.proofs.Placed.{is_that}

-- the indexes tell the places: the entry n of d is y exactly where y stands at (d, n)
abbrev pub Tells : (ℕ → Option (ℕ × List ℕ)) → (ℕ → Index) → Type 0
Tells places indexes = (d : ℕ) (n : List ℕ) (y : ℕ) → (get (indexes d) n ≡ Some y) ↔ (places y ≡ Some (d, n))

pub none_some : {A : Type 0} (x : A) → None ≡ Some x → ⊥
none_some x e = cc

options_same : {A : Type 0} (a b : Option A) → ((y : A) → (a ≡ Some y) ↔ (b ≡ Some y)) → a ≡ b
options_same None None h = refl
options_same None (Some y) h = absurd (none_some y ((h y).1 refl))
options_same (Some x) b h = sym ((h x).0 refl)

-- in a tree they are the entries of its directories
pub entries_told : (t : Rows) → IsTree t → (indexes : ℕ → Index) → Tells (place_of t) indexes → (d : ℕ) → indexes d ≡ entries_of t d
entries_told t w indexes told d = same_map nat_list_cmp_total bytes_same _ _ (λ n.
    options_same (get (indexes d) n) (entry t d n) (λ y. (λ e. (entry_is t w d n y).1 ((told d n y).0 e), λ e. (told d n y).1 ((entry_is t w d n y).0 e))))

pub tells_same : (places moved : ℕ → Option (ℕ × List ℕ)) (indexes : ℕ → Index) → Tells places indexes → ((y : ℕ) → moved y ≡ places y) → Tells moved indexes
tells_same places moved indexes told same d n y = subst (λ o. (get (indexes d) n ≡ Some y) ↔ (o ≡ Some (d, n))) (sym (same y)) (told d n y)

pub tells_indexes : (places : ℕ → Option (ℕ × List ℕ)) (indexes changed : ℕ → Index) → Tells places indexes → ((d : ℕ) → changed d ≡ indexes d) → Tells places changed
tells_indexes places indexes changed told same d n y = subst (λ i. (get i n ≡ Some y) ↔ (places y ≡ Some (d, n))) (sym (same d)) (told d n y)

-- ---- one place
abbrev pub here : ℕ → List ℕ → ℕ → List ℕ → Bool
here d n e m = d == e && eq_by_cmp bytes_cmp n m

spot_same : (d e : ℕ) (n m : List ℕ) → d ≡ e → n ≡ m → ◌≡◌ {A = Option (ℕ × List ℕ)} (Some (d, n)) (Some (e, m))
spot_same d e n m p q = λ i. Some (p i, q i)

is_here : (d e : ℕ) (n m : List ℕ) → here d n e m ≡ true → ◌≡◌ {A = Option (ℕ × List ℕ)} (Some (d, n)) (Some (e, m))
is_here d e n m h = let p = and_parts _ _ h in spot_same d e n m (eqb-true d e p.0) (bytes_same n m (tied _ p.1))

pair_first : (d e : ℕ) (n m : List ℕ) → ◌≡◌ {A = Option (ℕ × List ℕ)} (Some (d, n)) (Some (e, m)) → (d ≡ e) × (n ≡ m)
pair_first d e n m p = let q = same_Some (d, n) (e, m) p in (ap (λ z. z.0) q, ap (λ z. z.1) q)

not_here : (d e : ℕ) (n m : List ℕ) → here d n e m ≡ false → ◌≡◌ {A = Option (ℕ × List ℕ)} (Some (d, n)) (Some (e, m)) → ⊥
not_here d e n m h p =
    let q = pair_first d e n m p in
    let yes : here d n e m ≡ true = and_from _ _ (eq-eqb d e q.0) (ap (λ z. eq_by_cmp bytes_cmp n z) (sym q.1) ∙ ap is_eq (tied_itself nat_list_cmp_total n)) in
    let bad : true ≡ false = sym yes ∙ h in cc

-- an entry taken out of the index of e, or put into it
pub get_dropped : (i : Index) (d e : ℕ) (n m : List ℕ) → get (cond (d == e) (remove i m) i) n ≡ cond (here d n e m) None (get i n)
get_dropped i d e n m = elim (d == e) as (λ b. get (cond b (remove i m) i) n ≡ cond (b && eq_by_cmp bytes_cmp n m) None (get i n)) [ true ↦ get-remove nat_list_cmp_total i m n | false ↦ refl ]

pub get_put_in : (i : Index) (d e : ℕ) (n m : List ℕ) (x : ℕ) → get (cond (d == e) (insert i m x) i) n ≡ cond (here d n e m) (Some x) (get i n)
get_put_in i d e n m x = elim (d == e) as (λ b. get (cond b (insert i m x) i) n ≡ cond (b && eq_by_cmp bytes_cmp n m) (Some x) (get i n)) [ true ↦ get-insert nat_list_cmp_total i m x n | false ↦ refl ]

-- ---- a row leaves its place
pub tells_drop : (places : ℕ → Option (ℕ × List ℕ)) (indexes : ℕ → Index) → Tells places indexes → (x e : ℕ) (m : List ℕ) → places x ≡ Some (e, m)
    → Tells (λ y. cond (y == x) None (places y)) (λ d. cond (d == e) (remove (indexes d) m) (indexes d))
tells_drop places indexes told x e m stands d n y =
    subst (λ o. (o ≡ Some y) ↔ (cond (y == x) None (places y) ≡ Some (d, n))) (sym (get_dropped (indexes d) d e n m))
    (elim (here d n e m) as (λ b. here d n e m ≡ b → (cond b None (get (indexes d) n) ≡ Some y) ↔ (cond (y == x) None (places y) ≡ Some (d, n))) [
      | true ↦ λ h. (
        λ bad. absurd (none_some y bad),
        elim (y == x) as (λ b. (y == x) ≡ b → cond b None (places y) ≡ Some (d, n) → None ≡ Some y) [
          | true ↦ λ p bad. absurd (none_some (d, n) bad)
          | false ↦ λ p is. absurd (
              let at_y : get (indexes e) m ≡ Some y = (told e m y).1 (is ∙ is_here d e n m h) in
              let at_x : get (indexes e) m ≡ Some x = (told e m x).1 stands in
              let same : y ≡ x = same_Some y x (sym at_y ∙ at_x) in
              let bad : true ≡ false = sym (eq-eqb y x same) ∙ p in cc)
        ] refl,
      )
      | false ↦ λ h. elim (y == x) as (λ b. (y == x) ≡ b → (get (indexes d) n ≡ Some y) ↔ (cond b None (places y) ≡ Some (d, n))) [
        | true ↦ λ p. (
          λ is. absurd (not_here d e n m h (sym ((told d n y).0 is) ∙ ap places (eqb-true y x p) ∙ stands)),
          λ bad. absurd (none_some (d, n) bad),
        )
        | false ↦ λ p. told d n y
      ] refl
    ] refl)

-- ---- a row leaves its place and comes to another, where nothing stands or a row that leaves
pub tells_move : (places : ℕ → Option (ℕ × List ℕ)) (indexes : ℕ → Index) → Tells places indexes → (x e f : ℕ) (m k : List ℕ) (replaced : Option ℕ)
    → places x ≡ Some (e, m) → is_that replaced x ≡ false
    → ((y : ℕ) → places y ≡ Some (f, k) → is_that replaced y ≡ true) → ((y : ℕ) → is_that replaced y ≡ true → places y ≡ Some (f, k))
    → Tells (λ y. cond (y == x) (Some (f, k)) (cond (is_that replaced y) None (places y)))
    (λ d. cond (d == e) (remove (cond (d == f) (insert (indexes d) k x) (indexes d)) m) (cond (d == f) (insert (indexes d) k x) (indexes d)))
tells_move places indexes told x e f m k replaced stands other only there d n y =
    let target = cond (y == x) (Some (f, k)) (cond (is_that replaced y) None (places y)) in
    let found = get (indexes d) n in
    subst (λ o. (o ≡ Some y) ↔ (target ≡ Some (d, n)))
    (sym (get_dropped (cond (d == f) (insert (indexes d) k x) (indexes d)) d e n m ∙ ap (cond (here d n e m) None) (get_put_in (indexes d) d f n k x)))
    (elim (here d n e m) as (λ b. here d n e m ≡ b → (cond b None (cond (here d n f k) (Some x) found) ≡ Some y) ↔ (target ≡ Some (d, n))) [
      | true ↦ λ h. (λ bad. absurd (none_some y bad), λ is. absurd (left d n y h is))
      | false ↦ λ h. elim (here d n f k) as (λ b. here d n f k ≡ b → (cond b (Some x) found ≡ Some y) ↔ (target ≡ Some (d, n))) [
        | true ↦ λ g. (
          λ is. ap (λ b. cond b (Some (f, k)) (cond (is_that replaced y) None (places y))) (eq-eqb y x (sym (same_Some x y is))) ∙ sym (is_here d f n k g),
          λ is. come d n y g is,
        )
        | false ↦ λ g. (λ is. stay d n y h g is, λ is. (told d n y).1 (stayed d n y g is))
      ] refl
    ] refl)
  where
    goes : ℕ → Option (ℕ × List ℕ)
    goes y = cond (y == x) (Some (f, k)) (cond (is_that replaced y) None (places y))

    left : (d : ℕ) (n : List ℕ) (y : ℕ) → here d n e m ≡ true → goes y ≡ Some (d, n) → ⊥
    left d n y h = elim (y == x) as (λ b. (y == x) ≡ b → cond b (Some (f, k)) (cond (is_that replaced y) None (places y)) ≡ Some (d, n) → ⊥) [
      | true ↦ λ p is. (let yes : is_that replaced x ≡ true = only x (stands ∙ sym (is_here d e n m h) ∙ sym is) in let bad : true ≡ false = sym yes ∙ other in cc)
      | false ↦ λ p. elim (is_that replaced y) as (λ b. cond b None (places y) ≡ Some (d, n) → ⊥) [
        | true ↦ λ bad. none_some (d, n) bad
        | false ↦ λ is.
            (let at_y : get (indexes e) m ≡ Some y = (told e m y).1 (is ∙ is_here d e n m h) in
            let at_x : get (indexes e) m ≡ Some x = (told e m x).1 stands in
            let bad : true ≡ false = sym (eq-eqb y x (same_Some y x (sym at_y ∙ at_x))) ∙ p in cc)
      ]
    ] refl

    come : (d : ℕ) (n : List ℕ) (y : ℕ) → here d n f k ≡ true → goes y ≡ Some (d, n) → Some x ≡ Some y
    come d n y g = elim (y == x) as (λ b. (y == x) ≡ b → cond b (Some (f, k)) (cond (is_that replaced y) None (places y)) ≡ Some (d, n) → Some x ≡ Some y) [
      | true ↦ λ p is. ap (λ z. Some z) (sym (eqb-true y x p))
      | false ↦ λ p. elim (is_that replaced y) as (λ b. is_that replaced y ≡ b → cond b None (places y) ≡ Some (d, n) → Some x ≡ Some y) [
        | true ↦ λ q bad. absurd (none_some (d, n) bad)
        | false ↦ λ q is. absurd (let bad : true ≡ false = sym (only y (is ∙ is_here d f n k g)) ∙ q in cc)
      ] refl
    ] refl

    stay : (d : ℕ) (n : List ℕ) (y : ℕ) → here d n e m ≡ false → here d n f k ≡ false → get (indexes d) n ≡ Some y → goes y ≡ Some (d, n)
    stay d n y h g is = elim (y == x) as (λ b. (y == x) ≡ b → cond b (Some (f, k)) (cond (is_that replaced y) None (places y)) ≡ Some (d, n)) [
      | true ↦ λ p. absurd (not_here d e n m h (sym ((told d n y).0 is) ∙ ap places (eqb-true y x p) ∙ stands))
      | false ↦ λ p. elim (is_that replaced y) as (λ b. is_that replaced y ≡ b → cond b None (places y) ≡ Some (d, n)) [
        | true ↦ λ q. absurd (not_here d f n k g (sym ((told d n y).0 is) ∙ there y q))
        | false ↦ λ q. (told d n y).0 is
      ] refl
    ] refl

    stayed : (d : ℕ) (n : List ℕ) (y : ℕ) → here d n f k ≡ false → goes y ≡ Some (d, n) → places y ≡ Some (d, n)
    stayed d n y g = elim (y == x) as (λ b. cond b (Some (f, k)) (cond (is_that replaced y) None (places y)) ≡ Some (d, n) → places y ≡ Some (d, n)) [
      | true ↦ λ is. absurd (not_here d f n k g (sym is))
      | false ↦ elim (is_that replaced y) as (λ b. cond b None (places y) ≡ Some (d, n) → places y ≡ Some (d, n)) [ true ↦ λ bad. absurd (none_some (d, n) bad) | false ↦ λ is. is ]
    ]

-- ---- a row without entries may be left out
pub tells_bare : (places : ℕ → Option (ℕ × List ℕ)) (indexes : ℕ → Index) → Tells places indexes → (x : ℕ) → ((y : ℕ) (n : List ℕ) → places y ≢ Some (x, n))
    → Tells places (λ d. cond (d == x) empty (indexes d))
tells_bare places indexes told x bare d n y =
    elim (d == x) as (λ b. (d == x) ≡ b → (get (cond b empty (indexes d)) n ≡ Some y) ↔ (places y ≡ Some (d, n))) [
      | true ↦ λ p. (
        λ is. absurd (none_some y (sym (get-empty bytes_cmp n) ∙ is)),
        λ is. absurd (bare y n (is ∙ ap (λ z. Some (z, n)) (eqb-true d x p))),
      )
      | false ↦ λ p. told d n y
    ] refl
