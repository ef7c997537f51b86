-- Where one update meets another, that one meets it.
use Rattle.std.proofs.Common.{◌≡◌, ℕ, inl, inr, List, [], ◌∷◌, refl, sym, ap, ◌∙◌}
use Rattle.std.specs.Prelude.{Bool, true, false, ◌&&◌, ◌||◌, ◌==◌}
use Rattle.std.specs.List.{list_any}
use Rattle.std.specs.Cmp.Lexicographic.{pointwise}
use Rattle.std.proofs.Math.Bool.{or_comm}
use Rattle.std.proofs.lemmas.Bool.{eq-eqb, ne_eqb, cases_eq}
use Rattle.tree_model.specs.declared.keys.Key.{Key}
use Rattle.tree_model.specs.declared.keys.Key.TheVariants.{Entry, Node, Shape}
use Rattle.tree_model.specs.Keys.{clash, keys_of}
use Rattle.tree_model.specs.Laws.{MeetingIsMutual}

same_back : (x y : ℕ) → (x == y) ≡ (y == x)
same_back x y = elim (cases_eq x y) [
  | inl e ↦ eq-eqb x y e ∙ sym (eq-eqb y x (sym e))
  | inr ne ↦ ne_eqb x y ne ∙ sym (ne_eqb y x (λ e. ne (sym e)))
]

named_back : (n m : List ℕ) → pointwise ◌==◌ n m ≡ pointwise ◌==◌ m n
named_back [] [] = refl
named_back [] (y ∷ m) = refl
named_back (x ∷ n) [] = refl
named_back (x ∷ n) (y ∷ m) = ap (λ b. b && pointwise ◌==◌ n m) (same_back x y) ∙ ap (λ b. (y == x) && b) (named_back n m)

clash_back : (a b : Key) → clash a b ≡ clash b a
clash_back (Entry d n c) (Entry e m b) =
    ap (λ z. z && (pointwise ◌==◌ n m && (c || b))) (same_back d e) ∙ ap (λ z. (e == d) && (z && (c || b))) (named_back n m)
    ∙ ap (λ z. (e == d) && (pointwise ◌==◌ m n && z)) (or_comm c b)
clash_back (Entry d n c) (Node y b) = refl
clash_back (Entry d n c) Shape = refl
clash_back (Node x c) (Entry e m b) = refl
clash_back (Node x c) (Node y b) = ap (λ z. z && (c || b)) (same_back x y) ∙ ap (λ z. (y == x) && z) (or_comm c b)
clash_back (Node x c) Shape = refl
clash_back Shape (Entry e m b) = refl
clash_back Shape (Node y b) = refl
clash_back Shape Shape = refl

none_any : (js : List Key) → false ≡ list_any (λ b. false) js
none_any [] = refl
none_any (j ∷ js) = none_any js

-- whether one of four tests passes, in another order
four : (a b c d : Bool) → ((a || b) || (c || d)) ≡ ((a || c) || (b || d))
four true b c d = refl
four false true true d = refl
four false true false d = refl
four false false true d = refl
four false false false d = refl

either_any : (f g : Key → Bool) (js : List Key) → (list_any f js || list_any g js) ≡ list_any (λ b. f b || g b) js
either_any f g [] = refl
either_any f g (j ∷ js) = four (f j) (list_any f js) (g j) (list_any g js) ∙ ap (λ z. (f j || g j) || z) (either_any f g js)

same_any : (f g : Key → Bool) → ((b : Key) → f b ≡ g b) → (js : List Key) → list_any f js ≡ list_any g js
same_any f g h [] = refl
same_any f g h (j ∷ js) = ap (λ z. z || list_any f js) (h j) ∙ ap (λ z. g j || z) (same_any f g h js)

any_back : (ks js : List Key) → list_any (λ a. list_any (clash a) js) ks ≡ list_any (λ b. list_any (clash b) ks) js
any_back [] js = none_any js
any_back (a ∷ ks) js =
    ap (λ z. list_any (clash a) js || z) (any_back ks js)
    ∙ either_any (clash a) (λ b. list_any (clash b) ks) js
    ∙ same_any (λ b. clash a b || list_any (clash b) ks) (λ b. clash b a || list_any (clash b) ks) (λ b. ap (λ z. z || list_any (clash b) ks) (clash_back a b)) js

pub meets_back : MeetingIsMutual
meets_back u v = any_back (keys_of u) (keys_of v)
