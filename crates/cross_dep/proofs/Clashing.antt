-- Whether two keys clash, by the order of what they are of.
use Rattle.std.proofs.Common.{◌≡◌, ℕ, ◌==◌, arith, Bool, true, false, ◌&&◌, ◌||◌, refl, sym, ap, ◌∙◌}
use Rattle.std.specs.Cmp.{IsTotalOrder}
use Rattle.std.specs.declared.cmp.Ordering.{Ordering}
use Rattle.std.specs.declared.cmp.Ordering.TheVariants.{Less, Equal, Greater}
use Rattle.std.specs.Ordering.{is_eq, nat_cmp, ordering_then}
use Rattle.std.specs.Cmp.Lexicographic.{slice_cmp}
use Rattle.std.proofs.lemmas.Cmp.{alike_right}
use Rattle.std.proofs.lemmas.Bool.Decides.{nat_tests}
use Rattle.std.proofs.lemmas.Map.Text.{is_eq-slice_cmp}
use Rattle.tree_model.specs.declared.keys.Key.{Key}
use Rattle.tree_model.specs.declared.keys.Key.TheVariants.{Entry, Node, Shape}
use Rattle.tree_model.specs.Keys.{clash}
use Rattle.cross_dep.specs.contracts.places.PlaceOrd.TheImpl.Laws as laws
use Rattle.cross_dep.specs.Marked.{place_of, is_changed, with_changed}
use Rattle.cross_dep.specs.Order.{place_cmp}

pub place_total : IsTotalOrder place_cmp
place_total = laws.total-law

nats_tied : (x y : ℕ) → is_eq (nat_cmp x y) ≡ (x == y)
nats_tied x y = grind (arith, nat_tests)

both_tied : (a b : Ordering) (c : Bool) → (is_eq (ordering_then a b) && c) ≡ (is_eq a && (is_eq b && c))
both_tied Less b c = refl
both_tied Equal b c = refl
both_tied Greater b c = refl

-- two keys clash where they are of the same and one of them is changed
pub clash_is : (key mark : Key) → clash key mark ≡ (is_eq (place_cmp (place_of key) (place_of mark)) && (is_changed key || is_changed mark))
clash_is (Entry d n c) (Entry e m b) =
    ap (λ z. (d == e) && (z && (c || b))) (sym (is_eq-slice_cmp n m)) ∙ ap (λ z. z && (is_eq (slice_cmp nat_cmp n m) && (c || b))) (sym (nats_tied d e))
    ∙ sym (both_tied (nat_cmp d e) (slice_cmp nat_cmp n m) (c || b))
clash_is (Entry d n c) (Node y b) = refl
clash_is (Entry d n c) Shape = refl
clash_is (Node x c) (Entry e m b) = refl
clash_is (Node x c) (Node y b) = ap (λ z. z && (c || b)) (sym (nats_tied x y))
clash_is (Node x c) Shape = refl
clash_is Shape (Entry e m b) = refl
clash_is Shape (Node y b) = refl
clash_is Shape Shape = refl

-- ---- the key that stands where one is marked once more

-- it is of the same
pub same_place : (key : Key) (more : Bool) → place_of (with_changed key more) ≡ place_of key
same_place (Entry d n c) more = refl
same_place (Node x c) more = refl
same_place Shape more = refl

more_changed : (key : Key) (more : Bool) → is_changed (with_changed key more) ≡ (is_changed key || more)
more_changed (Entry d n c) more = refl
more_changed (Node x c) more = refl
more_changed Shape more = refl

parted : (e k m c : Bool) → (e && (k || (m || c))) ≡ ((e && (k || m)) || (e && (k || c)))
parted false k m c = refl
parted true true m c = refl
parted true false m c = refl

-- it clashes with what it clashed with before, and with what the other one clashes with
pub clash_more : (other mark key : Key) → place_cmp (place_of mark) (place_of key) ≡ Equal
    → clash other (with_changed mark (is_changed key)) ≡ (clash other mark || clash other key)
clash_more other mark key same =
    let alike : place_cmp (place_of other) (place_of mark) ≡ place_cmp (place_of other) (place_of key)
    = alike_right place_total (place_of mark) (place_of key) (place_of other) same in
    let own = is_eq (place_cmp (place_of other) (place_of mark)) in
    clash_is other (with_changed mark (is_changed key))
    ∙ ap (λ z. is_eq (place_cmp (place_of other) z) && (is_changed other || is_changed (with_changed mark (is_changed key)))) (same_place mark (is_changed key))
    ∙ ap (λ z. own && (is_changed other || z)) (more_changed mark (is_changed key))
    ∙ parted own (is_changed other) (is_changed mark) (is_changed key)
    ∙ ap (λ z. (own && (is_changed other || is_changed mark)) || (is_eq z && (is_changed other || is_changed key))) alike
    ∙ ap (λ z. z || (is_eq (place_cmp (place_of other) (place_of key)) && (is_changed other || is_changed key))) (sym (clash_is other mark))
    ∙ ap (λ z. clash other mark || z) (sym (clash_is other key))
