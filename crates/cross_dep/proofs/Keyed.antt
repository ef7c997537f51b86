-- The marks of a stream: what a search finds among them, and what one more mark does.
use Rattle.std.proofs.Common.{◌≡◌, ℕ, ◌<◌, zero, suc, Bool, true, false, ◌||◌, List, [], ◌∷◌, ◌++◌, length, take, drop, get_or, set, Result, IfOk, IfErr, refl, sym, ap, subst, ◌∙◌, arith}
use Rattle.std.specs.declared.cmp.Ordering.TheVariants.{Equal}
use Rattle.std.specs.List.{insert, list_any}
use Rattle.std.specs.List.Sorted.{IsSearchInRange, IsBinarySearchResult}
use Rattle.std.proofs.lemmas.List.{get_or_default, take-append-drop}
use Rattle.std.proofs.lemmas.List.Folds.{list_any-append}
use Rattle.tree_model.specs.declared.keys.Key.{Key}
use Rattle.tree_model.specs.Keys.{clash}
use Rattle.cross_dep.specs.declared.places.Place.{Place}
use Rattle.cross_dep.specs.Marked.{place_of, is_changed, with_changed}
use Rattle.cross_dep.specs.Order.{place_cmp, Rises, IsAt, IsGapFor}
use Rattle.cross_dep.proofs.Rising.{searched, rises_set, rises_insert, one_decides, none_decides}
use Rattle.cross_dep.proofs.Clashing.{place_total, clash_is, same_place, clash_more}

-- what a search finds among the marks
pub key_searched : (keys seen : List Key) (key : Key) (place : Place) (r : Result ℕ ℕ) → seen ≡ keys → place ≡ place_of key → Rises seen
    → IsSearchInRange r (length seen) → IsBinarySearchResult (λ y. place_cmp (place_of y) place) seen r
    → record { found : IfOk r (IsAt keys key); absent : IfErr r (IsGapFor keys key) }
key_searched keys seen key place r same is rises inside result =
    subst (λ z. record { found : IfOk r (IsAt z key); absent : IfErr r (IsGapFor z key) }) same
    (searched place_cmp place_total place_of seen key r rises inside
    (subst (λ z. IsBinarySearchResult (λ y. place_cmp (place_of y) z) seen r) is result))

-- whether one clashes, where a mark of the same stands
pub clashes_at : (keys : List Key) (key : Key) (at : ℕ) (d : Key) → Rises keys → IsAt keys key at
    → list_any (clash key) keys ≡ (is_changed key || is_changed (get_or keys at d))
clashes_at keys key at d rises stands =
    one_decides place_cmp place_total place_of (clash key) (λ y. is_changed key || is_changed y) keys key at d (clash_is key) rises stands

-- and where none does
pub clashes_nowhere : (keys : List Key) (key : Key) (at : ℕ) → IsGapFor keys key at → list_any (clash key) keys ≡ false
clashes_nowhere keys key at goes =
    none_decides place_cmp place_total place_of (clash key) (λ y. is_changed key || is_changed y) keys key at (clash_is key) goes

-- ---- one more mark

or_assoc : (a b c : Bool) → (a || (b || c)) ≡ ((a || b) || c)
or_assoc true b c = refl
or_assoc false b c = refl

or_end : (a b c : Bool) → ((a || b) || c) ≡ ((a || c) || b)
or_end true b c = refl
or_end false true true = refl
or_end false true false = refl
or_end false false true = refl
or_end false false false = refl

or_last : (a b c : Bool) → (a || (b || c)) ≡ ((a || c) || b)
or_last a b c = or_assoc a b c ∙ or_end a b c

-- one of the items was replaced by one that passes where it or another test does
any_set : {X : Type 0} (p : X → Bool) (xs : List X) (at : ℕ) (y d : X) (more : Bool) → at < length xs → p y ≡ (p (get_or xs at d) || more)
    → list_any p (set xs at y) ≡ (list_any p xs || more)
any_set p [] at y d more l e = absurd (omega arith)
any_set p (x ∷ xs) zero y d more l e = ap (λ z. z || list_any p xs) e ∙ or_end (p x) more (list_any p xs)
any_set p (x ∷ xs) (suc at) y d more l e = ap (λ z. p x || z) (any_set p xs at y d more (omega arith) e) ∙ or_assoc (p x) (list_any p xs) more

-- an item was put between others
any_insert : {X : Type 0} (p : X → Bool) (xs : List X) (at : ℕ) (y : X) → list_any p (insert xs at y) ≡ (list_any p xs || p y)
any_insert {X} p xs at y =
    list_any-append p (take at xs) (y ∷ drop at xs) ∙ or_last (list_any p (take at xs)) (p y) (list_any p (drop at xs))
    ∙ ap (λ z. z || p y) (sym (list_any-append p (take at xs) (drop at xs)) ∙ ap (λ (z : List X). list_any p z) (take-append-drop at xs))

-- The mark that stood where the key is, once it was told as changed where the key is.
pub record IsMarkedAt (keys : List Key) (key : Key) (at : ℕ) (mark new : Key) : Type 0 where
  pub stands : IsAt keys key at
  pub read : mark ≡ get_or keys at mark
  pub told : new ≡ with_changed mark (is_changed key)

-- the marks clash with what they clashed with before, and with what the key clashes with
pub marked_at : (keys : List Key) (key : Key) (at : ℕ) (mark new : Key) → IsMarkedAt keys key at mark new
    → (other : Key) → list_any (clash other) (set keys at new) ≡ (list_any (clash other) keys || clash other key)
marked_at keys key at mark new is other =
    let same : place_cmp (place_of mark) (place_of key) ≡ Equal = ap (λ z. place_cmp (place_of z) (place_of key)) is.read ∙ is.stands.same mark in
    any_set (clash other) keys at new mark (clash other key) is.stands.inside
    (ap (clash other) is.told ∙ clash_more other mark key same ∙ ap (λ z. clash other z || clash other key) is.read)

-- and they rise as before
pub rises_at : (keys : List Key) (key : Key) (at : ℕ) (mark new : Key) → IsMarkedAt keys key at mark new → Rises keys → Rises (set keys at new)
rises_at keys key at mark new is rises =
    rises_set place_cmp place_total place_of keys at new is.stands.inside
    (λ d. ap place_of is.told ∙ same_place mark (is_changed key) ∙ ap place_of (is.read ∙ get_or_default keys at mark d is.stands.inside)) rises

-- a key that was put where it goes
pub marked_new : (keys : List Key) (key : Key) (at : ℕ) (other : Key) → list_any (clash other) (insert keys at key) ≡ (list_any (clash other) keys || clash other key)
marked_new keys key at other = any_insert (clash other) keys at key

pub rises_new : (keys : List Key) (key : Key) (at : ℕ) → IsGapFor keys key at → Rises keys → Rises (insert keys at key)
rises_new keys key at goes rises = rises_insert place_cmp place_total place_of keys key at goes rises

-- ---- the marks of an update, one after the other

-- one more key of the update is marked
pub marked_more : (p : Key → Bool) (new before old : Bool) (done more : List Key) (key : Key) → new ≡ (before || p key) → before ≡ (old || list_any p done)
    → more ≡ done ++ key ∷ [] → new ≡ (old || list_any p more)
marked_more p new before old done more key e f g =
    e ∙ ap (λ z. z || p key) f ∙ sym (or_assoc old (list_any p done) (p key))
    ∙ ap (λ z. old || z) (ap (λ z. list_any p done || z) (or_none (p key)) ∙ sym (ap (λ (z : List Key). list_any p z) g ∙ list_any-append p done (key ∷ [])))
  where
    or_none : (b : Bool) → b ≡ (b || false)
    or_none true = refl
    or_none false = refl
