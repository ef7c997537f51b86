-- The book of a list of unsealed updates: what it tells, and where it stays one.
use Rattle.std.proofs.Common.{◌≡◌, ◌≢◌, ℕ, inl, inr, ◌<◌, Bool, true, false, not, ◌&&◌, ◌||◌, ◌==◌, List, [], ◌∷◌, ◌++◌, get_or, refl, sym, ap, subst, ◌∙◌, arith}
use Rattle.std.specs.Prelude.{filter}
use Rattle.std.specs.List.{list_any}
use Rattle.std.proofs.lemmas.Bool.{cases_Bool, cases_eq}
use Rattle.std.proofs.lemmas.Bool.Decides.{nat_tests}
use Rattle.std.proofs.lemmas.List.Folds.{list_any-append}
use Rattle.tree_model.specs.declared.rows.Update.{Update}
use Rattle.tree_model.specs.declared.keys.Key.{Key}
use Rattle.tree_model.specs.declared.keys.Key.TheVariants.{Entry, Node, Shape}
use Rattle.tree_model.specs.Keys.{clash, keys_of, touches, meets}
use Rattle.tree_model.specs.Laws.{is_changed_node, changes_node}
use Rattle.cross_dep.specs.Books.{Book, Call, IsBookOf, marks_of, one_of, without}
use Rattle.cross_dep.specs.Kept.{Held, IsMarked}
use Rattle.cross_dep.specs.Held.{any_clashes, book_in, held_at, keys_in}
use Rattle.cross_dep.proofs.HeldMarks.{keys_at}

pub same_number : (n : ℕ) → (n == n) ≡ true
same_number n = grind (arith, nat_tests)

pub other_number : (n m : ℕ) → n ≢ m → (n == m) ≡ false
other_number n m apart = grind (arith, nat_tests)

-- ---- tests of several keys and of several updates

none_of : {X : Type 0} (xs : List X) → list_any (λ x. false) xs ≡ false
none_of [] = refl
none_of (x ∷ xs) = none_of xs

swapped_or : (a b c d : Bool) → ((a || b) || (c || d)) ≡ ((a || c) || (b || d))
swapped_or true b c d = refl
swapped_or false true true d = refl
swapped_or false true false d = refl
swapped_or false false c d = refl

either_of : {X : Type 0} (f g : X → Bool) (xs : List X) → list_any (λ x. f x || g x) xs ≡ (list_any f xs || list_any g xs)
either_of f g [] = refl
either_of f g (x ∷ xs) = ap (λ z. (f x || g x) || z) (either_of f g xs) ∙ swapped_or (f x) (g x) (list_any f xs) (list_any g xs)

both_of : {X : Type 0} (b : Bool) (f : X → Bool) (xs : List X) → list_any (λ x. b && f x) xs ≡ (b && list_any f xs)
both_of true f xs = refl
both_of false f xs = none_of xs

-- one of the keys is touched by one of the updates where one of the updates touches one of the keys
any_touched : (s : ℕ) (keys : List Key) (unsealed : List Call)
    → list_any (λ key. one_of s (λ u. touches u key) unsealed) keys ≡ one_of s (λ u. list_any (touches u) keys) unsealed
any_touched s keys [] = none_of keys
any_touched s keys (call ∷ rest) =
    either_of (λ key. call.0 == s && touches call.1 key) (λ key. one_of s (λ u. touches u key) rest) keys
    ∙ ap (λ z. z || list_any (λ key. one_of s (λ u. touches u key) rest) keys) (both_of (call.0 == s) (touches call.1) keys)
    ∙ ap (λ z. (call.0 == s && list_any (touches call.1) keys) || z) (any_touched s keys rest)

-- ---- what the book tells

-- the marks of a stream clash with one of the keys of an update where one of the stream's updates meets it
pub told_met : (book : Book) (unsealed : List Call) (update : Update) (s : ℕ) → IsBookOf book unsealed → s < 64
    → any_clashes (marks_of book s) (keys_of update) ≡ one_of s (λ u. meets update u) unsealed
told_met book unsealed update s is l =
    (λ i. list_any (λ key. is.tells s key l i) (keys_of update)) ∙ any_touched s (keys_of update) unsealed

-- the key of a needed node clashes with the keys that change the node
changed_node : (x : ℕ) (key : Key) → clash (Node x false) key ≡ is_changed_node x key
changed_node x (Entry d n c) = refl
changed_node x (Node y b) = ap (λ z. z && b) (either_way x y)
  where
    either_way : (x y : ℕ) → (x == y) ≡ (y == x)
    either_way x y = grind (arith, nat_tests)
changed_node x Shape = refl

pub told_changed : (book : Book) (unsealed : List Call) (x s : ℕ) → IsBookOf book unsealed → s < 64
    → list_any (clash (Node x false)) (marks_of book s) ≡ one_of s (changes_node x) unsealed
told_changed book unsealed x s is l = is.tells s (Node x false) l ∙ (λ i. one_of s (λ u. list_any (λ key. changed_node x key i) (keys_of u)) unsealed)

-- ---- books that stay books

-- no marks
pub book_of_none : (book : Book) → ((s : ℕ) → marks_of book s ≡ []) → IsBookOf book []
book_of_none book none = record { tells = λ (s : ℕ) (key : Key) (l : s < 64). ap (λ (z : List Key). list_any (clash key) z) (none s) }

or_none : (b : Bool) → (b || false) ≡ b
or_none true = refl
or_none false = refl

-- the marks with those of one more update
pub book_more : (old new : Book) (stream : ℕ) (update : Update) (unsealed : List Call) → IsMarked (marks_of old stream) update (marks_of new stream)
    → ((s : ℕ) → s ≢ stream → marks_of new s ≡ marks_of old s) → IsBookOf old unsealed → IsBookOf new (unsealed ++ (stream, update) ∷ [])
book_more old new stream update unsealed marked others is = record { tells = tells }
  where
    later : (s : ℕ) (key : Key)
        → one_of s (λ u. touches u key) (unsealed ++ (stream, update) ∷ []) ≡ (one_of s (λ u. touches u key) unsealed || (stream == s && touches update key))
    later s key =
        list_any-append (λ (call : Call). call.0 == s && touches call.1 key) unsealed ((stream, update) ∷ [])
        ∙ ap (λ z. one_of s (λ u. touches u key) unsealed || z) (or_none (stream == s && touches update key))

    own : (key : Key) → stream < 64 → list_any (clash key) (marks_of new stream) ≡ one_of stream (λ u. touches u key) (unsealed ++ (stream, update) ∷ [])
    own key l =
        marked.tells key ∙ ap (λ z. z || touches update key) (is.tells stream key l)
        ∙ sym (later stream key ∙ ap (λ z. one_of stream (λ u. touches u key) unsealed || (z && touches update key)) (same_number stream))

    tells : (s : ℕ) (key : Key) → s < 64 → list_any (clash key) (marks_of new s) ≡ one_of s (λ u. touches u key) (unsealed ++ (stream, update) ∷ [])
    tells s key l = elim (cases_eq s stream) [
      | inl e ↦ subst (λ z. list_any (clash key) (marks_of new z) ≡ one_of z (λ u. touches u key) (unsealed ++ (stream, update) ∷ [])) (sym e)
          (own key (subst (λ z. z < 64) e l))
      | inr n ↦ ap (λ (z : List Key). list_any (clash key) z) (others s n) ∙ is.tells s key l
          ∙ sym (later s key ∙ ap (λ z. one_of s (λ u. touches u key) unsealed || (z && touches update key)) (other_number stream s (λ e. n (sym e)))
          ∙ or_none (one_of s (λ u. touches u key) unsealed))
    ]

-- none of those that a test leaves out is there
left_out : {X : Type 0} (p c : X → Bool) (xs : List X) → list_any (λ x. c x && p x) (filter (λ x. not (c x)) xs) ≡ false
left_out p c [] = refl
left_out p c (x ∷ xs) = elim (cases_Bool (c x)) [
  | inl out ↦ rw out (left_out p c xs)
  | inr stays ↦ rw stays (rw stays (left_out p c xs))
]

-- and the others stay
others_stay : {X : Type 0} (q c : X → Bool) → ((x : X) → c x ≡ true → q x ≡ false) → (xs : List X) → list_any q (filter (λ x. not (c x)) xs) ≡ list_any q xs
others_stay q c h [] = refl
others_stay q c h (x ∷ xs) = elim (cases_Bool (c x)) [
  | inl out ↦ rw (out, h x out) (others_stay q c h xs)
  | inr stays ↦ rw stays (ap (λ z. q x || z) (others_stay q c h xs))
]

-- the marks without those of a stream
pub book_without : (old new : Book) (stream : ℕ) (unsealed : List Call) → marks_of new stream ≡ []
    → ((s : ℕ) → s ≢ stream → marks_of new s ≡ marks_of old s) → IsBookOf old unsealed → IsBookOf new (without stream unsealed)
book_without old new stream unsealed none others is = record { tells = tells }
  where
    own : (key : Key) → list_any (clash key) (marks_of new stream) ≡ one_of stream (λ u. touches u key) (without stream unsealed)
    own key =
        ap (λ (z : List Key). list_any (clash key) z) none
        ∙ sym (left_out (λ (call : Call). touches call.1 key) (λ (call : Call). call.0 == stream) unsealed)

    apart : (n s : ℕ) → s ≢ stream → (n == stream) ≡ true → (n == s) ≡ false
    apart n s differs same = grind (arith, nat_tests)

    tells : (s : ℕ) (key : Key) → s < 64 → list_any (clash key) (marks_of new s) ≡ one_of s (λ u. touches u key) (without stream unsealed)
    tells s key l = elim (cases_eq s stream) [
      | inl e ↦ subst (λ z. list_any (clash key) (marks_of new z) ≡ one_of z (λ u. touches u key) (without stream unsealed)) (sym e) (own key)
      | inr n ↦ ap (λ (z : List Key). list_any (clash key) z) (others s n) ∙ is.tells s key l
          ∙ sym (others_stay (λ (call : Call). call.0 == s && touches call.1 key) (λ (call : Call). call.0 == stream)
          (λ (call : Call) (out : (call.0 == stream) ≡ true). ap (λ z. z && touches call.1 key) (apart call.0 s n out)) unsealed)
    ]

-- ---- what is held

-- an update was marked
pub held_more : (marks new : List Held) (stream : ℕ) (update : Update) (unsealed : List Call)
    → IsMarked (held_at marks stream).keys update (held_at new stream).keys → ((other : ℕ) → other ≢ stream → held_at new other ≡ held_at marks other)
    → IsBookOf (book_in marks) unsealed → IsBookOf (book_in new) (unsealed ++ (stream, update) ∷ [])
held_more marks new stream update unsealed marked others is =
    book_more (book_in marks) (book_in new) stream update unsealed
    (subst (λ z. IsMarked z update (get_or (keys_in new) stream [])) (sym (keys_at marks stream))
    (subst (λ z. IsMarked (held_at marks stream).keys update z) (sym (keys_at new stream)) marked))
    (λ s n. keys_at new s ∙ ap (λ (z : Held). z.keys) (others s n) ∙ sym (keys_at marks s)) is
