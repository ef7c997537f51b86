-- Where the first line and the first word of a text end, in the words of the code.
use Rattle.std.proofs.Common.{◌≡◌, ◌≢◌, ℕ, suc, ◌+◌, ◌-◌, ◌<◌, ◌≤◌, Bool, true, false, not, cond, eqb, List, [], ◌∷◌, length, get_or, take, drop, refl, sym, ◌∙◌, ap, arith, Option, Some, None, position, filter, MatchOption, unwrap_or, ltb, map}
use Rattle.std.specs.List.{position_or_len, slice_split, slice_get}
use Rattle.std.proofs.lemmas.Grind.{common_steps}
use Rattle.std.proofs.lemmas.Bool.Decides.{nat_tests}
use Rattle.std.proofs.lemmas.Option.{get_or_from_slice_get}
use Rattle.std.proofs.lemmas.List.{length-take-le}
use Rattle.std.proofs.lemmas.List.Sums.{prefix_len-le-length}
use Rattle.script_text.specs.Lines.{grow, cut_lines, line_text, lines_of}
use Rattle.script_text.specs.Words.{Rest, Word, is_blank, is_full, placed, words_from}

-- a line's text, by its last byte
line_text-last_at : (xs : List ℕ) (n : ℕ) → length xs ≡ suc n → line_text xs ≡ cond (eqb (get_or xs n 0) 13) (take n xs) xs
line_text-last_at [] n h = absurd (omega arith)
line_text-last_at (b ∷ []) n h = let e : n ≡ 0 = omega arith in rw e
line_text-last_at (b ∷ c ∷ bs) n h =
    let e : n ≡ suc (length bs) = omega arith in
    rw (e, line_text-last_at (c ∷ bs) (length bs) refl) (elim (eqb (get_or (c ∷ bs) (length bs) 0) 13) as (λ t. (b ∷ cond t (take (length bs) (c ∷ bs)) (c ∷ bs)) ≡ cond t (b ∷ take (length bs) (c ∷ bs)) (b ∷ c ∷ bs)) [ true ↦ refl | false ↦ refl ])

pub line_text-last : (xs : List ℕ) → line_text xs ≡ cond (eqb (get_or xs (length xs - 1) 0) 13) (take (length xs - 1) xs) xs
line_text-last [] = refl
line_text-last (b ∷ bs) = line_text-last_at (b ∷ bs) (length (b ∷ bs) - 1) (omega arith)

line_text-Some : (xs : List ℕ) (x : ℕ) → Some x ≡ slice_get xs (length xs - 1) → line_text xs ≡ cond (eqb x 13) (take (length xs - 1) xs) xs
line_text-Some xs x h = line_text-last xs ∙ ap (λ y. cond (eqb y 13) (take (length xs - 1) xs) xs) (get_or_from_slice_get xs (length xs - 1) x 0 (sym h))

pub line_text-return : (xs : List ℕ) (x : ℕ) → Some x ≡ slice_get xs (length xs - 1) → x ≡ 13 → line_text xs ≡ take (length xs - 1) xs
line_text-return xs x h e = line_text-Some xs x h ∙ (rw e)

pub line_text-plain : (xs : List ℕ) (x : ℕ) → Some x ≡ slice_get xs (length xs - 1) → x ≢ 13 → line_text xs ≡ xs
line_text-plain xs x h e = let f : eqb x 13 ≡ false = grind (arith, nat_tests) in line_text-Some xs x h ∙ (rw f)

-- the line feed of a script, or its end, ends the first line
first_grown : (b : ℕ) (xs : List ℕ) (e : ℕ) → (0 < length xs → cut_lines xs ≡ take e xs ∷ cut_lines (drop (e + 1) xs)) → grow b (cut_lines xs) ≡ (b ∷ take e xs) ∷ cut_lines (drop (e + 1) xs)
first_grown b [] e h = grind (arith, common_steps)
first_grown b (x ∷ xs) e h = rw (h (omega arith))

pub cut_lines-first : (xs : List ℕ) → 0 < length xs → cut_lines xs ≡ take (position_or_len (λ b. eqb b 10) xs) xs ∷ cut_lines (drop (position_or_len (λ b. eqb b 10) xs + 1) xs)
cut_lines-first [] h = absurd (omega arith)
cut_lines-first (b ∷ bs) h =
    let p = position_or_len (λ x. eqb x 10) bs in
    let s : 1 + p ≡ suc p = omega arith in
    let s' : suc p + 1 ≡ suc (p + 1) = omega arith in
    elim (eqb b 10) as (λ t. cond t ([] ∷ cut_lines bs) (grow b (cut_lines bs)) ≡ take (cond (not t) (1 + p) 0) (b ∷ bs) ∷ cut_lines (drop (cond (not t) (1 + p) 0 + 1) (b ∷ bs)))
    [ true ↦ refl | false ↦ rw (s, s') (first_grown b bs p (cut_lines-first bs)) ]

-- what `position` answers, in terms of `position_or_len`
position-found : (m n i : ℕ) (t : Bool) → ltb m n ≡ t → Some i ≡ cond t (Some m) None → (i ≡ m) × (m < n)
position-found m n i true t h = (cc, grind (arith, nat_tests))
position-found m n i false t h = cc

pub position-cases : {X : Type 0} (p : X → Bool) (xs : List X) (r : Option ℕ) → r ≡ position p xs → MatchOption r (length xs ≤ position_or_len p xs) (λ i. (i ≡ position_or_len p xs) × (position_or_len p xs < length xs))
position-cases p xs None h = grind (arith, nat_tests)
position-cases p xs (Some i) h = position-found (position_or_len p xs) (length xs) i (ltb (position_or_len p xs) (length xs)) refl h

pub unwrap_or-position : {X : Type 0} (p : X → Bool) (xs : List X) (r : Option ℕ) → r ≡ position p xs → unwrap_or r (length xs) ≡ position_or_len p xs
unwrap_or-position p xs None h = omega (arith, position-cases p xs None h, prefix_len-le-length (λ x. not (p x)) xs)
unwrap_or-position p xs (Some i) h = (position-cases p xs (Some i) h).0

-- the first line of a script, as the code finds its end
pub lines_of-end : (xs : List ℕ) (e : ℕ) → Some e ≡ position (λ b. eqb b 10) xs → lines_of xs ≡ line_text (take e xs) ∷ lines_of (drop (e + 1) xs)
lines_of-end xs e h =
    let f = position-cases (λ b. eqb b 10) xs (Some e) h in
    let z : cut_lines xs ≡ take e xs ∷ cut_lines (drop (e + 1) xs) = rw f.0 (cut_lines-first xs (omega (arith, f.1))) in
    ap (map line_text) z

pub lines_of-last : (xs : List ℕ) → 0 < length xs → None ≡ position (λ b. eqb b 10) xs → lines_of xs ≡ line_text xs ∷ []
lines_of-last xs w h =
    let p = position_or_len (λ b. eqb b 10) xs in
    let f : length xs ≤ p = position-cases (λ b. eqb b 10) xs None h in
    let t : take p xs ≡ xs = grind (arith, common_steps) in
    let d : drop (p + 1) xs ≡ [] = grind (arith, common_steps) in
    let z : cut_lines xs ≡ xs ∷ [] = cut_lines-first xs w ∙ (rw (t, d)) in
    ap (map line_text) z

-- the first part ends at the first blank, and the words of the others are those of the rest
words_from-blank : (p b : ℕ) (bs : List ℕ) → is_blank b ≡ true → words_from p (b ∷ bs) ≡ words_from (p + 1) bs
words_from-blank p b bs h = let z : p + 0 + 1 ≡ p + 1 = omega arith in rw (h, z)

abbrev First : List ℕ → Type 0
First xs = (ps : List (List ℕ)) × (slice_split is_blank xs ≡ take (position_or_len is_blank xs) xs ∷ ps) × ((q : ℕ) → filter (λ w. is_full w.bytes) (placed (q + 1) ps) ≡ words_from q (drop (position_or_len is_blank xs) xs))

first-cons : (b : ℕ) (bs : List ℕ) (t : Bool) → is_blank b ≡ t → First bs → First (b ∷ bs)
first-cons b bs true h w =
    let e : position_or_len is_blank (b ∷ bs) ≡ 0 = rw h in
    (slice_split is_blank bs, rw h, λ q. rw e (sym (words_from-blank q b bs h)))
first-cons b bs false h w =
    let e : position_or_len is_blank (b ∷ bs) ≡ suc (position_or_len is_blank bs) = rw h (omega arith) in
    (w.0, rw (e, h, w.1), λ q. rw e (w.2 q))

first_part : (xs : List ℕ) → First xs
first_part [] = ([], refl, λ q. refl)
first_part (b ∷ bs) = first-cons b bs (is_blank b) refl (first_part bs)

-- a text whose first word begins at that place, and is that of ys
abbrev Begins : ℕ → ℕ → List ℕ → List ℕ → Type 0
Begins p q xs ys = words_from p xs ≡ record { place = q; bytes = take (position_or_len is_blank ys) ys } ∷ words_from (q + position_or_len is_blank ys) (drop (position_or_len is_blank ys) ys)

words_from-word : (p b : ℕ) (bs : List ℕ) → is_blank b ≡ false → Begins p p (b ∷ bs) (b ∷ bs)
words_from-word p b bs h =
    let n = position_or_len is_blank bs in
    let e : position_or_len is_blank (b ∷ bs) ≡ suc n = rw h (omega arith) in
    let l : n ≤ length bs = prefix_len-le-length (λ x. not (is_blank x)) bs in
    let t : length (take n bs) ≡ n = length-take-le n bs l in
    let w = first_part bs in
    let z : p + suc n + 1 ≡ p + suc n + 1 = refl in
    rw (e, h, w.1, t) (ap (λ ws. record { place = p; bytes = b ∷ take n bs } ∷ ws) (w.2 (p + suc n)))

-- a text that has no byte of a word has no word
words_from-none-cons : (p b : ℕ) (bs : List ℕ) (t : Bool) → is_blank b ≡ t → length (b ∷ bs) ≤ position_or_len (λ x. not (is_blank x)) (b ∷ bs) → (length bs ≤ position_or_len (λ x. not (is_blank x)) bs → words_from (p + 1) bs ≡ []) → words_from p (b ∷ bs) ≡ []
words_from-none-cons p b bs true e h w =
    let h' : suc (length bs) ≤ 1 + position_or_len (λ x. not (is_blank x)) bs = rw e at h in
    words_from-blank p b bs e ∙ w (omega arith)
words_from-none-cons p b bs false e h w = let h' : suc (length bs) ≤ 0 = rw e at h in absurd (omega arith)

pub words_from-none : (p : ℕ) (xs : List ℕ) → length xs ≤ position_or_len (λ b. not (is_blank b)) xs → words_from p xs ≡ []
words_from-none p [] h = refl
words_from-none p (b ∷ bs) h = words_from-none-cons p b bs (is_blank b) refl h (words_from-none (p + 1) bs)

-- where the first word begins
abbrev begin : List ℕ → ℕ
begin xs = position_or_len (λ x. not (is_blank x)) xs

words_from-first-cons : (p b : ℕ) (bs : List ℕ) (t : Bool) → is_blank b ≡ t → begin (b ∷ bs) < length (b ∷ bs) → (begin bs < length bs → Begins (p + 1) (p + 1 + begin bs) bs (drop (begin bs) bs)) → Begins p (p + begin (b ∷ bs)) (b ∷ bs) (drop (begin (b ∷ bs)) (b ∷ bs))
words_from-first-cons p b bs true e h w =
    let s : begin (b ∷ bs) ≡ suc (begin bs) = rw e (omega arith) in
    let h' : begin bs < length bs = omega arith in
    let q : p + suc (begin bs) ≡ p + 1 + begin bs = omega arith in
    rw (s, q) (words_from-blank p b bs e ∙ w h')
words_from-first-cons p b bs false e h w =
    let s : begin (b ∷ bs) ≡ 0 = rw e in
    let q : p + 0 ≡ p = omega arith in
    rw (s, q) (words_from-word p b bs e)

words_from-first : (p : ℕ) (xs : List ℕ) → begin xs < length xs → Begins p (p + begin xs) xs (drop (begin xs) xs)
words_from-first p [] h = absurd (omega arith)
words_from-first p (b ∷ bs) h = words_from-first-cons p b bs (is_blank b) refl h (words_from-first (p + 1) bs)

-- the first word of a text, as the code finds it: it begins at i in xs, and ends at e in the rest from there on
pub words_from-at : (p : ℕ) (xs ys : List ℕ) (i e : ℕ) → Some i ≡ position (λ b. not (is_blank b)) xs → ys ≡ drop i xs → e ≡ position_or_len is_blank ys → words_from p xs ≡ record { place = p + i; bytes = take e ys } ∷ words_from (p + i + e) (drop e ys)
words_from-at p xs ys i e h d w =
    let f = position-cases (λ b. not (is_blank b)) xs (Some i) h in
    let z : ys ≡ drop (begin xs) xs = d ∙ ap (λ k. drop k xs) f.0 in
    rw (w, z, f.0) (words_from-first p xs f.1)

-- words that are still to come, by their parts
pub rest_equal : (v w : List Word) (d e : ℕ) → v ≡ w → d ≡ e → ◌≡◌ {A = Rest} (record { words = v; end = d }) (record { words = w; end = e })
rest_equal v w d e p q = λ i. record { words = p i; end = q i }
