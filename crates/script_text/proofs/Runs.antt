-- The first run of bytes, and the pieces that it is part of.
use Rattle.std.proofs.Common.{◌≡◌, ℕ, suc, ◌+◌, ◌-◌, ◌<◌, ◌≤◌, Bool, true, false, not, eqb, nat_le, List, [], ◌∷◌, ◌++◌, codes, length, take, drop, replicate, slice_index, refl, sym, ◌∙◌, ap, arith, subst, eq-eqb, append_assoc}
use Rattle.std.specs.List.{position_or_len}
use Rattle.std.proofs.lemmas.Grind.{common_steps}
use Rattle.std.proofs.lemmas.Bool.Decides.{nat_tests}
use Rattle.std.proofs.lemmas.List.Sums.{prefix_len-le-length}
use Rattle.hex.specs.Hex.{encode_lower, encode_with}
use Rattle.script_text.specs.Data.{Run, Piece, Digits, Times, lengthened, runs_of, digits_before, pieces_of, more_text, pieces_text}

-- the digits of a byte and those of the bytes behind it
pub encode_lower-cons : (b : ℕ) (bs : List ℕ) → encode_lower (b ∷ bs) ≡ encode_lower (b ∷ []) ++ encode_lower bs
unfolding encode_with
encode_lower-cons b bs = refl

pub encode_lower-append : (xs ys : List ℕ) → encode_lower (xs ++ ys) ≡ encode_lower xs ++ encode_lower ys
unfolding encode_with
encode_lower-append [] ys = refl
encode_lower-append (x ∷ xs) ys = let h = encode_lower-append xs ys in cc

-- how many of the first bytes are b
abbrev pub run_of : ℕ → List ℕ → ℕ
run_of b xs = position_or_len (λ x. not (eqb x b)) xs

run_of-same : (b : ℕ) (cs : List ℕ) → run_of b (b ∷ cs) ≡ suc (run_of b cs)
run_of-same b cs = let e : eqb b b ≡ true = eq-eqb b b refl in rw e (omega arith)

run_of-other : (b c : ℕ) (cs : List ℕ) → eqb c b ≡ false → run_of b (c ∷ cs) ≡ 0
run_of-other b c cs h = rw h

-- a byte in front of bytes lengthens their first run where that is of the same byte
abbrev Lengthens : ℕ → List ℕ → Type 0
Lengthens b bs = lengthened b (runs_of bs) ≡ record { byte = b; count = suc (run_of b bs) } ∷ runs_of (drop (run_of b bs) bs)

lengthens-same : (b : ℕ) (cs : List ℕ) → Lengthens b cs → Lengthens b (b ∷ cs)
lengthens-same b cs h =
    let e : eqb b b ≡ true = eq-eqb b b refl in
    let s : suc (run_of b cs) + 1 ≡ suc (suc (run_of b cs)) = omega arith in
    rw (run_of-same b cs, h, e, s)

lengthens-other : (b c : ℕ) (cs : List ℕ) → eqb c b ≡ false → Lengthens c cs → Lengthens b (c ∷ cs)
lengthens-other b c cs f h =
    let e : eqb b c ≡ false = grind (arith, nat_tests) in
    rw (run_of-other b c cs f, h, e)

lengthens-cons : (b c : ℕ) (cs : List ℕ) (t : Bool) → eqb c b ≡ t → Lengthens c cs → Lengthens b (c ∷ cs)
lengthens-cons b c cs true e h =
    let q : c ≡ b = grind (arith, nat_tests) in
    subst (λ x. Lengthens b (x ∷ cs)) (sym q) (lengthens-same b cs (subst (λ x. Lengthens x cs) q h))
lengthens-cons b c cs false e h = lengthens-other b c cs e h

lengthens : (b : ℕ) (bs : List ℕ) → Lengthens b bs
lengthens b [] = refl
lengthens b (c ∷ cs) = lengthens-cons b c cs (eqb c b) refl (lengthens c cs)

-- a run is its byte so many times
run_is-cons : (b c : ℕ) (cs : List ℕ) (t : Bool) → eqb c b ≡ t → take (run_of b cs) cs ≡ replicate (run_of b cs) b → take (run_of b (c ∷ cs)) (c ∷ cs) ≡ replicate (run_of b (c ∷ cs)) b
run_is-cons b c cs true e h =
    let q : c ≡ b = grind (arith, nat_tests) in
    subst (λ x. take (run_of b (x ∷ cs)) (x ∷ cs) ≡ replicate (run_of b (x ∷ cs)) b) (sym q) (rw (run_of-same b cs) (ap (λ l. b ∷ l) h))
run_is-cons b c cs false e h = rw (run_of-other b c cs e)

run_is : (b : ℕ) (xs : List ℕ) → take (run_of b xs) xs ≡ replicate (run_of b xs) b
run_is b [] = refl
run_is b (c ∷ cs) = run_is-cons b c cs (eqb c b) refl (run_is b cs)

-- the first run of bytes, as the code finds its length
pub some_run : (xs : List ℕ) (n : ℕ) → 0 < length xs → n ≡ run_of (slice_index xs 0) xs → (0 < n) × (n ≤ length xs)
some_run [] n h e = absurd (omega arith)
some_run (b ∷ bs) n h e = (omega (arith, run_of-same b bs), omega (arith, prefix_len-le-length (λ x. not (not (eqb x b))) (b ∷ bs)))

pub runs_of-first : (xs : List ℕ) (n : ℕ) → 0 < length xs → n ≡ run_of (slice_index xs 0) xs → runs_of xs ≡ record { byte = slice_index xs 0; count = n } ∷ runs_of (drop n xs)
runs_of-first [] n h e = absurd (omega arith)
runs_of-first (b ∷ bs) n h e = rw (e, run_of-same b bs) (lengthens b bs)

pub take-run : (xs : List ℕ) (n : ℕ) → n ≡ run_of (slice_index xs 0) xs → take n xs ≡ replicate n (slice_index xs 0)
take-run xs n e = rw e (run_is (slice_index xs 0) xs)

-- a long run is a piece of its own, and a short one is digits, with those of the bytes behind it
pub pieces_of-long : (byte count : ℕ) (rs : List Run) → 8 ≤ count → pieces_of (record { byte = byte; count = count } ∷ rs) ≡ Times byte count ∷ pieces_of rs
pieces_of-long byte count rs l = let t : nat_le 8 count ≡ true = grind (arith, nat_tests) in rw t

pub pieces_of-short : (byte count : ℕ) (rs : List Run) → count < 8 → pieces_of (record { byte = byte; count = count } ∷ rs) ≡ digits_before (replicate count byte) (pieces_of rs)
pieces_of-short byte count rs l = let t : nat_le 8 count ≡ false = grind (arith, nat_tests) in rw t

-- digits in front of digits in front of pieces
pub digits_before-twice : (xs ys : List ℕ) (ps : List Piece) → digits_before xs (digits_before ys ps) ≡ digits_before (xs ++ ys) ps
digits_before-twice xs ys [] = refl
digits_before-twice xs ys (Digits more ∷ ps) = rw append_assoc
digits_before-twice xs ys (Times b n ∷ ps) = refl

-- a short run more is digits in front of what follows
pub digits_before-run : (front rest run : List ℕ) (pieces : List Piece) (byte : ℕ) (rs : List Run) → pieces ≡ digits_before front (pieces_of (runs_of rest)) → runs_of rest ≡ record { byte = byte; count = length run } ∷ rs → run ≡ replicate (length run) byte → length run < 8 → pieces ≡ digits_before (front ++ run) (pieces_of rs)
digits_before-run front rest run pieces byte rs h r same l =
    let t : pieces_of (runs_of rest) ≡ digits_before run (pieces_of rs) = ap pieces_of r ∙ pieces_of-short byte (length run) rs l ∙ ap (λ x. digits_before x (pieces_of rs)) (sym same) in
    h ∙ ap (digits_before front) t ∙ digits_before-twice front run (pieces_of rs)

-- pieces behind another, where there are some
more_text-digits : (xs : List ℕ) (ps : List Piece) → more_text (digits_before xs ps) ≡ codes "+" ++ pieces_text (digits_before xs ps)
more_text-digits xs [] = refl
more_text-digits xs (Digits more ∷ ps) = refl
more_text-digits xs (Times b n ∷ ps) = refl

more_text-run : (r : Run) (rs : List Run) (t : Bool) → nat_le 8 r.count ≡ t → more_text (pieces_of (r ∷ rs)) ≡ codes "+" ++ pieces_text (pieces_of (r ∷ rs))
more_text-run r rs true h = rw h
more_text-run r rs false h = rw h (more_text-digits (replicate r.count r.byte) (pieces_of rs))

pub more_text-some : (xs : List ℕ) → 0 < length xs → more_text (pieces_of (runs_of xs)) ≡ codes "+" ++ pieces_text (pieces_of (runs_of xs))
more_text-some xs h =
    let n = run_of (slice_index xs 0) xs in
    rw (runs_of-first xs n h refl) (more_text-run (record { byte = slice_index xs 0; count = n }) (runs_of (drop n xs)) (nat_le 8 n) refl)

-- the text so far and what is left, with a piece more
pub more_text-step : (out plus new all left xs : List ℕ) → 0 < length xs → plus ≡ out ++ codes "+" → new ++ left ≡ plus ++ pieces_text (pieces_of (runs_of xs)) → out ++ more_text (pieces_of (runs_of xs)) ≡ all → new ++ left ≡ all
more_text-step out plus new all left xs h p n i =
    n ∙ ap (λ x. x ++ pieces_text (pieces_of (runs_of xs))) p ∙ append_assoc out (codes "+") (pieces_text (pieces_of (runs_of xs))) ∙ ap (λ x. out ++ x) (sym (more_text-some xs h)) ∙ i

-- digits are a piece of their own in front of no pieces, and in front of a long run
pub digits_before-none : (xs ys : List ℕ) → length ys ≡ 0 → digits_before xs (pieces_of (runs_of ys)) ≡ Digits xs ∷ pieces_of (runs_of ys)
digits_before-none xs [] h = refl
digits_before-none xs (y ∷ ys) h = absurd (omega arith)

pub digits_before-long : (xs : List ℕ) (byte count : ℕ) (rs : List Run) → 8 ≤ count → digits_before xs (pieces_of (record { byte = byte; count = count } ∷ rs)) ≡ Digits xs ∷ pieces_of (record { byte = byte; count = count } ∷ rs)
digits_before-long xs byte count rs h = rw (pieces_of-long byte count rs h)

-- the two parts of bytes, by the length of the second
pub cut_front : (xs ys : List ℕ) → take (length (xs ++ ys) - length ys) (xs ++ ys) ≡ xs
cut_front xs ys = grind (arith, common_steps)

pub cut_back : (xs ys : List ℕ) → drop (length (xs ++ ys) - length ys) (xs ++ ys) ≡ ys
cut_back xs ys = grind (arith, common_steps)
