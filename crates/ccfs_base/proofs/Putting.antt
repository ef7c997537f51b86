-- Bytes that are put over others.
use Rattle.std.proofs.Common.{◌≡◌, ℕ, ◌+◌, ◌-◌, ◌<◌, ◌≤◌, suc, zero, List, [], ◌∷◌, ◌++◌, length, take, drop, refl, sym, ap, ◌∙◌, arith, append_assoc}
use Rattle.std.specs.Prelude.{replicate}
use Rattle.std.proofs.lemmas.List.{append-nil, length-append, length-take, length-drop, length-replicate, take_at, take_all, drop_all, drop-drop, take-replicate}
use Rattle.ccfs_base.specs.Contents.{written}

-- the front of a list that was filled up with zeros
front_filled : (old : List ℕ) (off m : ℕ) → off ≤ length old + m → take off (old ++ replicate m 0) ≡ take off old ++ replicate (off - length old) 0
front_filled [] zero m h = refl
front_filled [] (suc off) m h =
    let e : suc off - 0 ≡ suc off = omega arith in
    rw e (take-replicate {X = ℕ} (suc off) m 0 (omega arith))
front_filled (x ∷ old) zero m h =
    let e : 0 - suc (length old) ≡ 0 = omega arith in
    rw e refl
front_filled (x ∷ old) (suc off) m h =
    let e : suc off - suc (length old) ≡ off - length old = omega arith in
    rw e (ap (λ (z : List ℕ). x ∷ z) (front_filled old off m (omega arith)))

-- what stands behind a part of this length, as the compiler names it
behind : (off k : ℕ) (all : List ℕ) → drop (off + k - off) (drop off all) ≡ drop (off + k) all
behind off k all =
    let e : off + (off + k - off) ≡ off + k = omega arith in
    rw (drop-drop, e) refl

-- a write within the bytes, with what the compiler says of the bytes behind them
within : (off : ℕ) (new all back : List ℕ) → off + length new ≤ length all
    → take (length all) ((take off all ++ (new ++ drop (off + length new) all)) ++ back) ≡ (take off all ++ new) ++ drop (off + length new) all
within off new all back h =
    let front = take off all ++ (new ++ drop (off + length new) all) in
    let e : length front ≡ length all = simp (length-append, length-take, length-drop) (omega arith) in
    take_at front back (length all) e ∙ sym (append_assoc (take off all) new (drop (off + length new) all))

put_over : (len off : ℕ) (new all now : List ℕ) → now ≡ all → len ≡ length all → off + length new ≤ length all
    → take len ((take off now ++ (new ++ drop (off + length new - off) (drop off now))) ++ drop (length (take off now ++ (new ++ drop (off + length new - off) (drop off now)))) all) ≡ (take off all ++ new) ++ drop (off + length new) all
put_over len off new all now same long room =
    rw (same, behind off (length new) all, long) (within off new all _ room)

-- a write within the bytes that were there
pub put_within : (len off : ℕ) (new put all now old : List ℕ) → now ≡ all → put ≡ new → all ≡ old → len ≡ length all → off + length new ≤ len
    → take len ((take off now ++ (put ++ drop (off + length new - off) (drop off now))) ++ drop (length (take off now ++ (put ++ drop (off + length new - off) (drop off now)))) all) ≡ written off new old
put_within len off new put all now old same says kept long room =
    let none : off - length old ≡ 0 = omega (arith, ap length kept) in
    rw (says, put_over len off new all now same long (omega arith), kept, none, append-nil) refl

-- a write beyond the bytes that were there, which were filled up with zeros to its end
pub put_beyond : (len off n : ℕ) (new put all now kept old : List ℕ) → now ≡ all → put ≡ new → kept ≡ old → len ≡ length all → n ≡ length kept
    → all ≡ take (off + length new) kept ++ replicate (off + length new - n) 0 → n < off + length new
    → take len ((take off now ++ (put ++ drop (off + length new - off) (drop off now))) ++ drop (length (take off now ++ (put ++ drop (off + length new - off) (drop off now)))) all) ≡ written off new old
put_beyond len off n new put all now kept old same says was long count filled few =
    let e : all ≡ kept ++ replicate (off + length new - n) 0 = rw (take_all (off + length new) kept (omega arith)) at filled in
    let k : length all ≡ off + length new = ap length e ∙ simp (length-append, length-replicate) (omega arith) in
    let f : take off all ≡ take off kept ++ replicate (off - length kept) 0 = ap (take off) e ∙ front_filled kept off (off + length new - n) (omega arith) in
    rw (says, put_over len off new all now same long (omega arith), f, drop_all (off + length new) all (omega arith), sym was, drop_all (off + length new) kept (omega arith)) refl
