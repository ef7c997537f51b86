-- What it means, stream by stream and record by record, that bytes are clear of a log.
use Rattle.std.proofs.Common.{◌≡◌, ◌≢◌, ◌==◌, ◌||◌, ℕ, ◌+◌, ◌<◌, inl, inr, Bool, true, false, not, List, length, max, min, get_or, sym, ap, subst, ◌∙◌, arith, nat_lt}
use Rattle.std.specs.List.{list_all, range_with_len, All}
use Rattle.std.proofs.lemmas.Bool.{eqb-true, eq-eqb, or_cases, or_left, or_right, not-true, not_from_false, cases_eq}
use Rattle.std.proofs.lemmas.List.Sums.{AllPass-from_list_all, list_all-from_AllPass}
use Rattle.std.proofs.lemmas.List.FromFn.{length-range_with_len, get_or-range_with_len}
use Rattle.ccfs_base.specs.declared.records.Rec.{Rec}
use Rattle.range_log.specs.Ranges.{share, is_touched, is_clear_of}

-- whether none of the records is a range that shares a byte with so many from a place on
abbrev pub is_free : ℕ → ℕ → List Rec → Bool
is_free off len recs = list_all (λ rec. not (is_touched off len rec)) recs

-- what is tested of the numbers below one is so of each of them
all_below : (p : ℕ → Bool) (n k : ℕ) → list_all p (range_with_len 0 n) ≡ true → k < n → p k ≡ true
all_below p n k h l =
    let e : get_or (range_with_len 0 n) k 0 ≡ k = omega (arith, get_or-range_with_len 0 n k 0 l) in
    let m : k < length (range_with_len 0 n) = omega (arith, length-range_with_len 0 n) in
    subst (λ z. p z ≡ true) e (AllPass-from_list_all p (range_with_len 0 n) h k 0 m)

from_below : (p : ℕ → Bool) (n : ℕ) → ((k : ℕ) → k < n → p k ≡ true) → list_all p (range_with_len 0 n) ≡ true
from_below p n h =
    list_all-from_AllPass p (range_with_len 0 n) (λ (k d : ℕ) (l : k < length (range_with_len 0 n)).
    let m : k < n = omega (arith, length-range_with_len 0 n) in
    let e : get_or (range_with_len 0 n) k d ≡ k = omega (arith, get_or-range_with_len 0 n k d m) in
    subst (λ z. p z ≡ true) (sym e) (h k m))

-- whether a stream is the one asked for, or has no record that shares a byte
abbrev is_passed : (ℕ → List Rec) → ℕ → ℕ → ℕ → ℕ → Bool
is_passed log stream off len other = other == stream || is_free off len (log other)

-- bytes that are clear of a log are free of each other stream's records
pub clear_each : (log : ℕ → List Rec) (stream off len : ℕ) → is_clear_of log stream off len ≡ true
    → (other : ℕ) → other < 64 → other ≢ stream → is_free off len (log other) ≡ true
unfolding is_clear_of
clear_each log stream off len h other below apart =
    elim (or_cases (other == stream) (is_free off len (log other)) (all_below (is_passed log stream off len) 64 other h below)) [ inl e ↦ absurd (apart (eqb-true other stream e)) | inr e ↦ e ]

-- bytes that are free of each other stream's records are clear of the log
pub clear_from : (log : ℕ → List Rec) (stream off len : ℕ)
    → ((other : ℕ) → other < 64 → other ≢ stream → is_free off len (log other) ≡ true) → is_clear_of log stream off len ≡ true
unfolding is_clear_of
clear_from log stream off len h =
    from_below (is_passed log stream off len) 64 (λ (other : ℕ) (below : other < 64).
    elim (cases_eq other stream) [
      | inl e ↦ or_left (other == stream) (is_free off len (log other)) (eq-eqb other stream e)
      | inr n ↦ or_right (other == stream) (is_free off len (log other)) (h other below n)
    ])

-- bytes that are clear of a log share none with any record of another stream
pub clear_forth : (log : ℕ → List Rec) (stream off len : ℕ) → is_clear_of log stream off len ≡ true
    → (other : ℕ) → other < 64 → other ≢ stream → All (λ rec. is_touched off len rec ≡ false) (log other)
clear_forth log stream off len h other below apart k d l =
    not-true _ (AllPass-from_list_all _ (log other) (clear_each log stream off len h other below apart) k d l)

-- bytes that share none with any record of another stream are clear of the log
pub clear_back : (log : ℕ → List Rec) (stream off len : ℕ)
    → ((other : ℕ) → other < 64 → other ≢ stream → All (λ rec. is_touched off len rec ≡ false) (log other))
    → is_clear_of log stream off len ≡ true
clear_back log stream off len h =
    clear_from log stream off len (λ (other : ℕ) (below : other < 64) (apart : other ≢ stream).
    list_all-from_AllPass _ (log other) (λ (k : ℕ) (d : Rec) (l : k < length (log other)). not_from_false _ (h other below apart k d l)))

-- sharing goes both ways
pub share-comm : (off len at size : ℕ) → share off len at size ≡ share at size off len
share-comm off len at size =
    let m : max off at ≡ max at off = omega arith in
    let n : min (off + len) (at + size) ≡ min (at + size) (off + len) = omega arith in
    ap (λ z. nat_lt z (min (off + len) (at + size))) m ∙ ap (λ z. nat_lt (max at off) z) n
