-- The test of all lists but a stream's own.
use Rattle.std.proofs.Common.{◌≡◌, ◌==◌, ◌||◌, ◌&&◌, ℕ, Bool, suc, ◌+◌, ◌<◌, List, [], ◌∷◌, length, refl, sym, ap, subst, ◌∙◌, arith, Vec, vec_items}
use Rattle.std.specs.List.{list_all, enumerate_from, range_with_len}
use Rattle.ccfs_base.specs.declared.records.Rec.{Rec}
use Rattle.record_logs.specs.Held.{recs_of, list_at}
use Rattle.range_log.specs.Ranges.{is_clear_of}
use Rattle.range_log.proofs.Clear.{is_free}

plus_none : (n : ℕ) → n + 0 ≡ n
plus_none n = omega arith

-- a test of each list with its place
by_places : {Z : Type 0} (f : ℕ → List Rec → Bool) (g : ℕ → List Rec) (n : ℕ) (logs : List (Vec Rec Z))
    → ((k : ℕ) → k < length logs → g (n + k) ≡ list_at (recs_of logs) k)
    → list_all (λ log. f log.0 (vec_items log.1)) (enumerate_from n logs) ≡ list_all (λ other. f other (g other)) (range_with_len n (length logs))
by_places f g n [] h = refl
by_places f g n (log ∷ more) h =
    let zeroth : g n ≡ vec_items log = subst (λ z. g z ≡ vec_items log) (plus_none n) (h 0 (omega arith)) in
    let rest : list_all (λ log. f log.0 (vec_items log.1)) (enumerate_from (n + 1) more) ≡ list_all (λ other. f other (g other)) (range_with_len (n + 1) (length more))
    = by_places f g (n + 1) more (λ (k : ℕ) (l : k < length more).
    let e : n + suc k ≡ n + 1 + k = omega arith in
    subst (λ z. g z ≡ list_at (recs_of more) k) e (h (suc k) (omega arith))) in
    ap (λ z. f n z && list_all (λ log. f log.0 (vec_items log.1)) (enumerate_from (n + 1) more)) (sym zeroth) ∙ ap (λ z. f n (g n) && z) rest

-- the test of all lists but a stream's own is the test for clear bytes
pub clear_by_lists : {Z : Type 0} (logs : List (Vec Rec Z)) (stream off len : ℕ) → length logs ≡ 64
    → list_all (λ log. log.0 == stream || is_free off len (vec_items log.1)) (enumerate_from 0 logs) ≡ is_clear_of (list_at (recs_of logs)) stream off len
unfolding is_clear_of
clear_by_lists logs stream off len long =
    by_places (λ other recs. other == stream || is_free off len recs) (list_at (recs_of logs)) 0 logs
    (λ (k : ℕ) (l : k < length logs). let e : 0 + k ≡ k = omega arith in ap (list_at (recs_of logs)) e)
    ∙ ap (λ z. list_all (λ other. other == stream || is_free off len (list_at (recs_of logs) other)) (range_with_len 0 z)) long
