-- Cuts of charged steps are those of the steps without their charges; and the batch of a seal is ordered.
use Rattle.std.proofs.Common.{◌≡◌, ℕ, zero, suc, ◌<◌, List, [], ◌∷◌, ◌++◌, length, refl, sym, ap, ◌∙◌, arith, take, reverse}
use Rattle.std.specs.Prelude.{Bool, true, false, nat_lt}
use Rattle.stream_cuts.specs.Streams.{Step, Enter, Seal, no_counts, one_more, entered, keep_if, of_stream, unsealed_after}
use Rattle.stream_cuts.specs.Cuts.{kept_from, kept, seals_from, cut_of, cut_at, batch}
use Rattle.stream_cuts.specs.States.{after, state_at}
use Rattle.stream_cuts.proofs.OfSeal.{batch_of_seal}
use Rattle.tree_model.specs.declared.rows.Update.{Update}
use Rattle.tree_model.specs.Rows.{Rows}
use Rattle.tree_model.specs.Updates.{apply}
use Rattle.tree_cuts.specs.Calls.{Charged, plain}
use Rattle.tree_cuts.proofs.Plain.{bare, plain_entered}
use Rattle.front_laws.proofs.Swapping.{apply_in}

pub plain_seals : (seen : ℕ → ℕ) (l : List (Step Charged)) → seals_from seen (plain l) ≡ seals_from seen l
plain_seals seen [] = refl
plain_seals seen (Enter s u ∷ l) = plain_seals (one_more seen s) l
plain_seals seen (Seal s ∷ l) = ap (λ (z : List (ℕ × ℕ)). (s, seen s) ∷ z) (plain_seals seen l)

bare_if : (b : Bool) (e : ℕ × Charged) (h : List (ℕ × Charged)) → keep_if b (e.0, e.1.0) (bare h) ≡ bare (keep_if b e h)
bare_if true e h = refl
bare_if false e h = refl

bare_kept : (seen c : ℕ → ℕ) (h : List (ℕ × Charged)) → kept_from seen c (bare h) ≡ bare (kept_from seen c h)
bare_kept seen c [] = refl
bare_kept seen c (e ∷ h) =
    ap (λ (z : List (ℕ × Update)). keep_if (nat_lt (seen e.0) (c e.0)) (e.0, e.1.0) z) (bare_kept (one_more seen e.0) c h)
    ∙ bare_if (nat_lt (seen e.0) (c e.0)) e (kept_from (one_more seen e.0) c h)

bare_after : (t : Rows) (h : List (ℕ × Charged)) → after apply t (bare h) ≡ after apply_in t h
bare_after t [] = refl
bare_after t (e ∷ h) = bare_after (apply t e.1.0) h

-- the tree of a cut is the same with the charges and without them
pub same_state : (t : Rows) (l : List (Step Charged)) (k : ℕ) → state_at apply t (plain l) k ≡ state_at apply_in t l k
same_state t l k =
    ap (λ (z : List (ℕ × Update)). after apply t (kept z (cut_at (plain l) k))) (plain_entered l)
    ∙ ap (λ (z : List (ℕ × ℕ)). after apply t (kept (bare (entered l)) (cut_of no_counts (take k z)))) (plain_seals no_counts l)
    ∙ ap (after apply t) (bare_kept no_counts (cut_at l k) (entered l))
    ∙ bare_after t (kept (entered l) (cut_at l k))

-- ---- the steps before a seal

abbrev pub IsSealAt : (ℕ → ℕ) → List (Step Charged) → ℕ → Type 0
IsSealAt seen l k = (first : List (Step Charged)) × (s : ℕ) × (rest : List (Step Charged)) × (l ≡ first ++ Seal s ∷ rest) × (length (seals_from seen first) ≡ k)

pub find_seal : (seen : ℕ → ℕ) (l : List (Step Charged)) (k : ℕ) → k < length (seals_from seen l) → IsSealAt seen l k
find_seal seen [] k less = absurd (omega arith)
find_seal seen (Enter s u ∷ l) k less =
    let w = find_seal (one_more seen s) l k less in
    (Enter s u ∷ w.0, w.1, w.2, ap (λ (z : List (Step Charged)). Enter s u ∷ z) w.3, w.4)
find_seal seen (Seal s ∷ l) zero less = ([], s, l, refl, refl)
find_seal seen (Seal s ∷ l) (suc k) less =
    let w = find_seal seen l k (omega arith) in
    (Seal s ∷ w.0, w.1, w.2, ap (λ (z : List (Step Charged)). Seal s ∷ z) w.3, ap suc w.4)

-- the batch behind k seals is what the steps before the next one left unsealed of its stream
pub batch_is : (l : List (Step Charged)) (k : ℕ) (w : IsSealAt no_counts l k) → batch l k ≡ reverse (of_stream w.1 (unsealed_after [] w.0))
batch_is l k w = (λ i. batch (w.3 i) (sym w.4 i)) ∙ batch_of_seal w.0 w.2 w.1
