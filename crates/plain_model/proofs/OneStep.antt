-- How the numbers and the rest of a list of steps go on behind one more step.
use Rattle.std.proofs.Common.{◌≡◌, ℕ, suc, ◌+◌, ◌<◌, ◌≤◌, ◌≢◌, List, [], ◌∷◌, ◌++◌, length, get_or, take, drop, refl, ap, sym, ◌∙◌, subst, append_assoc, ltb}
use Rattle.std.specs.Prelude.{IsTrue}
use Rattle.std.proofs.lemmas.List.{take_more, drop_more}
use Rattle.std.proofs.lemmas.Bool.{lt-ltb, le-ltb}
use Rattle.stream_cuts.specs.Streams as streams
use Rattle.stream_cuts.specs.Streams.{no_counts, with_count, one_more, entered, counts_after, keep_if}
use Rattle.stream_cuts.specs.Cuts.{cut_of, kept_from, seals_from}
use Rattle.stream_cuts.proofs.Counts.{one_more_here, one_more_apart, with_count_here, with_count_apart}
use Rattle.stream_cuts.specs.States.{after, AllApply}
use Rattle.tree_model.specs.declared.rows.Update.{Update}
use Rattle.tree_model.specs.Rows.{Rows}
use Rattle.tree_model.specs.Updates.{apply}
use Rattle.tree_model.specs.Tests.{applies}
use Rattle.tree_model.specs.Laws.{Applies}
use Rattle.tree_model.proofs.Fitting.{applies_fits}
use Rattle.plain_model.specs.declared.cutting.Step.{Step}
use Rattle.plain_model.specs.declared.cutting.Step.TheVariants.{Enter, Seal}
use Rattle.plain_model.specs.Steps.{steps_of}

enter_counts : (f : ℕ → ℕ) (l : List Step) (s : ℕ) (u : Update) → counts_after f (entered (steps_of (l ++ Enter s u ∷ []))) ≡ one_more (counts_after f (entered (steps_of l))) s
enter_counts f [] s u = refl
enter_counts f (Enter r v ∷ l) s u = enter_counts (one_more f r) l s u
enter_counts f (Seal r ∷ l) s u = enter_counts f l s u

seal_counts : (f : ℕ → ℕ) (l : List Step) (s : ℕ) → counts_after f (entered (steps_of (l ++ Seal s ∷ []))) ≡ counts_after f (entered (steps_of l))
seal_counts f [] s = refl
seal_counts f (Enter r v ∷ l) s = seal_counts (one_more f r) l s
seal_counts f (Seal r ∷ l) s = seal_counts f l s

-- behind an update its stream has one more
one_entered : (xs : List Step) (i : ℕ) (x : Step) (s : ℕ) (u : Update) → i < length xs → x ≡ get_or xs i x → x ≡ Enter s u
    → counts_after no_counts (entered (steps_of (take (i + 1) xs))) ≡ one_more (counts_after no_counts (entered (steps_of (take i xs)))) s
one_entered xs i x s u b p q =
    let e : take (i + 1) xs ≡ take i xs ++ Enter s u ∷ [] = take_more xs i x b ∙ ap (λ z. take i xs ++ z ∷ []) (sym p ∙ q) in
    ap (λ l. counts_after no_counts (entered (steps_of l))) e ∙ enter_counts no_counts (take i xs) s u

-- behind a seal each stream has as many
pub none_entered : (xs : List Step) (i : ℕ) (x : Step) (s : ℕ) → i < length xs → x ≡ get_or xs i x → x ≡ Seal s
    → counts_after no_counts (entered (steps_of (take (i + 1) xs))) ≡ counts_after no_counts (entered (steps_of (take i xs)))
none_entered xs i x s b p q =
    let e : take (i + 1) xs ≡ take i xs ++ Seal s ∷ [] = take_more xs i x b ∙ ap (λ z. take i xs ++ z ∷ []) (sym p ∙ q) in
    ap (λ l. counts_after no_counts (entered (steps_of l))) e ∙ seal_counts no_counts (take i xs) s

enter_first : (xs : List Step) (i : ℕ) (x : Step) (s : ℕ) (u : Update) → i < length xs → x ≡ get_or xs i x → x ≡ Enter s u
    → steps_of (drop i xs) ≡ streams.Enter s u ∷ steps_of (drop (i + 1) xs)
enter_first xs i x s u b p q = ap steps_of (drop_more xs i x b ∙ ap (λ z. z ∷ drop (i + 1) xs) (sym p ∙ q))

seal_first : (xs : List Step) (i : ℕ) (x : Step) (s : ℕ) → i < length xs → x ≡ get_or xs i x → x ≡ Seal s
    → steps_of (drop i xs) ≡ streams.Seal s ∷ steps_of (drop (i + 1) xs)
seal_first xs i x s b p q = ap steps_of (drop_more xs i x b ∙ ap (λ z. z ∷ drop (i + 1) xs) (sym p ∙ q))

cut_last : (c : ℕ → ℕ) (ps : List (ℕ × ℕ)) (p : ℕ × ℕ) → cut_of c (ps ++ p ∷ []) ≡ with_count (cut_of c ps) p.0 p.1
cut_last c [] p = refl
cut_last c (q ∷ ps) p = cut_last (with_count c q.0 q.1) ps p

-- behind one more seal its stream has that seal's number
cut_more : (ps : List (ℕ × ℕ)) (i : ℕ) (d : ℕ × ℕ) → i < length ps → cut_of no_counts (take (i + 1) ps) ≡ with_count (cut_of no_counts (take i ps)) (get_or ps i d).0 (get_or ps i d).1
cut_more ps i d b = ap (cut_of no_counts) (take_more ps i d b) ∙ cut_last no_counts (take i ps) (get_or ps i d)

pub own_count : (xs : List Step) (i : ℕ) (x : Step) (s : ℕ) (u : Update) (q : ℕ) → i < length xs → x ≡ get_or xs i x → x ≡ Enter s u → s ≡ q
    → counts_after no_counts (entered (steps_of (take (i + 1) xs))) q ≡ suc (counts_after no_counts (entered (steps_of (take i xs))) q)
own_count xs i x s u q b p e same =
    let f : ℕ → ℕ = counts_after no_counts (entered (steps_of (take i xs))) in
    ap (λ g. g q) (one_entered xs i x s u b p e) ∙ subst (λ r. one_more f s r ≡ suc (f r)) same (one_more_here f s)

pub other_count : (xs : List Step) (i : ℕ) (x : Step) (s : ℕ) (u : Update) (q : ℕ) → i < length xs → x ≡ get_or xs i x → x ≡ Enter s u → s ≢ q
    → counts_after no_counts (entered (steps_of (take (i + 1) xs))) q ≡ counts_after no_counts (entered (steps_of (take i xs))) q
other_count xs i x s u q b p e apart =
    ap (λ g. g q) (one_entered xs i x s u b p e) ∙ one_more_apart (counts_after no_counts (entered (steps_of (take i xs)))) s q apart

pub own_number : (ps : List (ℕ × ℕ)) (i : ℕ) (d : ℕ × ℕ) (q : ℕ) → i < length ps → (get_or ps i d).0 ≡ q
    → cut_of no_counts (take (i + 1) ps) q ≡ (get_or ps i d).1
own_number ps i d q b same =
    let f : ℕ → ℕ = cut_of no_counts (take i ps) in
    ap (λ g. g q) (cut_more ps i d b) ∙ subst (λ r. with_count f (get_or ps i d).0 (get_or ps i d).1 r ≡ (get_or ps i d).1) same (with_count_here f (get_or ps i d).0 (get_or ps i d).1)

pub other_number : (ps : List (ℕ × ℕ)) (i : ℕ) (d : ℕ × ℕ) (q : ℕ) → i < length ps → (get_or ps i d).0 ≢ q
    → cut_of no_counts (take (i + 1) ps) q ≡ cut_of no_counts (take i ps) q
other_number ps i d q b apart = ap (λ g. g q) (cut_more ps i d b) ∙ with_count_apart (cut_of no_counts (take i ps)) (get_or ps i d).0 (get_or ps i d).1 q apart

-- the seals from the place i on
abbrev pub seals_on : List Step → ℕ → List (ℕ × ℕ)
seals_on xs i = seals_from (counts_after no_counts (entered (steps_of (take i xs)))) (steps_of (drop i xs))

pub no_seal : (xs : List Step) (i : ℕ) (x : Step) (s : ℕ) (u : Update) → i < length xs → x ≡ get_or xs i x → x ≡ Enter s u → seals_on xs i ≡ seals_on xs (i + 1)
no_seal xs i x s u b p e =
    ap (seals_from (counts_after no_counts (entered (steps_of (take i xs))))) (enter_first xs i x s u b p e)
    ∙ ap (λ f. seals_from f (steps_of (drop (i + 1) xs))) (sym (one_entered xs i x s u b p e))

pub one_seal : (xs : List Step) (i : ℕ) (x : Step) (s : ℕ) → i < length xs → x ≡ get_or xs i x → x ≡ Seal s
    → seals_on xs i ≡ (s, counts_after no_counts (entered (steps_of (take i xs))) s) ∷ seals_on xs (i + 1)
one_seal xs i x s b p e =
    let f : ℕ → ℕ = counts_after no_counts (entered (steps_of (take i xs))) in
    ap (seals_from f) (seal_first xs i x s b p e)
    ∙ ap (λ g. (s, f s) ∷ seals_from g (steps_of (drop (i + 1) xs))) (sym (none_entered xs i x s b p e))

-- what a cut keeps from the place i on
abbrev pub kept_on : (ℕ → ℕ) → List Step → ℕ → List (ℕ × Update)
kept_on c xs i = kept_from (counts_after no_counts (entered (steps_of (take i xs)))) c (entered (steps_of (drop i xs)))

update_first : (c : ℕ → ℕ) (xs : List Step) (i : ℕ) (x : Step) (s : ℕ) (u : Update) → i < length xs → x ≡ get_or xs i x → x ≡ Enter s u
    → kept_on c xs i ≡ keep_if (ltb (counts_after no_counts (entered (steps_of (take i xs))) s) (c s)) (s, u) (kept_on c xs (i + 1))
update_first c xs i x s u b p e =
    let f : ℕ → ℕ = counts_after no_counts (entered (steps_of (take i xs))) in
    ap (λ l. kept_from f c (entered l)) (enter_first xs i x s u b p e)
    ∙ ap (λ g. keep_if (ltb (f s) (c s)) (s, u) (kept_from g c (entered (steps_of (drop (i + 1) xs))))) (sym (one_entered xs i x s u b p e))

pub one_kept : (c : ℕ → ℕ) (xs : List Step) (i : ℕ) (x : Step) (s : ℕ) (u : Update) → i < length xs → x ≡ get_or xs i x → x ≡ Enter s u
    → counts_after no_counts (entered (steps_of (take i xs))) s < c s → kept_on c xs i ≡ (s, u) ∷ kept_on c xs (i + 1)
one_kept c xs i x s u b p e below = update_first c xs i x s u b p e ∙ ap (λ t. keep_if t (s, u) (kept_on c xs (i + 1))) (lt-ltb _ _ below)

pub one_lost : (c : ℕ → ℕ) (xs : List Step) (i : ℕ) (x : Step) (s : ℕ) (u : Update) → i < length xs → x ≡ get_or xs i x → x ≡ Enter s u
    → c s ≤ counts_after no_counts (entered (steps_of (take i xs))) s → kept_on c xs i ≡ kept_on c xs (i + 1)
one_lost c xs i x s u b p e above = update_first c xs i x s u b p e ∙ ap (λ t. keep_if t (s, u) (kept_on c xs (i + 1))) (le-ltb _ _ above)

pub none_kept : (c : ℕ → ℕ) (xs : List Step) (i : ℕ) (x : Step) (s : ℕ) → i < length xs → x ≡ get_or xs i x → x ≡ Seal s → kept_on c xs i ≡ kept_on c xs (i + 1)
none_kept c xs i x s b p e =
    ap (λ l. kept_from (counts_after no_counts (entered (steps_of (take i xs)))) c (entered l)) (seal_first xs i x s b p e)
    ∙ ap (λ g. kept_from g c (entered (steps_of (drop (i + 1) xs)))) (sym (none_entered xs i x s b p e))

pub seal_put : (all more on rest whole : List (ℕ × ℕ)) (s n m : ℕ) → more ≡ all ++ (s, n) ∷ [] → n ≡ m → on ≡ (s, m) ∷ rest → all ++ on ≡ whole → more ++ rest ≡ whole
seal_put all more on rest whole s n m put same first w =
    ap (λ z. z ++ rest) put ∙ append_assoc all ((s, n) ∷ []) rest ∙ ap (λ k. all ++ (s, k) ∷ rest) same ∙ ap (λ z. all ++ z) (sym first) ∙ w

-- an update that is kept applies, and the others behind it
pub one_applied : (t t' s : Rows) (h h' : List (ℕ × Update)) (e : ℕ × Update) → h ≡ e ∷ h' → t' ≡ apply t e.1 → after apply t h ≡ s → AllApply Applies apply t h
    → (after apply t' h' ≡ s) × AllApply Applies apply t' h'
one_applied t t' s h h' e first new is fit =
    (ap (λ z. after apply z h') new ∙ ap (after apply t) (sym first) ∙ is, subst (λ z. AllApply Applies apply z h') (sym new) (subst (AllApply Applies apply t) first fit).1)

pub none_applied : (t t' s : Rows) (h h' : List (ℕ × Update)) → h ≡ h' → t' ≡ t → after apply t h ≡ s → AllApply Applies apply t h
    → (after apply t' h' ≡ s) × AllApply Applies apply t' h'
none_applied t t' s h h' first new is fit =
    (ap (λ z. after apply z h') new ∙ ap (after apply t) (sym first) ∙ is, subst (λ z. AllApply Applies apply z h') (sym new) (subst (AllApply Applies apply t) first fit))

pub first_applies : (t : Rows) (h h' : List (ℕ × Update)) (s : ℕ) (u : Update) → h ≡ (s, u) ∷ h' → AllApply Applies apply t h → IsTrue (applies t u)
first_applies t h h' s u first fit =
    let a : Applies t u = (subst (AllApply Applies apply t) first fit).0 in
    (applies_fits t u a.0).1 a.1
