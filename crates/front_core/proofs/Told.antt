-- What the parts tell of the unsealed updates.
use Rattle.front_laws.proofs.BatchLight.{sum_reverse}
use Rattle.std.proofs.Common.{◌≡◌, ℕ, List, [], ◌∷◌, ◌++◌, map, refl, ap, ◌∙◌}
use Rattle.std.specs.Prelude.{Bool, true, false, not, ◌&&◌, ◌||◌, ◌==◌, Some, reverse}
use Rattle.std.specs.List.{list_any}
use Rattle.std.proofs.lemmas.List.Folds.{list_any-append}
use Rattle.stream_cuts.specs.Streams.{keep_if, of_stream, without}
use Rattle.stream_cuts.specs.Forced.{is_open, is_forced}
use Rattle.stream_txn.specs.declared.updates.Unsealed.{Unsealed}
use Rattle.stream_txn.specs.Updates as txns
use Rattle.stream_txn.specs.Accounts.{account_at}
use Rattle.stream_txn.specs.Kept.{TxnLists, AreTxnsOf}
use Rattle.cross_dep.specs.Books.{is_met}
use Rattle.tree_model.specs.declared.rows.Update.{Update}
use Rattle.tree_model.specs.Keys.{meets}
use Rattle.tree_model.proofs.Mutual.{meets_back}
use Rattle.tree_cuts.specs.Calls.{Charge, Charged, charged_meets, unsealed_weight, unsealed_rows}
use Rattle.front_core.specs.Pending.{txn_of, txns_of, noted, all_noted}
use Rattle.front_core.proofs.Listed.{txns_without, txns_of_stream, listed_more, weights_of, rows_given_of}

-- ---- any of them

or_swapped : (a b : Bool) → ((a || (b || false)) ≡ (b || a))
or_swapped true true = refl
or_swapped true false = refl
or_swapped false true = refl
or_swapped false false = refl

pub any_listed : {A B : Type 0} (f : A → B) (test : B → Bool) (h : List A) → list_any test (map f (reverse h)) ≡ list_any (λ e. test (f e)) h
any_listed f test [] = refl
any_listed f test (e ∷ h) =
    ap (list_any test) (listed_more f e h) ∙ list_any-append test (map f (reverse h)) (f e ∷ [])
    ∙ ap (λ z. z || (test (f e) || false)) (any_listed f test h) ∙ or_swapped (list_any (λ e. test (f e)) h) (test (f e))

any_same : {A : Type 0} (p q : A → Bool) → ((e : A) → p e ≡ q e) → (h : List A) → list_any p h ≡ list_any q h
any_same p q f [] = refl
any_same p q f (e ∷ h) = ap (λ b. b || list_any p h) (f e) ∙ ap (λ b. q e || b) (any_same p q f h)

-- a stream that an update meets is one that it forces
pub met_forced : (s : ℕ) (u : Update) (cost : Charge) (h : List (ℕ × Charged)) (r : ℕ) → is_met s u (all_noted h) r ≡ is_forced charged_meets s (u, cost) h r
met_forced s u cost h r = ap (λ z. not (r == s) && z) (any_listed noted (λ c. c.0 == r && meets u c.1) h ∙ any_same (λ e. e.0 == r && meets u e.1.0) (λ e. e.0 == r && meets e.1.0 u) (λ e. ap (λ z. e.0 == r && z) (meets_back u e.1.0)) h)

any_last : (us : List Unsealed) (u : Unsealed) → txns.has_any (us ++ u ∷ []) ≡ true
any_last [] u = refl
any_last (v ∷ us) u = refl

any_there : (inodes : List ℕ) (s : ℕ) (h : List (ℕ × Charged)) → txns.has_any (map (txn_of inodes) (reverse (of_stream s h))) ≡ is_open h s
any_there inodes s [] = refl
any_there inodes s (e ∷ h) = let rest = any_there inodes s h in
    elim (e.0 == s) as (λ b. txns.has_any (map (txn_of inodes) (reverse (keep_if b e (of_stream s h)))) ≡ (b || is_open h s)) [
      | true ↦ ap txns.has_any (listed_more (txn_of inodes) e (of_stream s h)) ∙ any_last (map (txn_of inodes) (reverse (of_stream s h))) (txn_of inodes e)
      | false ↦ rest
    ]

-- a stream is open where it has an unsealed update
pub open_told : (k : TxnLists) (inodes : List ℕ) (h : List (ℕ × Charged)) (s : ℕ) → AreTxnsOf k (txns_of inodes h) → (account_at k.accounts s).is_open ≡ is_open h s
open_told k inodes h s a = (a.own s).is_open ∙ ap txns.has_any (txns_of_stream inodes s h) ∙ any_there inodes s h

-- ---- sums

pub weight_told : (k : TxnLists) (inodes : List ℕ) (h : List (ℕ × Charged)) (s : ℕ) → AreTxnsOf k (txns_of inodes h) → (account_at k.accounts s).weight ≡ unsealed_weight s h
weight_told k inodes h s a =
    (a.own s).weight ∙ ap txns.weight_of (txns_of_stream inodes s h) ∙ weights_of inodes (reverse (of_stream s h)) ∙ sum_reverse (λ e. e.1.1.weight) (of_stream s h)

pub rows_told : (k : TxnLists) (inodes : List ℕ) (h : List (ℕ × Charged)) → AreTxnsOf k (txns_of inodes h) → k.gave_rows ≡ unsealed_rows h
rows_told k inodes h a = a.gave_rows ∙ rows_given_of inodes (reverse h) ∙ sum_reverse (λ e. e.1.1.gave_rows) h

pub other_rows_told : (inodes : List ℕ) (h : List (ℕ × Charged)) (s : ℕ) → txns.rows_of (txns.all_but (Some s) (txns_of inodes h)) ≡ unsealed_rows (without s h)
other_rows_told inodes h s =
    ap txns.rows_of (txns_without inodes s h) ∙ rows_given_of inodes (reverse (without s h)) ∙ sum_reverse (λ e. e.1.1.gave_rows) (without s h)
