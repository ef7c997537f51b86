-- Unsealed updates as the parts keep them: what sealing a stream and one more update make of the lists.
use Rattle.std.proofs.Common.{◌≡◌, ℕ, ◌+◌, List, [], ◌∷◌, ◌++◌, map, refl, sym, ap, ◌∙◌}
use Rattle.std.specs.Prelude.{Bool, true, false, cond, not, ◌==◌, reverse, filter, flat_map}
use Rattle.std.proofs.lemmas.Grind.{reverse_onto, flat_map-append}
use Rattle.std.proofs.lemmas.List.{map-append, append-nil}
use Rattle.std.proofs.lemmas.List.Sums.{sum_by-cons}
use Rattle.std.proofs.lemmas.List.Elements.{filter-append}
use Rattle.stream_cuts.specs.Streams.{keep_if, of_stream, without}
use Rattle.stream_cuts.specs.Amounts.{sum_over}
use Rattle.stream_txn.specs.declared.updates.Unsealed.{Unsealed}
use Rattle.stream_txn.specs.Updates as txns
use Rattle.cross_dep.specs.Books as books
use Rattle.tree_cuts.specs.Calls.{Charged}
use Rattle.update_records.specs.Operations.{ops_of}
use Rattle.front_core.specs.Pending.{txn_of, txns_of, noted, all_noted}

-- ---- filters

pub rest_without : (s : ℕ) (es : List (ℕ × Charged)) → filter (λ (e : ℕ × Charged). not (e.0 == s)) es ≡ without s es
rest_without s [] = refl
rest_without s (e ∷ es) = let h = rest_without s es in elim (e.0 == s) as (λ b. cond (not b) (e ∷ filter (λ (x : ℕ × Charged). not (x.0 == s)) es) (filter (λ (x : ℕ × Charged). not (x.0 == s)) es) ≡ keep_if (not b) e (without s es)) [
  | true ↦ h
  | false ↦ ap (λ z. e ∷ z) h
]

pub those_of : (s : ℕ) (es : List (ℕ × Charged)) → filter (λ (e : ℕ × Charged). e.0 == s) es ≡ of_stream s es
those_of s [] = refl
those_of s (e ∷ es) = let h = those_of s es in elim (e.0 == s) as (λ b. cond b (e ∷ filter (λ (x : ℕ × Charged). x.0 == s) es) (filter (λ (x : ℕ × Charged). x.0 == s) es) ≡ keep_if b e (of_stream s es)) [
  | true ↦ ap (λ z. e ∷ z) h
  | false ↦ h
]

module _ {A : Type 0} where
  reverse_first : (e : A) (h : List A) → reverse (e ∷ h) ≡ reverse h ++ e ∷ []
  reverse_first e h = reverse_onto h e []

  one_left : (q : A → Bool) (e : A) (h : List A) → reverse (filter q (e ∷ h)) ≡ reverse (filter q h) ++ filter q (e ∷ [])
  one_left q e h = elim (q e) as (λ b. reverse (cond b (e ∷ filter q h) (filter q h)) ≡ reverse (filter q h) ++ cond b (e ∷ []) []) [
    | true ↦ reverse_first e (filter q h)
    | false ↦ sym (append-nil (reverse (filter q h)))
  ]

  pub filter_reverse : (q : A → Bool) (h : List A) → filter q (reverse h) ≡ reverse (filter q h)
  filter_reverse q [] = refl
  filter_reverse q (e ∷ h) =
      ap (filter q) (reverse_first e h) ∙ filter-append q (reverse h) (e ∷ [])
      ∙ ap (λ z. z ++ filter q (e ∷ [])) (filter_reverse q h) ∙ sym (one_left q e h)

  module _ {B : Type 0} (f : A → B) where
    pub filter_map_both : (p : B → Bool) (h : List A) → filter p (map f h) ≡ map f (filter (λ e. p (f e)) h)
    filter_map_both p [] = refl
    filter_map_both p (e ∷ h) = let g = filter_map_both p h in
        elim (p (f e)) as (λ b. cond b (f e ∷ filter p (map f h)) (filter p (map f h)) ≡ map f (cond b (e ∷ filter (λ x. p (f x)) h) (filter (λ x. p (f x)) h))) [
          | true ↦ ap (λ z. f e ∷ z) g
          | false ↦ g
        ]

    pub listed_filter : (p : B → Bool) (h : List A) → filter p (map f (reverse h)) ≡ map f (reverse (filter (λ e. p (f e)) h))
    listed_filter p h = filter_map_both p (reverse h) ∙ ap (map f) (filter_reverse (λ e. p (f e)) h)

    pub listed_more : (e : A) (h : List A) → map f (reverse (e ∷ h)) ≡ map f (reverse h) ++ f e ∷ []
    listed_more e h = ap (map f) (reverse_first e h) ∙ map-append f (reverse h) (e ∷ [])

-- ---- the parts

pub txns_without : (inodes : List ℕ) (s : ℕ) (h : List (ℕ × Charged)) → txns.without s (txns_of inodes h) ≡ txns_of inodes (without s h)
txns_without inodes s h = listed_filter (txn_of inodes) (λ u. not (u.stream == s)) h ∙ ap (txns_of inodes) (rest_without s h)

pub txns_of_stream : (inodes : List ℕ) (s : ℕ) (h : List (ℕ × Charged)) → txns.of_stream s (txns_of inodes h) ≡ map (txn_of inodes) (reverse (of_stream s h))
txns_of_stream inodes s h = listed_filter (txn_of inodes) (λ u. u.stream == s) h ∙ ap (txns_of inodes) (those_of s h)

pub txns_more : (inodes : List ℕ) (e : ℕ × Charged) (h : List (ℕ × Charged)) → txns_of inodes (e ∷ h) ≡ txns_of inodes h ++ txn_of inodes e ∷ []
txns_more inodes e h = listed_more (txn_of inodes) e h

pub noted_without : (s : ℕ) (h : List (ℕ × Charged)) → books.without s (all_noted h) ≡ all_noted (without s h)
noted_without s h = listed_filter noted (λ c. not (c.0 == s)) h ∙ ap all_noted (rest_without s h)

pub noted_more : (e : ℕ × Charged) (h : List (ℕ × Charged)) → all_noted (e ∷ h) ≡ all_noted h ++ noted e ∷ []
noted_more e h = listed_more noted e h

-- ---- sums over them

pub weights_of : (inodes : List ℕ) (us : List (ℕ × Charged)) → txns.weight_of (map (txn_of inodes) us) ≡ sum_over (λ (e : ℕ × Charged). e.1.1.weight) us
weights_of inodes [] = refl
weights_of inodes (e ∷ us) = sum_by-cons (λ u. u.weight) (txn_of inodes e) (map (txn_of inodes) us) ∙ ap (λ z. e.1.1.weight + z) (weights_of inodes us)

pub rows_given_of : (inodes : List ℕ) (us : List (ℕ × Charged)) → txns.rows_of (map (txn_of inodes) us) ≡ sum_over (λ (e : ℕ × Charged). e.1.1.gave_rows) us
rows_given_of inodes [] = refl
rows_given_of inodes (e ∷ us) = sum_by-cons (λ u. u.gave_rows) (txn_of inodes e) (map (txn_of inodes) us) ∙ ap (λ z. e.1.1.gave_rows + z) (rows_given_of inodes us)

pub operations_of : (inodes : List ℕ) (us : List (ℕ × Charged)) → txns.ops_of (map (txn_of inodes) us) ≡ flat_map (λ (e : ℕ × Charged). ops_of inodes e.1.0) us
operations_of inodes [] = refl
operations_of inodes (e ∷ us) =
    flat_map-append (λ (u : Unsealed). u.ops) (txn_of inodes e ∷ []) (map (txn_of inodes) us)
    ∙ ap (λ z. flat_map (λ (u : Unsealed). u.ops) (txn_of inodes e ∷ []) ++ z) (operations_of inodes us)
    ∙ sym (flat_map-append (λ (e : ℕ × Charged). ops_of inodes e.1.0) (e ∷ []) us)
