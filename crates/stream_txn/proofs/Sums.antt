-- Sums over updates, after one more and after a seal.
use Rattle.std.proofs.Common.{◌≡◌, ◌≢◌, ◌==◌, ℕ, zero, suc, ◌+◌, ◌-◌, ◌<◌, ◌≤◌, inl, inr, Bool, true, false, cond, List, [], ◌∷◌, ◌++◌, length, set, get_or, refl, sym, ap, subst, ◌∙◌, arith}
use Rattle.std.specs.Prelude.{not, filter}
use Rattle.std.specs.List.{sum_by}
use Rattle.std.proofs.lemmas.Bool.{cases_eq}
use Rattle.std.proofs.lemmas.Grind.{common_steps}
use Rattle.std.proofs.lemmas.List.{get_or-set_same, get_or-set_other, flat_map_more}
use Rattle.std.proofs.lemmas.List.Elements.{filter-append}
use Rattle.std.proofs.lemmas.List.Filters.{sum_by-filter_both}
use Rattle.std.proofs.lemmas.List.Sums.{sum_by-append}
use Rattle.file_bodies.specs.declared.ops.BodyOp.{BodyOp}
use Rattle.stream_txn.specs.declared.accounts.Account.{Account}
use Rattle.stream_txn.specs.declared.updates.Unsealed.{Unsealed}
use Rattle.stream_txn.specs.Updates.{of_stream, without, has_any, blocks_of, rows_of}
use Rattle.stream_txn.specs.Accounts.{no_account, account_at, raised, IsSumOf, AreSumsOf}
use Rattle.stream_txn.specs.Held.{ops_at, with_ops}

-- ---- one more update

any_last : (updates : List Unsealed) (update : Unsealed) → has_any (updates ++ update ∷ []) ≡ true
any_last [] update = refl
any_last (first ∷ rest) update = refl

sum_last : (f : Unsealed → ℕ) (updates : List Unsealed) (update : Unsealed) (sum : ℕ) → sum ≡ sum_by f updates → sum + f update ≡ sum_by f (updates ++ update ∷ [])
sum_last f updates update sum e =
    let more : sum_by f (updates ++ update ∷ []) ≡ sum_by f updates + (0 + f update) = sum_by-append f updates (update ∷ []) in
    omega arith

summed_last : (account : Account) (ops : List BodyOp) (updates : List Unsealed) (update : Unsealed) → IsSumOf account ops updates
    → IsSumOf (raised account update.weight update.gave_blocks update.gave_rows) (ops ++ update.ops) (updates ++ update ∷ [])
summed_last account ops updates update s = record {
  is_open = sym (any_last updates update);
  weight = sum_last (λ u. u.weight) updates update account.weight s.weight;
  gave_blocks = sum_last (λ u. u.gave_blocks) updates update account.gave_blocks s.gave_blocks;
  gave_rows = sum_last (λ u. u.gave_rows) updates update account.gave_rows s.gave_rows;
  ops = ap (λ z. z ++ update.ops) s.ops ∙ flat_map_more (λ u. u.ops) [] updates update;
}

equal : (n : ℕ) → (n == n) ≡ true
equal n = grind (arith, common_steps)

differ : (m n : ℕ) → m ≢ n → (m == n) ≡ false
differ m n d = grind (arith, common_steps)

same : (m n : ℕ) → (m == n) ≡ true → m ≡ n
same m n e = grind (arith, common_steps)

own_last : (unsealed : List Unsealed) (update : Unsealed) → of_stream update.stream (unsealed ++ update ∷ []) ≡ of_stream update.stream unsealed ++ update ∷ []
own_last unsealed update =
    filter-append (λ (u : Unsealed). u.stream == update.stream) unsealed (update ∷ [])
    ∙ ap (λ (own : Bool). of_stream update.stream unsealed ++ cond own (update ∷ []) []) (equal update.stream)

append-none : (updates : List Unsealed) → updates ++ [] ≡ updates
append-none [] = refl
append-none (update ∷ rest) = ap (λ z. update ∷ z) (append-none rest)

other_last : (unsealed : List Unsealed) (update : Unsealed) (stream : ℕ) → stream ≢ update.stream → of_stream stream (unsealed ++ update ∷ []) ≡ of_stream stream unsealed
other_last unsealed update stream n =
    filter-append (λ (u : Unsealed). u.stream == stream) unsealed (update ∷ [])
    ∙ ap (λ (own : Bool). of_stream stream unsealed ++ cond own (update ∷ []) []) (differ update.stream stream (λ e. n (sym e)))
    ∙ append-none (of_stream stream unsealed)

-- the sums with one more update
pub added : (accounts new : List Account) (ops more : List (List BodyOp)) (blocks rows : ℕ) (unsealed : List Unsealed) (update : Unsealed)
    → update.stream < length accounts → update.stream < length ops
    → new ≡ set accounts update.stream (raised (account_at accounts update.stream) update.weight update.gave_blocks update.gave_rows)
    → more ≡ with_ops ops update.stream update.ops → AreSumsOf accounts ops blocks rows unsealed
    → AreSumsOf new more (blocks + update.gave_blocks) (rows + update.gave_rows) (unsealed ++ update ∷ [])
added accounts new ops more blocks rows unsealed update k l e f s =
    let a = raised (account_at accounts update.stream) update.weight update.gave_blocks update.gave_rows in
    let o = ops_at ops update.stream ++ update.ops in
    record {
      own = λ stream. elim (cases_eq stream update.stream) [
        | inl is ↦
            let account : account_at new update.stream ≡ a = ap (λ z. account_at z update.stream) e ∙ get_or-set_same accounts update.stream a no_account k in
            let log : ops_at more update.stream ≡ o = ap (λ z. ops_at z update.stream) f ∙ get_or-set_same ops update.stream o [] l in
            subst (λ z. IsSumOf (account_at new z) (ops_at more z) (of_stream z (unsealed ++ update ∷ []))) (sym is)
            (subst (λ z. IsSumOf z (ops_at more update.stream) (of_stream update.stream (unsealed ++ update ∷ []))) (sym account)
            (subst (λ z. IsSumOf a z (of_stream update.stream (unsealed ++ update ∷ []))) (sym log)
            (subst (IsSumOf a o) (sym (own_last unsealed update))
            (summed_last (account_at accounts update.stream) (ops_at ops update.stream) (of_stream update.stream unsealed) update (s.own update.stream)))))
        | inr n ↦
            let account : account_at new stream ≡ account_at accounts stream = ap (λ z. account_at z stream) e ∙ get_or-set_other accounts update.stream stream a no_account n in
            let log : ops_at more stream ≡ ops_at ops stream = ap (λ z. ops_at z stream) f ∙ get_or-set_other ops update.stream stream o [] n in
            subst (λ z. IsSumOf z (ops_at more stream) (of_stream stream (unsealed ++ update ∷ []))) (sym account)
            (subst (λ z. IsSumOf (account_at accounts stream) z (of_stream stream (unsealed ++ update ∷ []))) (sym log)
            (subst (IsSumOf (account_at accounts stream) (ops_at ops stream)) (sym (other_last unsealed update stream n)) (s.own stream)))
      ];
      gave_blocks = sum_last (λ u. u.gave_blocks) unsealed update blocks s.gave_blocks;
      gave_rows = sum_last (λ u. u.gave_rows) unsealed update rows s.gave_rows;
    }

-- ---- a seal

-- a sum over a stream's updates, and over the others
pub parts : (f : Unsealed → ℕ) (stream : ℕ) (unsealed : List Unsealed) → sum_by f (of_stream stream unsealed) + sum_by f (without stream unsealed) ≡ sum_by f unsealed
parts f stream unsealed = sum_by-filter_both (λ (u : Unsealed). u.stream == stream) (λ (u : Unsealed). not (u.stream == stream)) (λ u. refl) f unsealed

-- a stream gave up no more than all
pub part_of_all : (accounts : List Account) (ops : List (List BodyOp)) (blocks rows : ℕ) (unsealed : List Unsealed) (stream : ℕ) → AreSumsOf accounts ops blocks rows unsealed
    → ((account_at accounts stream).gave_blocks ≤ blocks) × ((account_at accounts stream).gave_rows ≤ rows)
part_of_all accounts ops blocks rows unsealed stream s =
    let b : blocks_of (of_stream stream unsealed) + blocks_of (without stream unsealed) ≡ blocks_of unsealed = parts (λ u. u.gave_blocks) stream unsealed in
    let r : rows_of (of_stream stream unsealed) + rows_of (without stream unsealed) ≡ rows_of unsealed = parts (λ u. u.gave_rows) stream unsealed in
    let own_blocks : (account_at accounts stream).gave_blocks ≡ blocks_of (of_stream stream unsealed) = (s.own stream).gave_blocks in
    let own_rows : (account_at accounts stream).gave_rows ≡ rows_of (of_stream stream unsealed) = (s.own stream).gave_rows in
    let all_blocks : blocks ≡ blocks_of unsealed = s.gave_blocks in
    let all_rows : rows ≡ rows_of unsealed = s.gave_rows in
    (omega arith, omega arith)

-- what the others gave up
pub rest_of_all : (accounts : List Account) (ops : List (List BodyOp)) (blocks rows : ℕ) (unsealed : List Unsealed) (stream : ℕ) → AreSumsOf accounts ops blocks rows unsealed
    → (blocks - (account_at accounts stream).gave_blocks ≡ blocks_of (without stream unsealed)) × (rows - (account_at accounts stream).gave_rows ≡ rows_of (without stream unsealed))
rest_of_all accounts ops blocks rows unsealed stream s =
    let b : blocks_of (of_stream stream unsealed) + blocks_of (without stream unsealed) ≡ blocks_of unsealed = parts (λ u. u.gave_blocks) stream unsealed in
    let r : rows_of (of_stream stream unsealed) + rows_of (without stream unsealed) ≡ rows_of unsealed = parts (λ u. u.gave_rows) stream unsealed in
    let own_blocks : (account_at accounts stream).gave_blocks ≡ blocks_of (of_stream stream unsealed) = (s.own stream).gave_blocks in
    let own_rows : (account_at accounts stream).gave_rows ≡ rows_of (of_stream stream unsealed) = (s.own stream).gave_rows in
    let all_blocks : blocks ≡ blocks_of unsealed = s.gave_blocks in
    let all_rows : rows ≡ rows_of unsealed = s.gave_rows in
    (omega arith, omega arith)

module _ (p q : Unsealed → Bool) where
  out_step : (x : Unsealed) (keeps passes : Bool) (rest : List Unsealed) → p x ≡ passes → (passes ≡ true → keeps ≡ false) → filter p rest ≡ []
      → filter p (cond keeps (x ∷ rest) rest) ≡ []
  out_step x false passes rest e n h = h
  out_step x true true rest e n h = absurd (let never = n refl in cc)
  out_step x true false rest e n h = ap (λ (z : Bool). cond z (x ∷ filter p rest) (filter p rest)) e ∙ h

  -- none is left that passes
  filter_out : ((x : Unsealed) → p x ≡ true → q x ≡ false) → (xs : List Unsealed) → filter p (filter q xs) ≡ []
  filter_out h [] = refl
  filter_out h (x ∷ xs) = out_step x (q x) (p x) (filter q xs) refl (h x) (filter_out h xs)

  in_step : (x : Unsealed) (keeps passes : Bool) (rest all : List Unsealed) → p x ≡ passes → (passes ≡ true → keeps ≡ true) → filter p rest ≡ filter p all
      → filter p (cond keeps (x ∷ rest) rest) ≡ filter p (x ∷ all)
  in_step x true passes rest all e n h = ap (λ z. cond (p x) (x ∷ z) z) h
  in_step x false true rest all e n h = absurd (let never = n refl in cc)
  in_step x false false rest all e n h = h ∙ sym (ap (λ (z : Bool). cond z (x ∷ filter p all) (filter p all)) e)

  -- all are left that pass
  filter_in : ((x : Unsealed) → p x ≡ true → q x ≡ true) → (xs : List Unsealed) → filter p (filter q xs) ≡ filter p xs
  filter_in h [] = refl
  filter_in h (x ∷ xs) = in_step x (q x) (p x) (filter q xs) xs refl (h x) (filter_in h xs)

own_gone : (unsealed : List Unsealed) (stream : ℕ) → of_stream stream (without stream unsealed) ≡ []
own_gone unsealed stream = filter_out (λ (u : Unsealed). u.stream == stream) (λ (u : Unsealed). not (u.stream == stream)) (λ u e. ap not e) unsealed

others_left : (unsealed : List Unsealed) (stream other : ℕ) → other ≢ stream → of_stream other (without stream unsealed) ≡ of_stream other unsealed
others_left unsealed stream other n = filter_in (λ (u : Unsealed). u.stream == other) (λ (u : Unsealed). not (u.stream == stream))
    (λ u e. ap not (differ u.stream stream (λ f. n (sym (same u.stream other e) ∙ f)))) unsealed

summed_none : IsSumOf no_account [] []
summed_none = record { is_open = refl; weight = refl; gave_blocks = refl; gave_rows = refl; ops = refl }

-- the sums without a stream's updates
pub sealed : (accounts new : List Account) (ops more : List (List BodyOp)) (blocks rows : ℕ) (unsealed : List Unsealed) (stream : ℕ)
    → stream < length accounts → stream < length ops → new ≡ set accounts stream no_account → more ≡ set ops stream [] → AreSumsOf accounts ops blocks rows unsealed
    → AreSumsOf new more (blocks - (account_at accounts stream).gave_blocks) (rows - (account_at accounts stream).gave_rows) (without stream unsealed)
sealed accounts new ops more blocks rows unsealed stream k l e f s =
    let rest = rest_of_all accounts ops blocks rows unsealed stream s in
    record {
      own = λ other. elim (cases_eq other stream) [
        | inl is ↦
            let account : account_at new stream ≡ no_account = ap (λ z. account_at z stream) e ∙ get_or-set_same accounts stream no_account no_account k in
            let log : ops_at more stream ≡ [] = ap (λ z. ops_at z stream) f ∙ get_or-set_same ops stream [] [] l in
            subst (λ z. IsSumOf (account_at new z) (ops_at more z) (of_stream z (without stream unsealed))) (sym is)
            (subst (λ z. IsSumOf z (ops_at more stream) (of_stream stream (without stream unsealed))) (sym account)
            (subst (λ z. IsSumOf no_account z (of_stream stream (without stream unsealed))) (sym log)
            (subst (IsSumOf no_account []) (sym (own_gone unsealed stream)) summed_none)))
        | inr n ↦
            let account : account_at new other ≡ account_at accounts other = ap (λ z. account_at z other) e ∙ get_or-set_other accounts stream other no_account no_account n in
            let log : ops_at more other ≡ ops_at ops other = ap (λ z. ops_at z other) f ∙ get_or-set_other ops stream other [] [] n in
            subst (λ z. IsSumOf z (ops_at more other) (of_stream other (without stream unsealed))) (sym account)
            (subst (λ z. IsSumOf (account_at accounts other) z (of_stream other (without stream unsealed))) (sym log)
            (subst (IsSumOf (account_at accounts other) (ops_at ops other)) (sym (others_left unsealed stream other n)) (s.own other)))
      ];
      gave_blocks = rest.0;
      gave_rows = rest.1;
    }

-- ---- no updates

-- the sums of each stream are those over no updates, where each answers so
pub all_none : (accounts : List Account) (at : ℕ) → ((k : ℕ) (d : Account) → k < length accounts → get_or accounts k d ≡ no_account) → account_at accounts at ≡ no_account
all_none [] at h = refl
all_none (account ∷ more) zero h = h 0 account (omega arith)
all_none (account ∷ more) (suc at) h = all_none more at (λ (k : ℕ) (d : Account) (l : k < length more). h (suc k) d (omega arith))

-- no sums and no operations are those of no updates
pub sums_of_none : (accounts : List Account) (ops : List (List BodyOp)) → ((stream : ℕ) → account_at accounts stream ≡ no_account) → ((stream : ℕ) → ops_at ops stream ≡ [])
    → AreSumsOf accounts ops 0 0 []
sums_of_none accounts ops a o = record {
  own = λ stream. subst (λ z. IsSumOf z (ops_at ops stream) []) (sym (a stream)) (subst (λ z. IsSumOf no_account z []) (sym (o stream)) summed_none);
  gave_blocks = refl;
  gave_rows = refl;
}
