-- A chain of parents has fewer steps than there are inodes.
use Rattle.std.proofs.Common.{◌≡◌, ℕ, zero, suc, ◌+◌, ◌<◌, [], refl, sym, ap, ◌∙◌, inl, inr, arith}
use Rattle.std.specs.Prelude.{Bool, true, false, cond, ◌&&◌, nat_lt, is_some, Option, Some, None, option_map, MatchOption, ◌↔◌}
use Rattle.std.specs.Ordering.{nat_cmp}
use Rattle.std.specs.Cmp.{nat_cmp_total}
use Rattle.std.specs.FinMap.{get, len, len-empty, len-insert}
use Rattle.std.proofs.lemmas.Bool.{and_parts, lt-ltb, le-ltb, ltb-true, eqb-true, cases_Bool}
use Rattle.tree_model.specs.declared.rows.Body.TheVariants.{File}
use Rattle.tree_model.specs.declared.rows.Row.{Row}
use Rattle.tree_model.specs.Rows.{Rows, up}
use Rattle.tree_model.specs.Tests.{is_it}
use Rattle.tree_model.proofs.Above.{Chain, chain_short}
use Rattle.tree_model.proofs.Chains.{up_first, up_last}
use Rattle.image_model.specs.Volumes.{Table}
use Rattle.image_model.specs.Lowest.{lowest, NoneBelow, IsLowest}
use Rattle.image_model.specs.Checks.{is_entry, parent_at, is_rooted}
use Rattle.image_model.specs.Trees.{rows_below}
use Rattle.image_model.proofs.Least.{lowest_is_lowest}
use Rattle.image_model.proofs.RowsBelow.{rows_are_those}

-- a row for each inode
abbrev any_row : Row
any_row = record { parent = None; name = []; body = File [] }

abbrev all_rows : ℕ → Rows
all_rows n = rows_below (λ i. Some any_row) n

there : (n x : ℕ) → x < n → is_some (get (all_rows n) x) ≡ true
there n x h = ap (λ o. is_some o) (rows_are_those (λ i. Some any_row) n x ∙ ap (λ b. cond b (Some any_row) None) (lt-ltb x n h))

len_all : (n : ℕ) → len (all_rows n) ≡ n
len_all zero = len-empty nat_cmp Row
len_all (suc n) =
    let before : len (all_rows n) ≡ n = len_all n in
    let new : len (all_rows (suc n)) ≡ len (all_rows n) + 1 =
    len-insert nat_cmp_total (all_rows n) n any_row
    ∙ ap (λ o. cond (is_some o) (len (all_rows n)) (len (all_rows n) + 1)) (rows_are_those (λ i. Some any_row) n n ∙ ap (λ b. cond b (Some any_row) None) (le-ltb n n (omega arith))) in
    omega arith

-- an inode that has a parent is one
with_a_parent : (t : Table) (i y : ℕ) → parent_at t i ≡ Some y → i < t.inodes
with_a_parent t i y e = elim (cases_Bool (is_entry t i && nat_lt i t.inodes)) [
  | inl yes_ ↦ ltb-true i t.inodes (and_parts (is_entry t i) (nat_lt i t.inodes) yes_).1
  | inr no_ ↦ absurd (let z : ◌≡◌ {A = Option ℕ} None (Some y) = sym (ap (λ b. cond b (option_map (λ s. s.parent) (t.slot i)) None) no_) ∙ e in cc)
]

chain : (t : Table) → 0 < t.inodes → (m i : ℕ) → up (parent_at t) m i ≡ Some 0 → Chain (parent_at t) (all_rows t.inodes) m i
chain t some zero i p = there t.inodes i (let q : ◌≡◌ {A = Option ℕ} (Some i) (Some 0) = p in let e : i ≡ 0 = cc in omega arith)
chain t some (suc m) i p = elim (parent_at t i) as (λ o. parent_at t i ≡ o → (is_some (get (all_rows t.inodes) i) ≡ true) × ((y : ℕ) × (o ≡ Some y) × Chain (parent_at t) (all_rows t.inodes) m y)) [
  | None ↦ λ e. absurd (let z : ◌≡◌ {A = Option ℕ} None (Some 0) = sym (up_last (parent_at t) m i e) ∙ p in cc)
  | Some y ↦ λ e. (there t.inodes i (with_a_parent t i y e), (y, refl, chain t some m y (sym (up_first (parent_at t) m i y e) ∙ p)))
] refl

is_it_there : (o : Option ℕ) → o ≡ Some 0 → is_it o 0 ≡ true
is_it_there o e = ap (λ z. is_it z 0) e

there_is_it : (o : Option ℕ) → is_it o 0 ≡ true → o ≡ Some 0
there_is_it None e = absurd (cc)
there_is_it (Some x) e = ap (λ z. Some z) (eqb-true x 0 e)

found : (test : ℕ → Bool) (n m : ℕ) → m < n → test m ≡ true → (o : Option ℕ) → MatchOption o (NoneBelow test n) (IsLowest test n) → is_some o ≡ true
found test n m within passes None none = absurd (let z : true ≡ false = sym passes ∙ none m within in cc)
found test n m within passes (Some i) is = refl

finds : (test : ℕ → Bool) (n : ℕ) (o : Option ℕ) → MatchOption o (NoneBelow test n) (IsLowest test n) → is_some o ≡ true → (m : ℕ) × (test m ≡ true)
finds test n None none e = absurd (cc)
finds test n (Some i) is e = (i, is.passes)

pub rooted_is_below : (t : Table) (inode : ℕ) → 0 < t.inodes → (is_rooted t inode ≡ true) ↔ ((steps : ℕ) × (up (parent_at t) steps inode ≡ Some 0))
rooted_is_below t inode some =
    let test : ℕ → Bool = λ steps. is_it (up (parent_at t) steps inode) 0 in (
      λ e. let some_step = finds test t.inodes (lowest test t.inodes) (lowest_is_lowest test t.inodes) e in (some_step.0, there_is_it (up (parent_at t) some_step.0 inode) some_step.1),
      λ w. let short : w.0 < len (all_rows t.inodes) = chain_short (parent_at t) 0 refl w.0 (all_rows t.inodes) inode w.1 (chain t some w.0 inode w.1) in
          found test t.inodes w.0 (let all : len (all_rows t.inodes) ≡ t.inodes = len_all t.inodes in omega arith) (is_it_there (up (parent_at t) w.0 inode) w.1) (lowest test t.inodes) (lowest_is_lowest test t.inodes),
    )
