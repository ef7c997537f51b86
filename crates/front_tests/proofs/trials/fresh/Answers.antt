-- What the front of a fresh image requires: the root alone is a plain tree, whose one row has an inode of the image, and six blocks are
-- the metadata of 32 inodes.
use Rattle.std.proofs.Common.{◌≡◌, ◌≢◌, ℕ, ◌+◌, ◌<◌, [], ◌∷◌, length, refl, sym, ap, ap₂, subst, ◌∙◌, inl, inr, arith}
use Rattle.std.specs.Prelude.{cond, ◌==◌, is_some}
use Rattle.std.specs.declared.option.Option.{Option}
use Rattle.std.specs.declared.option.Option.TheVariants.{None, Some}
use Rattle.std.specs.Ordering.{nat_cmp}
use Rattle.std.specs.Cmp.{nat_cmp_total, unsigned_tied}
use Rattle.std.specs.FinMap.{get, len, empty, get-insert, get-empty, len-insert, len-empty}
use Rattle.std.proofs.lemmas.Bool.{cases_eq, ne_eqb}
use Rattle.tree_model.specs.declared.rows.Body.TheVariants.{Dir}
use Rattle.tree_model.specs.declared.rows.Row.{Row}
use Rattle.tree_model.specs.Rows.{Rows, alone}
use Rattle.tree_model.proofs.Same.{alone_tree}
use Rattle.image_model.specs.Carrying.{inode_in}
use Rattle.carried_volumes.specs.Plain.{IsBareBody, IsPlain, IsDense}
use Rattle.carried_volumes.specs.Carried.{HaveInodes}
use Rattle.front_tests.proofs.trials.fresh.Goals as goal

-- ---- the root alone

abbrev root : Row
root = record { parent = None; name = []; body = Dir 0 }

row_alone : (x : ℕ) → get (alone 0) x ≡ cond (x == 0) (Some root) None
row_alone x = get-insert nat_cmp_total empty 0 root x ∙ ap₂ (λ b o. cond b (Some root) o) (unsigned_tied x 0) (get-empty nat_cmp x)

none_else : (x : ℕ) → x ≢ 0 → get (alone 0) x ≡ None
none_else x ne = row_alone x ∙ ap (λ b. cond b (Some root) None) (ne_eqb x 0 ne)

not_both : {A : Type 0} (o : Option A) (x : A) → o ≡ None → o ≡ Some x → ⊥
not_both o x none some = let e : None ≡ Some x = sym none ∙ some in cc

only_root : (x : ℕ) (r : Row) → get (alone 0) x ≡ Some r → x ≡ 0
only_root x r is = elim (cases_eq x 0) [ inl same ↦ same | inr ne ↦ absurd (not_both (get (alone 0) x) r (none_else x ne) is) ]

one_row : len (alone 0) ≡ 1
one_row = len-insert nat_cmp_total empty 0 root ∙ ap₂ (λ o n. cond (is_some o) n (n + 1)) (get-empty nat_cmp 0) (len-empty nat_cmp Row)

bare : (x : ℕ) (r : Row) → get (alone 0) x ≡ Some r → IsBareBody r.body
bare x r is =
    let told : Some root ≡ Some r = sym (row_alone 0) ∙ subst (λ z. get (alone 0) z ≡ Some r) (only_root x r is) is in
    let same : root ≡ r = cc in
    subst (λ (q : Row). IsBareBody q.body) same tt

plain : IsPlain (alone 0)
plain = record {
  tree = alone_tree 0;
  placed = λ s r ne is. absurd (ne (only_root s r is));
  named = λ s r ne is. absurd (ne (only_root s r is));
  bare = bare;
}

zero : (s : ℕ) → s < 1 → s ≡ 0
zero s less = omega arith

dense : IsDense (alone 0) 1
dense = record {
  below = λ s less none. not_both (get (alone 0) 0) root (subst (λ z. get (alone 0) z ≡ None) (zero s less) none) (row_alone 0);
  above = λ s more. none_else s (omega arith);
}

have : HaveInodes 32 (0 ∷ []) (alone 0)
have = record {
  listed = λ s r is. omega (arith, only_root s r is);
  there = λ s r is. subst (λ z. inode_in (0 ∷ []) z < 32) (sym (only_root s r is)) (omega arith);
  root = refl;
  high = λ s r ne is. absurd (ne (only_root s r is));
  apart = λ s u r q is at same. only_root s r is ∙ sym (only_root u q at);
  few = omega (arith, one_row);
}

-- ---- the front

pub of-requires-2-clause-plain : goal.of-requires-2-clause-plain
of-requires-2-clause-plain c = subst IsPlain (sym c.in_ok-tree.ensures) plain

pub of-requires-2-clause-have : goal.of-requires-2-clause-have
of-requires-2-clause-have c =
    let tree : Rows = c.in_ok-tree.tree in
    subst (λ n. HaveInodes n c.in_ok-inodes.inodes tree) (sym c.in_ok-geometry.ensures.inodes)
    (subst (λ l. HaveInodes 32 l tree) (sym c.in_ok-inodes.ensures) (subst (HaveInodes 32 (0 ∷ [])) (sym c.in_ok-tree.ensures) have))

pub of-requires-2-clause-dense : goal.of-requires-2-clause-dense
of-requires-2-clause-dense c =
    subst (λ l. IsDense c.in_ok-tree.tree (length l)) (sym c.in_ok-inodes.ensures) (subst (λ t. IsDense t 1) (sym c.in_ok-tree.ensures) dense)
