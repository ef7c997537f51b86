-- The entries of a map are found in it, and the files of a plain tree take no blocks.
use Rattle.std.proofs.Common.{◌≡◌, ℕ, ◌+◌, Bool, true, false, cond, List, [], ◌∷◌, length, refl, sym, ap, ◌∙◌, subst, arith}
use Rattle.std.specs.Prelude.{T}
use Rattle.std.specs.List.{fold}
use Rattle.std.specs.declared.cmp.Ordering.{Ordering}
use Rattle.std.specs.declared.cmp.Ordering.TheVariants.{Less, Equal, Greater}
use Rattle.std.specs.declared.option.Option.TheVariants.{Some}
use Rattle.std.specs.Ordering.{nat_cmp, eq_by_cmp, is_lt, is_eq}
use Rattle.std.specs.Cmp.{nat_cmp_total, eq_by_cmp_equiv, unsigned_tied}
use Rattle.std.specs.FinMap.{get, find, entries, entries_sorted, is_sorted, get-entries}
use Rattle.std.specs.FinMap.Entries.{below_all}
use Rattle.std.proofs.lemmas.Bool.{and_parts, eq-eqb}
use Rattle.ccfs_base.specs.Limits.{blocks}
use Rattle.tree_model.specs.declared.rows.Body.{Body}
use Rattle.tree_model.specs.declared.rows.Body.TheVariants.{Dir, File}
use Rattle.tree_model.specs.declared.rows.Row.{Row}
use Rattle.tree_model.specs.Rows.{Rows}
use Rattle.tree_model.specs.Weights.{body_bytes, live}
use Rattle.carried_volumes.specs.Plain.{IsBareBody, IsPlain}

-- P holds of each entry
abbrev EachEntry : {K X : Type 0} → (K × X → Type 0) → List (K × X) → Type 0
EachEntry P [] = Unit {0}
EachEntry P (e ∷ es) = P e × EachEntry P es

entry_weaker : {K X : Type 0} (P Q : K × X → Type 0) → ((e : K × X) → P e → Q e) → (es : List (K × X)) → EachEntry P es → EachEntry Q es
entry_weaker P Q w [] h = tt
entry_weaker P Q w (e ∷ es) h = (w e h.0, entry_weaker P Q w es h.1)

-- ---- each entry of a map is found
less_apart : (o : Ordering) → is_lt o ≡ true → is_eq o ≡ false
less_apart Less p = refl
less_apart Equal p = absurd (subst T (sym p) tt)
less_apart Greater p = absurd (subst T (sym p) tt)

above_apart : (x y : ℕ) → is_lt (nat_cmp x y) ≡ true → eq_by_cmp nat_cmp y x ≡ false
above_apart x y p = (eq_by_cmp_equiv nat_cmp_total).symm y x ∙ less_apart (nat_cmp x y) p

found_later : (e : ℕ × Row) (all es : List (ℕ × Row)) → below_all nat_cmp e.0 es ≡ true → EachEntry (λ f. find nat_cmp f.0 all ≡ Some f.1) es → EachEntry (λ f. find nat_cmp f.0 (e ∷ all) ≡ Some f.1) es
found_later e all [] b h = tt
found_later e all (f ∷ fs) b h =
    let parts = and_parts _ _ b in
    (ap (λ c. cond c (Some e.1) (find nat_cmp f.0 all)) (above_apart e.0 f.0 parts.0) ∙ h.0, found_later e all fs parts.1 h.1)

each_found : (es : List (ℕ × Row)) → is_sorted nat_cmp es ≡ true → EachEntry (λ f. find nat_cmp f.0 es ≡ Some f.1) es
each_found [] s = tt
each_found (e ∷ es) s =
    let parts = and_parts _ _ s in
    (ap (λ c. cond c (Some e.1) (find nat_cmp e.0 es)) (unsigned_tied e.0 e.0 ∙ eq-eqb e.0 e.0 refl), found_later e es es parts.0 (each_found es parts.1))

is_true : (b : Bool) → T b → b ≡ true
is_true true t = refl
is_true false t = absurd t

rows_found : (t : Rows) → EachEntry (λ f. get t f.0 ≡ Some f.1) (entries t)
rows_found t = entry_weaker (λ f. find nat_cmp f.0 (entries t) ≡ Some f.1) (λ f. get t f.0 ≡ Some f.1) (λ f p. get-entries t f.0 ∙ p) (entries t) (each_found (entries t) (is_true _ (entries_sorted t)))

-- ---- blocks

no_blocks : (b : Body) → IsBareBody b → blocks (length (body_bytes b)) ≡ 0
no_blocks (Dir changes) is = refl
no_blocks (File bytes) is = ap (λ (z : List ℕ). blocks (length z)) is

none_summed : (t : Rows) → IsPlain t → (es : List (ℕ × Row)) → EachEntry (λ (f : ℕ × Row). get t f.0 ≡ Some f.1) es → (a : ℕ)
    → fold (λ (m : ℕ) (e : ℕ × Row). m + blocks (length (body_bytes e.1.body))) a es ≡ a
none_summed t plain [] found a = refl
none_summed t plain (e ∷ es) found a =
    let none : blocks (length (body_bytes e.1.body)) ≡ 0 = no_blocks e.1.body (plain.bare e.0 e.1 found.0) in
    none_summed t plain es found.1 (a + blocks (length (body_bytes e.1.body))) ∙ omega (arith, none)

-- the files of a plain tree take no blocks
pub live_none : (t : Rows) → IsPlain t → live t ≡ 0
live_none t plain = none_summed t plain (entries t) (rows_found t) 0
