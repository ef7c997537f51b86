-- The names of rows that walks along paths lead to.
use Rattle.std.proofs.Common.{◌≡◌, ◌≢◌, ℕ, List, [], ◌∷◌, refl, sym, subst, ◌∙◌}
use Rattle.std.specs.Prelude.{Bool, true, false, cond, ◌&&◌, IsTrue}
use Rattle.std.specs.List.{list_all}
use Rattle.std.specs.declared.option.Option.{Option}
use Rattle.std.specs.declared.option.Option.TheVariants.{None, Some}
use Rattle.std.specs.declared.result.Result.{Result}
use Rattle.std.specs.declared.result.Result.TheVariants.{Ok, Err}
use Rattle.std.proofs.lemmas.Option.{some_pair_parts}
use Rattle.ccfs_base.specs.Names.{is_name, is_path}
use Rattle.ccfs_base.specs.declared.replies.Refusal.{Refusal}
use Rattle.ccfs_base.specs.declared.replies.Refusal.TheVariants.{NotDir}
use Rattle.tree_model.specs.Rows.{Rows, kind_of, is_kind, place_of, IsEntry}
use Rattle.tree_model.specs.Entries.{entry}
use Rattle.tree_model.specs.Walk.{found, from_there, step, walk, last_of}
use Rattle.tree_model.proofs.Found.{entry_stands}
use Rattle.history_model.specs.Answers.{is_root}

ok_ok : {x y : ℕ} → ◌≡◌ {A = Result ℕ Refusal} (Ok x) (Ok y) → x ≡ y
ok_ok e = cc

err_ok : {x : ℕ} {cause : Refusal} → ◌≡◌ {A = Result ℕ Refusal} (Err cause) (Ok x) → ⊥
err_ok e = cc

-- ---- the last name of a path
last_named : (ns : List (List ℕ)) → ns ≢ [] → list_all is_name ns ≡ true → is_name (last_of ns) ≡ true
last_named [] ne all = absurd (ne refl)
last_named (n ∷ []) ne all = both (is_name n) true all
  where
    both : (a b : Bool) → a && b ≡ true → a ≡ true
    both true b is = refl
    both false b is = is
last_named (n ∷ m ∷ ns) ne all = last_named (m ∷ ns) (λ is. cc) (rest (is_name n) (list_all is_name (m ∷ ns)) all)
  where
    rest : (a b : Bool) → a && b ≡ true → b ≡ true
    rest true b is = is
    rest false b is = absurd (cc is)

pub path_last_named : (path : List (List ℕ)) → path ≢ [] → IsTrue (is_path path) → is_name (last_of path) ≡ true
path_last_named path ne is = last_named path ne (first (list_all is_name path) _ is)
  where
    first : (a b : Bool) → IsTrue (a && b) → a ≡ true
    first true b is = refl
    first false b is = absurd (cc is)

pub not_root : (path : List (List ℕ)) → is_root path ≡ false → path ≢ []
not_root [] e z = cc
not_root (n ∷ ns) e z = cc

-- ---- a walk along names ends at an entry of the last
first_step : (t : Rows) (x : ℕ) (m : List ℕ) (f : ℕ → Result ℕ Refusal) (y : ℕ) → from_there f (step t x m) ≡ Ok y → (z : ℕ) × (IsEntry t x m z × (f z ≡ Ok y))
first_step t x m f y e = by (is_kind (kind_of t x) true) (entry t x m) refl e
  where
    by : (k : Bool) (o : Option ℕ) → entry t x m ≡ o → from_there f (cond k (found o) (Err NotDir)) ≡ Ok y → (z : ℕ) × (IsEntry t x m z × (f z ≡ Ok y))
    by true (Some z) p q = (z, (entry_stands t x m z p, q))
    by true None p q = absurd (err_ok q)
    by false o p q = absurd (err_ok q)

walk_last : (t : Rows) (m : List ℕ) (names : List (List ℕ)) (x y : ℕ) → walk t (m ∷ names) x ≡ Ok y → (d : ℕ) × IsEntry t d (last_of (m ∷ names)) y
walk_last t m [] x y e = let r = first_step t x m (walk t []) y e in (x, subst (IsEntry t x m) (ok_ok r.1.1) r.1.0)
walk_last t m (k ∷ ks) x y e = let r = first_step t x m (walk t (k ∷ ks)) y e in walk_last t k ks r.0 y r.1.1

-- the name of the row that a path leads to is a name
pub place_named : (t : Rows) (path : List (List ℕ)) → path ≢ [] → IsTrue (is_path path) → (x d : ℕ) (name : List ℕ) → walk t path 0 ≡ Ok x → place_of t x ≡ Some (d, name) → is_name name ≡ true
place_named t [] ne is x d name w e = absurd (ne refl)
place_named t (m ∷ ms) ne is x d name w e =
    let r = walk_last t m ms 0 x w in
    let q = some_pair_parts r.0 d (last_of (m ∷ ms)) name (sym r.1 ∙ e) in
    subst (λ (z : List ℕ). is_name z ≡ true) q.1 (path_last_named (m ∷ ms) ne is)
