-- Answers whose update, if there is one, has a property; and what rows walks and handles reach.
use Rattle.std.proofs.Common.{◌≡◌, ◌≢◌, ℕ, List, [], ◌∷◌, refl, sym, ap, subst, ◌∙◌}
use Rattle.std.specs.Prelude.{Bool, true, false, cond, not, ◌==◌, is_none, is_some, length}
use Rattle.std.specs.List.{AllByRecursion}
use Rattle.std.specs.declared.option.Option.{Option}
use Rattle.std.specs.declared.option.Option.TheVariants.{None, Some}
use Rattle.std.specs.declared.result.Result.{Result}
use Rattle.std.specs.declared.result.Result.TheVariants.{Ok, Err}
use Rattle.std.specs.FinMap.{get}
use Rattle.std.proofs.lemmas.Bool.{eq-eqb}
use Rattle.ccfs_base.specs.declared.replies.Refusal.{Refusal}
use Rattle.ccfs_base.specs.declared.replies.Refusal.TheVariants.{NotDir}
use Rattle.tree_model.specs.declared.rows.Row.{Row}
use Rattle.tree_model.specs.declared.rows.Update.{Update}
use Rattle.tree_model.specs.Rows.{Rows, place, kind, kind_of, is_dir, is_kind, IsTree, IsDir, IsFile, IsEntry}
use Rattle.tree_model.specs.Entries.{entry}
use Rattle.tree_model.specs.Walk.{found, from_there, walk, only_dir}
use Rattle.tree_model.proofs.Found.{entry_stands}
use Rattle.tree_cuts.specs.Calls.{Sizes}
use Rattle.history_model.specs.State.{Opened, is_handle, file_in}
use Rattle.history_model.specs.Answers.{Answer, does, refuses, from_row, at_handle, at_place, given_handle}

-- an answer whose update, if there is one, has the property
abbrev pub Good : (Update → Type 0) → Answer → Type 0
Good P a = (u : Update) → a.1 ≡ Some u → P u

none_some : {u : Update} → None ≡ Some u → ⊥
none_some e = cc

some_some : {u v : Update} → Some u ≡ Some v → u ≡ v
some_some e = cc

-- an answer without an update
pub quiet : (P : Update → Type 0) (u : Update) → None ≡ Some u → P u
quiet P u e = absurd (none_some e)

pub good_does : (P : Update → Type 0) (v : Update) → P v → Good P (does v)
good_does P v f u e = subst P (some_some e) f

pub good_cond : (P : Update → Type 0) (x : Bool) (a b : Answer) → (x ≡ true → Good P a) → (x ≡ false → Good P b) → Good P (cond x a b)
good_cond P true a b f g = f refl
good_cond P false a b f g = g refl

-- what goes on behind a check that didn't refuse
pub good_refuses : (P : Update → Type 0) (x : Bool) (cause : Refusal) (a : Answer) → (x ≡ false → Good P a) → Good P (refuses x cause a)
good_refuses P x cause a g = good_cond P x _ a (λ p. quiet P) g

pub good_row : (P : Update → Type 0) (w : Result ℕ Refusal) (f : ℕ → Answer) → ((x : ℕ) → w ≡ Ok x → Good P (f x)) → Good P (from_row w f)
good_row P (Ok x) f g u e = g x refl u e
good_row P (Err cause) f g u e = absurd (none_some e)

pub good_place : (P : Update → Type 0) (o : Option (ℕ × List ℕ)) (f : ℕ → List ℕ → Answer) → ((d : ℕ) (n : List ℕ) → o ≡ Some (d, n) → Good P (f d n)) → Good P (at_place o f)
good_place P None f g u e = absurd (none_some e)
good_place P (Some p) f g u e = g p.0 p.1 refl u e

pub good_handle : (P : Update → Type 0) (o : Option ℕ) (f : ℕ → Answer) → ((x : ℕ) → o ≡ Some x → Good P (f x)) → Good P (at_handle o f)
good_handle P None f g u e = absurd (none_some e)
good_handle P (Some x) f g u e = g x refl u e

pub good_given : (sizes : Sizes) (P : Update → Type 0) (o : Option ℕ) → Good P (given_handle sizes o)
good_given sizes P None u e = absurd (none_some e)
good_given sizes P (Some h) u e = absurd (none_some e)

-- ---- rows that walks and handles reach
abbrev pub IsRow : Rows → ℕ → Type 0
IsRow t x = kind_of t x ≢ None

pub placed_row : (t : Rows) (x d : ℕ) (n : List ℕ) → IsEntry t d n x → IsRow t x
placed_row t x d n e = by (get t x) e
  where
    by : (o : Option Row) → place o ≡ Some (d, n) → kind o ≢ None
    by None p q = absurd (cc)
    by (Some r) p q = let z : ◌≡◌ {A = Option Bool} (Some (is_dir r.body)) None = q in cc

pub some_row : (t : Rows) (x : ℕ) (k : Bool) → kind_of t x ≡ Some k → IsRow t x
some_row t x k e z = let w : ◌≡◌ {A = Option Bool} (Some k) None = sym e ∙ z in cc

ok_ok : {x y : ℕ} → ◌≡◌ {A = Result ℕ Refusal} (Ok x) (Ok y) → x ≡ y
ok_ok e = cc

err_ok : {x : ℕ} {cause : Refusal} → ◌≡◌ {A = Result ℕ Refusal} (Err cause) (Ok x) → ⊥
err_ok e = cc

pub walk_row : (t : Rows) (names : List (List ℕ)) (x y : ℕ) → IsRow t x → walk t names x ≡ Ok y → IsRow t y
walk_row t [] x y r e = subst (IsRow t) (ok_ok e) r
walk_row t (n ∷ names) x y r e = by (is_kind (kind_of t x) true) (entry t x n) refl (λ z. walk_row t names z y) e
  where
    on : (o : Option ℕ) → entry t x n ≡ o → ((z : ℕ) → IsRow t z → walk t names z ≡ Ok y → IsRow t y) → from_there (walk t names) (found o) ≡ Ok y → IsRow t y
    on None p f q = absurd (err_ok q)
    on (Some z) p f q = f z (placed_row t z x n (entry_stands t x n z p)) q

    by : (k : Bool) (o : Option ℕ) → entry t x n ≡ o → ((z : ℕ) → IsRow t z → walk t names z ≡ Ok y → IsRow t y)
        → from_there (walk t names) (cond k (found o) (Err NotDir)) ≡ Ok y → IsRow t y
    by true o p f q = on o p f q
    by false o p f q = absurd (err_ok q)

pub root_row : (t : Rows) → IsTree t → IsRow t 0
root_row t tree = some_row t 0 true (ap kind tree.root.1)

pub file_from : (o : Option Bool) → o ≢ None → is_kind o true ≡ false → o ≡ Some false
file_from None r e = absurd (r refl)
file_from (Some true) r e = absurd (cc)
file_from (Some false) r e = refl

pub dir_from : (o : Option Bool) → is_kind o true ≡ true → o ≡ Some true
dir_from None e = absurd (cc)
dir_from (Some true) e = refl
dir_from (Some false) e = absurd (cc)

pub kind_same : (o : Option Bool) → o ≢ None → o ≡ Some (is_kind o true)
kind_same None r = absurd (r refl)
kind_same (Some true) r = refl
kind_same (Some false) r = refl

pub just_file : (o : Option Bool) → is_kind o false ≡ true → o ≡ Some false
just_file None e = absurd (cc)
just_file (Some true) e = absurd (cc)
just_file (Some false) e = refl

pub not_both : (t : Rows) (x : ℕ) → IsFile t x → kind_of t x ≡ Some true → ⊥
not_both t x f d = let z : ◌≡◌ {A = Option Bool} (Some false) (Some true) = sym f ∙ d in cc

pub no_some : {A : Type 0} (o : Option A) → is_some o ≡ false → o ≡ None
no_some None e = refl
no_some (Some x) e = absurd (cc)

pub is_nothing : {A : Type 0} (o : Option A) → is_none o ≡ true → o ≡ None
is_nothing None e = refl
is_nothing (Some x) e = absurd (cc)

pub not_false : (b : Bool) → not b ≡ false → b ≡ true
not_false true e = refl
not_false false e = absurd (cc)

pub not_true : (b : Bool) → not b ≡ true → b ≡ false
not_true true e = absurd (cc)
not_true false e = refl

pub not_nil : (bytes : List ℕ) → (length bytes == 0) ≡ false → bytes ≢ []
not_nil bytes e z = let bad : true ≡ false = sym (eq-eqb (length bytes) 0 (ap length z)) ∙ e in cc

pub handle_file : (t : Rows) (hs : List Opened) (a h x : ℕ) → AllByRecursion (λ o. IsFile t o.file) hs → file_in hs a h ≡ Some x → IsFile t x
handle_file t [] a h x f e = absurd (cc)
handle_file t (o ∷ os) a h x f e = by (is_handle a h o) (handle_file t os a h x f.1) e
  where
    by : (b : Bool) → (file_in os a h ≡ Some x → IsFile t x) → cond b (Some o.file) (file_in os a h) ≡ Some x → IsFile t x
    by true g p = subst (IsFile t) (let z : o.file ≡ x = cc in z) f.0
    by false g p = g p

pub parent_dir : (t : Rows) (w : Result ℕ Refusal) (d : ℕ) → from_there (only_dir t) w ≡ Ok d → IsDir t d
parent_dir t (Err cause) d e = absurd (err_ok e)
parent_dir t (Ok x) d e = by (is_kind (kind_of t x) true) refl e
  where
    by : (k : Bool) → is_kind (kind_of t x) true ≡ k → cond k (Ok x) (Err NotDir) ≡ Ok d → IsDir t d
    by true p q = subst (IsDir t) (ok_ok q) (dir_from (kind_of t x) p)
    by false p q = absurd (err_ok q)
