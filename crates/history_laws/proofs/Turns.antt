-- Which row an update makes or drops, and what the rows are after it.
use Rattle.std.proofs.Common.{◌≡◌, ◌⊎◌, inl, inr, ℕ, List, refl, sym, ap, subst, ◌∙◌}
use Rattle.std.specs.Prelude.{Bool, true, false, cond, ◌==◌}
use Rattle.std.specs.declared.option.Option.{Option}
use Rattle.std.specs.declared.option.Option.TheVariants.{None, Some}
use Rattle.std.specs.FinMap.{get}
use Rattle.std.proofs.lemmas.Bool.{ne_eqb, cases_eq}
use Rattle.ccfs_base.specs.Contents.{resized, written}
use Rattle.tree_model.specs.declared.rows.Row.{Row}
use Rattle.tree_model.specs.declared.rows.Update.{Update}
use Rattle.tree_model.specs.declared.rows.Update.TheVariants.{Make, Write, Resize, Remove, Move, Release}
use Rattle.tree_model.specs.Rows.{Rows, kind, kind_of, is_dir, IsDir, IsFile}
use Rattle.tree_model.specs.Updates.{Edit, change, Rework, Refill, Place, Count, edits, apply, left_of, new_body}
use Rattle.tree_model.proofs.Edited.{act, get_edited, kind_count, kind_refilled, kind_placed}
use Rattle.tree_cuts.specs.Calls.{Sizes}
use Rattle.history_model.specs.State.{Now, Opened, is_open_on}
use Rattle.history_model.specs.Histories.{makes}
use Rattle.history_laws.proofs.Sound.{Told}

-- which row an update makes or drops, if any
pub data Turn : Type 0 where
  Same : Turn
  Born : (id : ℕ) (is_dir : Bool) → Turn
  Dead : (id : ℕ) → Turn

abbrev pub leaves : ℕ → Bool → Turn
leaves id true = Same
leaves id false = Dead id

abbrev pub replaces : Option ℕ → Bool → Turn
replaces None stays = Same
replaces (Some x) stays = leaves x stays

abbrev pub turn_of : Update → Turn
turn_of (Make dir name id is_dir) = Born id is_dir
turn_of (Write id off bytes) = Same
turn_of (Resize id size) = Same
turn_of (Remove dir name id stays) = leaves id stays
turn_of (Move dir name to_dir to_name id is_dir replaced stays) = replaces replaced stays
turn_of (Release id) = Dead id

born_born : {x y : ℕ} {d k : Bool} → Born x d ≡ Born y k → x ≡ y
born_born e = cc

dead_dead : {x y : ℕ} → Dead x ≡ Dead y → x ≡ y
dead_dead e = cc

same_born : {x : ℕ} {d : Bool} → Same ≡ Born x d → ⊥
same_born e = cc

same_dead : {x : ℕ} → Same ≡ Dead x → ⊥
same_dead e = cc

dead_born : {x y : ℕ} {d : Bool} → Dead x ≡ Born y d → ⊥
dead_born e = cc

left_dead : (x z : ℕ) (b : Bool) → leaves x b ≡ Dead z → (b ≡ false) × (x ≡ z)
left_dead x z true e = absurd (same_dead e)
left_dead x z false e = (refl, dead_dead e)

left_born : (x z : ℕ) (b k : Bool) → leaves x b ≡ Born z k → ⊥
left_born x z true k e = same_born e
left_born x z false k e = dead_born e

-- ---- the kinds after an update
unfoldable pub turned : Turn → ℕ → Option Bool → Option Bool
turned Same x k = k
turned (Born id d) x k = cond (x == id) (Some d) k
turned (Dead id) x k = cond (x == id) None k

kind_act : (s x : ℕ) (e : Edit) (o : Option Row) → kind (change e o) ≡ kind o → kind (act s (x, e) o) ≡ kind o
kind_act s x e o p = elim (s == x) as (λ b. kind (cond b (change e o) o) ≡ kind o) [ true ↦ p | false ↦ refl ]

count_kind : (x d : ℕ) (o : Option Row) → kind (act x (d, Count) o) ≡ kind o
count_kind x d o = kind_act x d Count o (kind_count o)

place_kind : (x id d : ℕ) (n : List ℕ) (o : Option Row) → kind (act x (id, Place d n) o) ≡ kind o
place_kind x id d n o = kind_act x id (Place d n) o (kind_placed d n o)

fill_kind : (x id : ℕ) (f : List ℕ → List ℕ) (o : Option Row) → kind (act x (id, Refill f) o) ≡ kind o
fill_kind x id f o = kind_act x id (Refill f) o (kind_refilled f o)

left_kind : (x id : ℕ) (stays : Bool) (o : Option Row) → kind (act x (id, Rework (left_of stays)) o) ≡ turned (leaves id stays) x (kind o)
unfolding turned
left_kind x id true None = elim (x == id) as (λ z. kind (cond z (left_of true None) None) ≡ None) [ true ↦ refl | false ↦ refl ]
left_kind x id true (Some r) = elim (x == id) as (λ z. kind (cond z (left_of true (Some r)) (Some r)) ≡ kind (Some r)) [ true ↦ refl | false ↦ refl ]
left_kind x id false o = elim (x == id) as (λ z. kind (cond z None o) ≡ cond z None (kind o)) [ true ↦ refl | false ↦ refl ]

new_kind : (x id dir : ℕ) (name : List ℕ) (d : Bool) (o : Option Row)
    → kind (act x (id, Rework (λ q. Some (record { parent = Some dir; name = name; body = new_body d }))) o) ≡ cond (x == id) (Some d) (kind o)
new_kind x id dir name true o = elim (x == id) as (λ z. kind (cond z (Some (record { parent = Some dir; name = name; body = new_body true })) o) ≡ cond z (Some true) (kind o)) [ true ↦ refl | false ↦ refl ]
new_kind x id dir name false o = elim (x == id) as (λ z. kind (cond z (Some (record { parent = Some dir; name = name; body = new_body false })) o) ≡ cond z (Some false) (kind o)) [ true ↦ refl | false ↦ refl ]

pub kinds : (t : Rows) (u : Update) (x : ℕ) → kind_of (apply t u) x ≡ turned (turn_of u) x (kind_of t x)
unfolding turned
kinds t (Make dir name id d) x = ap kind (get_edited (edits (Make dir name id d)) t x) ∙ count_kind x dir _ ∙ new_kind x id dir name d (get t x)
kinds t (Write id off bytes) x = ap kind (get_edited (edits (Write id off bytes)) t x) ∙ fill_kind x id (written off bytes) (get t x)
kinds t (Resize id size) x = ap kind (get_edited (edits (Resize id size)) t x) ∙ fill_kind x id (resized size) (get t x)
kinds t (Remove dir name id stays) x = ap kind (get_edited (edits (Remove dir name id stays)) t x) ∙ count_kind x dir _ ∙ left_kind x id stays (get t x)
kinds t (Move dir name to_dir to_name id d None stays) x =
    ap kind (get_edited (edits (Move dir name to_dir to_name id d None stays)) t x) ∙ count_kind x to_dir _ ∙ count_kind x dir _ ∙ place_kind x id to_dir to_name (get t x)
kinds t (Move dir name to_dir to_name id d (Some y) stays) x =
    ap kind (get_edited (edits (Move dir name to_dir to_name id d (Some y) stays)) t x) ∙ count_kind x to_dir _ ∙ count_kind x dir _ ∙ place_kind x id to_dir to_name _
    ∙ left_kind x y stays (get t x)
kinds t (Release id) x = ap kind (get_edited (edits (Release id)) t x) ∙ left_kind x id false (get t x)

-- a file that isn't made or dropped stays one
pub file_stays : (t : Rows) (u : Update) (y : ℕ) → IsFile t y → ((d : Bool) → turn_of u ≡ Born y d → ⊥) → (turn_of u ≡ Dead y → ⊥) → IsFile (apply t u) y
unfolding turned
file_stays t u y f nm nd = by (turn_of u) refl (kinds t u y)
  where
    by : (w : Turn) → turn_of u ≡ w → kind_of (apply t u) y ≡ turned w y (kind_of t y) → IsFile (apply t u) y
    by Same e k = k ∙ f
    by (Born x d) e k = elim (cases_eq y x) [
      | inl p ↦ absurd (nm d (e ∙ ap (λ z. Born z d) (sym p)))
      | inr p ↦ k ∙ ap (λ b. cond b (Some d) (kind_of t y)) (ne_eqb y x p) ∙ f
    ]
    by (Dead x) e k = elim (cases_eq y x) [
      | inl p ↦ absurd (nd (e ∙ ap (λ z. Dead z) (sym p)))
      | inr p ↦ k ∙ ap (λ b. cond b None (kind_of t y)) (ne_eqb y x p) ∙ f
    ]

no_kind : (o : Option Row) → kind o ≡ None → o ≡ None
no_kind None e = refl
no_kind (Some r) e = absurd (let z : ◌≡◌ {A = Option Bool} (Some (is_dir r.body)) None = e in cc)

-- a serial without a row, that isn't the new row's, stays without
pub none_stays : (t : Rows) (u : Update) (y : ℕ) → get t y ≡ None → ((d : Bool) → turn_of u ≡ Born y d → ⊥) → get (apply t u) y ≡ None
unfolding turned
none_stays t u y f nm = no_kind (get (apply t u) y) (by (turn_of u) refl (kinds t u y))
  where
    by : (w : Turn) → turn_of u ≡ w → kind_of (apply t u) y ≡ turned w y (kind_of t y) → kind_of (apply t u) y ≡ None
    by Same e k = k ∙ ap kind f
    by (Born x d) e k = elim (cases_eq y x) [
      | inl p ↦ absurd (nm d (e ∙ ap (λ z. Born z d) (sym p)))
      | inr p ↦ k ∙ ap (λ b. cond b (Some d) (kind_of t y)) (ne_eqb y x p) ∙ ap kind f
    ]
    by (Dead x) e k = k ∙ ap (λ o. cond (y == x) None o) (ap kind f) ∙ elim (y == x) as (λ b. ◌≡◌ {A = Option Bool} (cond b None None) None) [ true ↦ refl | false ↦ refl ]

-- ---- of an update that was accepted
module _ (sizes : Sizes) (n : Now) (s : ℕ) (hs : List Opened) where
  -- a row that it makes has the next serial
  pub told_born : (u : Update) (x : ℕ) (d : Bool) → Told sizes n s hs u → turn_of u ≡ Born x d → (x ≡ n.next) × (makes u ≡ 1)
  told_born (Make dir name id k) x d h e = (sym (born_born e) ∙ h.1, refl)
  told_born (Write id off bytes) x d h e = absurd (same_born e)
  told_born (Resize id size) x d h e = absurd (same_born e)
  told_born (Remove dir name id stays) x d h e = absurd (left_born id x stays d e)
  told_born (Move dir name to_dir to_name id k None stays) x d h e = absurd (same_born e)
  told_born (Move dir name to_dir to_name id k (Some y) stays) x d h e = absurd (left_born y x stays d e)
  told_born (Release id) x d h e = absurd (dead_born e)

  left_shut : (y x : ℕ) (stays : Bool) → stays ≡ is_open_on hs y → leaves y stays ≡ Dead x → is_open_on hs x ≡ false
  left_shut y x stays p e = let w = left_dead y x stays e in subst (λ z. is_open_on hs z ≡ false) w.1 (sym p ∙ w.0)

  -- one that it drops is a directory, or no handle is open on it
  pub told_dead : (u : Update) (x : ℕ) → Told sizes n s hs u → turn_of u ≡ Dead x → (is_open_on hs x ≡ false) ⊎ IsDir n.tree x
  told_dead (Make dir name id k) x h e = absurd (dead_born (sym e))
  told_dead (Write id off bytes) x h e = absurd (same_dead e)
  told_dead (Resize id size) x h e = absurd (same_dead e)
  told_dead (Remove dir name id stays) x h e = elim h.1 [
    | inl p ↦ inl (left_shut id x stays p e)
    | inr d ↦ inr (subst (IsDir n.tree) (left_dead id x stays e).1 d)
  ]
  told_dead (Move dir name to_dir to_name id k None stays) x h e = absurd (same_dead e)
  told_dead (Move dir name to_dir to_name id k (Some y) stays) x h e = inl (left_shut y x stays h.1 e)
  told_dead (Release id) x h e = inl (subst (λ z. is_open_on hs z ≡ false) (dead_dead e) h.1)
