-- Each update of a kept history names serials that have inodes.
use Rattle.std.proofs.Common.{◌≡◌, ◌≢◌, ℕ, ◌+◌, ◌<◌, ◌≤◌, List, [], ◌∷◌, length, refl, sym, ap, subst, ◌∙◌, arith, inl, inr}
use Rattle.std.specs.Prelude.{Bool, true}
use Rattle.std.specs.List.{AllByRecursion}
use Rattle.std.proofs.lemmas.Bool.{cases_lt}
use Rattle.std.specs.declared.option.Option.{Option}
use Rattle.std.specs.declared.option.Option.TheVariants.{None, Some}
use Rattle.std.specs.FinMap.{get}
use Rattle.stream_cuts.specs.Streams.{entered}
use Rattle.tree_model.specs.declared.rows.Entry.{Entry}
use Rattle.tree_model.specs.declared.rows.Update.{Update}
use Rattle.tree_model.specs.declared.rows.Update.TheVariants.{Make, Write, Resize, Remove, Move, Release}
use Rattle.tree_model.specs.Rows.{Rows, kind, place, kind_of, IsEntry}
use Rattle.tree_cuts.specs.Calls.{Sizes}
use Rattle.history_model.specs.State.{Now, Opened, stream_in}
use Rattle.history_model.specs.Histories.{start, makes, made_by, entered_by, now_after, charged_in, IsLegal}
use Rattle.history_laws.proofs.Sound.{IsSound, Told, handles_left}
use Rattle.history_laws.proofs.Runs.{sound_start, sound_next, told_next}
use Rattle.update_records.specs.Built.{IsAtMostBelow, AreSerialsBelow}
use Rattle.front_laws.specs.Kept.{IsKept}
use Rattle.front_laws.proofs.Entering.{IfUpdate, Holds, all_entered}

-- ---- more serials

at_most_more : (n m : ℕ) (o : Option ℕ) → n ≤ m → IsAtMostBelow n o → IsAtMostBelow m o
at_most_more n m None le b = tt
at_most_more n m (Some x) le b = omega arith

serials_more : (n m : ℕ) (u : Update) → n ≤ m → AreSerialsBelow n u → AreSerialsBelow m u
serials_more n m (Make dir name id is_dir) le b = let p = b.0 in let q = b.1 in (omega arith, omega arith)
serials_more n m (Write id off bytes) le b = tt
serials_more n m (Resize id len) le b = tt
serials_more n m (Remove dir name id stays) le b = let p = b.0 in let q = b.1 in (omega arith, omega arith)
serials_more n m (Move dir name to_dir to_name id is_dir replaced stays) le b =
    let p = b.0 in let q = b.1 in let r = b.2 in (omega arith, omega arith, omega arith, at_most_more n m replaced le b.3)
serials_more n m (Release id) le b = tt

if_more : (n m : ℕ) (o : Option Update) → n ≤ m → IfUpdate (AreSerialsBelow n) o → IfUpdate (AreSerialsBelow m) o
if_more n m None le b = tt
if_more n m (Some u) le b = serials_more n m u le b

-- ---- one update

module _ (sizes : Sizes) (n : Now) (s : ℕ) (hs : List Opened) (sound : IsSound n) where
  row_below : (x : ℕ) → get n.tree x ≢ None → x < n.next
  row_below x there = elim (cases_lt x n.next) [ inl lt ↦ lt | inr le ↦ absurd (there (sound.new x le)) ]

  kind_below : (x : ℕ) (b : Bool) → kind_of n.tree x ≡ Some b → x < n.next
  kind_below x b e = row_below x (λ z. let w : ◌≡◌ {A = Option Bool} None (Some b) = sym (ap kind z) ∙ e in cc)

  entry_below : (x d : ℕ) (name : List ℕ) → IsEntry n.tree d name x → x < n.next
  entry_below x d name e = row_below x (λ z. let w : ◌≡◌ {A = Option (ℕ × List ℕ)} None (Some (d, name)) = sym (ap place z) ∙ e in cc)

  told_below : (u : Update) → Told sizes n s hs u → AreSerialsBelow (n.next + makes u) u
  told_below (Make dir name id is_dir) told = let p = kind_below dir true told.0.0 in let q = told.1 in (omega arith, omega arith)
  told_below (Write id off bytes) told = tt
  told_below (Resize id len) told = tt
  told_below (Remove dir name id stays) told =
      let p = entry_below id dir name told.0.0 in
      let q = kind_below dir true (sound.tree.parents id dir name told.0.0) in (omega arith, omega arith)
  told_below (Move dir name to_dir to_name id is_dir None stays) told =
      let p = entry_below id dir name told.0.0 in
      let q = kind_below dir true (sound.tree.parents id dir name told.0.0) in
      let r = kind_below to_dir true told.0.2 in (omega arith, omega arith, omega arith, tt)
  told_below (Move dir name to_dir to_name id is_dir (Some y) stays) told =
      let p = entry_below id dir name told.0.0 in
      let q = kind_below dir true (sound.tree.parents id dir name told.0.0) in
      let r = kind_below to_dir true told.0.2 in
      let z = entry_below y to_dir to_name told.0.4.0 in (omega arith, omega arith, omega arith, omega arith)
  told_below (Release id) told = tt

-- ---- a history

module _ (sizes : Sizes) where
  next_grows : (n : Now) (h : List Entry) → n.next ≤ (now_after sizes n h).next
  next_grows n [] = omega arith
  next_grows n (e ∷ h) = let ih = next_grows (entered_by sizes n e) h in omega arith

  entry_below_next : (n : Now) (e : Entry) (h : List Entry) → IsSound n → IsLegal sizes n (e ∷ h) → IfUpdate (AreSerialsBelow (n.next + made_by e.update)) e.update
  entry_below_next n e h sound legal = by e.update refl
    where
      by : (o : Option Update) → e.update ≡ o → IfUpdate (AreSerialsBelow (n.next + made_by o)) o
      by None is = tt
      by (Some u) is = told_below sizes n (stream_in n.choices e.actor) (handles_left n e.actor e.command) sound u (told_next sizes n e h sound legal u is)

  all_below : (n : Now) (h : List Entry) → IsSound n → IsLegal sizes n h → AllByRecursion (λ e. IfUpdate (AreSerialsBelow (now_after sizes n h).next) e.update) h
  all_below n [] sound legal = tt
  all_below n (e ∷ h) sound legal = (
    if_more (n.next + made_by e.update) (now_after sizes (entered_by sizes n e) h).next e.update (next_grows (entered_by sizes n e) h) (entry_below_next n e h sound legal),
    all_below (entered_by sizes n e) h (sound_next sizes n e h sound legal) legal.2,
  )

pub serials_below : (sizes : Sizes) (t : Rows) (inodes : List ℕ) (h : List Entry) → IsKept sizes t inodes h
    → AllByRecursion (Holds (AreSerialsBelow (length inodes))) (entered (charged_in sizes (start t) h))
serials_below sizes t inodes h kept =
    subst (λ z. AllByRecursion (Holds (AreSerialsBelow z)) (entered (charged_in sizes (start t) h))) (sym kept.listed)
    (all_entered sizes (AreSerialsBelow (now_after sizes (start t) h).next) (start t) h (all_below sizes (start t) h (sound_start t kept.plain.tree) kept.legal))
