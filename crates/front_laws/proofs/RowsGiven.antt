-- The rows that unsealed updates of a kept history gave up are those that they drop.
use Rattle.std.proofs.Common.{◌≡◌, ℕ, ◌-◌, List, [], ◌∷◌, length, refl, ap, subst, arith, eqb}
use Rattle.std.specs.Prelude.{true, false, not, Option, None, Some}
use Rattle.std.specs.List.{AllByRecursion}
use Rattle.std.specs.FinMap.{get, len}
use Rattle.std.proofs.lemmas.List.{length-append, length-map}
use Rattle.stream_cuts.specs.Streams.{Step, Enter, Seal, entered, keep_if, without, unsealed_after}
use Rattle.tree_model.specs.declared.rows.Row.{Row}
use Rattle.tree_model.specs.declared.rows.Entry.{Entry}
use Rattle.tree_model.specs.declared.rows.Update.{Update}
use Rattle.tree_model.specs.declared.rows.Update.TheVariants.{Make, Write, Resize, Remove, Move, Release}
use Rattle.tree_model.specs.Rows.{Rows, place, IsEntry}
use Rattle.tree_model.specs.Updates.{Fits, apply}
use Rattle.tree_model.proofs.Live.{part, one_each, len_total, total_apply}
use Rattle.tree_cuts.specs.Calls.{Sizes, Charged, unsealed_rows}
use Rattle.history_model.specs.State.{Now, stream_in}
use Rattle.history_model.specs.Histories.{entered_by, now_after, steps_by, IsLegal}
use Rattle.history_laws.proofs.Sound.{IsSound, handles_left}
use Rattle.history_laws.proofs.Kept.{told_fits}
use Rattle.history_laws.proofs.Runs.{sound_next, told_next}
use Rattle.image_model.specs.Carrying.{inode_in}
use Rattle.update_records.specs.Built.{is_built}
use Rattle.front_laws.specs.Inodes.{dropped, given_by, given}
use Rattle.front_laws.proofs.Entering.{IfUpdate, entry_enters}

-- ---- what holds of all that enters holds of what is unsealed

module _ {U : Type 0} (Q : (ℕ × U) → Type 0) where
  pub all_without : (s : ℕ) (h : List (ℕ × U)) → AllByRecursion Q h → AllByRecursion Q (without s h)
  all_without s [] a = tt
  all_without s (e ∷ h) a = let rest = all_without s h a.1 in
      elim (eqb e.0 s) as (λ b. AllByRecursion Q (keep_if (not b) e (without s h))) [ true ↦ rest | false ↦ (a.0, rest) ]

  all_unsealed : (h : List (ℕ × U)) (l : List (Step U)) → AllByRecursion Q h → AllByRecursion Q (entered l) → AllByRecursion Q (unsealed_after h l)
  all_unsealed h [] a b = a
  all_unsealed h (Enter s u ∷ l) a b = all_unsealed ((s, u) ∷ h) l (b.0, a) b.1
  all_unsealed h (Seal s ∷ l) a b = all_unsealed (without s h) l (all_without s h a) b

-- ---- one update

-- a row that stands somewhere counts for one
there : (t : Rows) (x d : ℕ) (name : List ℕ) → IsEntry t d name x → part one_each (get t x) ≡ 1
there t x d name e = by (get t x) e
  where
    by : (o : Option Row) → place o ≡ Some (d, name) → part one_each o ≡ 1
    by None p = absurd (let z : ◌≡◌ {A = Option (ℕ × List ℕ)} None (Some (d, name)) = p in cc)
    by (Some r) p = refl

-- it gives up so many rows as it drops
gave : (t : Rows) (u : Update) → Fits t u → is_built u ≡ true → len t - len (apply t u) ≡ length (dropped u)
gave t (Make dir name id is_dir) fits built =
    let u : Update = Make dir name id is_dir in
    let a = total_apply one_each (λ b. refl) t u in
    let p = len_total (apply t u) in
    let q = len_total t in
    let none = ap (part one_each) fits.2 in omega (arith, a, p, q, none)
gave t (Write id off bytes) fits built = absurd (cc)
gave t (Resize id size) fits built = absurd (cc)
gave t (Remove dir name id true) fits built = absurd (cc)
gave t (Remove dir name id false) fits built =
    let u : Update = Remove dir name id false in
    let a = total_apply one_each (λ b. refl) t u in
    let p = len_total (apply t u) in
    let q = len_total t in
    let one = there t id dir name fits.0 in omega (arith, a, p, q, one)
gave t (Move dir name to_dir to_name id is_dir replaced true) fits built = absurd (cc)
gave t (Move dir name to_dir to_name id is_dir None false) fits built =
    let u : Update = Move dir name to_dir to_name id is_dir None false in
    let a = total_apply one_each (λ b. refl) t u in
    let p = len_total (apply t u) in
    let q = len_total t in omega (arith, a, p, q)
gave t (Move dir name to_dir to_name id is_dir (Some x) false) fits built =
    let u : Update = Move dir name to_dir to_name id is_dir (Some x) false in
    let a = total_apply one_each (λ b. refl) t u in
    let p = len_total (apply t u) in
    let q = len_total t in
    let one = there t x to_dir to_name fits.4.0 in omega (arith, a, p, q, one)
gave t (Release id) fits built = absurd (cc)

-- ---- those that are unsealed

-- an update is charged the rows that it drops
abbrev pub IsCounted : ℕ × Charged → Type 0
IsCounted e = e.1.1.gave_rows ≡ length (dropped e.1.0)

pub counted_given : (inodes : List ℕ) (h : List (ℕ × Charged)) → AllByRecursion IsCounted h → length (given inodes h) ≡ unsealed_rows h
counted_given inodes [] a = refl
counted_given inodes (e ∷ h) a =
    let x = length-append (given_by inodes e.1.0) (given inodes h) in
    let y = length-map (dropped e.1.0) (inode_in inodes) in
    let z = counted_given inodes h a.1 in
    let w = a.0 in omega (arith, x, y, z, w)

module _ (sizes : Sizes) where
  entry_counted : (n : Now) (e : Entry) (h : List Entry) → IsSound n → IsLegal sizes n (e ∷ h) → IfUpdate (λ u. is_built u ≡ true) e.update
      → AllByRecursion IsCounted (entered (steps_by sizes n e))
  entry_counted n e h sound legal built = entry_enters sizes IsCounted n e.actor e.stream e.command e.reply e.update (λ u is.
      gave n.tree u (told_fits sizes n (stream_in n.choices e.actor) (handles_left n e.actor e.command) u (told_next sizes n e h sound legal u is))
      (subst (IfUpdate (λ v. is_built v ≡ true)) is built))

  pub all_counted : (n : Now) (h : List Entry) → IsSound n → IsLegal sizes n h → AllByRecursion (λ e. IfUpdate (λ u. is_built u ≡ true) e.update) h
      → AllByRecursion IsCounted n.unsealed → AllByRecursion IsCounted (now_after sizes n h).unsealed
  all_counted n [] sound legal built a = a
  all_counted n (e ∷ h) sound legal built a =
      all_counted (entered_by sizes n e) h (sound_next sizes n e h sound legal) legal.2 built.1
      (all_unsealed IsCounted n.unsealed (steps_by sizes n e) a (entry_counted n e h sound legal built.0))
