-- The records of a call's update may be logged behind its seals.
use Rattle.std.proofs.Common.{◌≡◌, ℕ, suc, ◌%◌, ◌<◌, ◌≤◌, List, [], ◌∷◌, ◌++◌, drop, refl, sym, ap, subst, ◌∙◌}
use Rattle.std.specs.Prelude.{true, Option, None, Some}
use Rattle.std.specs.List.{AllByRecursion}
use Rattle.std.proofs.lemmas.Bool.{and_parts, leb-true, eqb-true}
use Rattle.block_layout.specs.Sizes.{good_inodes}
use Rattle.stream_cuts.proofs.Forcing.{without_all}
use Rattle.tree_model.specs.declared.rows.Update.{Update}
use Rattle.tree_model.specs.declared.rows.Update.TheVariants.{Make, Write, Resize, Remove, Move, Release}
use Rattle.tree_model.specs.declared.rows.Entry.{Entry}
use Rattle.tree_model.specs.Rows.{Rows}
use Rattle.tree_model.specs.Updates.{Fits}
use Rattle.tree_cuts.specs.Calls.{Sizes, Charge, Charged, charge}
use Rattle.history_model.specs.State.{Now, stream_in}
use Rattle.history_model.specs.Histories.{start, entered_by, now_after, IsLegal}
use Rattle.history_model.proofs.Longer.{now_more}
use Rattle.history_laws.proofs.Sound.{handles_left}
use Rattle.history_laws.proofs.Kept.{told_fits}
use Rattle.history_laws.proofs.Runs.{told_next}
use Rattle.front_laws.specs.Inodes.{HasLowest, HasLowestIf, AllHaveLowest}
use Rattle.front_laws.specs.Kept.{IsTame, IsKept, is_answered, now_of}
use Rattle.front_laws.specs.Laws.{UpdatesMayBeLogged}
use Rattle.front_laws.proofs.Owning.{HasFree}
use Rattle.front_laws.proofs.Steps.{HasSteps, MayEnterIf, added, has_steps, left_unsealed, all_behind, owned_behind}
use Rattle.front_laws.proofs.Going.{IsGoing, low_stream, going_next}
use Rattle.front_laws.proofs.KeptNow.{going_start}
use Rattle.front_laws.proofs.Logged.{DontDisturb, undisturbing_may_log}
use Rattle.front_laws.proofs.Quiet.{HasThere, IsFine, good_now, entering_is_quiet}

-- ---- a new row

lowest_there : (count : ℕ) (inodes : List ℕ) (t : Rows) (l : List (ℕ × Charged)) (u : Update) → HasLowest count inodes t l u → HasThere count inodes u
lowest_there count inodes t l (Make dir name id d) h = h.1.there
lowest_there count inodes t l (Write id off bytes) h = tt
lowest_there count inodes t l (Resize id len) h = tt
lowest_there count inodes t l (Remove dir name id stays) h = tt
lowest_there count inodes t l (Move dir name to_dir to_name id d r stays) h = tt
lowest_there count inodes t l (Release id) h = tt

-- an update gives up no inode where it makes a row: so what is free behind it was free before
lowest_free : (count : ℕ) (inodes : List ℕ) (t : Rows) (l : List (ℕ × Charged)) (s : ℕ) (u : Update) (cost : Charge) → HasLowest count inodes t ((s, (u, cost)) ∷ l) u
    → HasFree inodes t l u
lowest_free count inodes t l s (Make dir name id d) cost h = record { no_row = h.1.free.no_row; not_given = h.1.free.not_given }
lowest_free count inodes t l s (Write id off bytes) cost h = tt
lowest_free count inodes t l s (Resize id len) cost h = tt
lowest_free count inodes t l s (Remove dir name id stays) cost h = tt
lowest_free count inodes t l s (Move dir name to_dir to_name id d r stays) cost h = tt
lowest_free count inodes t l s (Release id) cost h = tt

-- ---- one call

abbrev AllFine : Sizes → List ℕ → List (ℕ × Charged) → Type 0
AllFine sizes inodes l = AllByRecursion (IsFine sizes.inodes inodes) l

module _ (sizes : Sizes) (inodes : List ℕ) (calls : ℕ) (n : Now) (e : Entry) (h : List Entry) (g : IsGoing sizes inodes calls n) (legal : IsLegal sizes n (e ∷ h)) where
  update_fits : (u : Update) → e.update ≡ Some u → Fits n.tree u
  update_fits u is = told_fits sizes n (stream_in n.choices e.actor) (handles_left n e.actor e.command) u (told_next sizes n e h g.sound legal u is)

  has : HasSteps sizes n e
  has = has_steps sizes n e g.owned.numbered

  -- what is unsealed behind its seals
  abbrev behind : List (ℕ × Charged)
  behind = without_all has.rs n.unsealed

  fine_now : (u : Update) → e.update ≡ Some u → IsTame (Some u) → HasLowest sizes.inodes inodes n.tree ((e.stream, (u, charge n.tree u)) ∷ behind) u
      → IsFine sizes.inodes inodes (e.stream, (u, charge n.tree u))
  fine_now u is tame low =
      (tame.0, good_now sizes.inodes inodes n.tree u g.plain.tree g.have (update_fits u is) tame.0 tame.1 (lowest_there sizes.inodes inodes n.tree _ u low))

  left : (entered_by sizes n e).unsealed ≡ added n.tree e.stream e.update behind
  left = left_unsealed sizes n e has

  fine_added : (o : Option Update) → e.update ≡ o → IsTame o → HasLowestIf sizes.inodes inodes n.tree (added n.tree e.stream o behind) o → AllFine sizes inodes behind
      → AllFine sizes inodes (added n.tree e.stream o behind)
  fine_added None is tame low f = f
  fine_added (Some u) is tame low f = (fine_now u is tame low, f)

  fine_next : IsTame e.update → HasLowestIf sizes.inodes inodes n.tree (entered_by sizes n e).unsealed e.update → AllFine sizes inodes n.unsealed
      → AllFine sizes inodes (entered_by sizes n e).unsealed
  fine_next tame low f = subst (AllFine sizes inodes) (sym left)
      (fine_added e.update refl tame (subst (λ l. HasLowestIf sizes.inodes inodes n.tree l e.update) left low) (all_behind (IsFine sizes.inodes inodes) has.rs n.unsealed f))

  -- its update disturbs no other
  quiet : IsTame e.update → HasLowestIf sizes.inodes inodes n.tree (entered_by sizes n e).unsealed e.update → AllFine sizes inodes n.unsealed
      → (u : Update) → e.update ≡ Some u → DontDisturb sizes.inodes inodes e.stream u behind
  quiet tame low f u is =
      let tame_u : IsTame (Some u) = subst IsTame is tame in
      let low_u : HasLowest sizes.inodes inodes n.tree ((e.stream, (u, charge n.tree u)) ∷ behind) u
      = subst (λ o. HasLowestIf sizes.inodes inodes n.tree (added n.tree e.stream o behind) o) is (subst (λ l. HasLowestIf sizes.inodes inodes n.tree l e.update) left low) in
      entering_is_quiet sizes.inodes inodes n.tree behind e.stream u (charge n.tree u) g.plain.tree g.have (owned_behind inodes n.tree has.rs n.unsealed g.owned)
      (subst (λ o. MayEnterIf n.tree e.stream o behind) is has.may) (update_fits u is) (fine_now u is tame_u low_u)
      (lowest_free sizes.inodes inodes n.tree behind e.stream u (charge n.tree u) low_u) (all_behind (IsFine sizes.inodes inodes) has.rs n.unsealed f)

-- ---- along a history

-- what is known of the state before the last call
record IsReached (sizes : Sizes) (inodes : List ℕ) (n : Now) (e : Entry) : Type 0 where
  pub calls : ℕ
  pub going : IsGoing sizes inodes calls n
  pub fine : AllFine sizes inodes n.unsealed
  pub legal : IsLegal sizes n (e ∷ [])
  pub tame : IsTame e.update
  pub low : HasLowestIf sizes.inodes inodes n.tree (entered_by sizes n e).unsealed e.update

reached : (sizes : Sizes) (inodes : List ℕ) (calls : ℕ) (n : Now) (h : List Entry) (e : Entry) → IsGoing sizes inodes calls n → AllFine sizes inodes n.unsealed
    → IsLegal sizes n (h ++ e ∷ []) → AllByRecursion (λ f. is_answered f.command ≡ true) (h ++ e ∷ []) → AllByRecursion (λ f. IsTame f.update) (h ++ e ∷ [])
    → AllHaveLowest sizes inodes n (h ++ e ∷ []) → IsReached sizes inodes (now_after sizes n h) e
reached sizes inodes calls n [] e g fine legal answered tame low = record { calls = calls; going = g; fine = fine; legal = legal; tame = tame.0; low = low.0 }
reached sizes inodes calls n (f ∷ h) e g fine legal answered tame low =
    reached sizes inodes (suc calls) (entered_by sizes n f) h e (going_next sizes inodes calls n f (h ++ e ∷ []) g legal answered.0 tame.0 low.0)
    (fine_next sizes inodes calls n f (h ++ e ∷ []) g legal tame.0 low.0 fine) legal.2 answered.1 tame.1 low.1

-- ---- the law

stepped : (blocks count : ℕ) → good_inodes blocks count ≡ true → (count % 32 ≡ 0) × (count ≤ 8192)
stepped blocks count good =
    let parts = and_parts _ _ good in
    let bounds = and_parts _ _ (and_parts _ _ parts.0).0 in
    (eqb-true (count % 32) 0 (and_parts _ _ parts.0).1, leb-true count 8192 bounds.1)

pub updates_may_be_logged : UpdatesMayBeLogged
updates_may_be_logged sizes blocks t inodes h e u cost rest a kept is same good room logs =
    let n : Now = now_of sizes t h in
    let r : IsReached sizes inodes n e = reached sizes inodes 0 (start t) h e (going_from kept) tt kept.legal kept.answered kept.tame kept.lowest in
    let size = stepped blocks sizes.inodes good in
    let l : List (ℕ × Charged) = behind sizes inodes r.calls n e [] r.going r.legal in
    let whole : (e.stream, (u, cost)) ∷ rest ≡ (e.stream, (u, charge n.tree u)) ∷ l
    = sym same ∙ ap (λ (z : Now). z.unsealed) (now_more sizes (start t) h e) ∙ left sizes inodes r.calls n e [] r.going r.legal ∙ ap (λ o. added n.tree e.stream o l) is in
    undisturbing_may_log sizes.inodes inodes e.stream u rest a size.0 size.1 (small r) room logs
    (subst (DontDisturb sizes.inodes inodes e.stream u) (sym (ap (drop 1) whole)) (quiet sizes inodes r.calls n e [] r.going r.legal r.tame r.low r.fine u is))
  where
    going_from : IsKept sizes t inodes (h ++ e ∷ []) → IsGoing sizes inodes 0 (start t)
    going_from k = going_start sizes t inodes (h ++ e ∷ []) k

    small : IsReached sizes inodes (now_of sizes t h) e → e.stream < 64
    small r = subst (λ z. z < 64) (sym (ap (λ z. z.stream) r.legal.0)) (low_stream (now_of sizes t h).choices e.actor r.going.sound.streams)
