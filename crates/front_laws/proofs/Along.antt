-- The steps of a history, whose new rows have the lowest inodes that are free, are ruled.
use Rattle.std.proofs.Common.{◌≡◌, ◌≢◌, inl, inr, ℕ, List, [], ◌∷◌, ◌++◌, refl, sym, ap, subst, ◌∙◌}
use Rattle.std.specs.Prelude.{Bool, true, false, ◌||◌, ◌==◌, map}
use Rattle.std.specs.List.{AllByRecursion, filter}
use Rattle.std.specs.declared.option.Option.{Option}
use Rattle.std.specs.declared.option.Option.TheVariants.{None, Some}
use Rattle.std.proofs.lemmas.Bool.{eq-eqb}
use Rattle.stream_cuts.specs.Streams.{Enter, Seal, entered, without, unsealed_after, MayEnter, IsGuarded}
use Rattle.stream_cuts.specs.States.{after}
use Rattle.stream_cuts.specs.Forced.{streams, Numbered, is_open, sealed_before}
use Rattle.stream_cuts.proofs.Forcing.{entering_guarded, numbered_after}
use Rattle.ccfs_base.specs.declared.commands.Command.{Command}
use Rattle.ccfs_base.specs.declared.commands.Command.TheVariants as command
use Rattle.ccfs_base.specs.declared.replies.Reply.{Reply}
use Rattle.tree_model.specs.declared.rows.Update.{Update}
use Rattle.tree_model.specs.declared.rows.Update.TheVariants.{Make, Write, Resize, Remove, Move, Release}
use Rattle.tree_model.specs.declared.rows.Entry.{Entry}
use Rattle.tree_model.specs.Rows.{Rows}
use Rattle.tree_cuts.specs.Calls.{Sizes, Charged, Charge, Call, Accepted, SyncStream, SyncFile, SyncAll, Other, charge, charged_meets, changers, seals_own, tree_after, call_steps}
use Rattle.tree_cuts.specs.Runs.{MayHappen}
use Rattle.tree_cuts.proofs.Plain.{ChargedMeet}
use Rattle.tree_cuts.proofs.Guarded.{entry_of, call_enters}
use Rattle.history_model.specs.State.{Now, ignores_in, file_in, stream_in}
use Rattle.history_model.specs.Histories.{IsLegal, file_call, sync_call, call_by, tree_by, steps_by, entered_by, charged_in}
use Rattle.history_model.proofs.Longer.{tree_of_call}
use Rattle.history_laws.proofs.Sound.{IsSound}
use Rattle.history_laws.proofs.Runs.{sound_next, calls_run}
use Rattle.history_laws.proofs.Turns.{Dead, leaves}
use Rattle.image_model.specs.Carrying.{inode_in}
use Rattle.update_records.specs.Batches.{HasItsInode}
use Rattle.front_laws.specs.Inodes.{left_out, given_by, given, has, HasLowest, HasLowestIf, AllHaveLowest}
use Rattle.front_laws.specs.Kept.{IsTame}
use Rattle.front_laws.specs.Owned.{Among}
use Rattle.front_laws.proofs.Rows.{Drops, dead_dead, born_born, same_dead, same_born, born_dead, left_born}
use Rattle.front_laws.proofs.Swapping.{AppliesIn, apply_in}
use Rattle.front_laws.proofs.Held.{IsUnheld}
use Rattle.front_laws.proofs.Ruled.{IsRuled, ruled_append}

-- ---- inodes that were given up

has_first : (i : ℕ) (a b : List ℕ) → has i a ≡ true → has i (a ++ b) ≡ true
has_first i [] b e = absurd (let z : false ≡ true = e in cc)
has_first i (j ∷ a) b e = elim (j == i) as (λ z. (z || has i a) ≡ true → (z || has i (a ++ b)) ≡ true) [ true ↦ λ p. refl | false ↦ λ p. has_first i a b p ] e

has_then : (i : ℕ) (a b : List ℕ) → has i b ≡ true → has i (a ++ b) ≡ true
has_then i [] b e = e
has_then i (j ∷ a) b e = elim (j == i) as (λ z. (z || has i (a ++ b)) ≡ true) [ true ↦ refl | false ↦ has_then i a b e ]

module _ (inodes : List ℕ) where
  left_has : (id x : ℕ) (stays : Bool) → leaves id stays ≡ Dead x → has (inode_in inodes x) (map (inode_in inodes) (left_out id stays)) ≡ true
  left_has id x true e = absurd (same_dead e)
  left_has id x false e = ap (λ b. b || false) (eq-eqb (inode_in inodes id) (inode_in inodes x) (ap (inode_in inodes) (dead_dead e)))

  given_has : (u : Update) (x : ℕ) → Drops u x → has (inode_in inodes x) (given_by inodes u) ≡ true
  given_has (Make dir name id d) x e = absurd (born_dead e)
  given_has (Write id off bytes) x e = absurd (same_dead e)
  given_has (Resize id len) x e = absurd (same_dead e)
  given_has (Remove dir name id stays) x e = left_has id x stays e
  given_has (Move dir name to_dir to_name id d None stays) x e = absurd (same_dead e)
  given_has (Move dir name to_dir to_name id d (Some y) stays) x e = left_has y x stays e
  given_has (Release id) x e = left_has id x false e

  given_among : (h : List (ℕ × Charged)) (e : ℕ × Charged) (x : ℕ) → Among e h → Drops e.1.0 x → has (inode_in inodes x) (given inodes h) ≡ true
  given_among [] e x i d = absurd i
  given_among (f ∷ h) e x (inl p) d =
      has_first (inode_in inodes x) (given_by inodes f.1.0) (given inodes h) (given_has f.1.0 x (subst (λ (g : ℕ × Charged). Drops g.1.0 x) (sym p) d))
  given_among (f ∷ h) e x (inr i) d = has_then (inode_in inodes x) (given_by inodes f.1.0) (given inodes h) (given_among h e x i d)

  unheld : (h : List (ℕ × Charged)) (id : ℕ) → has (inode_in inodes id) (given inodes h) ≡ false → (i : ℕ) → id ≡ i → (e : ℕ × Charged) → Among e h → (x : ℕ) → Drops e.1.0 x
      → inode_in inodes x ≢ inode_in inodes i
  unheld h id free i is e a x d same =
      let there : has (inode_in inodes x) (given inodes h) ≡ true = given_among h e x a d in
      let at : has (inode_in inodes x) (given inodes h) ≡ false = ap (λ (z : ℕ). has z (given inodes h)) (same ∙ ap (inode_in inodes) (sym is)) ∙ free in
      let bad : true ≡ false = sym there ∙ at in cc

  -- the lowest free inode is one that a new row may have, and that no unsealed update gave up
  lowest_gives : (count : ℕ) (t : Rows) (s : ℕ) (c : Charge) (h : List (ℕ × Charged)) (u : Update) → HasLowest count inodes t ((s, (u, c)) ∷ h) u
      → HasItsInode count inodes t u × IsUnheld inodes h u
  lowest_gives count t s c h (Make dir name id d) low =
      ((low.0, low.1.high, low.1.there, low.1.free.no_row), λ i k e a x z. unheld h id low.1.free.not_given i (born_born k.1) e a x z)
  lowest_gives count t s c h (Write id off bytes) low = (tt, λ i k. absurd (same_born k.1))
  lowest_gives count t s c h (Resize id len) low = (tt, λ i k. absurd (same_born k.1))
  lowest_gives count t s c h (Remove dir name id stays) low = (tt, λ i k. absurd (left_born id i k.0 stays k.1))
  lowest_gives count t s c h (Move dir name to_dir to_name id d None stays) low = (tt, λ i k. absurd (same_born k.1))
  lowest_gives count t s c h (Move dir name to_dir to_name id d (Some y) stays) low = (tt, λ i k. absurd (left_born y i k.0 stays k.1))
  lowest_gives count t s c h (Release id) low = (tt, λ i k. absurd (born_dead (sym k.1)))

-- ---- one entry

ruled_seals : (count : ℕ) (inodes : List ℕ) (t : Rows) (h : List (ℕ × Charged)) (rs : List ℕ) → IsRuled count inodes t h (map Seal rs)
ruled_seals count inodes t h [] = tt
ruled_seals count inodes t h (r ∷ rs) = ruled_seals count inodes t (without r h) rs

ruled_enter : (count : ℕ) (inodes : List ℕ) (t : Rows) (h : List (ℕ × Charged)) (rs : List ℕ) (s : ℕ) (u : Charged) → AppliesIn count inodes t u
    → MayEnter ChargedMeet s u (unsealed_after h (map Seal rs)) → IsUnheld inodes (unsealed_after h (map Seal rs)) u.0 → IsRuled count inodes t h (map Seal rs ++ Enter s u ∷ [])
ruled_enter count inodes t h [] s u a m n = (a, m, n, tt)
ruled_enter count inodes t h (r ∷ rs) s u a m n = ruled_enter count inodes t (without r h) rs s u a m n

may_of : (h : List (ℕ × Charged)) (rs : List ℕ) (s : ℕ) (u : Charged) → IsGuarded ChargedMeet h (map Seal rs ++ Enter s u ∷ []) → MayEnter ChargedMeet s u (unsealed_after h (map Seal rs))
may_of h [] s u g = g.0
may_of h (r ∷ rs) s u g = may_of (without r h) rs s u g

left_entry : (h : List (ℕ × Charged)) (rs : List ℕ) (s : ℕ) (u : Charged) → unsealed_after h (map Seal rs ++ Enter s u ∷ []) ≡ (s, u) ∷ unsealed_after h (map Seal rs)
left_entry h [] s u = refl
left_entry h (r ∷ rs) s u = left_entry (without r h) rs s u

entry_numbered : (t : Rows) (call : Call) → MayHappen t call → Numbered (entry_of t call)
entry_numbered t (Accepted s u) r = (r.0, tt)
entry_numbered t (SyncStream s) r = tt
entry_numbered t (SyncFile x) r = tt
entry_numbered t SyncAll r = tt
entry_numbered t Other r = tt

entry_tree : (t : Rows) (call : Call) → after apply_in t (entry_of t call) ≡ tree_after t call
entry_tree t (Accepted s u) = refl
entry_tree t (SyncStream s) = refl
entry_tree t (SyncFile x) = refl
entry_tree t SyncAll = refl
entry_tree t Other = refl

module _ (sizes : Sizes) (inodes : List ℕ) where
  accepted_ruled : (t : Rows) (h : List (ℕ × Charged)) (s : ℕ) (u : Update) → MayHappen t (Accepted s u) → Numbered h → IsTame (Some u)
      → HasLowest sizes.inodes inodes t (unsealed_after h (call_steps sizes t h (Accepted s u))) u
      → IsRuled sizes.inodes inodes t h (call_steps sizes t h (Accepted s u))
  accepted_ruled t h s u may num tame low =
      let c : Charged = (u, charge t u) in
      let own : Bool = seals_own sizes t h s u in
      let rs : List ℕ = sealed_before charged_meets s c own h in
      let behind : List (ℕ × Charged) = unsealed_after h (map Seal rs) in
      let gives = lowest_gives inodes sizes.inodes t s (charge t u) behind u (subst (λ (z : List (ℕ × Charged)). HasLowest sizes.inodes inodes t z u) (left_entry h rs s c) low) in
      ruled_enter sizes.inodes inodes t h rs s c (may.1, gives.0, tame.0, tame.1) (may_of h rs s c (entering_guarded charged_meets s c own h num)) gives.1

  file_ruled : (t : Rows) (h : List (ℕ × Charged)) (b : Bool) (o : Option ℕ) → IsRuled sizes.inodes inodes t h (call_steps sizes t h (file_call b o))
  file_ruled t h true o = tt
  file_ruled t h false None = tt
  file_ruled t h false (Some x) = ruled_seals sizes.inodes inodes t h (filter (is_open h) (changers x h))

  sync_ruled : (t : Rows) (h : List (ℕ × Charged)) (n : Now) (actor : ℕ) (c : Command) → IsRuled sizes.inodes inodes t h (call_steps sizes t h (sync_call n actor c))
  sync_ruled t h n actor command.StreamSync = ruled_seals sizes.inodes inodes t h (filter (is_open h) (stream_in n.choices actor ∷ []))
  sync_ruled t h n actor (command.Fsync handle) = file_ruled t h (ignores_in n.choices actor) (file_in n.handles actor handle)
  sync_ruled t h n actor command.Sync = ruled_seals sizes.inodes inodes t h (filter (is_open h) streams)
  sync_ruled t h n actor c = tt

  parts_ruled : (n : Now) (actor stream : ℕ) (c : Command) (r : Reply) (o : Option Update)
      → MayHappen n.tree (call_by n (record { actor = actor; stream = stream; command = c; reply = r; update = o })) → Numbered n.unsealed → IsTame o
      → HasLowestIf sizes.inodes inodes n.tree (entered_by sizes n (record { actor = actor; stream = stream; command = c; reply = r; update = o })).unsealed o
      → IsRuled sizes.inodes inodes n.tree n.unsealed (steps_by sizes n (record { actor = actor; stream = stream; command = c; reply = r; update = o }))
  parts_ruled n actor stream c r None may num tame low = sync_ruled n.tree n.unsealed n actor c
  parts_ruled n actor stream c r (Some u) may num tame low = accepted_ruled n.tree n.unsealed stream u may num tame low

  entry_ruled : (n : Now) (e : Entry) → MayHappen n.tree (call_by n e) → Numbered n.unsealed → IsTame e.update
      → HasLowestIf sizes.inodes inodes n.tree (entered_by sizes n e).unsealed e.update → IsRuled sizes.inodes inodes n.tree n.unsealed (steps_by sizes n e)
  entry_ruled n e may num tame low = parts_ruled n e.actor e.stream e.command e.reply e.update may num tame low

  tree_left : (n : Now) (e : Entry) → after apply_in n.tree (entered (steps_by sizes n e)) ≡ tree_by n.tree e.update
  tree_left n e = ap (after apply_in n.tree) (call_enters sizes n.tree n.unsealed (call_by n e)) ∙ entry_tree n.tree (call_by n e) ∙ tree_of_call n e

  pub ruled_along : (n : Now) (h : List Entry) → IsSound n → IsLegal sizes n h → AllByRecursion (λ e. IsTame e.update) h → AllHaveLowest sizes inodes n h → Numbered n.unsealed
      → IsRuled sizes.inodes inodes n.tree n.unsealed (charged_in sizes n h)
  ruled_along n [] sound legal tame low num = tt
  ruled_along n (e ∷ h) sound legal tame low num =
      let m : Now = entered_by sizes n e in
      let run = calls_run sizes n (e ∷ h) sound legal in
      let next : Numbered m.unsealed = numbered_after n.unsealed (steps_by sizes n e) num
      (subst Numbered (sym (call_enters sizes n.tree n.unsealed (call_by n e))) (entry_numbered n.tree (call_by n e) run.0)) in
      ruled_append sizes.inodes inodes n.tree n.unsealed (steps_by sizes n e) (charged_in sizes m h) (entry_ruled n e run.0 num tame.0 low.0)
      (subst (λ (t : Rows). IsRuled sizes.inodes inodes t m.unsealed (charged_in sizes m h)) (sym (tree_left n e))
      (ruled_along m h (sound_next sizes n e h sound legal) legal.2 tame.1 low.1 next))
