-- What is recorded of a history stays true with one call more.
use Rattle.std.proofs.Common.{◌≡◌, ℕ, suc, ◌+◌, ◌^◌, ◌≤◌, ◌<◌, List, [], ◌∷◌, ◌++◌, map, length, refl, sym, ap, subst, ◌∙◌, arith, append_assoc}
use Rattle.std.specs.Prelude.{Bool, true, false, cond, IsTrue}
use Rattle.std.specs.List.{AllByRecursion}
use Rattle.std.specs.declared.option.Option.{Option}
use Rattle.std.specs.declared.option.Option.TheVariants.{None, Some}
use Rattle.std.specs.Ordering.{nat_cmp, eq_by_cmp}
use Rattle.std.specs.Cmp.{nat_cmp_total}
use Rattle.std.specs.FinMap.{get, insert, empty, entries, get-insert, get-empty, entries-insert, len-entries, len-empty}
use Rattle.std.proofs.lemmas.List.{append-nil}
use Rattle.std.proofs.lemmas.Bool.{and_parts, ltb-true}
use Rattle.stream_cuts.specs.Streams as streams
use Rattle.stream_cuts.specs.Cuts.{kept, cut_at}
use Rattle.stream_cuts.specs.States.{AllApply}
use Rattle.ccfs_base.specs.Limits.{file_max}
use Rattle.ccfs_base.specs.declared.commands.Command.{Command}
use Rattle.tree_model.specs.declared.rows.Body.TheVariants.{Dir}
use Rattle.tree_model.specs.declared.rows.Row.{Row}
use Rattle.tree_model.specs.declared.rows.Update.{Update}
use Rattle.tree_model.specs.declared.rows.Entry.{Entry}
use Rattle.tree_model.specs.Rows.{Rows, IsTree, alone}
use Rattle.tree_model.specs.Updates.{apply}
use Rattle.tree_model.specs.Tests.{applies}
use Rattle.tree_model.specs.Laws.{Applies}
use Rattle.tree_model.specs.Weights.{row_bytes}
use Rattle.tree_model.proofs.Index.{no_entries}
use Rattle.tree_model.proofs.Fitting.{applies_fits}
use Rattle.tree_cuts.specs.Calls.{Sizes, Charged, Accepted, plain, charged_steps}
use Rattle.tree_cuts.proofs.Plain.{plain_append}
use Rattle.tree_cuts.proofs.Laws.{cuts_are_trees}
use Rattle.history_model.specs.State.{Now}
use Rattle.history_model.specs.Histories.{start, top_serial, now_after, entered_by, entry_of, MayCall, IsLegal, call_by, sync_call, calls_by, steps_by, steps_in}
use Rattle.history_model.proofs.Longer.{now_more, steps_append, steps_next, steps_of_calls}
use Rattle.history_laws.proofs.Sound.{IsSound, Told}
use Rattle.history_laws.proofs.Runs.{sound_start, sound_after, told_next, accepted_updates_apply}
use Rattle.history_laws.proofs.Kept.{told_fits}
use Rattle.history_laws.proofs.Sized.{files_stay_within_their_limit}
use Rattle.plain_model.specs.declared.cutting.Step.{Step}
use Rattle.plain_model.specs.declared.cutting.Step.TheVariants.{Enter, Seal}
use Rattle.plain_model.specs.Bounds.{FilesFit, applies_if}
use Rattle.plain_model.specs.Steps.{steps_of}
use Rattle.plain_model.specs.Recorded.{may_call, entered_step, IsRecorded}

-- ---- steps one behind the other
pub steps_joined : (a b : List Step) → steps_of (a ++ b) ≡ steps_of a ++ steps_of b
steps_joined [] b = refl
steps_joined (Enter s u ∷ a) b = ap (λ z. streams.Enter s u ∷ z) (steps_joined a b)
steps_joined (Seal s ∷ a) b = ap (λ z. streams.Seal s ∷ z) (steps_joined a b)

pub seal_pushed : (a : List Step) (s : ℕ) (more : List (streams.Step Update)) → steps_of (a ++ Seal s ∷ []) ++ more ≡ steps_of a ++ streams.Seal s ∷ more
seal_pushed a s more = ap (λ z. z ++ more) (steps_joined a (Seal s ∷ [])) ∙ append_assoc (steps_of a) (streams.Seal s ∷ []) more

-- ---- a call's steps without what they were charged
pub plain_seals : (l : List ℕ) → plain (map streams.Seal l) ≡ map streams.Seal l
plain_seals [] = refl
plain_seals (s ∷ l) = ap (λ z. streams.Seal s ∷ z) (plain_seals l)

pub plain_entered_last : (l : List ℕ) (s : ℕ) (x : Charged) → plain (map streams.Seal l ++ streams.Enter s x ∷ []) ≡ map streams.Seal l ++ streams.Enter s x.0 ∷ []
plain_entered_last l s x = plain_append (map streams.Seal l) (streams.Enter s x ∷ []) ∙ ap (λ z. z ++ streams.Enter s x.0 ∷ []) (plain_seals l)

pub call_some : (n : Now) (e : Entry) (u : Update) → e.update ≡ Some u → call_by n e ≡ Accepted e.stream u
call_some n e u is = ap (λ o. call_by n (record e { update = o })) is

pub call_none : (n : Now) (e : Entry) → e.update ≡ None → call_by n e ≡ sync_call n e.actor e.command
call_none n e is = ap (λ o. call_by n (record e { update = o })) is

-- ---- no calls on the root alone
abbrev root_row : Row
root_row = record { parent = None; name = []; body = Dir 0 }

alone_fits_at : (x : ℕ) (b : Bool) (o : Option Row) → o ≡ None → length (row_bytes (cond b (Some root_row) o)) ≤ file_max
alone_fits_at x true o is = (let none : length (row_bytes (Some root_row)) ≡ 0 = refl in omega (arith, none))
alone_fits_at x false o is = subst (λ z. length (row_bytes z) ≤ file_max) (sym is) (let none : length (row_bytes None) ≡ 0 = refl in omega (arith, none))

pub alone_fits : FilesFit (alone 0)
alone_fits x = subst (λ o. length (row_bytes o) ≤ file_max) (sym (get-insert nat_cmp_total empty 0 root_row x)) (alone_fits_at x (eq_by_cmp nat_cmp x 0) (get empty x) (get-empty nat_cmp x))

alone_entries : entries (alone 0) ≡ (0, root_row) ∷ []
alone_entries = entries-insert nat_cmp_total empty 0 root_row ∙ ap (λ es. Rattle.std.specs.FinMap.put nat_cmp 0 root_row es) (no_entries (entries empty) (sym (len-entries empty) ∙ len-empty nat_cmp Row))

pub alone_next : suc (top_serial (entries (alone 0))) ≡ 1
alone_next = ap (λ es. suc (top_serial es)) alone_entries

pub recorded_none : (sizes : Sizes) (t : Rows) (n : Now) (k : ℕ) → IsTree t → FilesFit t → k ≡ suc (top_serial (entries t))
    → n ≡ (record { tree = t; choices = []; handles = []; unsealed = []; next = k; seals = 0 }) → IsRecorded sizes t n [] []
recorded_none sizes t n k tree files next left = record {
  tree = tree;
  files = files;
  legal = tt;
  left = left ∙ ap (λ m. record { tree = t; choices = []; handles = []; unsealed = []; next = m; seals = 0 }) next;
  told = refl;
}

-- ---- one call more
pub legal_more : (sizes : Sizes) (n : Now) (h : List Entry) (a : ℕ) (c : Command) → IsLegal sizes n h → MayCall a c → IsLegal sizes n (h ++ entry_of sizes (now_after sizes n h) a c ∷ [])
legal_more sizes n [] a c l may = (refl, may, tt)
legal_more sizes n (e ∷ h) a c l may = (l.0, l.1, legal_more sizes (entered_by sizes n e) h a c l.2 may)

-- a legal history, and what is known of the state that it left
module _ (sizes : Sizes) (t : Rows) (n : Now) (h : List Entry) (steps : List Step) (r : IsRecorded sizes t n h steps) where
  pub files_now : FilesFit n.tree
  files_now = subst (λ z. FilesFit z.tree) (sym r.left) (files_stay_within_their_limit sizes t h r.tree r.files r.legal)

  sound_now : IsSound (now_after sizes (start t) h)
  sound_now = sound_after sizes (start t) h (sound_start t r.tree) r.legal

  -- the update that the next entry makes applies
  pub applies_next : (a : ℕ) (c : Command) (e : Entry) → MayCall a c → e ≡ entry_of sizes n a c → IsTrue (applies_if n.tree e.update)
  applies_next a c e may is = by e.update refl
    where
      now : Now
      now = now_after sizes (start t) h

      there : e ≡ entry_of sizes now a c
      there = is ∙ ap (λ z. entry_of sizes z a c) r.left

      by : (o : Option Update) → e.update ≡ o → IsTrue (applies_if n.tree o)
      by None none = refl
      by (Some u) some =
          let e2 = entry_of sizes now a c in
          let told : Told sizes now _ _ u = told_next sizes now e2 [] sound_now (refl, may, tt) u (sym (ap (λ z. z.update) there) ∙ some) in
          subst (λ z. IsTrue (applies z.tree u)) (sym r.left) ((applies_fits now.tree u sound_now.tree).1 (told_fits sizes now _ _ u told))

  -- what is recorded with it
  pub recorded_more : (a : ℕ) (c : Command) (e : Entry) (m : Now) (sealed : List ℕ) (more : List Step) → MayCall a c → e ≡ entry_of sizes n a c → m ≡ entered_by sizes n e
      → map streams.Seal sealed ++ entered_step e.stream e.update ≡ plain (steps_by sizes n e) → steps_of more ≡ steps_of steps ++ (map streams.Seal sealed ++ entered_step e.stream e.update)
      → IsRecorded sizes t m (h ++ e ∷ []) more
  recorded_more a c e m sealed more may is left told all =
      let now = now_after sizes (start t) h in
      let there : e ≡ entry_of sizes now a c = is ∙ ap (λ z. entry_of sizes z a c) r.left in
      record {
        tree = r.tree;
        files = r.files;
        legal = subst (λ z. IsLegal sizes (start t) (h ++ z ∷ [])) (sym there) (legal_more sizes (start t) h a c r.legal may);
        left = left ∙ ap (λ z. entered_by sizes z e) r.left ∙ sym (now_more sizes (start t) h e);
        told = all ∙ ap (λ z. steps_of steps ++ z) (told ∙ ap (λ z. plain (steps_by sizes z e)) r.left) ∙ ap (λ z. z ++ plain (steps_by sizes now e)) r.told
            ∙ ap (λ z. steps_in sizes (start t) h ++ z) (sym (append-nil (plain (steps_by sizes now e))) ∙ sym (steps_next sizes now e []))
            ∙ sym (steps_append sizes (start t) h (e ∷ []));
      }

  -- what a cut of it keeps applies
  pub kept_applies : (d : ℕ) → AllApply Applies apply t (kept (streams.entered (steps_of steps)) (cut_at (steps_of steps) d))
  kept_applies d =
      let run = accepted_updates_apply sizes t h r.tree r.legal in
      let same : steps_of steps ≡ plain (charged_steps sizes t (calls_by sizes (start t) h)) = r.told ∙ ap plain (steps_of_calls sizes (start t) h) in
      subst (λ l. AllApply Applies apply t (kept (streams.entered l) (cut_at l d))) (sym same) (cuts_are_trees sizes t (calls_by sizes (start t) h) d r.tree run).1

  -- a call that may be made is within its bounds, and there is room for it
  pub room_now : (a : ℕ) (c : Command) → IsTrue (may_call (record { sizes = sizes; opening = t; entries = h }) a c) → MayCall a c × (n.next + 1 < 2 ^ 32) × (n.seals + 65 < 2 ^ 64)
  room_now a c may =
      let p = and_parts _ _ may in
      let q = and_parts _ _ p.1 in
      let z = and_parts _ _ q.1 in
      ((ltb-true a 64 p.0, q.0), subst (λ m. m.next + 1 < 2 ^ 32) (sym r.left) (ltb-true _ _ z.0), subst (λ m. m.seals + 65 < 2 ^ 64) (sym r.left) (ltb-true _ _ z.1))
