-- Bytes within a history mean a cut of it.
use Rattle.std.proofs.Common.{◌≡◌, inl, inr, ⊎_elim, ℕ, ◌+◌, ◌≤◌, List, [], ◌++◌, subst, arith}
use Rattle.disk_model.specs.declared.disk.Disk.{Ghosts}
use Rattle.tree_model.specs.Rows.{IsTree}
use Rattle.tree_model.specs.declared.rows.Entry.{Entry}
use Rattle.history_model.specs.Histories.{start, IsLegal, durable}
use Rattle.history_laws.proofs.Meant.{images_mean_cuts}
use Rattle.script_text.specs.declared.scripts.Call.{Call}
use Rattle.ccfs_top.specs.Images.{Image}
use Rattle.ccfs_top.specs.Outcomes.{Within, first_history}
use Rattle.crash_meaning.specs.Meaning.{Means, calls_asked, under_way}
use Rattle.crash_meaning.specs.Laws.{CrashesMeanCuts, MomentsMeanCuts, ScriptCrashesMeanCuts, ScriptMomentsMeanCuts, RunsMeanCuts}
use Rattle.crash_meaning.proofs.Trees.{these_for_now}
use Rattle.crash_meaning.proofs.Asked.{scripts_are_legal, calls_go_on}

-- ---- histories

-- where all is in them that was durable behind the answered calls, and maybe more
within_means : (image : Image) (h more : List Entry) (least : ℕ) (c : List ℕ) → durable h ≤ least
    → IsTree image.tree → IsLegal image.sizes (start image.tree) (h ++ more) → Within image (h ++ more) least c → Means image h more c
within_means image h more least c low tree legal w =
    let enough = w.enough in
    record {
      seals = w.cut;
      few = w.few;
      shows = w.shows;
      means = images_mean_cuts image.sizes image.tree h more w.cut tree legal (omega (arith, low, enough));
    }

pub crashes_mean_cuts : CrashesMeanCuts
crashes_mean_cuts image h more c tree legal w = within_means image h more (durable h) c (omega arith) tree legal w

pub moments_mean_cuts : MomentsMeanCuts
moments_mean_cuts image h c tree legal w = within_means image [] h 0 c (omega arith) tree legal w

-- ---- scripts

pub script_crashes_mean_cuts : ScriptCrashesMeanCuts
script_crashes_mean_cuts image found script lines c is w =
    let calls : List Call = calls_asked script in
    let h : List Entry = first_history image calls lines in
    let more : List Entry = under_way image calls lines in
    let on : first_history image calls (lines + 1) ≡ h ++ more = calls_go_on image calls lines in
    crashes_mean_cuts image h more c (these_for_now found (image.number, image.tree) is.recovers)
    (subst (IsLegal image.sizes (start image.tree)) on (scripts_are_legal image.sizes (start image.tree) script (lines + 1)))
    (subst (λ (z : List Entry). Within image z (durable h) c) on w)

pub script_moments_mean_cuts : ScriptMomentsMeanCuts
script_moments_mean_cuts image found script i c is w =
    moments_mean_cuts image (first_history image (calls_asked script) i) c (these_for_now found (image.number, image.tree) is.recovers)
    (scripts_are_legal image.sizes (start image.tree) script i) w

-- ---- runs

pub runs_mean_cuts : {X : Type 0} (d : Ghosts X) → RunsMeanCuts d
runs_mean_cuts d old new image found script lines is kept = record {
  ever = record {
    time = kept.ever.time;
    each = λ c left. ⊎_elim (λ l. inl l) (λ w. inr (script_moments_mean_cuts image found script (lines + 1) c is w)) (kept.ever.each c left);
  };
  now = λ c left. script_crashes_mean_cuts image found script lines c is (kept.now c left);
}
