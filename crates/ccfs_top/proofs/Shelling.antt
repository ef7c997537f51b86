-- A run of a script, put together.
use Rattle.std.proofs.Common.{◌≡◌, ◌⊎◌, ℕ, Bool, true, false, cond, List, ◌++◌, length, refl, sym, ap, ◌∙◌, subst, arith, inl, inr}
use Rattle.std.specs.Prelude.{◌↔◌, Err}
use Rattle.std.specs.declared.option.Option.TheVariants.{None}
use Rattle.std.specs.declared.option.Option.{Option}
use Rattle.std.specs.declared.option.Option.TheVariants.{Some}
use Rattle.disk_model.specs.declared.disk.Disk.{Ghosts}
use Rattle.gate_journal.specs.Runs.{Quiet}
use Rattle.script_text.specs.declared.scripts.Call.{Call}
use Rattle.script_text.specs.Scripts.{calls_of, is_long, IsFirstUnbuilt}
use Rattle.script_text.specs.Texts.{too_long_line}
use Rattle.ccfs_top.specs.declared.stop.Stop.{Stop}
use Rattle.ccfs_top.specs.declared.stop.Stop.TheVariants.{Usage, Long, BadLine, NotBuilt, Sink}
use Rattle.ccfs_top.specs.Asked.{Asked, Mkfs, Run, Tree, IsStatusOf}
use Rattle.ccfs_top.specs.Ends.{EndsWith, IsEarly, IsMadeStatus, IsTreeStatus, Wrote}
use Rattle.ccfs_top.specs.Images.{Image, Finding, Good, Spoilt, Unread}
use Rattle.ccfs_top.specs.Outcomes.{IsDiskEnd, CrashSafe, Leaves, Halts, DoneOn, HaltsOn, Ran, IsNew, ShowsFinal}
use Rattle.ccfs_top.specs.Runs.{Expected, IsReady, alone, ran, over, over_calls, over_script, expected, calls_in}
use Rattle.ccfs_top.specs.Stops.{Told, SaidOf, status_of}
use Rattle.ccfs_top.proofs.Closing.{OfScript, Refused, script_decides, script_grew, plain_expected, expected_ready, ends_with, ends_done, wrote_stop, wrote_done}
use Rattle.ccfs_top.proofs.Statuses.{never_zero}

-- ---- a script that is refused

pub refused_script : (text : List ℕ) (s : Stop) → OfScript s → (s ≡ Long → is_long text ≡ true) → ((line : ℕ) → s ≡ BadLine line → (is_long text ≡ false) × (calls_of text ≡ Err line))
    → ((line : ℕ) → s ≡ NotBuilt line → (is_long text ≡ false) × IsFirstUnbuilt text line) → Refused (expected text Unread) s
refused_script text s kind long bad unbuilt =
    let seen : Finding Image = Unread in
    let short : (b : Bool) → is_long text ≡ b → expected text seen ≡ cond b (alone 4 too_long_line) (over_script seen (calls_of text))
    = λ b is. ap (λ (z : Bool). cond z (alone 4 too_long_line) (over_script seen (calls_of text))) is in record {
      kind = kind;
      long = λ is. short true (long is);
      bad = λ line is. (let at = bad line is in short false at.0 ∙ ap (over_script seen) at.1);
      halt = λ line is. (let at = unbuilt line is in short false at.0 ∙ ap (over_script seen) at.1.in_grammar ∙ ap (over_calls seen at.1.calls) at.1.first);
    }

-- ---- what is left

-- a stop leaves what the status that is told says
told_leaves : {X : Type 0} (d : Ghosts X) (old new : X) (calls : List Call) (found : List ℕ) (seen : Finding Image) (s : Stop) (code lines : ℕ) → Told s code
    → Leaves d old new calls found seen (status_of s) lines → Leaves d old new calls found seen code lines
told_leaves d old new calls found (Good image) s code lines told left = left
told_leaves d old new calls found (Spoilt kind block) s code lines told left = left
told_leaves d old new calls found Unread s code lines told (inl quiet) = inl quiet
told_leaves d old new calls found Unread s code lines (inl is) (inr more) = inr (subst IsDiskEnd (sym is) more.0, more.1)
told_leaves d old new calls found Unread s code lines (inr nine) (inr more) = inr (inr nine.0, more.1)

-- ---- the whole run

-- the script was refused: nothing was read from the disk
pub halts_script : {X : Type 0} (d : Ghosts X) (x : X) (script : List ℕ) (s : Stop) (T : Type 0) (text : List ℕ) → d.may_leave x (d.seen x) → Quiet d x x → Refused (expected script Unread) s
    → HaltsOn d x x (calls_in (calls_of script)) (expected script) s T text text
halts_script d x script s T text seen quiet refused =
    let e = expected script Unread in record {
      found = d.seen x;
      from_start = record { from_start = seen; as_seen = λ _. refl };
      seen = Unread;
      finds = tt;
      halts = record {
        lines = 0;
        few = omega arith;
        decides = script_decides e s refused;
        leaves = inl quiet;
        grew = λ _. script_grew e s text refused;
      };
    }

-- the calls of a script that is ready were stopped
pub halts_ready : {X : Type 0} (d : Ghosts X) (old new : X) (script : List ℕ) (calls : List Call) (s : Stop) (T : Type 0) (text0 text1 : List ℕ) → IsReady script calls
    → HaltsOn d old new calls (over (λ (image : Image). ran image calls)) s T text0 text1 → HaltsOn d old new (calls_in (calls_of script)) (expected script) s T text0 text1
halts_ready d old new script calls s T text0 text1 ready stopped = record {
  found = stopped.found;
  from_start = stopped.from_start;
  seen = stopped.seen;
  finds = stopped.finds;
  halts = subst (λ (z : List Call). Halts (expected script stopped.seen) s (Leaves d old new z stopped.found stopped.seen (status_of s)) T text0 text1) (sym (ap calls_in ready.in_grammar))
      (subst (λ (z : Expected). Halts z s (Leaves d old new calls stopped.found stopped.seen (status_of s)) T text0 text1) (sym (expected_ready script stopped.seen calls ready)) stopped.halts);
}

-- the script was run to its end
pub ran_whole : {X : Type 0} (d : Ghosts X) (old new : X) (script : List ℕ) (calls : List Call) (number : ℕ) (T g : Type 0) (text0 text1 : List ℕ)
    → IsReady script calls → DoneOn d old new calls number T text0 text1 → Ran d old new script T g 0 number text0 text1
ran_whole d old new script calls number T g text0 text1 ready on =
    let e = ran on.image calls in
    let same : expected script (Good on.image) ≡ e = expected_ready script (Good on.image) calls ready in
    record {
      found = on.found;
      from_start = on.from_start;
      seen = Good on.image;
      finds = on.finds;
      lines = length e.replies;
      ends = subst (λ (z : Expected). EndsWith z (length e.replies) 0 number) (sym same) (ends_done e number refl on.done.batches);
      leaves = subst (λ (z : List Call). CrashSafe d old new on.image z (length e.replies)) (sym (ap calls_in ready.in_grammar)) on.done.kept;
      exact = λ _. subst (λ (z : List Call). ShowsFinal d new on.image z) (sym (ap calls_in ready.in_grammar)) on.done.exact;
      wrote = λ told. subst (λ (z : Expected). Wrote z g (length e.replies) 0 text0 text1) (sym same) (wrote_done e g text0 text1 refl (on.done.text told));
    }

-- the run stopped before its end, and said why
pub ran_stopped : {X : Type 0} (d : Ghosts X) (old kept new : X) (script : List ℕ) (s : Stop) (code number : ℕ) (T f g : Type 0) (text0 mid text1 : List ℕ)
    → HaltsOn d old kept (calls_in (calls_of script)) (expected script) s T text0 mid → new ≡ kept → number ≡ 0 → Told s code
    → (T → (said : List ℕ) × (text1 ≡ mid ++ said) × SaidOf f s code said) → (f → g) → (s ≡ Sink → g)
    → Ran d old new script T g code number text0 text1
ran_stopped d old kept new script s code number T f g text0 mid text1 on same no_number told said map rose =
    let e = expected script on.seen in let halts = on.halts in let calls = calls_in (calls_of script) in record {
      found = on.found;
      from_start = on.from_start;
      seen = on.seen;
      finds = on.finds;
      lines = halts.lines;
      ends = ends_with e s halts.lines code number (plain_expected script on.seen) halts.decides told halts.few no_number;
      leaves = subst (λ x. Leaves d old x calls on.found on.seen code halts.lines) (sym same) (told_leaves d old kept calls on.found on.seen s code halts.lines told halts.leaves);
      exact = λ zero. absurd (never_zero s code told zero);
      wrote = λ tells. wrote_stop e s halts.lines code f g text0 mid text1 halts.decides (halts.grew tells) halts.few map rose (said tells);
    }

-- words ask for an image of one pair of sizes
pub new_of : {X : Type 0} (d : Ghosts X) (disk : X) (o : Option Asked) (a b blocks inodes : ℕ) → o ≡ Some (Mkfs a b) → o ≡ Some (Mkfs blocks inodes) → IsNew d disk a b → IsNew d disk blocks inodes
new_of d disk o a b blocks inodes one other new =
    let same_blocks : a ≡ blocks = cc in
    let same_inodes : b ≡ inodes = cc in
    subst (λ (z : ℕ). IsNew d disk z inodes) same_blocks (subst (λ (z : ℕ). IsNew d disk a z) same_inodes new)

-- words that ask for nothing get status 2
pub usage_status : (code : ℕ) → Told Usage code → code ≡ 2
usage_status code (inl is) = is
usage_status code (inr nine) = absurd nine.1

-- and no others
pub usage_of : (o : Option Asked) (code : ℕ) → IsStatusOf o code → (code ≡ 2) ↔ (o ≡ None)
usage_of None code is = (λ _. refl, λ _. is)
usage_of (Some (Mkfs blocks inodes)) code (inl is) = (λ two. absurd (omega (arith, is, two)), λ none. absurd (cc none))
usage_of (Some (Mkfs blocks inodes)) code (inr (inl is)) = (λ two. absurd (omega (arith, is, two)), λ none. absurd (cc none))
usage_of (Some (Mkfs blocks inodes)) code (inr (inr (inl is))) = (λ two. absurd (omega (arith, is, two)), λ none. absurd (cc none))
usage_of (Some (Mkfs blocks inodes)) code (inr (inr (inr is))) = (λ two. absurd (omega (arith, is, two)), λ none. absurd (cc none))
usage_of (Some Run) code is = (λ two. absurd (is.1 two), λ none. absurd (cc none))
usage_of (Some Tree) code (inl is) = (λ two. absurd (omega (arith, is, two)), λ none. absurd (cc none))
usage_of (Some Tree) code (inr is) = (λ two. (let least = is.0 in absurd (omega (arith, least, two))), λ none. absurd (cc none))

-- an early status is that of no image that is made and of no tree that is printed
pub not_early : (code : ℕ) → IsMadeStatus code ⊎ IsTreeStatus code → IsEarly code → ⊥
not_early code (inl (inl is)) early = let least = early.0 in omega (arith, is, least)
not_early code (inl (inr (inl is))) early = let most = early.1 in omega (arith, is, most)
not_early code (inl (inr (inr (inl is)))) early = let most = early.1 in omega (arith, is, most)
not_early code (inl (inr (inr (inr is)))) early = let most = early.1 in omega (arith, is, most)
not_early code (inr (inl is)) early = let least = early.0 in omega (arith, is, least)
not_early code (inr (inr is)) early = let least = is.0 in let most = early.1 in omega (arith, least, most)
