-- What a crash leaves while a run goes on.
use Rattle.std.proofs.Common.{◌≡◌, ◌⊎◌, inl, inr, ⊎_elim, ℕ, ◌+◌, ◌≤◌, ◌<◌, List, [], ◌∷◌, ◌++◌, length, get_or, sym, ap, ◌∙◌, subst, arith}
use Rattle.std.specs.declared.option.Option.TheVariants.{Some}
use Rattle.std.proofs.lemmas.List.{take_all}
use Rattle.disk_model.specs.declared.disk.Disk.{Ghosts}
use Rattle.gate_journal.specs.Runs.{LeavesBy}
use Rattle.tree_model.specs.declared.rows.Entry.{Entry}
use Rattle.tree_model.specs.Rows.{Rows}
use Rattle.tree_model.specs.Picture.{picture}
use Rattle.tree_cuts.specs.Calls.{Sizes}
use Rattle.history_model.specs.State.{Now}
use Rattle.history_model.specs.Histories.{start, now_after, entry_of, seal_count, tree_at, durable}
use Rattle.history_model.proofs.Longer.{now_append, longer_trees, seals_counted}
use Rattle.script_text.specs.declared.scripts.Call.{Call}
use Rattle.recovery.specs.Recovering.{shown_for_now}
use Rattle.ccfs_top.specs.Images.{Image}
use Rattle.ccfs_top.specs.Stages.{called}
use Rattle.ccfs_top.specs.Runs.{further, history, replies}
use Rattle.ccfs_top.specs.Outcomes.{Within, CrashSafe, first_history}
use Rattle.ccfs_top.proofs.Leaving.{leaves_join, leaves_wider}
use Rattle.ccfs_top.proofs.Steps.{history_on}
use Rattle.ccfs_top.proofs.Ending.{length_lines}

-- ---- images within a history

-- the seals of a longer history
seals_longer : (k : Sizes) (n : Now) (h g : List Entry) → seal_count k n h ≤ seal_count k n (h ++ g)
seals_longer k n h g =
    let whole = seals_counted k n (h ++ g) in
    let both = ap (λ (z : Now). z.seals) (now_append k n h g) in
    let front = seals_counted k n h in
    let rest = seals_counted k (now_after k n h) g in
    omega (arith, whole, both, front, rest)

pub within_fewer : (image : Image) (h : List Entry) (least fewer : ℕ) (c : List ℕ) → fewer ≤ least → Within image h least c → Within image h fewer c
within_fewer image h least fewer c le w = let most = w.enough in record { cut = w.cut; enough = omega (arith, le, most); few = w.few; shows = w.shows }

pub within_longer : (image : Image) (h g : List Entry) (least : ℕ) (c : List ℕ) → Within image h least c → Within image (h ++ g) least c
within_longer image h g least c w =
    let few = w.few in let more = seals_longer image.sizes (start image.tree) h g in
    record {
      cut = w.cut;
      enough = w.enough;
      few = omega (arith, few, more);
      shows = w.shows ∙ ap (λ (z : Rows). Some (further image.number w.cut, picture z)) (sym (longer_trees image.sizes (start image.tree) h g w.cut w.few));
    }

-- where a volume shows the cut that is durable
pub within_now : (image : Image) (h : List Entry) (d : ℕ) (c : List ℕ) → d ≤ seal_count image.sizes (start image.tree) h
    → shown_for_now c ≡ Some (further image.number d, picture (tree_at image.sizes (start image.tree) h d)) → Within image h d c
within_now image h d c few shows = record { cut = d; enough = omega arith; few = few; shows = shows }

-- ---- what a run leaves

-- a run of the first i calls, whose history is h, and one call more
pub kept_on : {X : Type 0} (d : Ghosts X) (old mid new : X) (image : Image) (calls : List Call) (i : ℕ) (call : Call) (h : List Entry) (written : ℕ)
    → ((t : ℕ) (c : List ℕ) → t ≤ d.moment new → d.may_leave new c → d.left_since new t c) → i < length calls → call ≡ get_or calls i call
    → h ≡ first_history image calls i → durable h ≡ written
    → LeavesBy d old mid (λ c. d.may_leave old c ⊎ Within image (first_history image calls i) 0 c)
    → LeavesBy d mid new (Within image (called image.sizes image.tree h call.actor call.command) written)
    → CrashSafe d old new image calls i
kept_on d old mid new image calls i call h written counts_now lt is here acknowledged before step =
    let on = first_history image calls (i + 1) in
    let e = entry_of image.sizes (now_after image.sizes (start image.tree) (first_history image calls i)) call.actor call.command in
    let now : called image.sizes image.tree h call.actor call.command ≡ on =
    ap (λ (z : List Entry). called image.sizes image.tree z call.actor call.command) here ∙ sym (history_on image.sizes image.tree calls i call lt is) in
    let within : (c : List ℕ) → d.left_since new (d.moment mid) c → Within image on written c = λ c left. subst (λ (z : List Entry). Within image z written c) now (step.each c left) in
    let grown : (c : List ℕ) → Within image (first_history image calls i) 0 c → Within image on 0 c
    = λ c w. subst (λ (z : List Entry). Within image z 0 c) (sym (history_on image.sizes image.tree calls i call lt is)) (within_longer image (first_history image calls i) (e ∷ []) 0 c w) in
    record {
      ever = leaves_join d old mid new (λ c. d.may_leave old c ⊎ Within image on 0 c)
          (leaves_wider d old mid (λ c. d.may_leave old c ⊎ Within image (first_history image calls i) 0 c) (λ c. d.may_leave old c ⊎ Within image on 0 c) (λ c either. ⊎_elim (λ l. inl l) (λ w. inr (grown c w)) either) before)
          (record { time = step.time; each = λ c left. inr (within_fewer image on written 0 c (omega arith) (within c left)) });
      now = λ c left. subst (λ (z : ℕ). Within image on z c) (sym acknowledged ∙ ap durable here) (within c (counts_now (d.moment mid) c step.time.later left));
    }

-- more calls than there are change nothing
all_calls : (image : Image) (calls : List Call) (i j : ℕ) → length calls ≤ i → length calls ≤ j → first_history image calls i ≡ first_history image calls j
all_calls image calls i j p q = ap (history image.sizes (start image.tree)) (take_all i calls p ∙ sym (take_all j calls q))

-- a run of all calls
pub kept_all : {X : Type 0} (d : Ghosts X) (old new : X) (image : Image) (calls : List Call) (i : ℕ) (h : List Entry) (written : ℕ) → length calls ≤ i
    → h ≡ first_history image calls i → durable h ≡ written → written ≤ seal_count image.sizes (start image.tree) h
    → LeavesBy d old new (λ c. d.may_leave old c ⊎ Within image (first_history image calls i) 0 c)
    → ((c : List ℕ) → d.may_leave new c → shown_for_now c ≡ Some (further image.number written, picture (tree_at image.sizes (start image.tree) h written)))
    → CrashSafe d old new image calls (length (replies image calls))
kept_all d old new image calls i h written le here acknowledged few before shows =
    let lines = length (replies image calls) in
    let count : lines ≡ length calls = length_lines image.sizes (start image.tree) calls in
    let first : first_history image calls i ≡ first_history image calls lines = all_calls image calls i lines le (omega (arith, count)) in
    let behind : first_history image calls i ≡ first_history image calls (lines + 1) = all_calls image calls i (lines + 1) le (omega (arith, count)) in
    record {
      ever = subst (λ (z : List Entry). LeavesBy d old new (λ c. d.may_leave old c ⊎ Within image z 0 c)) behind before;
      now = λ c left. subst (λ (z : ℕ). Within image (first_history image calls (lines + 1)) z c) (sym acknowledged ∙ ap durable (here ∙ first))
          (subst (λ (z : List Entry). Within image z written c) (here ∙ behind) (within_now image h written c few (shows c left)));
    }
