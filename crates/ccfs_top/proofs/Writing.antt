-- Sealed batches that are written one after another.
use Rattle.std.proofs.Common.{◌≡◌, ℕ, zero, suc, ◌+◌, ◌-◌, ◌<◌, ◌≤◌, List, length, get_or, refl, sym, ◌∙◌, ap, subst, arith}
use Rattle.block_layout.specs.declared.geometry.Geometry.{Geometry}
use Rattle.gate_journal.specs.declared.halves.Half.{Half}
use Rattle.file_bodies.specs.declared.batches.Sealed.{Sealed}
use Rattle.tree_model.specs.declared.rows.Entry.{Entry}
use Rattle.tree_model.specs.Rows.{Rows}
use Rattle.tree_cuts.specs.Calls.{Sizes}
use Rattle.history_model.specs.Histories.{start}
use Rattle.front_laws.specs.Batches.{batch_at, batches_from}
use Rattle.front_laws.specs.Kept.{IsKept}
use Rattle.history_model.proofs.Longer.{seals_counted}
use Rattle.front_core.specs.Fronts.{Fronted, seals_of, waiting}
use Rattle.ccfs_top.specs.JournalSpace.{HasTaken}
use Rattle.ccfs_top.specs.Sessions.{Settled, ShowsOneOf}
use Rattle.front_laws.proofs.KeptNow.{histories_leave_kept_states}
use Rattle.ccfs_top.proofs.Leaving.{one_of_more}

-- ---- the batches that wait

module _ (sizes : Sizes) (t : Rows) (inodes : List ℕ) (h : List Entry) where
  from_long : (k more : ℕ) → length (batches_from sizes t inodes h k more) ≡ more
  from_long k zero = refl
  from_long k (suc more) = ap suc (from_long (suc k) more)

  from_at : (k more i : ℕ) (d : Sealed) → i < more → get_or (batches_from sizes t inodes h k more) i d ≡ batch_at sizes t inodes h (k + i)
  from_at k zero i d less = absurd (omega (arith, less))
  from_at k (suc more) zero d less = ap (batch_at sizes t inodes h) (omega arith)
  from_at k (suc more) (suc i) d less = from_at (suc k) more i d (omega (arith, less)) ∙ ap (batch_at sizes t inodes h) (omega arith)

pub waiting_long : (front : Fronted) → length (waiting front) ≡ seals_of front - front.handed
waiting_long front = from_long front.sizes front.opening front.inodes front.entries front.handed (seals_of front - front.handed)

-- each of them is the next one behind those before it
pub waiting_at : (front : Fronted) (i : ℕ) (d : Sealed) → i < length (waiting front) → get_or (waiting front) i d ≡ batch_at front.sizes front.opening front.inodes front.entries (front.handed + i)
waiting_at front i d less =
    let long = waiting_long front in
    from_at front.sizes front.opening front.inodes front.entries front.handed (seals_of front - front.handed) i d (omega (arith, less, long))

-- ---- a front from which they were handed out

abbrev pub handed_to : ℕ → Fronted → Fronted
handed_to n front = record front { handed = n }

pub settled_handed : (g : Geometry) (bytes at_hand : List ℕ) (front : Fronted) (n first k : ℕ) → Settled g bytes at_hand front first k → Settled g bytes at_hand (handed_to n front) first k
settled_handed g bytes at_hand front n first k settled = record { sizes = settled.sizes; carried = settled.carried; copied = settled.copied; number = settled.number; few = settled.few }

pub shows_back : (front : Fronted) (n first least most : ℕ) (c : List ℕ) → ShowsOneOf (handed_to n front) first least most c → ShowsOneOf front first least most c
shows_back front n first least most c shows = record { cut = shows.cut; enough = shows.enough; few = shows.few; shows = shows.shows }

-- what a half has taken does not depend on what was handed out
pub taken_handed : (front new : Fronted) (n k most : ℕ) (h h' : Half) → new ≡ handed_to n front → HasTaken front k most h h' → HasTaken new k most h h'
taken_handed front new n k most h h' same taken = subst (λ (z : Fronted). HasTaken z k most h h') (sym same) taken

-- ---- how many seals there are

-- a history of so many calls has few seals
pub few_seals : (front : Fronted) → IsKept front.sizes front.opening front.inodes front.entries → length front.entries ≤ 1048576 → seals_of front ≤ 68157440
few_seals front kept few =
    let now = (histories_leave_kept_states front.sizes front.opening front.inodes front.entries kept).seals in
    let all = seals_counted front.sizes (start front.opening) front.entries in
    omega (arith, now, all, few)

-- what an image shows on the way of one batch it shows on that of all
pub shows_all : (old front : Fronted) (first first' k k' i : ℕ) (c : List ℕ) → front ≡ handed_to (seals_of old) old → first' ≡ first → k' ≡ k + i → k' < seals_of front → ShowsOneOf front first' k' (k' + 1) c
    → ShowsOneOf old first k (seals_of old) c
shows_all old front first first' k k' i c same opening written more shows =
    let n = seals_of old in
    let all : seals_of front ≡ n = ap seals_of same in
    let here : ShowsOneOf old first' k' (k' + 1) c = shows_back old n first' k' (k' + 1) c (subst (λ (z : Fronted). ShowsOneOf z first' k' (k' + 1) c) same shows) in
    let there : ShowsOneOf old first k' (k' + 1) c = subst (λ (z : ℕ). ShowsOneOf old z k' (k' + 1) c) opening here in
    one_of_more old first k' (k' + 1) k n c (omega (arith, written)) (omega (arith, more, all)) there

-- the batch at a place of those that wait is the next one
pub next_is : (old front : Fronted) (batches : List Sealed) (batch : Sealed) (k k' i : ℕ) → front ≡ handed_to (seals_of old) old → old.handed ≡ k → k' ≡ k + i → batches ≡ waiting old → i < length batches
    → batch ≡ get_or batches i batch → batch ≡ batch_at front.sizes front.opening front.inodes front.entries k'
next_is old front batches batch k k' i same handed written wait less is =
    let here : batch_at old.sizes old.opening old.inodes old.entries (old.handed + i) ≡ batch_at old.sizes old.opening old.inodes old.entries k' =
    ap (batch_at old.sizes old.opening old.inodes old.entries) (omega (arith, handed, written)) in
    is ∙ ap (λ (z : List Sealed). get_or z i batch) wait
    ∙ waiting_at old i batch (subst (λ (z : List Sealed). i < length z) wait less) ∙ here
    ∙ ap (λ (z : Fronted). batch_at z.sizes z.opening z.inodes z.entries k') (sym same)

-- and there are more seals than those before it
pub next_more : (old front : Fronted) (batches : List Sealed) (k k' i : ℕ) → front ≡ handed_to (seals_of old) old → old.handed ≡ k → k' ≡ k + i → batches ≡ waiting old → i < length batches → k' < seals_of front
next_more old front batches k k' i same handed written wait less =
    let all : seals_of front ≡ seals_of old = ap seals_of same in
    let long = ap length wait ∙ waiting_long old in
    omega (arith, all, long, less, handed, written)

-- behind the last one all seals are written
pub all_written : (old : Fronted) (batches : List Sealed) (k k' i : ℕ) → old.handed ≡ k → k ≤ seals_of old → k' ≡ k + i → batches ≡ waiting old → i ≡ length batches → k' ≡ seals_of old
all_written old batches k k' i handed few written wait end =
    let long = ap length wait ∙ waiting_long old in
    omega (arith, long, end, handed, few, written)
