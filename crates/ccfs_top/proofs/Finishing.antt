-- How a run over a disk ends.
use Rattle.std.proofs.Common.{◌≡◌, ◌⊎◌, inl, inr, ⊎_elim, ℕ, ◌≤◌, ◌<◌, ◌^◌, List, [], ◌++◌, length, take, refl, sym, ap, ◌∙◌, subst, arith, append_assoc}
use Rattle.std.proofs.lemmas.List.{append-nil, take_all, drop_all}
use Rattle.std.specs.declared.option.Option.TheVariants.{Some}
use Rattle.disk_model.specs.declared.disk.Disk.{Ghosts}
use Rattle.disk_model.proofs.Runs.{elapses_join}
use Rattle.gate_journal.specs.Runs.{Quiet}
use Rattle.atomic_volume.specs.Opening.{Contents}
use Rattle.recovery.specs.Opens.{Finds}
use Rattle.recovery.specs.Recovering.{recovered_for_now, shown_for_now}
use Rattle.ccfs_top.proofs.Opened.{kept_opened}
use Rattle.script_text.specs.declared.scripts.Call.{Call}
use Rattle.tree_model.specs.declared.picturing.Item.{Item}
use Rattle.recovery.specs.declared.fault.OpenFault.{OpenFault}
use Rattle.recovery.specs.declared.fault.OpenFault.TheVariants as open_fault
use Rattle.recovery.specs.Bad.{Says}
use Rattle.ccfs_top.proofs.Ending.{fault_decides}
use Rattle.ccfs_top.specs.declared.stop.Stop.{Stop}
use Rattle.ccfs_top.specs.declared.stop.Stop.TheVariants.{Usage, Long, BadLine, NotBuilt, Source, Sink, Disk, BadImage, NoMemory}
use Rattle.ccfs_top.specs.Ends.{IsPart, joined, line_behind, first_or}
use Rattle.ccfs_top.specs.Images.{Image, IsImage, Finding, Good, Spoilt, Unread, Finds as FindsIn}
use Rattle.ccfs_top.specs.Found.{IsFound}
use Rattle.ccfs_top.specs.Outcomes.{CrashSafe, LeftBy, IsShut, Leaves, Halts, Done, DoneOn, HaltsOn}
use Rattle.ccfs_top.specs.Runs.{Expected, ran, over}
use Rattle.ccfs_top.specs.Stops.{Decides, Grew, IsFaultStop, of_open, status_of}

-- ---- stops by a fault

-- while a tree text is written there are two faults
pub tree_fault : (s : Stop) → ((s ≡ Sink) ⊎ (s ≡ NoMemory)) → IsFaultStop s × ((s ≡ Sink → ⊥) → s ≡ NoMemory)
tree_fault s (inl is) = (subst IsFaultStop (sym is) tt, λ not. absurd (not is))
tree_fault s (inr is) = (subst IsFaultStop (sym is) tt, λ not. is)

all_lines : (e : Expected) → joined e.replies ≡ joined (take (length e.replies) e.replies)
all_lines e = ap joined (sym (take_all (length e.replies) e.replies (omega arith)))

behind_all : (e : Expected) → e.last ≡ line_behind e (length e.replies)
behind_all e = ap (first_or e.last) (sym (drop_all (length e.replies) e.replies (omega arith)))

-- while the tree text was written, behind all reply lines
pub grew_tree : (e : Expected) (s : Stop) (old mid new : List ℕ) → mid ≡ old ++ joined e.replies → IsFaultStop s
    → (s ≡ Sink → (said : List ℕ) × (new ≡ mid ++ said) × IsPart said e.last) → ((s ≡ Sink → ⊥) → new ≡ mid)
    → Grew e s (length e.replies) old new
grew_tree e Usage old mid new so_far fault sink unwritten = absurd fault
grew_tree e Long old mid new so_far fault sink unwritten = absurd fault
grew_tree e (BadLine line) old mid new so_far fault sink unwritten = absurd fault
grew_tree e (NotBuilt line) old mid new so_far fault sink unwritten = absurd fault
grew_tree e Source old mid new so_far fault sink unwritten = absurd fault
grew_tree e Sink old mid new so_far fault sink unwritten =
    let f = sink refl in (
      joined e.replies ++ f.0,
      f.1 ∙ ap (λ (z : List ℕ). z ++ f.0) so_far ∙ append_assoc old (joined e.replies) f.0,
      record { said = f.0; text = ap (λ (z : List ℕ). z ++ f.0) (all_lines e); part = subst (IsPart f.0) (behind_all e) f.2 },
    )
grew_tree e Disk old mid new so_far fault sink unwritten = (joined e.replies, unwritten (λ no. cc no) ∙ so_far, all_lines e)
grew_tree e (BadImage bad) old mid new so_far fault sink unwritten = absurd fault
grew_tree e NoMemory old mid new so_far fault sink unwritten = (joined e.replies, unwritten (λ no. cc no) ∙ so_far, all_lines e)

-- ---- images that are refused

-- what a refusal finds
pub found_by : {A : Type 0} → OpenFault → Finding A
found_by open_fault.Device = Unread
found_by (open_fault.Bad bad) = Spoilt bad.kind bad.block
found_by open_fault.NoMemory = Unread

pub finds_refused : {A : Type 0} (P : A → List ℕ → Type 0) (c : List ℕ) (fault : OpenFault) → Says c fault → FindsIn P c (found_by fault)
unfolding found_by
finds_refused P c open_fault.Device says = tt
finds_refused P c (open_fault.Bad bad) says = says
finds_refused P c open_fault.NoMemory says = tt

pub decides_refused : {A : Type 0} (good : A → Expected) (fault : OpenFault) → Decides (over good (found_by fault)) (of_open fault)
unfolding found_by
decides_refused good open_fault.Device = tt
decides_refused good (open_fault.Bad bad) = refl
decides_refused good open_fault.NoMemory = tt

pub grew_refused : {A : Type 0} (good : A → Expected) (fault : OpenFault) (text : List ℕ) → Grew (over good (found_by fault)) (of_open fault) 0 text text
unfolding found_by
grew_refused good open_fault.Device text = ([], sym (append-nil text), refl)
grew_refused good (open_fault.Bad bad) text = ([], sym (append-nil text), refl)
grew_refused good open_fault.NoMemory text = ([], sym (append-nil text), refl)

pub leaves_refused : {X : Type 0} (d : Ghosts X) (old new : X) (calls : List Call) (found : List ℕ) (fault : OpenFault) (lines : ℕ) → LeftBy d old new found fault
    → Leaves d old new calls found (found_by fault) (status_of (of_open fault)) lines
unfolding found_by
leaves_refused d old new calls found open_fault.Device lines left = left
leaves_refused d old new calls found (open_fault.Bad bad) lines left = left
leaves_refused d old new calls found open_fault.NoMemory lines left = left

-- ---- a session between two readings

-- what a session left is left, too, once the disk was only read
pub kept_then : {X : Type 0} (d : Ghosts X) (old mid new : X) (image : Image) (calls : List Call) (lines : ℕ)
    → ((x : X) (t : ℕ) (c : List ℕ) → t ≤ d.moment x → d.may_leave x c → d.left_since x t c)
    → CrashSafe d old mid image calls lines → Quiet d mid new → CrashSafe d old new image calls lines
kept_then d old mid new image calls lines counts_now kept quiet = record {
  ever = record {
    time = elapses_join kept.ever.time quiet.images.time;
    each = λ c left. ⊎_elim (kept.ever.each c)
        (λ since_mid. kept.ever.each c (counts_now mid (d.moment old) c kept.ever.time.later (quiet.images.each c since_mid)))
        (quiet.images.time.nothing_else (d.moment old) c kept.ever.time.later left);
  };
  now = λ c may. kept.now c (quiet.images.each c (counts_now new (d.moment mid) c quiet.images.time.later may));
}

-- and shows what it showed
pub shown_then : {X : Type 0} (d : Ghosts X) (mid new : X) (p : ℕ × List Item)
    → ((x : X) (t : ℕ) (c : List ℕ) → t ≤ d.moment x → d.may_leave x c → d.left_since x t c)
    → ((c : List ℕ) → d.may_leave mid c → shown_for_now c ≡ Some p) → Quiet d mid new → (c : List ℕ) → d.may_leave new c → shown_for_now c ≡ Some p
shown_then d mid new p counts_now shows quiet c may = shows c (quiet.images.each c (counts_now new (d.moment mid) c quiet.images.time.later may))

-- ---- the whole run

-- one whose tree was not written to its end
pub halts_tree : (e : Expected) (s : Stop) (Left : ℕ → Type 0) (T : Type 0) (text0 mid text1 : List ℕ) → e.status ≡ 0 → IsFaultStop s → Left (length e.replies) → (T → mid ≡ text0 ++ joined e.replies)
    → (T → s ≡ Sink → (said : List ℕ) × (text1 ≡ mid ++ said) × IsPart said e.last) → (T → (s ≡ Sink → ⊥) → text1 ≡ mid)
    → Halts e s Left T text0 text1
halts_tree e s Left T text0 mid text1 zero fault left so_far sink unwritten = record {
  lines = length e.replies;
  few = omega arith;
  decides = fault_decides e s zero fault;
  leaves = left;
  grew = λ told. grew_tree e s text0 mid text1 (so_far told) fault (sink told) (unwritten told);
}

-- a run behind an opening, seen from the opening's start
module _ {X : Type 0} (d : Ghosts X) (old mid new : X) (calls : List Call) (image : Image) (T : Type 0) (text0 text1 : List ℕ) (home : Contents) (small : image.number < 2 ^ 64)
    (found : Finds d old mid home (image.number, image.tree)) (each : (c : List ℕ) → d.may_leave mid c → recovered_for_now c ≡ Some (image.number, image.tree))
    (bytes : List ℕ) (from_start : IsFound (d.may_leave old) (d.in_doubt old) (d.seen old) bytes) (is : IsImage image bytes) where
  pub done_behind : (n : ℕ) → Done d mid new calls image n T text0 text1 → DoneOn d old new calls n T text0 text1
  done_behind n done = record {
    found = bytes;
    from_start = from_start;
    image = image;
    finds = is;
    done = record {
      batches = done.batches;
      kept = kept_opened d old mid new image calls (length (ran image calls).replies) home small found each done.kept;
      exact = done.exact;
      text = done.text;
    };
  }

  pub halts_behind : (s : Stop) → Halts (ran image calls) s (CrashSafe d mid new image calls) T text0 text1 → HaltsOn d old new calls (over (λ (i : Image). ran i calls)) s T text0 text1
  halts_behind s halts = record {
    found = bytes;
    from_start = from_start;
    seen = Good image;
    finds = is;
    halts = record {
      lines = halts.lines;
      few = halts.few;
      decides = halts.decides;
      leaves = kept_opened d old mid new image calls halts.lines home small found each halts.leaves;
      grew = halts.grew;
    };
  }

-- a run over a disk that isn't opened
pub halts_shut : {X : Type 0} (d : Ghosts X) (old new : X) (calls : List Call) (fault : OpenFault) (T : Type 0) (text : List ℕ) → IsShut d old new fault
    → HaltsOn d old new calls (over (λ (i : Image). ran i calls)) (of_open fault) T text text
halts_shut d old new calls fault T text shut = record {
  found = shut.found;
  from_start = shut.from_start;
  seen = found_by fault;
  finds = finds_refused IsImage shut.found fault shut.says;
  halts = record {
    lines = 0;
    few = omega arith;
    decides = decides_refused (λ (i : Image). ran i calls) fault;
    leaves = leaves_refused d old new calls shut.found fault 0 shut.left;
    grew = λ told. grew_refused (λ (i : Image). ran i calls) fault text;
  };
}
