-- What an image whose batches are home recovers to, and what an opening leaves that moves them there.
use Rattle.std.proofs.Common.{◌≡◌, inl, inr, ℕ, ◌+◌, List, Option, Some, None, option_map, false, refl, sym, ◌∙◌, ap, subst, arith}
use Rattle.fault_counts.specs.Counts.{RisesBy}
use Rattle.disk_model.specs.declared.disk.Disk.{Ghosts}
use Rattle.disk_model.proofs.Runs.{elapses_join, each_join}
use Rattle.tree_model.specs.Rows.{Rows}
use Rattle.gate_journal.specs.declared.halves.Half.{Half}
use Rattle.gate_journal.specs.Offsets.{records_size}
use Rattle.gate_journal.specs.Batches.{range_bytes}
use Rattle.gate_journal.specs.Halves.{journal_of}
use Rattle.gate_journal.specs.Runs.{LeavesBy, Quiet}
use Rattle.atomic_volume.specs.Opening.{Contents, opened}
use Rattle.atomic_volume.specs.Homing.{at_home, OpensAs, IsMoved}
use Rattle.atomic_volume.specs.declared.fault.VolumeFault.{VolumeFault}
use Rattle.atomic_volume.specs.declared.fault.VolumeFault.TheVariants as volume
use Rattle.atomic_volume.specs.Refusals.{Refuses, IsBad as IsBadVolume}
use Rattle.atomic_volume.specs.Opened.{IsFound, IsRefused as IsRefusedVolume}
use Rattle.image_model.specs.declared.check.Limits.{Limits}
use Rattle.image_model.specs.Volumes.{Volume, number}
use Rattle.image_model.specs.Checks.{bare, first_failure_under}
use Rattle.image_model.specs.Trees.{tree_of}
use Rattle.recovery.specs.Recovering.{volume_in, where_sound, held_under, tree_held, if_opened, HomeHoldsTheSame, MovedRecoverTheSame}
use Rattle.recovery.specs.declared.fault.OpenFault.{OpenFault}
use Rattle.recovery.specs.declared.fault.OpenFault.TheVariants as faults
use Rattle.image_check.specs.declared.kinds.BadImage.{BadImage}
use Rattle.recovery.specs.Bad.{Says}
use Rattle.recovery.specs.Opens.{IsOnTheWay, Finds, IsRefused, IsFoundBad}
use Rattle.recovery.proofs.Recovers.{passes_closed, recovers_to}
use Rattle.recovery.proofs.Carried.{none_fails}

-- ---- the last number

pub home_holds_the_same : HomeHoldsTheSame
home_holds_the_same limits contents p e =
    let v : Volume = volume_in contents in
    let held : ℕ × Rows = (number v, tree_of v) in
    let none : first_failure_under limits contents.last v ≡ None = none_fails (first_failure_under limits contents.last v) held p e in
    ap (λ o. where_sound o held) (passes_closed limits contents.last v none).1 ∙ sym (ap (λ o. where_sound o held) none) ∙ e

home_opened : (limits : Limits) (o : Option Contents) (p : ℕ × Rows) → if_opened (held_under limits) o ≡ Some p → if_opened (held_under limits) (option_map at_home o) ≡ Some p
home_opened limits None p e = e
home_opened limits (Some contents) p e = home_holds_the_same limits contents p e

pub moved_recover_the_same : MovedRecoverTheSame
moved_recover_the_same limits d c p (inl same) e = ap (if_opened (held_under limits)) same ∙ e
moved_recover_the_same limits d c p (inr home) e = ap (if_opened (held_under limits)) home ∙ home_opened limits (opened d) p e

-- ---- an opening

-- an image of the moving opens as the found contents, or to the same at home
opens_as : (images : List ℕ → Type 0) (now c : List ℕ) (contents : Contents) → ((d : List ℕ) → images d → d ≡ now) → opened now ≡ Some contents → IsMoved contents images c → OpensAs now c
opens_as images now c contents only opens (inl from) = inl (from.2 ∙ ap opened (only from.0 from.1))
opens_as images now c contents only opens (inr home) = inr (home ∙ sym (ap (option_map at_home) opens))

-- what was found goes home
pub found_then : {X : Type 0} (d : Ghosts X) (old mid new : X) (contents home : Contents) (p : ℕ × Rows) → IsFound d old mid contents → Quiet d old mid → home ≡ at_home contents
    → tree_held contents ≡ Some p → LeavesBy d mid new (IsMoved contents (d.may_leave mid)) → Finds d old new home p
found_then d old mid new contents home p was quiet is held moved =
    let recovers = recovers_to (d.seen mid) contents p was.opens held in
    record {
      contents = d.seen mid;
      one_of_them = was.settled.one_of_them;
      as_seen = was.settled.as_seen;
      opens = ap (option_map at_home) was.opens ∙ ap Some (sym is);
      recovers = recovers;
      images = record {
        time = elapses_join quiet.images.time moved.time;
        each = each_join (IsOnTheWay (d.may_leave old) p) quiet.images.time moved.time
            (λ c left. inl (quiet.images.each c left))
            (λ c left. inr (moved_recover_the_same bare (d.seen mid) c p (opens_as (d.may_leave mid) (d.seen mid) c contents was.settled.stable was.opens (moved.each c left)) recovers));
      };
    }

-- and writes no more than a record area, the gates of a half and the master byte
pub few_written : (h : Half) (old mid new : ℕ) → mid ≡ old → RisesBy (range_bytes (journal_of h).ranges + 4097) mid new → RisesBy (records_size + 4097) old new
few_written h old mid new same rises = record {
  later = omega (arith, same, rises.later);
  at_most = omega (arith, same, rises.at_most, h.bytes_are, h.used_is);
}

-- ---- a refusal

module _ {X : Type 0} (d : Ghosts X) (old kept : X) (fault : VolumeFault) (told : OpenFault) (refused : IsBadVolume fault → IsRefusedVolume d old kept fault)
    (says : (c : List ℕ) → Refuses c fault → Says c told) where
  by_kept : IsBadVolume fault → IsRefused d old told
  by_kept bad = let was = refused bad in record {
    contents = d.seen kept;
    one_of_them = was.settled.one_of_them;
    as_seen = was.settled.as_seen;
    says = says (d.seen kept) was.refuses;
  }

  -- a refusal as bad is told of what was made stable
  pub found_bad : (bad : BadImage) → told ≡ faults.Bad bad → IsBadVolume fault → IsFoundBad d old kept bad
  found_bad bad is bad_volume = let was = refused bad_volume in record {
    settled = was.settled;
    is = subst (λ (f : OpenFault). Says (d.seen kept) f) is (says (d.seen kept) was.refuses);
  }

-- and another one says nothing
pub refused_by : {X : Type 0} (d : Ghosts X) (old kept : X) (fault : VolumeFault) (told : OpenFault) → d.may_leave old (d.seen old) → (IsBadVolume fault → IsRefusedVolume d old kept fault)
    → ((c : List ℕ) → Refuses c fault → Says c told) → IsRefused d old told
refused_by d old kept volume.Device told was refused says = record { contents = d.seen old; one_of_them = was; as_seen = λ sure. refl; says = says (d.seen old) tt }
refused_by d old kept volume.NoMemory told was refused says = record { contents = d.seen old; one_of_them = was; as_seen = λ sure. refl; says = says (d.seen old) tt }
refused_by d old kept volume.BadLength told was refused says = by_kept d old kept volume.BadLength told refused says tt
refused_by d old kept (volume.BadSuper field) told was refused says = by_kept d old kept (volume.BadSuper field) told refused says tt
refused_by d old kept (volume.BadJournal half batch block) told was refused says = by_kept d old kept (volume.BadJournal half batch block) told refused says tt
