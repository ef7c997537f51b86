-- What a run leaves that opened an image, from the opening's start on.
use Rattle.std.proofs.Common.{◌≡◌, ◌⊎◌, inl, inr, ⊎_elim, ℕ, ◌+◌, ◌<◌, ◌^◌, List, [], refl, sym, ap, ◌∙◌, subst, arith}
use Rattle.std.specs.declared.option.Option.TheVariants.{Some}
use Rattle.disk_model.specs.declared.disk.Disk.{Ghosts}
use Rattle.tree_model.specs.Picture.{picture}
use Rattle.tree_model.specs.declared.rows.Entry.{Entry}
use Rattle.script_text.specs.declared.scripts.Call.{Call}
use Rattle.atomic_volume.specs.Opening.{Contents}
use Rattle.gate_journal.specs.Runs.{Quiet}
use Rattle.tree_model.specs.Rows.{Rows}
use Rattle.recovery.specs.declared.fault.OpenFault.{OpenFault}
use Rattle.recovery.specs.declared.fault.OpenFault.TheVariants as open_fault
use Rattle.recovery.specs.Opens.{IsOnTheWay, IsRefused, IsFoundBad, Finds}
use Rattle.image_check.specs.declared.kinds.BadImage.{BadImage}
use Rattle.recovery.specs.Bad.{Says}
use Rattle.recovery.specs.Recovering.{recovered_for_now, pictured}
use Rattle.ccfs_top.specs.Images.{Image}
use Rattle.ccfs_top.specs.Outcomes.{Within, CrashSafe, LeftBy, IsShut, first_history}
use Rattle.ccfs_top.proofs.Ending.{further_none}
use Rattle.ccfs_top.proofs.Leaving.{leaves_join, leaves_wider}
use Rattle.ccfs_top.proofs.Keeping.{within_longer}

-- an image that recovers to what was found is within each history over it, with no seal in it
opening_within : (image : Image) (h : List Entry) (c : List ℕ) → image.number < 2 ^ 64 → recovered_for_now c ≡ Some (image.number, image.tree) → Within image h 0 c
opening_within image h c small recovers = within_longer image [] h 0 c (record {
  cut = 0;
  enough = omega arith;
  few = omega arith;
  shows = ap pictured recovers ∙ ap (λ (n : ℕ). Some (n, picture image.tree)) (further_none image.number small);
})

-- what a session leaves that opened, seen from the opening's start
pub kept_opened : {X : Type 0} (d : Ghosts X) (old mid new : X) (image : Image) (calls : List Call) (lines : ℕ) (home : Contents) → image.number < 2 ^ 64
    → Finds d old mid home (image.number, image.tree) → ((c : List ℕ) → d.may_leave mid c → recovered_for_now c ≡ Some (image.number, image.tree))
    → CrashSafe d mid new image calls lines → CrashSafe d old new image calls lines
kept_opened d old mid new image calls lines home small found each kept =
    let h = first_history image calls (lines + 1) in
    let way : List ℕ → Type 0 = λ c. d.may_leave old c ⊎ Within image h 0 c in
    record {
      ever = leaves_join d old mid new way
          (leaves_wider d old mid (IsOnTheWay (d.may_leave old) (image.number, image.tree)) way (λ c on. ⊎_elim (λ l. inl l) (λ r. inr (opening_within image h c small r)) on) found.images)
          (leaves_wider d mid new (λ c. d.may_leave mid c ⊎ Within image h 0 c) way (λ c on. ⊎_elim (λ l. inr (opening_within image h c small (each c l))) (λ w. inr w) on) kept.ever);
      now = kept.now;
    }

-- a disk that an opening refused
pub shut_by : {X : Type 0} (d : Ghosts X) (old new : X) (fault : OpenFault) → IsRefused d old fault → ((bad : BadImage) → fault ≡ open_fault.Bad bad → IsFoundBad d old new bad)
    → (Quiet d old new ⊎ (fault ≡ open_fault.Device) × ((home : Contents) × ((p : ℕ × Rows) × Finds d old new home p))) → IsShut d old new fault
shut_by d old new open_fault.Device was bad (inl quiet) = record {
  found = was.contents;
  from_start = record { from_start = was.one_of_them; as_seen = was.as_seen };
  says = tt;
  left = inl quiet;
}
shut_by d old new (open_fault.Bad b) was bad (inl quiet) =
    let f = bad b refl in record {
      found = d.seen new;
      from_start = record { from_start = f.settled.one_of_them; as_seen = f.settled.as_seen };
      says = f.is;
      left = record { quiet = quiet; settled = f.settled; same = refl };
    }
shut_by d old new open_fault.NoMemory was bad (inl quiet) = record {
  found = was.contents;
  from_start = record { from_start = was.one_of_them; as_seen = was.as_seen };
  says = tt;
  left = inl quiet;
}
shut_by d old new fault was bad (inr more) =
    let f = more.1.1.1 in record {
      found = f.contents;
      from_start = record { from_start = f.one_of_them; as_seen = f.as_seen };
      says = subst (Says f.contents) (sym more.0) tt;
      left = subst (LeftBy d old new f.contents) (sym more.0) (inr (inl refl, record { home = more.1.0; to = more.1.1.0; finds = f; same = refl }));
    }

-- one for which memory was wanting behind the opening
pub shut_behind : {X : Type 0} (d : Ghosts X) (old new kept : X) (fault : OpenFault) (home : Contents) (p : ℕ × Rows) → Finds d old new home p
    → kept ≡ new → fault ≡ open_fault.NoMemory → IsShut d old kept fault
shut_behind d old new kept fault home p f same is =
    subst (λ x. IsShut d old x fault) (sym same) (subst (IsShut d old new) (sym is) (record {
      found = f.contents;
      from_start = record { from_start = f.one_of_them; as_seen = f.as_seen };
      says = tt;
      left = inr (inr refl, record { home = home; to = p; finds = f; same = refl });
    }))
