-- What a sync and a reading behind it find.
use Rattle.std.proofs.Common.{◌≡◌, ◌≤◌, ℕ, List, false, sym, ◌∙◌, subst}
use Rattle.disk_model.specs.Moments.{Only, Elapses}
use Rattle.disk_model.specs.declared.disk.Disk.{Ghosts}
use Rattle.gate_journal.specs.Runs.{Quiet}
use Rattle.atomic_volume.specs.Opened.{IsSettled}

module _ {X : Type 0} (d : Ghosts X) (old mid new : X)
    (counts_mid : (t : ℕ) (c : List ℕ) → t ≤ d.moment mid → d.may_leave mid c → d.left_since mid t c)
    (counts_new : (t : ℕ) (c : List ℕ) → t ≤ d.moment new → d.may_leave new c → d.left_since new t c)
    (seen_mid : d.may_leave mid (d.seen mid))
    (time : Elapses (d.moment old) (d.moment mid) (d.left_since old) (d.left_since mid))
    (crash : (c : List ℕ) → d.left_since mid (d.moment old) c → d.may_leave old c)
    (contents : d.in_doubt old ≡ false → d.seen mid ≡ d.seen old) (durable : Only (d.seen mid) (d.may_leave mid)) (settled : d.in_doubt mid ≡ false) where
  -- what the sync made stable might have been left before
  pub was_left : d.may_leave old (d.seen mid)
  was_left = crash (d.seen mid) (counts_mid (d.moment old) (d.seen mid) time.later seen_mid)

  module _ (quiet : Quiet d mid new) where
    pub still : d.seen new ≡ d.seen mid
    still = quiet.contents settled

    found_left : d.may_leave old (d.seen new)
    found_left = subst (d.may_leave old) (sym still) was_left

    found_seen : d.in_doubt old ≡ false → d.seen new ≡ d.seen old
    found_seen sure = still ∙ contents sure

    pub found_mid : (c : List ℕ) → d.may_leave new c → c ≡ d.seen mid
    found_mid c may = durable c (quiet.images.each c (counts_new (d.moment mid) c quiet.images.time.later may))

    found_stable : Only (d.seen new) (d.may_leave new)
    found_stable c may = found_mid c may ∙ sym still

    pub found_settled : IsSettled d old new
    found_settled = record { one_of_them = found_left; as_seen = found_seen; stable = found_stable; sure = quiet.doubt settled }
