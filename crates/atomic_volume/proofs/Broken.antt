-- Images that are refused open to nothing.
use Rattle.std.proofs.Common.{◌≡◌, ℕ, zero, suc, ◌+◌, ◌-◌, ◌/◌, ◌<◌, Bool, true, false, cond, Option, Some, None, List, length, refl, sym, ◌∙◌, ap, arith}
use Rattle.std.proofs.lemmas.Option.{none-some}
use Rattle.block_layout.specs.declared.superblock.SuperField.{SuperField}
use Rattle.block_layout.specs.Super.{blocks_named, inodes_named}
use Rattle.gate_journal.specs.declared.batches.Batch.{Batch}
use Rattle.gate_journal.specs.Offsets.{records_start}
use Rattle.gate_journal.specs.Batches.{batches_bytes, batch_at, put_first, numbered, batch_then, batches_at}
use Rattle.gate_journal.specs.Journal.{open_gates, records_of, batches_read}
use Rattle.gate_journal.specs.Reading.{Breaks}
use Rattle.atomic_volume.specs.declared.fault.VolumeFault.{VolumeFault}
use Rattle.atomic_volume.specs.declared.fault.VolumeFault.TheVariants.{Device, NoMemory, BadLength, BadSuper, BadJournal}
use Rattle.atomic_volume.specs.Opening.{volume_area, active_half, is_length, superblock, wrong_field, batches_of, replayed, unless_wrong, opened}
use Rattle.atomic_volume.specs.Refusals.{Refuses, IsBad, IsLaidOut, IsBroken}
use Rattle.atomic_volume.proofs.Replays.{opened_right}

first_of_none : (b : Batch) (read : Option (List Batch × List ℕ)) → put_first b read ≡ None → read ≡ None
first_of_none b None is = refl
first_of_none b (Some r) is = absurd (none-some _ (sym is))

then_none : (size n : ℕ) (found : Option (Batch × List ℕ)) → ((before : Option ℕ) (bytes : List ℕ) → batches_at size before n bytes ≡ None → batches_at size before (suc n) bytes ≡ None)
    → batch_then (λ number rest. batches_at size number n rest) found ≡ None → batch_then (λ number rest. batches_at size number (suc n) rest) found ≡ None
then_none size n None more is = refl
then_none size n (Some r) more is = ap (put_first r.0) (more (Some r.0.number) r.1 (first_of_none r.0 (batches_at size (Some r.0.number) n r.1) is))

-- where so many batches aren't read, one more isn't
none_more : (size n : ℕ) (before : Option ℕ) (bytes : List ℕ) → batches_at size before n bytes ≡ None → batches_at size before (suc n) bytes ≡ None
none_more size zero before bytes is = absurd (none-some _ (sym is))
none_more size (suc n) before bytes is = then_none size n (numbered before (batch_at size bytes)) (none_more size n) is

none_further : (size n k : ℕ) (bytes : List ℕ) → batches_at size None n bytes ≡ None → batches_at size None (n + k) bytes ≡ None
none_further size n zero bytes is = ap (λ (m : ℕ). batches_at size None m bytes) (let e : n + zero ≡ n = omega arith in e) ∙ is
none_further size n (suc k) bytes is =
    ap (λ (m : ℕ). batches_at size None m bytes) (let e : n + suc k ≡ suc (n + k) = omega arith in e) ∙ none_more size (n + k) None bytes (none_further size n k bytes is)

broken_batches : (c : List ℕ) (half batch block : ℕ) → IsBroken c half batch block → batches_of c ≡ None
broken_batches c half batch block broken =
    let at = broken.breaks in let size = length (volume_area c) in let area = records_of (active_half c) c in
    let far : batch + 1 + (open_gates (active_half c) c - (batch + 1)) ≡ open_gates (active_half c) c = reach batch (open_gates (active_half c) c) at.counts in
    ap batches_read (ap (λ (n : ℕ). batches_at size None n area) (sym far) ∙ none_further size (batch + 1) (open_gates (active_half c) c - (batch + 1)) area at.breaks.broken)
  where
    reach : (batch gates : ℕ) → batch < gates → batch + 1 + (gates - (batch + 1)) ≡ gates
    reach batch gates less = omega (arith, less)

pub refused_opens_to_nothing : (c : List ℕ) (fault : VolumeFault) → Refuses c fault → IsBad fault → opened c ≡ None
refused_opens_to_nothing c Device says bad = absurd bad
refused_opens_to_nothing c NoMemory says bad = absurd bad
refused_opens_to_nothing c BadLength says bad = ap (λ (b : Bool). cond b (unless_wrong (wrong_field c) (replayed (blocks_named (superblock c)) (inodes_named (superblock c)) (volume_area c) (batches_of c))) None) says
refused_opens_to_nothing c (BadSuper field) says bad =
    ap (λ (b : Bool). cond b (unless_wrong (wrong_field c) (replayed (blocks_named (superblock c)) (inodes_named (superblock c)) (volume_area c) (batches_of c))) None) says.0
    ∙ ap (λ (w : Option SuperField). unless_wrong w (replayed (blocks_named (superblock c)) (inodes_named (superblock c)) (volume_area c) (batches_of c))) says.1
refused_opens_to_nothing c (BadJournal half batch block) says bad =
    opened_right c says.0 ∙ ap (replayed (blocks_named (superblock c)) (inodes_named (superblock c)) (volume_area c)) (broken_batches c half batch block says.1)

-- ---- and where an image opens to nothing, it is refused

-- Of so many batches one is the first that breaks the format, at this place.
abbrev FirstBroken : ℕ → ℕ → List ℕ → Type 0
FirstBroken size n area = (batch : ℕ) × (batch < n) × (place : ℕ) × Breaks size area batch place

first_step : (size n : ℕ) (area : List ℕ) (read : Option (List Batch × List ℕ)) → batches_at size None n area ≡ read → batches_at size None (suc n) area ≡ None
    → (batches_at size None n area ≡ None → FirstBroken size n area) → FirstBroken size (suc n) area
first_step size n area None is none before = let b = before is in (b.0, omega (arith, b.1), b.2, b.3)
first_step size n area (Some read) is none before = (
  n,
  omega arith,
  length (batches_bytes read.0),
  record {
    before = read.0;
    rest = read.1;
    whole = is;
    broken = ap (λ (m : ℕ). batches_at size None m area) (let e : n + 1 ≡ suc n = omega arith in e) ∙ none;
    start = refl;
  },
)

first_broken : (size n : ℕ) (area : List ℕ) → batches_at size None n area ≡ None → FirstBroken size n area
first_broken size zero area none = absurd (none-some _ (sym none))
first_broken size (suc n) area none = first_step size n area (batches_at size None n area) refl none (first_broken size n area)

unread : (o : Option (List Batch × List ℕ)) → batches_read o ≡ None → o ≡ None
unread None is = refl
unread (Some read) is = absurd (none-some _ (sym is))

abbrev WhyNot : List ℕ → Type 0
WhyNot c = (fault : VolumeFault) × IsBad fault × Refuses c fault

by_journal : (c : List ℕ) → IsLaidOut c → (batches : Option (List Batch)) → batches_of c ≡ batches → opened c ≡ None → WhyNot c
by_journal c right (Some all) is none =
    absurd (none-some _ (sym none ∙ opened_right c right ∙ ap (replayed (blocks_named (superblock c)) (inodes_named (superblock c)) (volume_area c)) is))
by_journal c right None is none =
    let half = active_half c in let size = length (volume_area c) in let area = records_of half c in
    let b = first_broken size (open_gates half c) area (unread (batches_at size None (open_gates half c) area) is) in (
      BadJournal half b.0 ((records_start half + b.2) / 4096),
      tt,
      (
        right,
        record {
          half_told = refl;
          breaks = record { counts = b.1; place = b.2; breaks = b.3; in_block = refl };
        },
      ),
    )

by_field : (c : List ℕ) → is_length (length c) ≡ true → (wrong : Option SuperField) → wrong_field c ≡ wrong → opened c ≡ None → WhyNot c
by_field c long (Some field) is none = (BadSuper field, tt, (long, is))
by_field c long None is none = by_journal c (record { length_is = long; super_is = is }) (batches_of c) refl none

by_length : (c : List ℕ) (right : Bool) → is_length (length c) ≡ right → opened c ≡ None → WhyNot c
by_length c false is none = (BadLength, tt, is)
by_length c true is none = by_field c is (wrong_field c) refl none

pub nothing_opened_is_refused : (c : List ℕ) → opened c ≡ None → (fault : VolumeFault) × IsBad fault × Refuses c fault
nothing_opened_is_refused c none = by_length c (is_length (length c)) refl none
