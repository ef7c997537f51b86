-- An append by the half that it is made on.
use Rattle.std.proofs.Common.{◌≡◌, inl, inr, ⊎_elim, ℕ, ◌+◌, ◌≤◌, ◌<◌, ◌^◌, true, false, Some, List, [], ◌∷◌, ◌++◌, length, sym, ◌∙◌, ap, subst, arith}
use Rattle.std.proofs.lemmas.Bool.Decides.{nat_tests}
use Rattle.disk_model.specs.Bytes.{patched, Torn}
use Rattle.disk_model.specs.Past.{length-patched, Torn-patched}
use Rattle.gate_journal.specs.declared.batches.Range.{Range}
use Rattle.gate_journal.specs.declared.batches.Batch.{Batch}
use Rattle.gate_journal.specs.declared.halves.Half.{Half}
use Rattle.gate_journal.specs.Offsets.{records_size}
use Rattle.gate_journal.specs.Batches.{batch_bytes, Fits}
use Rattle.gate_journal.specs.Journal.{Journal, open_batches, journal}
use Rattle.gate_journal.specs.Halves.{half_of, size_of, journal_of, Shows, fits, MayFollow, with_batch}
use Rattle.gate_journal.specs.Gating.{Staged}
use Rattle.gate_journal.specs.Appending.{next_place, next_gate, SameElsewhere, and_batch, IsWithout, AllOrNothing}
use Rattle.gate_journal.proofs.Bounds.{fits_fields}
use Rattle.gate_journal.proofs.Stages.{StagedFrom, first_stage, second_stage, at_last, added_at_last, elsewhere, same_size}

-- the journal by its parts
pub next_is : (j : Journal) (b : Batch) (used number : ℕ) (ranges : List Range) → used ≡ j.used + length (batch_bytes b) → number ≡ b.number → ranges ≡ j.ranges ++ b.ranges
    → record { count = j.count + 1; used = used; last = Some number; ranges = ranges; behind = j.behind } ≡ with_batch j b
next_is j b used number ranges u n r = λ i. record { count = j.count + 1; used = u i; last = Some (n i); ranges = r i; behind = j.behind }

pub room_is : (j : Journal) (n : ℕ) → fits j n ≡ true → j.count < 4096
room_is j n fit = grind (arith, nat_tests)

none_is : (j : Journal) (n : ℕ) → fits j n ≡ true → j.behind ≡ false
none_is j n fit = grind (arith, nat_tests)

pub space_is : (j : Journal) (n : ℕ) → fits j n ≡ true → j.used + n ≤ records_size
space_is j n fit = grind (arith, nat_tests)

module _ (h : Half) (b : Batch) (d : List ℕ) (shown : Shows h d) (fit : fits (journal_of h) (length (batch_bytes b)) ≡ true) (follow : MayFollow (size_of h) (journal_of h) b) (number : b.number < 2 ^ 64) where
  abbrev j : Journal
  j = journal_of h

  room : j.count < 4096
  room = room_is j (length (batch_bytes b)) fit

  none : j.behind ≡ false
  none = none_is j (length (batch_bytes b)) fit

  space : j.used + length (batch_bytes b) ≤ records_size
  space = space_is j (length (batch_bytes b)) fit

  fields : Fits (size_of h) b
  fields = fits_fields (size_of h) b j.used h.size_is number space follow.ranges

  pub same_elsewhere : (c : List ℕ) → StagedFrom (next_gate h) (next_place h) (batch_bytes b) d c → SameElsewhere h b d c
  same_elsewhere c staged = record {
    size = same_size (half_of h) (size_of h) d j h.half_is shown.inside shown.journal room none b space fields follow.number c staged;
    each = elsewhere (half_of h) (size_of h) d j h.half_is shown.inside shown.journal room none b space fields follow.number c staged;
  }

  -- while the bytes are written, it is without the batch
  pub without : (images : List ℕ → Type 0) → images d → (c : List ℕ) → Torn (next_place h) (length (batch_bytes b)) d c → IsWithout h b images c
  without images was c torn = record {
    old = d;
    was = was;
    elsewhere = same_elsewhere c (inl torn);
    batches = first_stage (half_of h) (size_of h) d j h.half_is shown.inside shown.journal room none b space fields follow.number c torn;
  }

  -- while the gate is written, it is with the batch or without it
  pub with_or_without : (images : List ℕ → Type 0) → images d → (c : List ℕ) → Torn (next_gate h) 1 (patched d (next_place h) (batch_bytes b)) c → AllOrNothing h b images d c
  with_or_without images was c torn = ⊎_elim
      (λ is. inl (record { old = d; was = was; elsewhere = same_elsewhere c (inr torn); batches = is }))
      (λ is. inr (record { elsewhere = same_elsewhere c (inr torn); batches = is }))
      (second_stage (half_of h) (size_of h) d j h.half_is shown.inside shown.journal room none b space fields follow.number c torn)

  -- the last stage is a whole write of the gate
  pub last_elsewhere : (c : List ℕ) → c ≡ patched (patched d (next_place h) (batch_bytes b)) (next_gate h) (165 ∷ []) → SameElsewhere h b d c
  last_elsewhere c end =
      let inside : next_place h + length (batch_bytes b) ≤ length d = omega (arith, h.half_is, shown.inside, space) in
      let within : next_gate h + 1 ≤ length (patched d (next_place h) (batch_bytes b)) = omega (arith, h.half_is, shown.inside, room, length-patched d (next_place h) (batch_bytes b) inside) in
      same_elsewhere c (inr (subst (λ (l : List ℕ). Torn (next_gate h) 1 (patched d (next_place h) (batch_bytes b)) l) (sym end) (Torn-patched (patched d (next_place h) (batch_bytes b)) (next_gate h) (165 ∷ []) within)))

  -- what stands at the end
  pub shown_at_last : (after : Journal) → after ≡ with_batch j b → (c : List ℕ) → c ≡ patched (patched d (next_place h) (batch_bytes b)) (next_gate h) (165 ∷ []) → journal (half_of h) (size_of h) c ≡ Some after
  shown_at_last after then c end = at_last (half_of h) (size_of h) d j h.half_is shown.inside shown.journal room none b space fields follow.number c end ∙ ap Some (sym then)

  pub added : (c : List ℕ) → c ≡ patched (patched d (next_place h) (batch_bytes b)) (next_gate h) (165 ∷ []) → open_batches (half_of h) (size_of h) c ≡ and_batch (open_batches (half_of h) (size_of h) d) b
  added c end = added_at_last (half_of h) (size_of h) d j h.half_is shown.inside shown.journal room none b space fields follow.number c end

-- what stands at every moment
pub all_or_nothing : (h : Half) (b : Batch) (images : List ℕ → Type 0) (now : List ℕ) → ((c : List ℕ) → images c → Shows h c) → images now → fits (journal_of h) (length (batch_bytes b)) ≡ true → MayFollow (size_of h) (journal_of h) b
    → b.number < 2 ^ 64 → (c : List ℕ) → Staged (next_gate h) (next_place h) (batch_bytes b) images now c → AllOrNothing h b images now c
all_or_nothing h b images now shown was fit follow number c (inl from) = inl (without h b from.0 (shown from.0 from.1) fit follow number images from.1 c from.2)
all_or_nothing h b images now shown was fit follow number c (inr torn) = with_or_without h b now (shown now was) fit follow number images was c torn

-- the stages by the places and the bytes that were computed
pub staged_by : (gate gate' at at' : ℕ) (bytes bytes' : List ℕ) (images : List ℕ → Type 0) (now c : List ℕ) → gate ≡ gate' → at ≡ at' → bytes ≡ bytes' → Staged gate at bytes images now c → Staged gate' at' bytes' images now c
staged_by gate gate' at at' bytes bytes' images now c g a b staged = subst (λ (n : ℕ). Staged n at' bytes' images now c) g (subst (λ (n : ℕ). Staged gate n bytes' images now c) a (subst (λ (l : List ℕ). Staged gate at l images now c) b staged))

pub patched_by : (gate gate' at at' : ℕ) (bytes bytes' d c : List ℕ) → gate ≡ gate' → at ≡ at' → bytes ≡ bytes' → c ≡ patched (patched d at bytes) gate (165 ∷ []) → c ≡ patched (patched d at' bytes') gate' (165 ∷ [])
patched_by gate gate' at at' bytes bytes' d c g a b is = is ∙ ap (λ (n : ℕ). patched (patched d at bytes) n (165 ∷ [])) g ∙ ap (λ (n : ℕ). patched (patched d n bytes) gate' (165 ∷ [])) a ∙ ap (λ (l : List ℕ). patched (patched d at' l) gate' (165 ∷ [])) b
