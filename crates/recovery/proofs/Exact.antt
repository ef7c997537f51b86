-- Just the images that recover to nothing are bad.
use Rattle.std.proofs.Common.{◌≡◌, ℕ, ◌/◌, Option, Some, None, List, refl, sym, ◌∙◌, ap}
use Rattle.std.proofs.lemmas.Option.{none-some}
use Rattle.tree_model.specs.Rows.{Rows}
use Rattle.block_layout.specs.declared.superblock.SuperField.{SuperField}
use Rattle.atomic_volume.specs.declared.fault.VolumeFault.{VolumeFault}
use Rattle.atomic_volume.specs.declared.fault.VolumeFault.TheVariants as volume
use Rattle.atomic_volume.specs.Opening.{Contents, opened}
use Rattle.atomic_volume.specs.Refusals.{Refuses, IsBad as IsBadVolume}
use Rattle.atomic_volume.proofs.Broken.{refused_opens_to_nothing, nothing_opened_is_refused}
use Rattle.image_model.specs.declared.check.Check.{Check}
use Rattle.image_model.specs.Volumes.{number}
use Rattle.image_model.specs.Checks.{first_failure_for_now}
use Rattle.image_model.specs.Trees.{tree_of}
use Rattle.image_check.specs.declared.kinds.BadKind.{BadKind}
use Rattle.image_check.specs.declared.kinds.BadKind.TheVariants.{Size, Super, Journal, Format, Root, Record, Slot, Twin, Ring, Pointer, Bits, Counts}
use Rattle.image_check.specs.Kinds.{kind_of}
use Rattle.recovery.specs.Recovering.{volume_in, where_sound, tree_held, if_opened, recovered_for_now}
use Rattle.recovery.specs.Bad.{Fails, IsBad, BadRecoverToNothing, NothingIsBad}
use Rattle.recovery.proofs.Told.{fails_bad}

-- ---- a bad image recovers to nothing

unopened : (c : List ℕ) → opened c ≡ None → recovered_for_now c ≡ None
unopened c is = ap (λ (o : Option Contents). if_opened tree_held o) is

failing : (c : List ℕ) (check : Check) (block : ℕ) → Fails c check block → recovered_for_now c ≡ None
failing c check block is =
    ap (λ (o : Option Contents). if_opened tree_held o) is.opens
    ∙ ap (λ (o : Option (Check × ℕ)). where_sound o (number (volume_in is.contents), tree_of (volume_in is.contents))) is.first

pub bad_recover_to_nothing : BadRecoverToNothing
bad_recover_to_nothing c Size block is = unopened c (refused_opens_to_nothing c volume.BadLength is.1 tt)
bad_recover_to_nothing c Super block is = unopened c (refused_opens_to_nothing c (volume.BadSuper is.1.0) is.1.1 tt)
bad_recover_to_nothing c Journal block is = unopened c (refused_opens_to_nothing c (volume.BadJournal is.0 is.1 block) is.2 tt)
bad_recover_to_nothing c Format block is = failing c _ block is
bad_recover_to_nothing c Root block is = failing c _ block is
bad_recover_to_nothing c Record block is = failing c _ block is
bad_recover_to_nothing c Slot block is = failing c _ block is
bad_recover_to_nothing c Twin block is = failing c _ block is
bad_recover_to_nothing c Ring block is = failing c _ block is
bad_recover_to_nothing c Pointer block is = failing c _ block is
bad_recover_to_nothing c Bits block is = failing c _ block is
bad_recover_to_nothing c Counts block is = failing c _ block is

-- ---- one that recovers to nothing is bad

abbrev SomehowBad : List ℕ → Type 0
SomehowBad c = (kind : BadKind) × (block : ℕ) × IsBad c kind block

by_fault : (c : List ℕ) (fault : VolumeFault) → IsBadVolume fault → Refuses c fault → SomehowBad c
by_fault c volume.Device bad says = absurd bad
by_fault c volume.NoMemory bad says = absurd bad
by_fault c volume.BadLength bad says = (Size, 0, (refl, says))
by_fault c (volume.BadSuper field) bad says = (Super, 0, (refl, (field, says)))
by_fault c (volume.BadJournal half batch block) bad says = (Journal, block, (half, batch, says))

by_check : (c : List ℕ) (contents : Contents) → opened c ≡ Some contents → (failed : Option (Check × ℕ)) → first_failure_for_now contents.last (volume_in contents) ≡ failed
    → recovered_for_now c ≡ None → SomehowBad c
by_check c contents opens (Some failed) is none = (kind_of failed.0, failed.1, fails_bad c failed.0 failed.1 (record { contents = contents; opens = opens; first = is }))
by_check c contents opens None is none =
    absurd (none-some _ (sym none
    ∙ ap (λ (o : Option Contents). if_opened tree_held o) opens
    ∙ ap (λ (o : Option (Check × ℕ)). where_sound o (number (volume_in contents), tree_of (volume_in contents))) is))

by_opening : (c : List ℕ) (o : Option Contents) → opened c ≡ o → recovered_for_now c ≡ None → SomehowBad c
by_opening c None is none = let why = nothing_opened_is_refused c is in by_fault c why.0 why.1 why.2
by_opening c (Some contents) is none = by_check c contents is (first_failure_for_now contents.last (volume_in contents)) refl none

pub nothing_is_bad : NothingIsBad
nothing_is_bad c none = by_opening c (opened c) refl none
