-- What the checks of a volume tell of its image.
use Rattle.std.proofs.Common.{◌≡◌, ℕ, Option, Some, None, option_map, List, refl, subst}
use Rattle.image_model.specs.declared.check.Check.{Check}
use Rattle.image_model.specs.declared.check.Check.TheVariants as checks
use Rattle.image_model.specs.Checks.{first_failure_for_now}
use Rattle.image_check.specs.declared.kinds.BadImage.{BadImage}
use Rattle.image_check.specs.declared.kinds.CheckFault.{CheckFault}
use Rattle.image_check.specs.declared.kinds.CheckFault.TheVariants as faults
use Rattle.image_check.specs.Kinds.{kind_of, told}
use Rattle.image_check.specs.Verdicts.{Tells}
use Rattle.atomic_volume.specs.Opening.{Contents, opened}
use Rattle.recovery.specs.Bad.{Fails, IsBad}
use Rattle.recovery.specs.Recovering.{volume_in}

-- each check has its kind
pub fails_bad : (c : List ℕ) (check : Check) (block : ℕ) → Fails c check block → IsBad c (kind_of check) block
fails_bad c checks.Format block is = is
fails_bad c checks.Root block is = is
fails_bad c checks.Record block is = is
fails_bad c checks.Slot block is = is
fails_bad c checks.Twin block is = is
fails_bad c checks.Ring block is = is
fails_bad c checks.Pointer block is = is
fails_bad c checks.Bits block is = is
fails_bad c checks.Counts block is = is

-- what is told of the first check that fails
told_bad : (c : List ℕ) (contents : Contents) (failed : Option (Check × ℕ)) (bad : BadImage) → opened c ≡ Some contents
    → first_failure_for_now contents.last (volume_in contents) ≡ failed → option_map told failed ≡ Some bad → IsBad c bad.kind bad.block
told_bad c contents None bad opens first tells = absurd (cc)
told_bad c contents (Some p) bad opens first tells =
    let same : told p ≡ bad = cc in
    subst (λ b. IsBad c b.kind b.block) same (fails_bad c p.0 p.1 (record { contents = contents; opens = opens; first = first }))

pub check_says : (c : List ℕ) (contents : Contents) (fault : CheckFault) (bad : BadImage) → fault ≡ faults.Bad bad → opened c ≡ Some contents
    → Tells (first_failure_for_now contents.last (volume_in contents)) fault → IsBad c bad.kind bad.block
check_says c contents fault bad is opens tells =
    told_bad c contents (first_failure_for_now contents.last (volume_in contents)) bad opens refl
    (subst (Tells (first_failure_for_now contents.last (volume_in contents))) is tells)
