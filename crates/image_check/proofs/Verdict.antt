-- The first check that fails.
use Rattle.std.proofs.Common.{◌≡◌, ℕ, List, [], ◌∷◌, ◌++◌, refl, sym, ap, subst, ◌∙◌}
use Rattle.std.specs.Prelude.{Option, Some, None, option_map, Result, Ok, Err, MatchResult}
use Rattle.std.specs.Option.{option_or}
use Rattle.image_model.specs.declared.check.Check.{Check}
use Rattle.image_model.specs.declared.check.Check.TheVariants as checks
use Rattle.image_model.specs.Volumes.{Volume}
use Rattle.image_model.specs.Checks.{bare, failure, first_of, or_next, first_failure_for_now}
use Rattle.image_check.specs.declared.kinds.CheckFault.{CheckFault}
use Rattle.image_check.specs.declared.kinds.CheckFault.TheVariants as faults
use Rattle.image_check.specs.Kinds.{told, Refuses}
use Rattle.image_check.specs.Verdicts.{inode_checks, block_checks, first_among, Tells}

-- ---- one check

-- a check that passes leaves the verdict to the rest
pub passed : (f : Check → Option ℕ) (check : Check) (more : List Check) → f check ≡ None → first_of f (check ∷ more) ≡ first_of f more
passed f check more none = ap (λ o. or_next check o (first_of f more)) none

-- a fault that a check tells is that of a list that begins with it
pub refused : (f : Check → Option ℕ) (check : Check) (more : List Check) (block : Option ℕ) (fault : CheckFault) → f check ≡ block → Refuses check block fault → Tells (first_of f (check ∷ more)) fault
refused f check more block faults.NoMemory fails is = absurd is
refused f check more block (faults.Bad bad) fails is =
    ap (λ o. option_map told (or_next check o (first_of f more))) (fails ∙ is.1) ∙ ap (λ k. Some (record { kind = k; block = bad.block })) (sym is.0)

-- and so is one that the rest tells, where the check passes
pub behind : (f : Check → Option ℕ) (check : Check) (more : List Check) (block : Option ℕ) (fault : CheckFault) → f check ≡ block → block ≡ None → Tells (first_of f more) fault → Tells (first_of f (check ∷ more)) fault
behind f check more block fault fails none tells = subst (λ o. Tells o fault) (sym (passed f check more (fails ∙ none))) tells

-- the last check tells the verdict
pub last_step : {X : Type 0} (r : Result X CheckFault) (check : Check) (block : Option ℕ) (P : Type 0) (o : Option (Check × ℕ)) → MatchResult r (λ _. block ≡ None) (λ fault. Refuses check block fault)
    → (block ≡ None → P) → ((fault : CheckFault) → Refuses check block fault → Tells o fault) → MatchResult r (λ _. P) (λ fault. Tells o fault)
last_step (Ok x) check block P o is passes tells = passes is
last_step (Err fault) check block P o is passes tells = tells fault is

-- ---- lists of checks

or_before : (check : Check) (o : Option ℕ) (p q : Option (Check × ℕ)) → or_next check o (option_or p q) ≡ option_or (or_next check o p) q
or_before check None p q = refl
or_before check (Some block) p q = refl

pub joined : (f : Check → Option ℕ) (xs ys : List Check) → first_of f (xs ++ ys) ≡ option_or (first_of f xs) (first_of f ys)
joined f [] ys = refl
joined f (x ∷ xs) ys = ap (or_next x (f x)) (joined f xs ys) ∙ or_before x (f x) (first_of f xs) (first_of f ys)

tells_first : (o p : Option (Check × ℕ)) (fault : CheckFault) → Tells o fault → Tells (option_or o p) fault
tells_first o p faults.NoMemory tells = tells
tells_first None p (faults.Bad bad) tells = absurd (cc)
tells_first (Some failed) p (faults.Bad bad) tells = tells

-- all checks are the format's, those of inodes and those of blocks
in_parts : (last : Option ℕ) (v : Volume) → failure bare last v checks.Format ≡ None → first_failure_for_now last v ≡ option_or (first_among v inode_checks) (first_among v block_checks)
in_parts last v formatted =
    passed (failure bare last v) checks.Format (inode_checks ++ block_checks) formatted ∙ joined (failure bare last v) inode_checks block_checks

pub inodes_tell : (last : Option ℕ) (v : Volume) (fault : CheckFault) → failure bare last v checks.Format ≡ None → Tells (first_among v inode_checks) fault → Tells (first_failure_for_now last v) fault
inodes_tell last v fault formatted tells =
    subst (λ o. Tells o fault) (sym (in_parts last v formatted)) (tells_first (first_among v inode_checks) (first_among v block_checks) fault tells)

behind_inodes : (last : Option ℕ) (v : Volume) → failure bare last v checks.Format ≡ None → first_among v inode_checks ≡ None → first_failure_for_now last v ≡ first_among v block_checks
behind_inodes last v formatted none = in_parts last v formatted ∙ ap (λ o. option_or o (first_among v block_checks)) none

pub blocks_tell : (last : Option ℕ) (v : Volume) (fault : CheckFault) → failure bare last v checks.Format ≡ None → first_among v inode_checks ≡ None → Tells (first_among v block_checks) fault → Tells (first_failure_for_now last v) fault
blocks_tell last v fault formatted none tells = subst (λ o. Tells o fault) (sym (behind_inodes last v formatted none)) tells

pub none_fails : (last : Option ℕ) (v : Volume) → failure bare last v checks.Format ≡ None → first_among v inode_checks ≡ None → first_among v block_checks ≡ None → first_failure_for_now last v ≡ None
none_fails last v formatted none nor = behind_inodes last v formatted none ∙ nor

-- ---- what passes one by one

first_passes : (f : Check → Option ℕ) (check : Check) (more : List Check) (o : Option ℕ) → or_next check o (first_of f more) ≡ None → (o ≡ None) × (first_of f more ≡ None)
first_passes f check more None none = (refl, none)
first_passes f check more (Some block) none = absurd (cc)

pub root_and_record : (v : Volume) → first_among v inode_checks ≡ None → (failure bare None v checks.Root ≡ None) × (failure bare None v checks.Record ≡ None)
root_and_record v none =
    let f = failure bare None v in
    let root = first_passes f checks.Root (checks.Record ∷ checks.Slot ∷ checks.Twin ∷ checks.Ring ∷ []) (f checks.Root) none in
    let records = first_passes f checks.Record (checks.Slot ∷ checks.Twin ∷ checks.Ring ∷ []) (f checks.Record) root.1 in
    (root.0, records.0)
