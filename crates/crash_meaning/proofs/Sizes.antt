-- The volume of an image that opens has the sizes that its superblock names, and is whole.
use Rattle.std.proofs.Common.{◌≡◌, ℕ, ◌*◌, ◌-◌, ◌/◌, ◌%◌, List, length, refl, sym, subst, ◌∙◌, arith}
use Rattle.std.specs.Prelude.{Bool, true, false, cond, ◌==◌, Option, Some, None}
use Rattle.std.specs.List.{All}
use Rattle.std.proofs.lemmas.Bool.{and_parts, eqb-true}
use Rattle.block_layout.specs.declared.superblock.SuperField.{SuperField}
use Rattle.block_layout.specs.declared.superblock.SuperField.TheVariants.{Magic, Version, Blocks, Inodes}
use Rattle.block_layout.specs.Sizes.{block_size, good_blocks, good_inodes}
use Rattle.block_layout.specs.Super.{blocks_named, inodes_named, unless_right, first_wrong}
use Rattle.gate_journal.specs.declared.batches.Batch.{Batch}
use Rattle.gate_journal.specs.Batches.{Stands, batches_at}
use Rattle.gate_journal.specs.Journal.{records_of, open_gates, batches_read, last_after, all_ranges}
use Rattle.gate_journal.proofs.ReadSteps.{so_far_stands}
use Rattle.atomic_volume.specs.Opening.{Contents, volume_area, active_half, is_length, superblock, or_blocks, wrong_field, batches_of, put_on, replayed, unless_wrong, opened}
use Rattle.atomic_volume.proofs.Bytes.{area_long}
use Rattle.atomic_volume.proofs.Homes.{put_long}
use Rattle.atomic_volume.proofs.Replays.{same_value}
use Rattle.image_model.specs.ChangeLaws.{IsSized}
use Rattle.recovery.specs.Recovering.{volume_in}

-- ---- the parts of what opens

-- what an image opens to was replayed, where its length and its superblock are right
record Parts (right : Bool) (wrong : Option SuperField) (blocks inodes : ℕ) (area : List ℕ) (o : Option (List Batch)) (contents : Contents) : Type 0 where
  length_is : right ≡ true
  super_is : wrong ≡ None
  batches : List Batch
  read : o ≡ Some batches
  is : record { blocks = blocks; inodes = inodes; bytes = put_on area (all_ranges batches); last = last_after None batches } ≡ contents

parts_from : (right : Bool) (wrong : Option SuperField) (blocks inodes : ℕ) (area : List ℕ) (o : Option (List Batch)) (contents : Contents)
    → cond right (unless_wrong wrong (replayed blocks inodes area o)) None ≡ Some contents → Parts right wrong blocks inodes area o contents
parts_from false wrong blocks inodes area o contents e = absurd (cc)
parts_from true (Some field) blocks inodes area o contents e = absurd (cc)
parts_from true None blocks inodes area None contents e = absurd (cc)
parts_from true None blocks inodes area (Some batches) contents e =
    record { length_is = refl; super_is = refl; batches = batches; read = refl; is = same_value _ contents e }

-- ---- the superblock

right_then : (field : SuperField) (right : Bool) (behind : Option SuperField) → unless_right field right behind ≡ None → (right ≡ true) × (behind ≡ None)
right_then field true behind e = (refl, e)
right_then field false behind e = absurd (cc)

or_parts : (o : Option SuperField) (right : Bool) → or_blocks o right ≡ None → (o ≡ None) × (right ≡ true)
or_parts None true e = (refl, refl)
or_parts None false e = absurd (cc)
or_parts (Some field) right e = absurd (cc)

-- the sizes are good where no field is wrong
good_named : (bytes : List ℕ) → first_wrong bytes ≡ None → (good_blocks (blocks_named bytes) ≡ true) × (good_inodes (blocks_named bytes) (inodes_named bytes) ≡ true)
good_named bytes e =
    let a = right_then Magic _ _ e in
    let b = right_then Version _ _ a.1 in
    let c = right_then Blocks _ _ b.1 in
    let d = right_then Inodes _ _ c.1 in
    (c.0, d.0)

-- ---- the ranges

read_stands : (size n : ℕ) (area : List ℕ) (o : Option (List Batch × List ℕ)) (batches : List Batch) → o ≡ batches_at size None n area → batches_read o ≡ Some batches → All (Stands size) (all_ranges batches)
read_stands size n area None batches from e = absurd (cc)
read_stands size n area (Some read) batches from e =
    let same : read.0 ≡ batches = same_value read.0 batches e in
    subst (λ (z : List Batch). All (Stands size) (all_ranges z)) same
    (so_far_stands size n area (all_ranges read.0) (last_after None read.0) read.1 (record { batches = read.0; whole = sym from; in_order = refl; ends = refl }))

-- ---- the whole

whole_length : (len blocks : ℕ) → (len % 4096) ≡ 0 → blocks ≡ len / 4096 → len ≡ 4096 * blocks
whole_length len blocks r q = omega (arith, r, q)

pub opened_is_sized : (c : List ℕ) (contents : Contents) → opened c ≡ Some contents → IsSized (volume_in contents)
opened_is_sized c contents e =
    let front : List ℕ = superblock c in
    let p : Parts (is_length (length c)) (wrong_field c) (blocks_named front) (inodes_named front) (volume_area c) (batches_of c) contents =
    parts_from (is_length (length c)) (wrong_field c) (blocks_named front) (inodes_named front) (volume_area c) (batches_of c) contents e in
    let super = or_parts (first_wrong front) (blocks_named front == length c / block_size) p.super_is in
    let good = good_named front super.0 in
    let steps = and_parts (length c % block_size == 0) (good_blocks (length c / block_size)) p.length_is in
    let long : length c ≡ 4096 * blocks_named front =
    whole_length (length c) (blocks_named front) (eqb-true (length c % block_size) 0 steps.0) (eqb-true (blocks_named front) (length c / block_size) super.1) in
    let size : ℕ = length (volume_area c) in
    let stand : All (Stands size) (all_ranges p.batches) = read_stands size (open_gates (active_half c) c) (records_of (active_half c) c) _ p.batches refl p.read in
    let bytes_long : length (put_on (volume_area c) (all_ranges p.batches)) ≡ 4096 * (blocks_named front - 260) =
    put_long (all_ranges p.batches) (volume_area c) stand ∙ area_long c (blocks_named front) long in
    subst (λ (z : Contents). IsSized (volume_in z)) p.is (record { blocks = good.0; inodes = good.1; long = bytes_long })
