-- The tree of an image that was found keeps within its sizes.
use Rattle.std.proofs.Common.{◌≡◌, ℕ, ◌≤◌, List, length, refl, sym, ap, subst, ◌∙◌, arith}
use Rattle.std.specs.Prelude.{Option, Some, None}
use Rattle.std.specs.FinMap.{get}
use Rattle.tree_model.specs.declared.rows.Body.{Body}
use Rattle.tree_model.specs.declared.rows.Body.TheVariants.{Dir, File}
use Rattle.tree_model.specs.declared.rows.Row.{Row}
use Rattle.tree_model.specs.Rows.{Rows}
use Rattle.tree_model.specs.Weights.{body_bytes, row_bytes}
use Rattle.ccfs_base.specs.Limits.{file_max}
use Rattle.tree_cuts.specs.Calls.{Sizes}
use Rattle.history_laws.specs.Laws.{IsSized}
use Rattle.image_model.specs.Volumes.{Volume, table_of, number}
use Rattle.image_model.specs.Files.{file_bytes}
use Rattle.image_model.specs.Checks.{bare, first_failure_for_now}
use Rattle.image_model.specs.Trees.{inodes_of, tree_of}
use Rattle.carried_volumes.specs.Plain.{IsBareBody, IsPlain}
use Rattle.carried_volumes.specs.Laws.{IsOpened}
use Rattle.carried_volumes.proofs.Opening as opening
use Rattle.front_laws.proofs.Live.{live_none}
use Rattle.recovery.specs.Recovering.{volume_in, where_sound, held_under, if_opened}
use Rattle.recovery.proofs.Carried.{none_fails}
use Rattle.recovery.proofs.Recovers.{passes_closed}
use Rattle.crash_meaning.specs.Laws.{KeepsWithin, FoundTreesKeepWithin}
use Rattle.crash_meaning.proofs.Sizes.{opened_is_sized}

-- the files of a plain tree are empty
body_short : (b : Body) → IsBareBody b → length (body_bytes b) ≤ file_max
body_short (Dir changes) is = omega arith
body_short (File bytes) is = let none : length bytes ≡ 0 = ap (λ (z : List ℕ). length z) is in omega (arith, none)

row_short : (o : Option Row) → ((r : Row) → o ≡ Some r → IsBareBody r.body) → length (row_bytes o) ≤ file_max
row_short None all = omega arith
row_short (Some r) all = body_short r.body (all r refl)

plain_sized : (t : Rows) → IsPlain t → IsSized t
plain_sized t plain x = row_short (get t x) (λ r is. plain.bare x r is)

-- a tree that a volume was opened with
opened_within : (v : Volume) (sizes : Sizes) (inodes : List ℕ) → sizes.inodes ≡ v.inodes → IsOpened v (tree_of v) inodes → KeepsWithin sizes (tree_of v)
opened_within v sizes inodes same is =
    let none = live_none (tree_of v) is.carried.plain in
    let few = is.have.few in
    record {
      tree = is.carried.plain.tree;
      sized = plain_sized (tree_of v) is.carried.plain;
      blocks = omega (arith, none);
      rows = omega (arith, few, same);
    }

pub found_trees_keep_within : FoundTreesKeepWithin
found_trees_keep_within image found is =
    let v : Volume = volume_in is.contents in
    let held : ℕ × Rows = (number v, tree_of v) in
    let told : held_under bare is.contents ≡ Some (image.number, image.tree) = sym (ap (if_opened (held_under bare)) is.opens) ∙ is.recovers in
    let none : first_failure_for_now is.contents.last v ≡ None = none_fails (first_failure_for_now is.contents.last v) held (image.number, image.tree) told in
    let some : Some held ≡ Some (image.number, image.tree) = sym (ap (λ o. where_sound o held) none) ∙ told in
    let same : held ≡ (image.number, image.tree) = cc in
    let there : IsOpened v (tree_of v) (inodes_of (table_of v) (file_bytes v)) =
    opening.opened v (opened_is_sized found is.contents is.opens) (passes_closed bare is.contents.last v none).1 in
    subst (λ (q : ℕ × Rows). KeepsWithin image.sizes q.1) same
    (opened_within v image.sizes (inodes_of (table_of v) (file_bytes v)) (ap (λ (s : Sizes). s.inodes) is.sizes_are) there)
