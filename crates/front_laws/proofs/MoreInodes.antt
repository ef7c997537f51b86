-- More inodes behind the others leave what an update is told by.
use Rattle.std.proofs.Common.{◌≡◌, ℕ, ◌<◌, List, [], ◌∷◌, ◌++◌, length, refl}
use Rattle.std.specs.Prelude.{Bool, true, false, not, Option, Some, None}
use Rattle.std.proofs.lemmas.List.{get_or_append_left}
use Rattle.tree_model.specs.declared.rows.Update.{Update}
use Rattle.tree_model.specs.declared.rows.Update.TheVariants.{Make, Write, Resize, Remove, Move, Release}
use Rattle.image_model.specs.Carrying.{inode_in}
use Rattle.image_model.specs.Changes.{New, Drop, Touch, Enter, all_records, kind_made}
use Rattle.update_records.specs.Built.{is_built, IsAtMostBelow, AreSerialsBelow}
use Rattle.update_records.specs.Operations.{ops_of, ops_of_made, ops_of_left}
use Rattle.front_laws.specs.Inodes.{given_by}
use Rattle.front_laws.specs.Batches.{its_records}
use Rattle.front_laws.specs.Laws.{MoreInodesLeaveUpdates}

-- the inode of a serial that is listed stays
pub in_more : (inodes more : List ℕ) (s : ℕ) → s < length inodes → inode_in (inodes ++ more) s ≡ inode_in inodes s
in_more inodes more s less = get_or_append_left inodes more 0 s less

module _ (count : ℕ) (inodes more : List ℕ) where
  -- what an update is told by stays
  abbrev Stay : Update → Type 0
  Stay u = (its_records count (inodes ++ more) u ≡ its_records count inodes u) × (ops_of (inodes ++ more) u ≡ ops_of inodes u) × (given_by (inodes ++ more) u ≡ given_by inodes u)

  of_make : (dir : ℕ) (name : List ℕ) (id : ℕ) (is_dir : Bool) → dir < length inodes → id < length inodes → Stay (Make dir name id is_dir)
  of_make dir name id is_dir dirs ids =
      let a : inode_in (inodes ++ more) id ≡ inode_in inodes id = in_more inodes more id ids in
      let b : inode_in (inodes ++ more) dir ≡ inode_in inodes dir = in_more inodes more dir dirs in (
        λ i. all_records count (New (a i) (b i) name (kind_made is_dir) ∷ Touch (b i) ∷ []),
        λ i. ops_of_made (a i) is_dir,
        refl,
      )

  of_remove : (dir : ℕ) (name : List ℕ) (id : ℕ) (stays : Bool) → not stays ≡ true → dir < length inodes → id < length inodes → Stay (Remove dir name id stays)
  of_remove dir name id true built dirs ids = absurd (cc)
  of_remove dir name id false built dirs ids =
      let a : inode_in (inodes ++ more) id ≡ inode_in inodes id = in_more inodes more id ids in
      let b : inode_in (inodes ++ more) dir ≡ inode_in inodes dir = in_more inodes more dir dirs in (
        λ i. all_records count (Drop (a i) ∷ Touch (b i) ∷ []),
        λ i. ops_of_left (a i) false,
        λ i. a i ∷ [],
      )

  of_move : (dir : ℕ) (name : List ℕ) (to_dir : ℕ) (to_name : List ℕ) (id : ℕ) (is_dir : Bool) (replaced : Option ℕ) (stays : Bool)
      → not stays ≡ true → dir < length inodes → to_dir < length inodes → id < length inodes → IsAtMostBelow (length inodes) replaced
      → Stay (Move dir name to_dir to_name id is_dir replaced stays)
  of_move dir name to_dir to_name id is_dir replaced true built dirs tos ids below = absurd (cc)
  of_move dir name to_dir to_name id is_dir None false built dirs tos ids below =
      let a : inode_in (inodes ++ more) id ≡ inode_in inodes id = in_more inodes more id ids in
      let b : inode_in (inodes ++ more) dir ≡ inode_in inodes dir = in_more inodes more dir dirs in
      let c : inode_in (inodes ++ more) to_dir ≡ inode_in inodes to_dir = in_more inodes more to_dir tos in
      (λ i. all_records count (Enter (a i) (c i) to_name ∷ Touch (b i) ∷ Touch (c i) ∷ []), refl, refl)
  of_move dir name to_dir to_name id is_dir (Some x) false built dirs tos ids below =
      let a : inode_in (inodes ++ more) id ≡ inode_in inodes id = in_more inodes more id ids in
      let b : inode_in (inodes ++ more) dir ≡ inode_in inodes dir = in_more inodes more dir dirs in
      let c : inode_in (inodes ++ more) to_dir ≡ inode_in inodes to_dir = in_more inodes more to_dir tos in
      let d : inode_in (inodes ++ more) x ≡ inode_in inodes x = in_more inodes more x below in (
        λ i. all_records count (Drop (d i) ∷ Enter (a i) (c i) to_name ∷ Touch (b i) ∷ Touch (c i) ∷ []),
        λ i. ops_of_left (d i) false,
        λ i. d i ∷ [],
      )

  by_update : (u : Update) → is_built u ≡ true → AreSerialsBelow (length inodes) u → Stay u
  by_update (Make dir name id is_dir) built below = of_make dir name id is_dir below.0 below.1
  by_update (Write id off bytes) built below = absurd (cc)
  by_update (Resize id len) built below = absurd (cc)
  by_update (Remove dir name id stays) built below = of_remove dir name id stays built below.0 below.1
  by_update (Move dir name to_dir to_name id is_dir replaced stays) built below =
      of_move dir name to_dir to_name id is_dir replaced stays built below.0 below.1 below.2 below.3
  by_update (Release id) built below = absurd (cc)

pub more_inodes_leave_updates : MoreInodesLeaveUpdates
more_inodes_leave_updates count inodes more u built below = by_update count inodes more u built below
