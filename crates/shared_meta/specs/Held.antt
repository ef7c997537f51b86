-- What the memory of a metadata area holds.
use Rattle.std.specs.Prelude.{◌≡◌, ℕ, ◌≤◌, List, [], length, map, Option, None, Some, is_some, slice_index_or, Vec, vec_items, vec_len, vec_capacity}
use Rattle.ccfs_base.specs.declared.records.Rec.{Rec}
use Rattle.shared_meta.specs.Area.{Area, AreaLists, log_of, standing, IsShared}
use Rattle.shared_meta.specs.Merged.{Both}

-- a place has memory for so many records, and none of them yet
abbrev pub IsPlaceFor : {Z : Type 0} → ℕ → Option (Vec Rec Z) → Type 0
IsPlaceFor size None = Unit {0}
IsPlaceFor size (Some place) = (vec_items place ≡ []) × (vec_len place ≡ 0) × (size ≤ vec_capacity place)

-- the bytes as they stand: those of the copy, and where none was made those of the base
abbrev pub stood : {Z : Type 0} → Option (Vec ℕ Z) → List ℕ → List ℕ
stood None base = base
stood (Some copy) base = vec_items copy

-- a copy was made, and has these bytes
abbrev pub IsCopy : {Z : Type 0} → Option (Vec ℕ Z) → List ℕ → Type 0
IsCopy None bytes = ⊥
IsCopy (Some copy) bytes = vec_items copy ≡ bytes

-- the copy is the area as it stands. There is none only while nothing is logged and no room was made
abbrev pub IsStanding : {Z : Type 0} → Area → Option (Vec ℕ Z) → Type 0
IsStanding a None = ((stream : ℕ) → log_of a stream ≡ []) × (a.room ≡ [])
IsStanding a (Some copy) = vec_items copy ≡ standing a

-- the fields as a contract sees them
abbrev pub kept_in : {Z : Type 0} → List ℕ → Both → List (Option (Vec Rec Z)) → AreaLists
kept_in base logs places = record { base = base; ranges = logs.ranges; deltas = logs.deltas; places = map (λ place. is_some place) places; room = logs.room }

-- The logs lie in the area and don't disturb each other, the copy is the area as it stands, and a place has memory for all that
-- its stream has logged.
pub record IsHeld {Y Z : Type 0} (a : Area) (copy : Option (Vec ℕ Y)) (lists : List (Option (Vec Rec Z))) : Type 0 where
  pub shared : IsShared a
  pub copied : IsStanding a copy
  pub places : (stream : ℕ) → IsPlaceFor (length (log_of a stream)) (slice_index_or lists stream None)
