-- The index that is kept beside the slots: for each slot its parent, its name and its inode, in this order.
use Rattle.std.specs.Prelude.{◌≡◌, ℕ, Bool, cond, ◌==◌, List}
use Rattle.std.specs.declared.cmp.Ordering.{Ordering}
use Rattle.std.specs.Ordering.{nat_cmp, ordering_then, is_eq}
use Rattle.std.specs.Cmp.Lexicographic.{slice_cmp}
use Rattle.std.specs.FinMap.{get}
use Rattle.std.specs.BTreeSet.{BTreeSet, contains}
use Rattle.flat_dirs.specs.declared.slot.Slot.{Slot}
use Rattle.flat_dirs.specs.Slots.{SlotMap, is_slot_at}

-- a parent, a name and an inode
abbrev pub SlotKey : Type 0
SlotKey = ℕ × List ℕ × ℕ

-- the order of parents, then of names by their bytes, then of inodes: (0, `b`, 7), (1, `a`, 5), (1, `a`, 6)
abbrev pub place_cmp : SlotKey → SlotKey → Ordering
place_cmp x y = ordering_then (ordering_then (nat_cmp x.0 y.0) (slice_cmp nat_cmp x.1 y.1)) (nat_cmp x.2 y.2)

-- the place of an inode's slot: of inode 5 with the slot of `a` in directory 1 it is (1, `a`, 5)
abbrev pub place_of : ℕ → Slot → SlotKey
place_of inode slot = (slot.parent, slot.name, inode)

-- an index that has a place, or (for false) lacks it, and has of all other places those that it had before
abbrev pub Sets : BTreeSet SlotKey → BTreeSet SlotKey → SlotKey → Bool → Type 0
Sets was now place has = (q : SlotKey) → contains place_cmp now q ≡ cond (is_eq (place_cmp place q)) has (contains place_cmp was q)

-- whether a place is in this directory
abbrev pub is_below : ℕ → SlotKey → Bool
is_below parent place = place.0 == parent

-- the index has exactly the places of the slots
abbrev pub IsIndex : SlotMap → BTreeSet SlotKey → Type 0
IsIndex slots places = (parent : ℕ) (name : List ℕ) (inode : ℕ) → contains place_cmp places (parent, name, inode) ≡ is_slot_at (get slots inode) parent name
