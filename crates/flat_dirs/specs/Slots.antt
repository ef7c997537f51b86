-- The slots of an image, and what a scan of them finds.
use Rattle.std.specs.Prelude.{◌≡◌, ◌≤◌, ℕ, Bool, true, false, cond, ◌&&◌, ◌==◌, List, [], ◌∷◌}
use Rattle.std.specs.declared.option.Option.{Option}
use Rattle.std.specs.declared.option.Option.TheVariants.{None, Some}
use Rattle.std.specs.declared.cmp.Ordering.{Ordering}
use Rattle.std.specs.Ordering.{nat_cmp, ordering_then}
use Rattle.std.specs.Cmp.Lexicographic.{slice_cmp}
use Rattle.std.specs.FinMap.{FinMap, get, entries, values, from_entries}
use Rattle.std.specs.Str.{bytes_eq}
use Rattle.flat_dirs.specs.declared.slot.Slot.{Slot}

-- slots by their inodes: inode 2 may have the slot of `a` in directory 0, and inode 5 that of `b` in directory 2
abbrev pub SlotMap : Type 0
SlotMap = FinMap nat_cmp Slot

-- whether a slot is that of this name in this directory
abbrev pub is_at : ℕ → List ℕ → Slot → Bool
is_at parent name slot = (slot.parent == parent) && bytes_eq slot.name name

-- whether there is a slot, and it is that of this name in this directory
abbrev pub is_slot_at : Option Slot → ℕ → List ℕ → Bool
is_slot_at None parent name = false
is_slot_at (Some slot) parent name = is_at parent name slot

-- ---- finding one

-- the least number that passes a test, and nothing where none passes: of the even numbers above 3 it is 4
abbrev pub IsLeast : (ℕ → Bool) → Option ℕ → Type 0
IsLeast test None = (j : ℕ) → test j ≡ false
IsLeast test (Some i) = (test i ≡ true) × ((j : ℕ) → test j ≡ true → i ≤ j)

-- the first of these inodes whose slot is that of this name in this directory
abbrev pub find_among : ℕ → List ℕ → List (ℕ × Slot) → Option ℕ
find_among parent name [] = None
find_among parent name (e ∷ es) = cond (is_at parent name e.1) (Some e.0) (find_among parent name es)

-- what a scan in order of inodes finds: 5 for `b` in directory 2, and nothing for `b` in directory 0
abbrev pub find_in : SlotMap → ℕ → List ℕ → Option ℕ
find_in slots parent name = find_among parent name (entries slots)

-- ---- listing a directory

-- the order of names by their bytes, and of one name by inodes: (`B`, 4), (`a`, 1), (`a`, 3), (`a.b`, 2)
abbrev pub name_cmp : List ℕ × ℕ → List ℕ × ℕ → Ordering
name_cmp x y = ordering_then (slice_cmp nat_cmp x.0 y.0) (nat_cmp x.1 y.1)

-- the inodes of this directory's slots, each by its name and itself, as a scan in order of inodes meets them
abbrev pub named_among : ℕ → List (ℕ × Slot) → List ((List ℕ × ℕ) × ℕ)
named_among parent [] = []
named_among parent (e ∷ es) = cond (e.1.parent == parent) (((e.1.name, e.0), e.0) ∷ named_among parent es) (named_among parent es)

-- the inodes of this directory's slots, in the order of their names
abbrev pub entries_in : SlotMap → ℕ → List ℕ
entries_in slots parent = values (from_entries {R = name_cmp} (named_among parent (entries slots)))

-- whether there is a slot, and it is in this directory
abbrev pub is_in : ℕ → Option Slot → Bool
is_in parent None = false
is_in parent (Some slot) = slot.parent == parent

-- the name of a slot, and no bytes where there is none
abbrev pub name_of : Option Slot → List ℕ
name_of None = []
name_of (Some slot) = slot.name

-- the order of inodes by the names in their slots, and of one name by themselves
abbrev pub by_name : SlotMap → ℕ → ℕ → Ordering
by_name slots i j = name_cmp (name_of (get slots i), i) (name_of (get slots j), j)

-- ---- a directory as a map
-- the names of this directory's slots with their inodes, in order of inodes
abbrev pub placed_among : ℕ → List (ℕ × Slot) → List (List ℕ × ℕ)
placed_among parent [] = []
placed_among parent (e ∷ es) = cond (e.1.parent == parent) ((e.1.name, e.0) ∷ placed_among parent es) (placed_among parent es)

-- the inodes of this directory's slots by their names; of several slots of one name it has the lowest inode
abbrev pub directory : SlotMap → ℕ → FinMap (slice_cmp nat_cmp) ℕ
directory slots parent = from_entries (placed_among parent (entries slots))

-- no two inodes have slots of one name in one directory
abbrev pub AreApart : SlotMap → Type 0
AreApart slots = (i j parent : ℕ) (name : List ℕ) → is_slot_at (get slots i) parent name ≡ true → is_slot_at (get slots j) parent name ≡ true → i ≡ j
