-- A front, as a contract sees it: a history on a tree of opening, the inodes of its rows, and how many of its batches were handed out.
use Rattle.std.specs.Prelude.{◌≡◌, ℕ, ◌-◌, List, [], ◌∷◌, ◌++◌}
use Rattle.ccfs_base.specs.declared.commands.Command.{Command}
use Rattle.file_bodies.specs.declared.batches.Sealed.{Sealed}
use Rattle.tree_model.specs.declared.rows.Entry.{Entry}
use Rattle.tree_model.specs.Rows.{Rows}
use Rattle.tree_cuts.specs.Calls.{Sizes}
use Rattle.history_model.specs.State.{Now}
use Rattle.history_model.specs.Histories.{start, entry_of, seal_count}
use Rattle.block_layout.specs.declared.geometry.Geometry.{Geometry}
use Rattle.front_laws.specs.Inodes.{with_inode}
use Rattle.front_laws.specs.Kept.{now_of}
use Rattle.front_laws.specs.Batches.{batches_from}

-- The numbers of data blocks and inodes of the image, how many calls the history may have, the tree of opening, the calls so far, the
-- inode of each serial, and how many batches were handed out.
pub record Fronted : Type 0 where
  pub sizes : Sizes
  pub limit : ℕ
  pub opening : Rows
  pub entries : List Entry
  pub inodes : List ℕ
  pub handed : ℕ

-- the numbers of an image of these sizes: an image of 512 blocks and 32 inodes has 246 data blocks
abbrev pub sizes_of : Geometry → Sizes
sizes_of geometry = record { data_blocks = geometry.data_blocks; inodes = geometry.inodes }

-- a front with no calls
abbrev pub new_front : Geometry → ℕ → Rows → List ℕ → Fronted
new_front geometry limit t inodes = record { sizes = sizes_of geometry; limit = limit; opening = t; entries = []; inodes = inodes; handed = 0 }

-- what its history left
abbrev pub now_in : Fronted → Now
now_in f = now_of f.sizes f.opening f.entries

-- the entry that a call makes next, and the history with it
abbrev pub next_entry : Fronted → ℕ → Command → Entry
next_entry f actor c = entry_of f.sizes (now_in f) actor c

abbrev pub next_history : Fronted → ℕ → Command → List Entry
next_history f actor c = f.entries ++ next_entry f actor c ∷ []

-- the number of its seals
abbrev pub seals_of : Fronted → ℕ
seals_of f = seal_count f.sizes (start f.opening) f.entries

-- the batches that wait to be handed out
abbrev pub waiting : Fronted → List Sealed
waiting f = batches_from f.sizes f.opening f.inodes f.entries f.handed (seals_of f - f.handed)

-- A call was made: its entry stands last in the history, and a row that it made has an inode behind the others. Which one that is,
-- IsKept tells.
pub record IsActed (old : Fronted) (actor : ℕ) (c : Command) (new : Fronted) : Type 0 where
  pub sizes : new.sizes ≡ old.sizes
  pub limit : new.limit ≡ old.limit
  pub opening : new.opening ≡ old.opening
  pub entries : new.entries ≡ next_history old actor c
  pub inodes : (i : ℕ) × (new.inodes ≡ with_inode (next_entry old actor c).update i old.inodes)
  pub handed : new.handed ≡ old.handed
