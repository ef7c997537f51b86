-- How a batch changes the lengths of files, and the uses that it gains and gives up blocks for.
use Rattle.std.specs.Prelude.{ℕ, ◌+◌, ◌==◌, Bool, Option, List, [], ◌∷◌, map, filter, flat_map}
use Rattle.std.specs.List.{list_any}
use Rattle.ccfs_base.specs.Limits.{pages}
use Rattle.file_bodies.specs.declared.ops.BodyOp.{BodyOp}
use Rattle.file_bodies.specs.Files.{file_of}
use Rattle.late_alloc.specs.Lengths.{length_after, least_pages}
use Rattle.block_maps.specs.Maps.{Mapped, file_at, given_blocks}
use Rattle.block_maps.specs.Uses.{new_uses}
use Rattle.late_alloc.specs.declared.changes.Reach.{Reach}

-- the least pages and the length at the end of one file by its inode: a file of no bytes at inode 5 that is filled up to 9 bytes
-- has the least pages 0 and the end 9
abbrev pub reach_by : List BodyOp → ℕ → ℕ → Reach
reach_by ops inode len = record { inode = inode; least = least_pages inode len ops; end = length_after inode len ops }

-- the same of files by inode, the first of them having this inode
abbrev pub reaches_from : ℕ → List Mapped → List BodyOp → List Reach
reaches_from inode [] ops = []
reaches_from inode (file ∷ rest) ops = reach_by ops inode file.len ∷ reaches_from (inode + 1) rest ops

-- the same of all files, of which the first has inode 0
abbrev pub reaches_of : List Mapped → List BodyOp → List Reach
reaches_of files ops = reaches_from 0 files ops

-- whether one of the operations is on a file
abbrev pub is_touched : List BodyOp → ℕ → Bool
is_touched ops inode = list_any (λ op. inode == file_of op) ops

-- the same as above of the files that operations are on
abbrev pub touched_of : List Mapped → List BodyOp → List Reach
touched_of files ops = filter (λ reach. is_touched ops reach.inode) (reaches_of files ops)

-- ---- uses

-- the new uses of one file
abbrev pub own_news : Reach → List (ℕ × Option ℕ)
own_news reach = map (λ purpose. (reach.inode, purpose)) (new_uses reach.least (pages reach.end))

-- those of several, each in the order of its uses
abbrev pub news : List Reach → List (ℕ × Option ℕ)
news reaches = flat_map own_news reaches

-- the blocks that files give up, each in the order of its uses
abbrev pub given_by : List Mapped → List Reach → List ℕ
given_by files reaches = flat_map (λ reach. given_blocks (file_at files reach.inode) reach.least) reaches

-- the uses that a batch needs new blocks for, inodes rising
abbrev pub news_of : List Mapped → List BodyOp → List (ℕ × Option ℕ)
news_of files ops = news (reaches_of files ops)

-- the blocks that a batch gives up, inodes rising
abbrev pub given_of : List Mapped → List BodyOp → List ℕ
given_of files ops = given_by files (reaches_of files ops)
