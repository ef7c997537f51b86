use Rattle.std.proofs.Common.{◌≡◌, map, take}
use Rattle.image_model.specs.Volumes.{volume_of}
use Rattle.image_model.specs.Files.{named}
use Rattle.image_model.proofs.pointing.named_blocks.Given as goal

-- the blocks of the pointers so far are listed
abbrev pub invariant-loop-pointer : goal.invariant-loop-pointer
invariant-loop-pointer l = l.blocks.items ≡ map (named (volume_of l.geometry l.bytes)) (take l.pointer-index l.pointers)
