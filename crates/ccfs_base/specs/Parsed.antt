-- What the reading of a path answers.
use Rattle.std.specs.Prelude.{◌≡◌, ℕ, Some, None, Result, Ok, Err, List}
use Rattle.ccfs_base.specs.Names.{names_in, path_of, bad_path_place}
use Rattle.ccfs_base.specs.declared.paths.PathFault.{PathFault}
use Rattle.ccfs_base.specs.declared.paths.PathFault.TheVariants.{BadPath, NoMemory}

-- the path that the text spells; or the text spells none, and the place says where; or it spells one, and memory was wanted
abbrev pub Parsed : List ℕ → Result (List (List ℕ)) PathFault → Type 0
Parsed text (Ok path) = path_of text ≡ Some path
Parsed text (Err (BadPath place)) = (path_of text ≡ None) × (place ≡ bad_path_place text)
Parsed text (Err NoMemory) = path_of text ≡ Some (names_in text)
