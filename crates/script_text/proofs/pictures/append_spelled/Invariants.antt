use Rattle.std.proofs.Common.{◌≡◌, ◌++◌, take}
use Rattle.ccfs_base.specs.Names.{spelled}
use Rattle.script_text.proofs.pictures.append_spelled.Given as goal

abbrev pub invariant-loop-name : goal.invariant-loop-name
invariant-loop-name l = l.out ≡ l.fn.out ++ spelled (take l.name-index l.names)
