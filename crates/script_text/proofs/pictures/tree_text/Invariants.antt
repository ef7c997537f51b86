use Rattle.std.proofs.Common.{◌≡◌, ◌++◌, drop}
use Rattle.script_text.specs.Trees.{item_lines, tree_lines}
use Rattle.script_text.proofs.pictures.tree_text.Given as goal

abbrev pub invariant-loop-item : goal.invariant-loop-item
invariant-loop-item l = tree_lines l.number l.picture ≡ l.out ++ item_lines l.names.items (drop l.item-index l.picture)
