use Rattle.std.proofs.Common.{◌≡◌, ◌-◌, drop}
use Rattle.script_text.specs.Trees.{item_line, line_behind}
use Rattle.script_text.proofs.pictures.item_text.Given as goal

abbrev pub invariant-loop-item : goal.invariant-loop-item
invariant-loop-item l = item_line l.picture l.place ≡ line_behind l.names.items (drop l.item-index l.picture) (l.place - l.item-index)
