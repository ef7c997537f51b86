use Rattle.std.proofs.Common.{◌≡◌, ◌≤◌, ◌++◌, ◌-◌, length}
use Rattle.ccfs_top.proofs.script.read_script.Given as goal

abbrev pub invariant-loop-text : goal.invariant-loop-text
invariant-loop-text g l = record {
  read : g.S.Source.tells → g.S.Source.left l.fn.script ≡ l.text.items ++ g.S.Source.left l.script;
  few : length l.text.items ≤ 16777217;
  whole : l.piece.len ≡ 65536;
  later : g.S.Source.faults l.fn.script ≤ g.S.Source.faults l.script;
  steady : g.S.Source.faults l.script ≡ g.S.Source.faults l.fn.script;
}

abbrev pub decreases-loop-text : goal.decreases-loop-text
decreases-loop-text g l = 16777217 - length l.text.items
