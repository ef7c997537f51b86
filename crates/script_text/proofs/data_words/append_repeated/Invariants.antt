use Rattle.std.proofs.Common.{◌≡◌, ◌++◌, replicate}
use Rattle.script_text.proofs.data_words.append_repeated.Given as goal

abbrev pub invariant-loop-i : goal.invariant-loop-i
invariant-loop-i l = l.out ≡ l.fn.out ++ replicate l.i l.byte
