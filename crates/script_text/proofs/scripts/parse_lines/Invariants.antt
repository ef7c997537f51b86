use Rattle.std.proofs.Common.{◌≡◌, ◌+◌, ◌<◌, ◌≤◌, length, All, true}
use Rattle.ccfs_base.specs.Fits.{fits_command}
use Rattle.script_text.specs.Lines.{lines_of}
use Rattle.script_text.specs.Scripts.{behind, bytes_in, calls_from, calls_of}
use Rattle.script_text.proofs.scripts.parse_lines.Given as goal

abbrev pub invariant-loop-words : goal.invariant-loop-words
invariant-loop-words l = record {
  read : calls_of l.fn.text ≡ behind l.reading.bad l.reading.calls.items (calls_from l.line (lines_of l.rest));
  bytes : l.reading.bytes + bytes_in (lines_of l.rest) ≡ bytes_in (lines_of l.fn.text);
  few : l.reading.bytes ≤ l.most;
  counted : l.line + length (lines_of l.rest) ≡ 1 + length (lines_of l.fn.text);
  actors : All (λ call. call.actor < 64) l.reading.calls.items;
  fits : All (λ call. fits_command call.command ≡ true) l.reading.calls.items;
}

abbrev pub decreases-loop-words : goal.decreases-loop-words
decreases-loop-words l = length l.rest
