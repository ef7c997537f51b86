use Rattle.std.proofs.Common.{◌≡◌, ◌≤◌, length, Some}
use Rattle.script_text.specs.DataWords.{all_bytes, joined, parts_of}
use Rattle.script_text.proofs.data_words.parse_within.Given as goal

abbrev pub invariant-parts : goal.invariant-parts
invariant-parts l = record {
  read : all_bytes (parts_of l.fn.word) ≡ joined (Some l.bytes) (all_bytes (parts_of l.rest));
  few : length l.bytes ≤ l.most;
}

abbrev pub decreases-parts : goal.decreases-parts
decreases-parts l = length l.rest
