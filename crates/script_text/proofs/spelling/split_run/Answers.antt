use Rattle.std.proofs.Common.{not, eqb, slice_index, ◌∙◌}
use Rattle.script_text.proofs.Cuts.{unwrap_or-position}
use Rattle.script_text.proofs.Runs.{some_run, runs_of-first, take-run}
use Rattle.script_text.proofs.spelling.split_run.Goals as goal

pub returns-clause-run : goal.returns-clause-run
returns-clause-run c =
    let xs = c.args.bytes.now in
    let e = c.unwrap_or-count.ensures ∙ unwrap_or-position (λ b. not (eqb b (slice_index xs 0))) xs c.other.result c.other.ensures in
    rw (c.split_at.ensures.front_len, c.split_at.ensures.back) (runs_of-first xs c.unwrap_or-count.result c.requires e)

pub returns-clause-same : goal.returns-clause-same
returns-clause-same c =
    let xs = c.args.bytes.now in
    let e = c.unwrap_or-count.ensures ∙ unwrap_or-position (λ b. not (eqb b (slice_index xs 0))) xs c.other.result c.other.ensures in
    rw (c.split_at.ensures.front_len, c.split_at.ensures.front) (take-run xs c.unwrap_or-count.result e)

pub returns-clause-some : goal.returns-clause-some
returns-clause-some c =
    let xs = c.args.bytes.now in
    let e = c.unwrap_or-count.ensures ∙ unwrap_or-position (λ b. not (eqb b (slice_index xs 0))) xs c.other.result c.other.ensures in
    rw c.split_at.ensures.front_len (some_run xs c.unwrap_or-count.result c.requires e).0
