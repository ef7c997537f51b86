use Rattle.std.proofs.Common.{◌+◌, ◌++◌, List, ℕ, ap, sym, drop, map, get_or, arith, ◌∙◌}
use Rattle.std.proofs.lemmas.List.{drop_more}
use Rattle.stream_cuts.specs.Streams as streams
use Rattle.plain_model.specs.Steps.{steps_of}
use Rattle.plain_model.proofs.Records.{seal_pushed}
use Rattle.plain_model.proofs.recording.push_seals.Goals as goal

pub loop-stream-preserved : goal.loop-stream-preserved
loop-stream-preserved c =
    let i = c.loop-stream.stream-index in
    let all : List ℕ = c.args.sealed.now in
    let s : ℕ = get_or all i 0 in
    ap (λ l. steps_of l ++ map streams.Seal (drop (i + 1) all)) c.in_ok-push.ensures.items
    ∙ seal_pushed c.loop-stream.steps.items s (map streams.Seal (drop (i + 1) all))
    ∙ ap (λ l. steps_of c.loop-stream.steps.items ++ map streams.Seal l) (sym (drop_more all i 0 (omega (arith, c.loop-stream-test.true))))
    ∙ c.loop-stream.invariant
