use Rattle.std.proofs.Common.{◌++◌, ◌∷◌, [], ap, sym, ◌∙◌}
use Rattle.plain_model.proofs.Ranges.{range_more}
use Rattle.plain_model.proofs.seals.streams_below.Goals as goal

pub loop-stream-preserved : goal.loop-stream-preserved
loop-stream-preserved c = c.in_ok-push.ensures.items ∙ ap (λ l. l ++ c.loop-stream.stream ∷ []) c.loop-stream.invariant ∙ sym (range_more c.loop-stream.stream)
