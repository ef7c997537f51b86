-- Steps of a history as streams and cuts take them.
use Rattle.std.specs.Prelude.{List, [], ◌∷◌}
use Rattle.stream_cuts.specs.Streams as streams
use Rattle.tree_model.specs.declared.rows.Update.{Update}
use Rattle.plain_model.specs.declared.cutting.Step.{Step}
use Rattle.plain_model.specs.declared.cutting.Step.TheVariants.{Enter, Seal}

-- The steps, each an update that enters a stream, or the seal of one.
abbrev pub steps_of : List Step → List (streams.Step Update)
steps_of [] = []
steps_of (Enter s u ∷ l) = streams.Enter s u ∷ steps_of l
steps_of (Seal s ∷ l) = streams.Seal s ∷ steps_of l
