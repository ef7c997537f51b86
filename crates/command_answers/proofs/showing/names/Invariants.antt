use Rattle.std.proofs.Common.{◌≡◌, take}
use Rattle.std.specs.Prelude.{map}
use Rattle.tree_model.specs.Rows.{is_dir_at}
use Rattle.command_answers.proofs.showing.names.Given as goal

abbrev pub invariant-loop-name : goal.invariant-loop-name
invariant-loop-name l = l.names ≡ map (λ e. (e.0, is_dir_at l.tree e.1)) (take l.name-index l.entries)
