use Rattle.front_laws.proofs.RowsFit.{rows_fit_behind_seals}
use Rattle.front_laws.proofs.laws.rows_fit_behind_seals.Goals as goal

pub returns : goal.returns
returns c = rows_fit_behind_seals
