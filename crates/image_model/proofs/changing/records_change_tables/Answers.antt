use Rattle.image_model.proofs.ChangingTables as tables
use Rattle.image_model.proofs.changing.records_change_tables.Goals as goal

pub returns : goal.returns
returns c = tables.records_change_tables
