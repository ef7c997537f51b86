use Rattle.image_model.proofs.CarriedUpdates as carried
use Rattle.image_model.proofs.ChangingTables as tables
use Rattle.image_model.proofs.carried.updates_are_carried.Goals as goal

pub returns : goal.returns
returns c = carried.updates_are_carried tables.records_change_tables
