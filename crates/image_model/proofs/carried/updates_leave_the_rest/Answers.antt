use Rattle.image_model.proofs.CarriedUpdates as carried
use Rattle.image_model.proofs.ChangingTables as tables
use Rattle.image_model.proofs.carried.updates_leave_the_rest.Goals as goal

pub returns : goal.returns
returns c = carried.updates_leave_the_rest tables.records_change_tables
