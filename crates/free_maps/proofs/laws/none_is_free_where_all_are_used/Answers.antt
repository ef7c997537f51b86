use Rattle.free_maps.specs.Maps.{is_set}
use Rattle.free_maps.proofs.Failing.{failing-none, all_pass}
use Rattle.free_maps.proofs.laws.none_is_free_where_all_are_used.Goals as goal

pub returns-clause-none : goal.returns-clause-none
returns-clause-none c = failing-none (is_set c.args.bytes.now) c.args.count

pub returns-clause-all : goal.returns-clause-all
returns-clause-all c = all_pass (is_set c.args.bytes.now) c.args.count
