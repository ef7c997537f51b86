use Rattle.std.proofs.Common.{[]}
use Rattle.front_core.proofs.Lists.{lists_set, places_same}
use Rattle.front_core.proofs.free.clear_at.Goals as goal

pub returns-clause-lists : goal.returns-clause-lists
returns-clause-lists c = lists_set c.args.given.now c.from.result c.args.stream c.clear.new.self [] c.from.ensures c.clear.ensures.items

pub returns-clause-places : goal.returns-clause-places
returns-clause-places c = places_same c.args.given.now c.from.result c.clear.new.self c.index-given-from.result c.clear.ensures.capacity
