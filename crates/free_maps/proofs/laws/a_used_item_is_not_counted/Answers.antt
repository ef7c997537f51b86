use Rattle.free_maps.specs.Maps.{is_set}
use Rattle.free_maps.proofs.Failing.{failing-but_one}
use Rattle.free_maps.proofs.laws.a_used_item_is_not_counted.Goals as goal

pub returns : goal.returns
returns c =
    failing-but_one (is_set c.args.one.now) (is_set c.args.other.now) c.args.place c.args.count c.requires.place c.requires.used c.requires.free c.requires.others
