use Rattle.std.proofs.Common.{rules, tests, ◌==◌, ◌||◌, vec_items}
use Rattle.std.specs.List.{list_all}
use Rattle.std.proofs.lemmas.Iterator.{YieldsList-from_slice}
use Rattle.std.proofs.lemmas.Iterator.Consumers.{YieldsList-from_enumerate}
use Rattle.std.proofs.lemmas.Iterator.Search.{all_from_yields_List}
use Rattle.shared_meta.specs.Spots.{is_free_of}
use Rattle.shared_meta.proofs.spots.passes_others.Goals as goal

pub returns : goal.returns
returns c =
    all_from_yields_List (λ log. log.0 == c.args.own || list_all (is_free_of c.args.spot) (vec_items log.1)) _ _ c.all.result c.all.ensures.ran
    (YieldsList-from_enumerate (YieldsList-from_slice c.args.logs.now cc) cc) (λ x b q k. search (rules, tests))
