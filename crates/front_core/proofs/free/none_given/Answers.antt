use Rattle.std.proofs.Common.{rules, arith, ◌≡◌, ◌<◌, ℕ, length, get_or, [], Vec, vec_items, Global}
use Rattle.front_core.proofs.Lists.{all_none}
use Rattle.front_core.proofs.free.none_given.Goals as goal

pub returns : goal.returns
returns c =
    let each : (k : ℕ) (d : Vec ℕ Global) → k < 64 → vec_items (get_or c.from_fn.result k d) ≡ []
    = λ k d l. let called = c.from_fn.ensures.items.at k d l in search (rules, called.2) in
    λ stream. all_none c.from_fn.result stream (λ (k : ℕ) (d : Vec ℕ Global) (l : k < length c.from_fn.result). each k d (omega (arith, c.from_fn.ensures.items.long)))
