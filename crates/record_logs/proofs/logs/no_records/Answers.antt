use Rattle.std.proofs.Common.{rules, arith, ◌≡◌, ◌<◌, ℕ, length, get_or, [], Vec, vec_items, Global}
use Rattle.ccfs_base.specs.declared.records.Rec.{Rec}
use Rattle.record_logs.proofs.Memory.{all_none}
use Rattle.record_logs.proofs.logs.no_records.Goals as goal

pub returns : goal.returns
returns c =
    let each : (k : ℕ) (d : Vec Rec Global) → k < 64 → vec_items (get_or c.from_fn.result k d) ≡ []
    = λ k d l. let called = c.from_fn.ensures.items.at k d l in search (rules, called.2) in
    λ stream. all_none c.from_fn.result stream (λ (k : ℕ) (d : Vec Rec Global) (l : k < length c.from_fn.result). each k d (omega (arith, c.from_fn.ensures.items.long)))
