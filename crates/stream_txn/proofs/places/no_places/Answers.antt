use Rattle.std.proofs.Common.{rules, arith, ◌≡◌, ◌<◌, ℕ, length, get_or, Option, None, Vec, Global}
use Rattle.file_bodies.specs.declared.batches.Sealed.{Sealed}
use Rattle.stream_txn.proofs.Queue.{all_none}
use Rattle.stream_txn.proofs.places.no_places.Goals as goal

pub returns : goal.returns
returns c =
    let each : (k : ℕ) (d : Option (Vec Sealed Global)) → k < 64 → get_or c.from_fn.result k d ≡ None
    = λ k d l. let called = c.from_fn.ensures.items.at k d l in search (rules, called.2) in
    λ stream. all_none c.from_fn.result stream (λ (k : ℕ) (d : Option (Vec Sealed Global)) (l : k < length c.from_fn.result). each k d (omega (arith, c.from_fn.ensures.items.long)))
