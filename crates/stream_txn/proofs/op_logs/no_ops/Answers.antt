use Rattle.std.proofs.Common.{rules, arith, ◌≡◌, ◌<◌, ℕ, length, get_or, [], Vec, vec_items, Global}
use Rattle.file_bodies.specs.declared.ops.BodyOp.{BodyOp}
use Rattle.stream_txn.proofs.Memory.{all_none}
use Rattle.stream_txn.proofs.op_logs.no_ops.Goals as goal

pub returns : goal.returns
returns c =
    let each : (k : ℕ) (d : Vec BodyOp Global) → k < 64 → vec_items (get_or c.from_fn.result k d) ≡ []
    = λ k d l. let called = c.from_fn.ensures.items.at k d l in search (rules, called.2) in
    λ stream. all_none c.from_fn.result stream (λ (k : ℕ) (d : Vec BodyOp Global) (l : k < length c.from_fn.result). each k d (omega (arith, c.from_fn.ensures.items.long)))
