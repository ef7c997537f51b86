use Rattle.std.proofs.Common.{rules, arith, ◌≡◌, ◌<◌, ℕ, length, get_or, []}
use Rattle.cross_dep.specs.Kept.{Held}
use Rattle.cross_dep.proofs.HeldMarks.{all_none}
use Rattle.cross_dep.proofs.book.no_marks.Goals as goal

pub returns : goal.returns
returns c =
    let each : (k : ℕ) (d : Held) → k < 64 → (get_or c.from_fn.result k d).keys ≡ []
    = λ k d l. let called = c.from_fn.ensures.items.at k d l in search (rules, called.2) in
    λ stream. all_none c.from_fn.result stream (λ (k : ℕ) (d : Held) (l : k < length c.from_fn.result). each k d (omega (arith, c.from_fn.ensures.items.long)))
