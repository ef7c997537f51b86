use Rattle.std.proofs.Common.{arith, ◌≡◌, ◌+◌, ◌≤◌, length, get_or, set, ap}
use Rattle.std.proofs.lemmas.Result.{on_ok_weaker}
use Rattle.cross_dep.specs.Kept.{Held}
use Rattle.cross_dep.specs.Held.{held_at}
use Rattle.cross_dep.proofs.HeldMarks.{held_was, held_now, none_fell, keys_same}
use Rattle.cross_dep.proofs.book.reserve_at.Goals as goal

pub returns : goal.returns
returns c =
    let marks = c.args.marks.now in
    let d = c.index-marks-from.result in
    let new = c.reserve.new.self in
    let was : held_at marks c.args.stream ≡ get_or marks c.from.result d = held_was marks c.args.stream c.from.result d c.from.ensures c.requires in
    let now : held_at (set marks c.from.result new) c.args.stream ≡ new = held_now marks c.args.stream c.from.result d c.from.ensures c.requires new in
    record {
      keys = keys_same marks c.args.stream c.from.result d c.from.ensures c.requires new c.reserve.ensures.keys;
      places = none_fell marks c.args.stream c.from.result d c.from.ensures c.requires new c.reserve.ensures.places;
      ok = on_ok_weaker c.reserve.result
          (λ (k : length (get_or marks c.from.result d).keys + c.args.more ≤ new.places). omega (arith, k, ap (λ (z : Held). length z.keys) was, ap (λ (z : Held). z.places) now))
          c.reserve.ensures.ok;
    }
