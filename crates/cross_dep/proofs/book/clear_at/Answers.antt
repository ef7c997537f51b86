use Rattle.std.proofs.Common.{arith, set, ap, ◌∙◌}
use Rattle.cross_dep.specs.Held.{keys_in}
use Rattle.cross_dep.proofs.HeldMarks.{none_fell, keys_now}
use Rattle.cross_dep.proofs.book.clear_at.Goals as goal

pub returns : goal.returns
returns c =
    let marks = c.args.marks.now in
    let d = c.index-marks-from.result in
    let new = c.clear.new.self in
    record {
      keys = keys_now marks c.args.stream c.from.result d c.from.ensures c.requires new ∙ ap (set (keys_in marks) c.args.stream) c.clear.ensures.keys;
      places = none_fell marks c.args.stream c.from.result d c.from.ensures c.requires new (omega (arith, c.clear.ensures.places));
    }
