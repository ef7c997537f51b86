use Rattle.std.proofs.Common.{arith, ◌≡◌, length, get_or, set, sym, ap, subst}
use Rattle.cross_dep.specs.Kept.{Held, IsMarked}
use Rattle.cross_dep.specs.Held.{held_at}
use Rattle.cross_dep.proofs.HeldMarks.{held_was, held_now, held_other, none_fell}
use Rattle.cross_dep.proofs.book.mark_at.Goals as goal

pub mark_all-requires : goal.mark_all-requires
mark_all-requires c =
    let was = held_was c.args.marks.now c.args.stream c.from.result c.index-marks-from.result c.from.ensures c.requires.stream in
    omega (arith, c.requires.places, ap (λ (z : Held). length z.keys) was, ap (λ (z : Held). z.places) was)

pub returns : goal.returns
returns c =
    let marks = c.args.marks.now in
    let d = c.index-marks-from.result in
    let new = c.mark_all.new.self in
    let was : held_at marks c.args.stream ≡ get_or marks c.from.result d = held_was marks c.args.stream c.from.result d c.from.ensures c.requires.stream in
    let now : held_at (set marks c.from.result new) c.args.stream ≡ new = held_now marks c.args.stream c.from.result d c.from.ensures c.requires.stream new in
    record {
      own = subst (λ (z : Held). IsMarked z.keys c.args.update.now (held_at (set marks c.from.result new) c.args.stream).keys) (sym was)
          (subst (λ (z : Held). IsMarked (get_or marks c.from.result d).keys c.args.update.now z.keys) (sym now) c.mark_all.ensures.keys);
      others = held_other marks c.args.stream c.from.result d c.from.ensures c.requires.stream new;
      places = none_fell marks c.args.stream c.from.result d c.from.ensures c.requires.stream new c.mark_all.ensures.places;
    }
