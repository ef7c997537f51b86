use Rattle.std.proofs.Common.{◌≡◌, ◌+◌, ◌*◌, ◌≤◌, length, subst, arith}
use Rattle.std.proofs.lemmas.Result.{on_ok_weaker}
use Rattle.cross_dep.specs.Books.{Book, IsRoomKept}
use Rattle.cross_dep.specs.Held.{book_in, held_at}
use Rattle.cross_dep.proofs.HeldMarks.{few_same}
use Rattle.cross_dep.proofs.Room.{room_kept, room_of}
use Rattle.cross_dep.proofs.book.KeyBook.reserve.Goals as goal

pub returns-clause-kept : goal.returns-clause-kept
returns-clause-kept c =
    let few = few_same c.self.inside.marks c.reserve_at.new.marks c.reserve_at.ensures.keys in
    subst (λ (z : Book). IsRoomKept z (book_in c.reserve_at.new.marks)) c.self.view_is
    (room_kept c.self.inside.marks c.reserve_at.new.marks c.reserve_at.ensures.places few)

pub returns-clause-ok : goal.returns-clause-ok
returns-clause-ok c =
    let few = few_same c.self.inside.marks c.reserve_at.new.marks c.reserve_at.ensures.keys c.args.stream in
    let more : c.in_ok-more.more ≡ 6 * c.args.updates = c.in_ok-more.ensures in
    on_ok_weaker c.reserve_at.result
    (λ (k : length (held_at c.self.inside.marks c.args.stream).keys + c.in_ok-more.more ≤ (held_at c.reserve_at.new.marks c.args.stream).places).
    room_of c.reserve_at.new.marks c.args.stream c.args.updates (omega (arith, few, more, k))) c.reserve_at.ensures.ok
