use Rattle.std.proofs.Common.{◌<◌, length, subst, arith}
use Rattle.cross_dep.specs.Books.{Book, IsBookOf, IsRoomKept}
use Rattle.cross_dep.specs.Held.{book_in}
use Rattle.cross_dep.proofs.HeldMarks.{dropped_own, dropped_other, few_dropped}
use Rattle.cross_dep.proofs.BookOf.{book_without}
use Rattle.cross_dep.proofs.Room.{room_kept}
use Rattle.cross_dep.proofs.book.KeyBook.forget.Goals as goal

pub returns-clause-book : goal.returns-clause-book
returns-clause-book c unsealed is =
    let inside : c.args.stream < length c.self.inside.marks = omega (arith, c.requires) in
    let before : IsBookOf (book_in c.self.inside.marks) unsealed = rw c.self.view_is is in
    book_without (book_in c.self.inside.marks) (book_in c.clear_at.new.marks) c.args.stream unsealed
    (dropped_own c.self.inside.marks c.clear_at.new.marks c.args.stream inside c.clear_at.ensures.keys)
    (λ s n. dropped_other c.self.inside.marks c.clear_at.new.marks c.args.stream s n c.clear_at.ensures.keys) before

pub returns-clause-room : goal.returns-clause-room
returns-clause-room c =
    let inside : c.args.stream < length c.self.inside.marks = omega (arith, c.requires) in
    subst (λ (z : Book). IsRoomKept z (book_in c.clear_at.new.marks)) c.self.view_is
    (room_kept c.self.inside.marks c.clear_at.new.marks c.clear_at.ensures.places
    (few_dropped c.self.inside.marks c.clear_at.new.marks c.args.stream inside c.clear_at.ensures.keys))
