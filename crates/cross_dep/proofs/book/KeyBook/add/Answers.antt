use Rattle.std.proofs.Common.{sym, subst, arith}
use Rattle.cross_dep.specs.Books.{Book, HasRoom, IsBookOf, IsRoomUsed}
use Rattle.cross_dep.specs.Held.{book_in}
use Rattle.cross_dep.proofs.BookOf.{held_more}
use Rattle.cross_dep.proofs.Room.{room_is, room_used}
use Rattle.cross_dep.proofs.book.KeyBook.add.Goals as goal

pub mark_at-requires-clause-places : goal.mark_at-requires-clause-places
mark_at-requires-clause-places c =
    let room : HasRoom (book_in c.self.inside.marks) c.args.stream 1 = subst (λ (z : Book). HasRoom z c.args.stream 1) (sym c.self.view_is) c.requires.room in
    omega (arith, room_is c.self.inside.marks c.args.stream 1 room)

pub returns-clause-book : goal.returns-clause-book
returns-clause-book c unsealed is =
    let before : IsBookOf (book_in c.self.inside.marks) unsealed = rw c.self.view_is is in
    held_more c.self.inside.marks c.mark_at.new.marks c.args.stream c.args.update.now unsealed c.mark_at.ensures.own c.mark_at.ensures.others before

pub returns-clause-room : goal.returns-clause-room
returns-clause-room c =
    subst (λ (z : Book). IsRoomUsed z c.args.stream (book_in c.mark_at.new.marks)) c.self.view_is
    (room_used c.self.inside.marks c.mark_at.new.marks c.args.stream c.mark_at.ensures.places c.mark_at.ensures.own.few c.mark_at.ensures.others)
