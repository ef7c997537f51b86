use Rattle.std.proofs.Common.{arith}
use Rattle.meta_tests.proofs.book_tests.add_both.Goals as goal

pub add-requires-clause-room : goal.add-requires-clause-room
add-requires-clause-room c = let r = c.forget.ensures.room c.args.stream 2 c.in_ok-reserve.ensures.ok in omega (arith, r)

pub add-requires-2-clause-room : goal.add-requires-2-clause-room
add-requires-2-clause-room c = c.add.ensures.room.own 1 (c.forget.ensures.room c.args.stream 2 c.in_ok-reserve.ensures.ok)
