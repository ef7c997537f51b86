use Rattle.std.proofs.Common.{arith}
use Rattle.front_core.proofs.Next.{makes_one}
use Rattle.front_core.proofs.OneFree.{lowest_found}
use Rattle.front_core.proofs.state.State.list_inode.Goals as goal

pub unwrap-inode-requires : goal.unwrap-inode-requires
unwrap-inode-requires c =
    lowest_found c.args.sealed c.args.self.now.pending.free c.lowest.result c.lowest.ensures
    (c.requires (let most = makes_one c.args.update.now in let is = c.rows_made.ensures in let some = c.if-rows_made-eq0.false in omega (arith, most, is, some)))

pub returns-clause-listed : goal.returns-clause-listed
returns-clause-listed c made =
    (c.unwrap-inode.result, (c.in_ok-push.ensures.items, λ count inodes t unsealed owned taken. rw c.unwrap-inode.ensures at (c.lowest.ensures count inodes t unsealed owned taken)))
