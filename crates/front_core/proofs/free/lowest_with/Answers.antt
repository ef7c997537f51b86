use Rattle.std.proofs.Common.{List, ℕ, Some, take, get_or, sym, subst}
use Rattle.std.proofs.lemmas.List.{take_more, take_all}
use Rattle.front_core.specs.Free.{IsLowestOf, IsThisOrIn}
use Rattle.front_core.proofs.Lowest.{lowest_later}
use Rattle.front_core.proofs.free.lowest_with.Goals as goal

pub loop-inode-preserved : goal.loop-inode-preserved
loop-inode-preserved c =
    let inodes = c.args.inodes.now in
    let i = c.loop-inode.inode-index in
    let inode = get_or inodes i 0 in
    subst (λ (z : List ℕ). IsLowestOf (IsThisOrIn c.args.first z) (Some c.lower.result)) (sym (take_more inodes i 0 c.loop-inode-test.true))
    (lowest_later c.args.first c.loop-inode.lowest (take i inodes) inode c.lower.result c.lower.ensures c.loop-inode.invariant)

pub returns : goal.returns
returns c =
    subst (λ (z : List ℕ). IsLowestOf (IsThisOrIn c.args.first z) c.loop-inode.lowest) (take_all c.loop-inode.inode-index c.args.inodes.now c.loop-inode-test.false) c.loop-inode.invariant
