use Rattle.std.proofs.Common.{rules}
use Rattle.ccfs_base.proofs.Written.{further_written}
use Rattle.ccfs_base.proofs.edges.write_all.Goals as goal

pub loop-done-preserved : goal.loop-done-preserved
loop-done-preserved g c = record {
  within = search rules;
  put = λ told. further_written _ _ _ c.args.bytes.now c.loop-done.done c.in_ok-n.n (let n = c.in_ok-n.ensures.count in search (rules, n)) (c.loop-done.invariant.put told) (c.in_ok-n.ensures.put told);
  faults = search rules;
}
