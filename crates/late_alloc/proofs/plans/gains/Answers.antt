use Rattle.std.proofs.Common.{◌≡◌, ◌≤◌, ◌+◌, ◌++◌, ℕ, List, length, take, drop, get_or, arith, refl, sym, ap, ◌∙◌, subst}
use Rattle.block_maps.specs.Uses.{block_count, new_count}
use Rattle.late_alloc.specs.declared.changes.Reach.{Reach}
use Rattle.late_alloc.specs.Gaining.{gains_from, gains_by}
use Rattle.late_alloc.specs.Reaches.{news}
use Rattle.late_alloc.proofs.Counting.{no_reach, gains_step, enough_step}
use Rattle.late_alloc.proofs.plans.gains.Goals as goal

pub split_at-requires : goal.split_at-requires
split_at-requires c =
    let i : ℕ = c.loop-reach.reach-index in
    let reach : Reach = get_or c.args.reaches.now i no_reach in
    let e : c.new_count.result ≡ new_count reach.least reach.end = c.new_count.ensures in
    let step = enough_step c.args.reaches.now i c.loop-reach.rest.now reach c.loop-reach-test.true refl c.loop-reach.invariant.enough in
    omega arith

pub loop-reach-preserved : goal.loop-reach-preserved
loop-reach-preserved c =
    let i : ℕ = c.loop-reach.reach-index in
    let rest : List ℕ = c.loop-reach.rest.now in
    let reach : Reach = get_or c.args.reaches.now i no_reach in
    let n : ℕ = new_count reach.least reach.end in
    let e : c.new_count.result ≡ n = c.new_count.ensures in
    let front : c.split_at.result.0.now ≡ take n rest = c.split_at.ensures.front ∙ ap (λ z. take z rest) e in
    let back : c.split_at.result.1.now ≡ drop n rest = c.split_at.ensures.back ∙ ap (λ z. drop z rest) e in
    record {
      gained =
          ap (λ z. z ++ gains_by (drop (i + 1) c.args.reaches.now) c.split_at.result.1.now) (c.in_ok-add_gains.ensures ∙ ap (λ z. c.loop-reach.gained.items ++ gains_from reach.inode (block_count reach.least) z) front)
          ∙ ap (λ z. (c.loop-reach.gained.items ++ gains_from reach.inode (block_count reach.least) (take n rest)) ++ gains_by (drop (i + 1) c.args.reaches.now) z) back
          ∙ gains_step c.args.reaches.now i c.loop-reach.gained.items (gains_by c.args.reaches.now c.args.blocks.now) rest reach c.loop-reach-test.true refl c.loop-reach.invariant.gained;
      enough = subst (λ z. length (news (drop (i + 1) c.args.reaches.now)) ≤ length z) (sym back)
          (enough_step c.args.reaches.now i rest reach c.loop-reach-test.true refl c.loop-reach.invariant.enough).1;
    }
