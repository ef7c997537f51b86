use Rattle.std.proofs.Common.{◌≡◌, ◌++◌, ◌+◌, ℕ, List, drop, get_or, refl, ap, ◌∙◌}
use Rattle.block_maps.specs.Maps.{Mapped, file_at, no_file, IsWhole}
use Rattle.block_maps.specs.Uses.{block_count}
use Rattle.late_alloc.specs.declared.changes.Reach.{Reach}
use Rattle.late_alloc.specs.Reaches.{given_by}
use Rattle.late_alloc.proofs.Counting.{no_reach, given_step, given_behind}
use Rattle.late_alloc.proofs.plans.given.Goals as goal

pub loop-reach-preserved : goal.loop-reach-preserved
loop-reach-preserved c =
    let files : List Mapped = c.args.maps.now in
    let i : ℕ = c.loop-reach.reach-index in
    let reach : Reach = get_or c.args.reaches.now i no_reach in
    let file : Mapped = file_at files reach.inode in
    let whole : IsWhole file = c.requires.whole reach.inode no_file (c.requires.inodes i no_reach c.loop-reach-test.true) in
    let blocks : c.blocks-in-loop-reach.result.now ≡ file.blocks = c.blocks-in-loop-reach.ensures in
    let kept : c.block_count.result ≡ block_count reach.least = c.block_count.ensures in
    ap (λ z. z ++ given_by files (drop (i + 1) c.args.reaches.now))
    (c.in_ok-add_given.ensures ∙ ap (λ z. c.loop-reach.given.items ++ drop c.block_count.result z) blocks ∙ ap (λ z. c.loop-reach.given.items ++ drop z file.blocks) kept
    ∙ ap (λ z. c.loop-reach.given.items ++ z) (given_behind file reach.least whole))
    ∙ given_step files c.args.reaches.now i c.loop-reach.given.items reach c.loop-reach-test.true refl c.loop-reach.invariant
