use Rattle.std.proofs.Common.{ap, sym, ◌∙◌}
use Rattle.std.proofs.Common.{map as map_list}
use Rattle.flat_dirs.specs.Index.{SlotKey}
use Rattle.flat_dirs.proofs.Listing.{run_is, run_done, run_left, run_some, on_err}
use Rattle.flat_dirs.proofs.index.all_below.Goals as goal
use Rattle.flat_dirs.proofs.index.all_below.Goals.{in-None, in-Some+then-place-parent}

pub returns-clause-all : goal.returns-clause-all
returns-clause-all c =
    let all = c.loop-place.invariant ∙ ap (map_list (λ (k : SlotKey). k.2)) (run_is c.args.parent c.args.places.now.keys c.range-place-items.ensures.ordered) in
    elim c.match-next.branch [
      | in-None w ↦ sym (run_done c.args.parent c.loop-place.inodes.items c.loop-place.place-iterator w.in-None.ensures.steps.0) ∙ all
      | in-Some+then-place-parent w ↦
          sym (run_left c.args.parent c.loop-place.inodes.items c.loop-place.place-iterator c.next.new.self w.in-Some.place.now w.in-Some.ensures.steps w.if-place-parent.true) ∙ all
    ]

pub returns-in_err-push-clause-some : goal.returns-in_err-push-clause-some
returns-in_err-push-clause-some c =
    on_err c.from_residual.result (λ none.
    run_some c.args.parent c.loop-place.inodes.items c.loop-place.place-iterator c.next.new.self c.in-Some.place.now c.in-Some.ensures.steps c.if-place-parent.false
    (c.loop-place.invariant ∙ ap (map_list (λ (k : SlotKey). k.2)) (run_is c.args.parent c.args.places.now.keys c.range-place-items.ensures.ordered ∙ none)))
