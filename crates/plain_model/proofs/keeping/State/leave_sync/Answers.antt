use Rattle.std.proofs.Common.{ℕ, ◌+◌, List, map, length, ap, ◌∙◌}
use Rattle.stream_cuts.specs.Streams.{Seal, unsealed_after}
use Rattle.plain_model.proofs.Left.{sync_left}
use Rattle.plain_model.proofs.keeping.State.leave_sync.Goals as goal

pub returns : goal.returns
returns c =
    sync_left c.args.sizes.now c.args.self.now c.args.entry.now c.handle.new.self c.choose.new.self c.seal_these.new.self c.in_ok-sealed.sealed.items
    c.requires.is (c.in_ok-sealed.ensures.those c.args.sizes.now) c.in_ok-handle.ensures c.in_ok-choose.ensures
    (c.seal_these.ensures ∙ ap (λ (l : List ℕ). record c.choose.new.self { unsealed = unsealed_after c.choose.new.self.unsealed (map Seal l); seals = c.choose.new.self.seals + length l }) c.deref.ensures.value)
