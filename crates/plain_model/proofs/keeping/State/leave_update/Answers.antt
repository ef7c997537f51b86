use Rattle.std.proofs.Common.{◌≡◌, ℕ, ◌+◌, List, map, length, ap, ◌∙◌}
use Rattle.std.proofs.lemmas.Result.{on_ok_weaker}
use Rattle.stream_cuts.specs.Streams.{Seal, unsealed_after}
use Rattle.plain_model.proofs.Left.{update_left}
use Rattle.plain_model.proofs.keeping.State.leave_update.Goals as goal

pub returns : goal.returns
returns c =
    let sealed : c.seal_these.new.self ≡ record c.choose.new.self { unsealed = unsealed_after c.choose.new.self.unsealed (map Seal c.in_ok-after.field-0.sealed.items); seals = c.choose.new.self.seals + length c.in_ok-after.field-0.sealed.items }
    = c.seal_these.ensures ∙ ap (λ (l : List ℕ). record c.choose.new.self { unsealed = unsealed_after c.choose.new.self.unsealed (map Seal l); seals = c.choose.new.self.seals + length l }) c.deref.ensures.value in
    on_ok_weaker c.enter.result (λ is.
    update_left c.args.sizes.now c.args.self.now c.args.entry.now c.args.update.now c.handle.new.self c.choose.new.self c.seal_these.new.self c.enter.new.self _ _ c.in_ok-after.field-0.sealed.items
    c.requires.is c.in_ok-after.ensures.after c.in_ok-after.ensures.charge c.in_ok-after.ensures.steps c.in_ok-handle.ensures c.in_ok-choose.ensures sealed is) c.enter.ensures
