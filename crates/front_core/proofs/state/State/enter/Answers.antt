use Rattle.std.proofs.Common.{◌<◌, length, sym, subst, ◌∙◌}
use Rattle.std.specs.Prelude.{slice_index_or}
use Rattle.front_core.specs.Entering.{HasEntered}
use Rattle.front_core.proofs.state.State.enter.Goals as goal

pub enter-requires-clause-ready : goal.enter-requires-clause-ready
enter-requires-clause-ready c =
    let room = c.seal_planned.ensures.sealed.room in
    record {
      meta = room.meta ∙ c.requires.ready.meta;
      txns = room.txns c.args.entering.stream (length c.args.entering.ops) c.requires.ready.txns;
      keys = room.keys c.args.entering.stream 1 c.requires.ready.keys;
      place = c.requires.place c.seal_planned.new.self.pending c.seal_planned.ensures.sealed;
    }

pub enter-requires-clause-weight : goal.enter-requires-clause-weight
enter-requires-clause-weight c = (c.requires.may c.seal_planned.new.self.pending c.seal_planned.ensures.sealed).weight

pub enter-requires-clause-blocks : goal.enter-requires-clause-blocks
enter-requires-clause-blocks c = (c.requires.may c.seal_planned.new.self.pending c.seal_planned.ensures.sealed).blocks

pub enter-requires-clause-rows : goal.enter-requires-clause-rows
enter-requires-clause-rows c = (c.requires.may c.seal_planned.new.self.pending c.seal_planned.ensures.sealed).rows

pub enter-requires-clause-made : goal.enter-requires-clause-made
enter-requires-clause-made c dir name id is_dir is =
    let mid = c.seal_planned.new.self.pending in
    subst (λ z. slice_index_or z id 0 < mid.free.count) (sym (c.deref.ensures.value ∙ c.seal_planned.ensures.inodes))
    (subst (λ z. slice_index_or c.args.self.now.inodes.items id 0 < z) (sym c.seal_planned.ensures.sealed.room.count) (c.requires.made dir name id is_dir is))

pub enter-requires-clause-may : goal.enter-requires-clause-may
enter-requires-clause-may c = (c.requires.may c.seal_planned.new.self.pending c.seal_planned.ensures.sealed).logged

pub returns-clause-entered : goal.returns-clause-entered
returns-clause-entered c =
    let mid = c.seal_planned.new.self.pending in (
      mid,
      (
        c.seal_planned.ensures.sealed,
        subst (λ z. HasEntered c.args.entering c.args.update.now z mid c.enter.new.self) (c.deref.ensures.value ∙ c.seal_planned.ensures.inodes)
            (record { kept = c.enter.ensures.entered; queue = c.enter.ensures.queue; seals = c.enter.ensures.seals }),
      ),
    )
