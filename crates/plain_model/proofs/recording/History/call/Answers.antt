use Rattle.std.proofs.Common.{◌++◌, List, ℕ, map, ap, sym, subst, ◌∙◌, append_assoc}
use Rattle.std.specs.Prelude.{IsTrue}
use Rattle.stream_cuts.specs.Streams as streams
use Rattle.tree_model.specs.declared.rows.Entry.{Entry}
use Rattle.plain_model.specs.Steps.{steps_of}
use Rattle.plain_model.specs.Recorded.{may_call, entered_step, IsRecorded}
use Rattle.plain_model.proofs.Records.{files_now, applies_next, recorded_more, room_now}
use Rattle.plain_model.proofs.recording.History.call.Goals as goal

pub entry-requires-clause-files : goal.entry-requires-clause-files
entry-requires-clause-files c = let i = c.self.inside in files_now i.sizes i.opening i.state i.entries.items i.steps.items c.self.invariant

pub sealed_for-requires : goal.sealed_for-requires
sealed_for-requires c =
    let i = c.self.inside in
    let room = room_now i.sizes i.opening i.state i.entries.items i.steps.items c.self.invariant c.args.actor c.args.command.now (subst (λ r. IsTrue (may_call r c.args.actor c.args.command.now)) (sym c.self.view_is) c.requires) in
    applies_next i.sizes i.opening i.state i.entries.items i.steps.items c.self.invariant c.args.actor c.args.command.now c.in_ok-entry.entry room.0 c.in_ok-entry.ensures

pub leave-requires-clause-applies : goal.leave-requires-clause-applies
leave-requires-clause-applies c =
    let i = c.self.inside in
    let room = room_now i.sizes i.opening i.state i.entries.items i.steps.items c.self.invariant c.args.actor c.args.command.now (subst (λ r. IsTrue (may_call r c.args.actor c.args.command.now)) (sym c.self.view_is) c.requires) in
    applies_next i.sizes i.opening i.state i.entries.items i.steps.items c.self.invariant c.args.actor c.args.command.now c.in_ok-entry.entry room.0 c.in_ok-entry.ensures

pub leave-requires-clause-counted : goal.leave-requires-clause-counted
leave-requires-clause-counted c =
    let i = c.self.inside in
    let room = room_now i.sizes i.opening i.state i.entries.items i.steps.items c.self.invariant c.args.actor c.args.command.now (subst (λ r. IsTrue (may_call r c.args.actor c.args.command.now)) (sym c.self.view_is) c.requires) in
    room.2

pub leave-requires-clause-next : goal.leave-requires-clause-next
leave-requires-clause-next c =
    let i = c.self.inside in
    let room = room_now i.sizes i.opening i.state i.entries.items i.steps.items c.self.invariant c.args.actor c.args.command.now (subst (λ r. IsTrue (may_call r c.args.actor c.args.command.now)) (sym c.self.view_is) c.requires) in
    room.1

pub invariant_of-result : goal.invariant_of-result
invariant_of-result c =
    let i = c.self.inside in
    let room = room_now i.sizes i.opening i.state i.entries.items i.steps.items c.self.invariant c.args.actor c.args.command.now (subst (λ r. IsTrue (may_call r c.args.actor c.args.command.now)) (sym c.self.view_is) c.requires) in
    let e : Entry = c.in_ok-entry.entry in
    let sealed : List ℕ = c.in_ok-sealed.sealed.items in
    let told = c.in_ok-push_entered.ensures ∙ ap (λ l. l ++ entered_step e.stream e.update) (c.in_ok-push_seals.ensures ∙ ap (λ l. steps_of i.steps.items ++ map streams.Seal l) c.deref.ensures.value)
    ∙ append_assoc (steps_of i.steps.items) (map streams.Seal sealed) (entered_step e.stream e.update) in
    subst (λ l. IsRecorded i.sizes i.opening c.leave.new.self l c.push_entered.new.steps.items) (sym c.in_ok-push.ensures.items)
    (recorded_more i.sizes i.opening i.state i.entries.items i.steps.items c.self.invariant c.args.actor c.args.command.now e c.leave.new.self sealed c.push_entered.new.steps.items room.0 c.in_ok-entry.ensures c.in_ok-leave.ensures c.in_ok-sealed.ensures told)
