use Rattle.std.proofs.Common.{◌≡◌, ◌<◌, length, refl, sym, ap, subst, ◌∙◌, arith}
use Rattle.std.specs.Prelude.{true, false, Some, slice_index_or}
use Rattle.stream_cuts.specs.Streams.{without}
use Rattle.stream_cuts.specs.Forced.{sealed_before}
use Rattle.tree_model.specs.declared.rows.Update.{Update}
use Rattle.tree_cuts.specs.Calls.{charge, charged_meets, seals_own, unsealed_rows}
use Rattle.history_model.specs.State.{stream_in}
use Rattle.history_model.specs.Answers.{Answer, answer}
use Rattle.update_records.specs.Built.{is_built}
use Rattle.command_answers.specs.Viewing.{told, is_viewed, IsReady}
use Rattle.front_laws.specs.Kept.{now_of}
use Rattle.front_core.specs.Fronts.{sizes_of}
use Rattle.front_core.specs.Pending.{txns_of}
use Rattle.front_core.proofs.Told.{other_rows_told}
use Rattle.front_core.proofs.Viewed.{files_fit, known, stream_is, stream_below, weight_below, seals_below, answered_built}
use Rattle.front_core.proofs.Planned.{viewed_planned}
use Rattle.front_core.proofs.state.State.plan.Goals as goal

pub gave_rows-requires : goal.gave_rows-requires
gave_rows-requires c =
    let o = c.requires.sound in
    subst (λ z. slice_index_or c.args.self.now.streams z 0 < 64) (sym c.from.ensures) (stream_below (sizes_of c.args.geometry.now) o.0 o.1.0 c.args.self.now o.1.1 c.args.actor c.requires.actor)

pub plan_answered-requires-clause-stream : goal.plan_answered-requires-clause-stream
plan_answered-requires-clause-stream c =
    let o = c.requires.sound in
    subst (λ z. slice_index_or c.args.self.now.streams z 0 < 64) (sym c.from.ensures) (stream_below (sizes_of c.args.geometry.now) o.0 o.1.0 c.args.self.now o.1.1 c.args.actor c.requires.actor)

pub plan_answered-requires-clause-weight : goal.plan_answered-requires-clause-weight
plan_answered-requires-clause-weight c =
    let o = c.requires.sound in
    weight_below (sizes_of c.args.geometry.now) o.0 o.1.0 c.args.self.now o.1.1 (slice_index_or c.args.self.now.streams c.from.result 0)

pub plan_sync-requires-clause-stream : goal.plan_sync-requires-clause-stream
plan_sync-requires-clause-stream c =
    let o = c.requires.sound in
    subst (λ z. slice_index_or c.args.self.now.streams z 0 < 64) (sym c.from.ensures) (stream_below (sizes_of c.args.geometry.now) o.0 o.1.0 c.args.self.now o.1.1 c.args.actor c.requires.actor)

pub plan_sync-requires-clause-seals : goal.plan_sync-requires-clause-seals
plan_sync-requires-clause-seals c =
    let o = c.requires.sound in
    let b = seals_below (sizes_of c.args.geometry.now) o.0 o.1.0 c.args.self.now o.1.1 in
    omega (arith, b)

pub returns-in-Some : goal.returns-in-Some
returns-in-Some c t h st =
    let sizes = sizes_of c.args.geometry.now in
    let n = now_of sizes t h in
    let s = c.args.self.now in
    let k = known sizes t h s st in
    let mine = stream_in n.choices c.args.actor in
    let own : slice_index_or s.streams c.from.result 0 ≡ mine
    = ap (λ z. slice_index_or s.streams z 0) c.from.ensures ∙ stream_is sizes t h s st c.args.actor c.requires.actor in
    let gave : unsealed_rows (without mine n.unsealed) ≡ c.gave_rows.result
    = sym (c.gave_rows.ensures.sum (txns_of s.inodes.items n.unsealed) st.left.pending.txns ∙ other_rows_told s.inodes.items n.unsealed (slice_index_or s.streams c.from.result 0)
    ∙ ap (λ z. unsealed_rows (without z n.unsealed)) own) in
    let a = c.in-Some.answered in
    let v : is_viewed c.args.command.now ≡ true = sym (rw c.in-Some.is at c.in_ok-answered.ensures.viewed) in
    let tells : told a ≡ answer sizes n c.args.actor c.args.command.now
    = rw c.in-Some.is at (c.in_ok-answered.ensures.told sizes n c.args.actor (record { tree = sym st.left.tree; files = files_fit n.tree k.plain; next = sym st.left.next; fresh = k.fresh n.next (omega arith); inodes = refl; gave = gave; closed = k.closed })) in
    let ready : (u : Update) → a.update ≡ Some u → IsReady n.tree u
    = λ u is. rw is at (rw c.in-Some.is at (c.in_ok-answered.ensures.ready sizes n mine (record { tree = sym st.left.tree; files = files_fit n.tree k.plain; next = sym st.left.next; fresh = k.fresh n.next (omega arith); inodes = refl; gave = gave; closed = k.closed }))) in
    let built : (u : Update) → a.update ≡ Some u → is_built u ≡ true
    = λ u is. answered_built sizes n c.args.actor c.args.command.now u v (sym (ap (λ (z : Answer). z.1) tells) ∙ is) (ready u is) in
    viewed_planned sizes n c.args.actor c.args.command.now (told a) c.plan_answered.result v tells
    (c.plan_answered.ensures.stream ∙ own) c.plan_answered.ensures.reply c.plan_answered.ensures.update c.plan_answered.ensures.none
    (λ u is. c.plan_answered.ensures.some n (length h) u st.left k is (ready u is).fits (built u is)
    ∙ ap (λ z. sealed_before charged_meets z (u, charge n.tree u) (seals_own sizes n.tree n.unsealed z u) n.unsealed) own)
    (c.plan_answered.ensures.forced_open n st.left) (c.plan_answered.ensures.own_open n st.left) (λ u is. c.plan_answered.ensures.apart n u st.left is) c.plan_answered.ensures.alone (λ u is. (ready u is, built u is))

pub returns-in-None : goal.returns-in-None
returns-in-None c t h st =
    let sizes = sizes_of c.args.geometry.now in
    let n = now_of sizes t h in
    let s = c.args.self.now in
    let own : slice_index_or s.streams c.from.result 0 ≡ stream_in n.choices c.args.actor
    = ap (λ z. slice_index_or s.streams z 0) c.from.ensures ∙ stream_is sizes t h s st c.args.actor c.requires.actor in
    let v : is_viewed c.args.command.now ≡ false = sym (rw c.in-None.is at c.in_ok-answered.ensures.viewed) in
    c.plan_sync.ensures sizes n c.args.actor st.left c.requires.built v own
