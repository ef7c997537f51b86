use Rattle.std.proofs.Common.{◌≡◌, ℕ, ◌<◌, ◌+◌, refl, ap, ◌∙◌, length}
use Rattle.std.specs.Prelude.{◌&&◌, false, None, filter}
use Rattle.stream_cuts.specs.Forced.{streams, is_open}
use Rattle.cross_dep.specs.Books.{has_bit}
use Rattle.front_core.specs.Left.{is_synced, sync_reply}
use Rattle.front_core.specs.declared.planning.Plan.{Plan}
use Rattle.front_core.proofs.Told.{open_told}
use Rattle.front_core.proofs.Planned.{sync_planned}
use Rattle.front_core.proofs.state.State.plan_sync.Goals as goal

pub returns : goal.returns
returns c sizes n actor left a v is =
    let s = c.args.self.now in
    let forced = c.synced-forced.result in
    let plan : Plan = record { stream = c.args.stream; reply = c.sync_reply.result; update = None; forced = forced; own = false } in
    let bits : (r : ℕ) → r < 64 → has_bit forced r ≡ (is_synced c.args.command.now c.args.stream r && is_open n.unsealed r)
    = λ r l. c.synced-forced.ensures r l ∙ ap (λ b. is_synced c.args.command.now c.args.stream r && b) (open_told s.pending.txns s.inodes.items n.unsealed r left.pending.txns) in
    let reply : c.sync_reply.result ≡ sync_reply c.args.command.now (n.seals + length (filter (has_bit forced) streams))
    = c.sync_reply.ensures ∙ ap (λ z. sync_reply c.args.command.now (z + c.count_of.result)) (c.seals.ensures ∙ left.seals)
    ∙ ap (λ z. sync_reply c.args.command.now (n.seals + z)) c.count_of.ensures.count in
    sync_planned sizes n c.args.stream actor c.args.command.now plan a v is c.requires.stream refl refl refl bits reply
