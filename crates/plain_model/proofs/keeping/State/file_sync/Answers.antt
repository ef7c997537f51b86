use Rattle.std.proofs.Common.{◌+◌, length, ap, sym, ◌∙◌}
use Rattle.std.specs.List.{filter}
use Rattle.stream_cuts.specs.Forced.{is_open}
use Rattle.ccfs_base.specs.declared.replies.Reply.TheVariants.{Synced}
use Rattle.tree_cuts.specs.Calls.{Charged, changers}
use Rattle.history_model.specs.Answers.{tells}
use Rattle.plain_model.proofs.Ranges.{closes_seals}
use Rattle.plain_model.proofs.keeping.State.file_sync.Goals as goal

pub returns : goal.returns
returns c sizes =
    c.synced.ensures
    ∙ ap (λ k. tells (Synced (c.args.self.now.seals + k))) (ap length (c.deref.ensures.value ∙ c.in_ok-sealed_by_file.ensures.those) ∙ sym (closes_seals Charged (filter (is_open c.args.self.now.unsealed) (changers c.args.id c.args.self.now.unsealed))))
