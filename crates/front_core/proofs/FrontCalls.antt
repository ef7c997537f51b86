-- A call as a front makes it: the entry of its plan.
use Rattle.std.proofs.Common.{◌≡◌, ℕ, ap, ◌∙◌}
use Rattle.std.specs.Prelude.{Option}
use Rattle.ccfs_base.specs.declared.commands.Command.{Command}
use Rattle.ccfs_base.specs.declared.replies.Reply.{Reply}
use Rattle.tree_model.specs.declared.rows.Update.{Update}
use Rattle.tree_model.specs.declared.rows.Entry.{Entry}
use Rattle.tree_cuts.specs.Calls.{Sizes}
use Rattle.history_model.specs.State.{Now}
use Rattle.history_model.specs.Histories.{entry_of}
use Rattle.front_core.specs.Left.{IsPlanOf}
use Rattle.front_core.specs.declared.planning.Plan.{Plan}

-- an entry by its parts
abbrev pub entry_from : ℕ → ℕ → Command → Reply → Option Update → Entry
entry_from actor stream command reply update = record { actor = actor; stream = stream; command = command; reply = reply; update = update }

-- the entry of a plan, with a copy of the command, is the one that the call may make
pub planned_entry : (sizes : Sizes) (n : Now) (actor : ℕ) (c copy : Command) (plan : Plan) → IsPlanOf sizes n (entry_of sizes n actor c) plan → copy ≡ c
    → entry_from actor plan.stream copy plan.reply plan.update ≡ entry_of sizes n actor c
planned_entry sizes n actor c copy plan is same =
    let e = entry_of sizes n actor c in
    ap (λ z. entry_from actor z copy plan.reply plan.update) is.stream
    ∙ ap (λ z. entry_from actor e.stream z plan.reply plan.update) same
    ∙ ap (λ z. entry_from actor e.stream c z plan.update) is.reply
    ∙ ap (entry_from actor e.stream c e.reply) is.update
