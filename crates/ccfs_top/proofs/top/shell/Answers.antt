use Rattle.std.proofs.Common.{inl, inr, sym, ap, ◌∙◌, subst, arith}
use Rattle.std.specs.declared.option.Option.{Option}
use Rattle.std.specs.declared.option.Option.TheVariants.{Some}
use Rattle.ccfs_top.specs.Asked.{Asked, IsStatusOf, asked_by, asked_of}
use Rattle.ccfs_top.proofs.Shelling.{new_of, usage_of, usage_status, not_early}
use Rattle.ccfs_top.proofs.top.shell.Goals as goal

pub returns-in-Some-Mkfs-clause-new : goal.returns-in-Some-Mkfs-clause-new
returns-in-Some-Mkfs-clause-new g c = λ blocks inodes is told done.
    let geometry = c.in-Some-Mkfs.geometry in
    new_of g.D.Disk c.mkfs.result.disk (asked_by c.args.words.now) geometry.blocks geometry.inodes blocks inodes (c.in-Some-Mkfs.ensures ∙ ap (λ z. Some (asked_of z)) c.in-Some-Mkfs.field-0-is) is
    (c.mkfs.ensures.new told done)

-- ---- by what the words ask for

pub returns-in-None-clause-statuses : goal.returns-in-None-clause-statuses
returns-in-None-clause-statuses g c = subst (λ (o : Option Asked). IsStatusOf o c.ended_by.result.status) (sym c.in-None.ensures) (usage_status c.ended_by.result.status c.ended_by.ensures.told)

pub returns-in-Some-Mkfs-clause-statuses : goal.returns-in-Some-Mkfs-clause-statuses
returns-in-Some-Mkfs-clause-statuses g c =
    subst (λ (o : Option Asked). IsStatusOf o c.mkfs.result.status) (sym (c.in-Some-Mkfs.ensures ∙ ap (λ z. Some (asked_of z)) c.in-Some-Mkfs.field-0-is)) c.mkfs.ensures.statuses

pub returns-in-Some-Run-clause-statuses : goal.returns-in-Some-Run-clause-statuses
returns-in-Some-Run-clause-statuses g c =
    subst (λ (o : Option Asked). IsStatusOf o c.run.result.status) (sym (c.in-Some-Run.ensures ∙ ap (λ z. Some (asked_of z)) c.in-Some-Run.field-0-is)) c.run.ensures.statuses

pub returns-in-Some-Tree-clause-statuses : goal.returns-in-Some-Tree-clause-statuses
returns-in-Some-Tree-clause-statuses g c =
    subst (λ (o : Option Asked). IsStatusOf o c.tree.result.status) (sym (c.in-Some-Tree.ensures ∙ ap (λ z. Some (asked_of z)) c.in-Some-Tree.field-0-is)) c.tree.ensures.statuses

pub returns-in-None-clause-usage : goal.returns-in-None-clause-usage
returns-in-None-clause-usage g c = usage_of (asked_by c.args.words.now) c.ended_by.result.status (returns-in-None-clause-statuses g c)

pub returns-in-Some-Mkfs-clause-usage : goal.returns-in-Some-Mkfs-clause-usage
returns-in-Some-Mkfs-clause-usage g c = usage_of (asked_by c.args.words.now) c.mkfs.result.status (returns-in-Some-Mkfs-clause-statuses g c)

pub returns-in-Some-Run-clause-usage : goal.returns-in-Some-Run-clause-usage
returns-in-Some-Run-clause-usage g c = usage_of (asked_by c.args.words.now) c.run.result.status (returns-in-Some-Run-clause-statuses g c)

pub returns-in-Some-Tree-clause-usage : goal.returns-in-Some-Tree-clause-usage
returns-in-Some-Tree-clause-usage g c = usage_of (asked_by c.args.words.now) c.tree.result.status (returns-in-Some-Tree-clause-statuses g c)

pub returns-in-Some-Mkfs-clause-untouched : goal.returns-in-Some-Mkfs-clause-untouched
returns-in-Some-Mkfs-clause-untouched g c = λ early. absurd (not_early c.mkfs.result.status (inl c.mkfs.ensures.statuses) early)

pub returns-in-Some-Tree-clause-untouched : goal.returns-in-Some-Tree-clause-untouched
returns-in-Some-Tree-clause-untouched g c = λ early. absurd (not_early c.tree.result.status (inr c.tree.ensures.statuses) early)

pub returns-in-Some-Mkfs-clause-source_fault : goal.returns-in-Some-Mkfs-clause-source_fault
returns-in-Some-Mkfs-clause-source_fault g c = λ five. absurd (not_early c.mkfs.result.status (inl c.mkfs.ensures.statuses) (omega (arith, five), omega (arith, five)))

pub returns-in-Some-Tree-clause-source_fault : goal.returns-in-Some-Tree-clause-source_fault
returns-in-Some-Tree-clause-source_fault g c = λ five. absurd (not_early c.tree.result.status (inr c.tree.ensures.statuses) (omega (arith, five), omega (arith, five)))
