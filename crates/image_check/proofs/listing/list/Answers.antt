use Rattle.std.proofs.Common.{◌≡◌, ◌++◌, ◌∷◌, [], ap, ◌∙◌}
use Rattle.std.proofs.lemmas.List.{append-nil}
use Rattle.flat_dirs.specs.Slots.{entries_in}
use Rattle.image_check.specs.Listed.{listed}
use Rattle.image_check.proofs.Ahead.{one_listed, less_ahead, still}
use Rattle.image_check.proofs.listing.list.Goals as goal

pub loop-levels-init : goal.loop-levels-init
loop-levels-init c =
    let below = entries_in c.args.table.now.slots in
    let n = c.inodes.result in
    let ahead : c.push.new.self.items ≡ (n, 0) ∷ [] = c.in_ok-push.ensures.items ∙ ap (λ l. l ++ (n, 0) ∷ []) c.new-ahead.ensures.items in
    record {
      all = ap (λ o. o ++ still below c.push.new.self.items) c.new-inodes.ensures ∙ ap (still below) ahead ∙ append-nil (listed below n 0) ∙ ap (λ m. listed below m 0) c.inodes.ensures;
    }

pub loop-levels-preserved : goal.loop-levels-preserved
loop-levels-preserved c = record {
  all = one_listed (entries_in c.args.table.now.slots) c.loop-levels.ahead.items c.pop.new.self.items c.open_directory.new.ahead.items c.in-Some.levels c.in-Some.inode c.loop-levels.inodes c.push-in-Some.new.self _
      c.loop-levels.invariant.all c.in-Some.ensures.items c.in_ok-push-2.ensures.ok c.in_ok-open_directory.ensures;
}

pub loop-levels-smaller : goal.loop-levels-smaller
loop-levels-smaller c = less_ahead (entries_in c.args.table.now.slots) c.loop-levels.ahead.items c.pop.new.self.items c.open_directory.new.ahead.items c.in-Some.levels c.in-Some.inode c.in-Some.ensures.items c.in_ok-open_directory.ensures
