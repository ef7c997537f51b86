use Rattle.std.proofs.Common.{◌≡◌, ◌++◌, ◌-◌, map}
use Rattle.std.specs.List.{range_with_len}
use Rattle.image_model.specs.declared.pointer.Pointer.TheVariants.{Page}
use Rattle.image_model.proofs.pointing.push_pages.Given as goal

-- the pointers of the pages so far stand behind those of the list
abbrev pub invariant-loop-page : goal.invariant-loop-page
invariant-loop-page l = l.list.items ≡ l.initial.list.items ++ map (Page l.inode) (range_with_len l.from (l.page - l.from))
