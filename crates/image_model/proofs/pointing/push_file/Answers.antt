use Rattle.std.proofs.Common.{◌-◌, ◌++◌, map, ap, ◌∙◌, arith}
use Rattle.std.specs.List.{range_with_len}
use Rattle.image_model.specs.declared.pointer.Pointer.TheVariants.{Page}
use Rattle.image_model.proofs.Listing.{many_pages}
use Rattle.image_model.proofs.pointing.push_file.Goals as goal

pub returns-in_ok-push_pages-3 : goal.returns-in_ok-push_pages-3
returns-in_ok-push_pages-3 c =
    many_pages c.args.list.now.items c.push_pages-else-count-le-DIRECT.new.list.items c.push_pages-else-count-le-DIRECT-2.new.list.items c.args.inode c.args.count
    (omega arith) c.in_ok-push_pages-2.ensures
    (c.in_ok-push_pages-3.ensures ∙ ap (λ z. z ++ map (Page c.args.inode) (range_with_len 24 (c.args.count - 24))) c.in_ok-push.ensures.items)
