use Rattle.std.proofs.Common.{◌∙◌}
use Rattle.image_model.proofs.Listing.{pages_more}
use Rattle.image_model.proofs.pointing.push_pages.Goals as goal

pub loop-page-preserved : goal.loop-page-preserved
loop-page-preserved c =
    c.in_ok-push.ensures.items
    ∙ pages_more c.args.list.now.items c.loop-page.list.items c.args.inode c.args.from c.loop-page.page c.loop-page.auto.page c.loop-page.invariant
