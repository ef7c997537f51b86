use Rattle.std.proofs.Common.{◌∙◌, ap}
use Rattle.record_logs.specs.Kept.{LogLists}
use Rattle.record_logs.specs.Held.{list_at}
use Rattle.range_log.specs.Ranges.{is_clear_of}
use Rattle.range_log.proofs.ByLists.{clear_by_lists}
use Rattle.range_log.proofs.log.RangeLog.clear_of.Goals as goal

pub returns : goal.returns
returns c =
    c.are_untouched.ensures ∙ clear_by_lists c.all.result.now c.args.stream c.args.off c.args.len c.all.ensures.streams
    ∙ ap (λ z. is_clear_of (list_at z) c.args.stream c.args.off c.args.len) (c.all.ensures.logs ∙ ap (λ (z : LogLists). z.logs) c.self.view_is)
