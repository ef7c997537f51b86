use Rattle.std.proofs.Common.{rules, ℕ, List, ◌∙◌, ap}
use Rattle.disk_model.specs.Bytes.{patched}
use Rattle.atomic_volume.proofs.Puts.{put_on_more}
use Rattle.atomic_volume.proofs.putting.put_ranges.Goals as goal

pub loop-range-preserved : goal.loop-range-preserved
loop-range-preserved c = record {
  put = c.put_range.ensures.put ∙ ap (λ (l : List ℕ). patched l c.range-item.result.off c.range-item.result.bytes) c.loop-range.invariant.put
      ∙ put_on_more c.args.volume.now c.args.ranges.now c.loop-range.range-index c.range-item.result (search rules) c.range-item.is;
  size = c.put_range.ensures.size ∙ c.loop-range.invariant.size;
}
