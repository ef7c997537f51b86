use Rattle.std.proofs.Common.{◌+◌, ◌≤◌, length, arith, ap, ◌∙◌}
use Rattle.ccfs_base.proofs.Putting.{put_within, put_beyond}
use Rattle.ccfs_base.specs.declared.buffer.Bytes.TheInside.{Inside}
use Rattle.ccfs_base.proofs.buffer.Bytes.write_at.Goals as goal
use Rattle.ccfs_base.proofs.buffer.Bytes.write_at.Goals.{then-len-end+in_ok-resize, else-len-end}

pub returns-clause-ok : goal.returns-clause-ok
returns-clause-ok c =
    let before = c.self.inside.kept in
    let kept = c.if-len-end.self-inside.kept in
    let off = c.args.off in
    let bytes = c.args.bytes.now in
    let copied = c.copy_from_slice.new.self in
    let part = c.deref_mut.result.now in
    elim c.if-len-end.branch [
      | then-len-end+in_ok-resize w ↦
          let is = ap (λ (i : Inside). i.kept.items) w.self-inside-is ∙ w.in_ok-resize.ensures.items in
          put_beyond kept.len off before.len bytes copied kept.items part before.items c.args.self.now c.deref_mut.ensures.value c.copy_from_slice.ensures.after c.self.view_is kept.ok.0 before.ok.0 is (omega arith)
      | else-len-end w ↦
          let is = ap (λ (i : Inside). i.kept.items) w.self-inside-is ∙ c.self.view_is in
          let room : off + length bytes ≤ kept.len = omega (arith, kept.ok.0, before.ok.0, ap (λ (i : Inside). i.kept.len) w.self-inside-is) in
          put_within kept.len off bytes copied kept.items part c.args.self.now c.deref_mut.ensures.value c.copy_from_slice.ensures.after is kept.ok.0 room
    ]
