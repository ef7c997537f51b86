use Rattle.std.proofs.Common.{◌++◌, ap, ◌∙◌, length}
use Rattle.std.proofs.lemmas.Result.{on_ok_weaker}
use Rattle.byteorder.specs.Endian.{little_bytes}
use Rattle.gate_journal.proofs.Sizes.{three_joined}
use Rattle.gate_journal.proofs.writing.put_record.Goals as goal

pub returns : goal.returns
returns c =
    let r = c.args.range.now in
    on_ok_weaker c.append.result (λ last. three_joined c.args.out.now (little_bytes 8 r.off) (little_bytes 4 (length r.bytes)) r.bytes c.put_u64.new.out c.put_u32.new.out c.append.new.self
    c.in_ok-put_u64.ensures
    (c.in_ok-put_u32.ensures ∙ ap (λ z. c.put_u64.new.out ++ little_bytes 4 z) c.len.ensures)
    (last ∙ ap (λ z. c.put_u32.new.out ++ z) c.all.ensures)) c.append.ensures.ok
