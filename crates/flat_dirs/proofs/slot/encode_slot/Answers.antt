use Rattle.std.proofs.Common.{◌+◌, ◌∷◌, ◌++◌, length, take, drop, ap, ◌∙◌}
use Rattle.flat_dirs.proofs.Written.{slot_written}
use Rattle.flat_dirs.proofs.slot.encode_slot.Goals as goal

pub returns : goal.returns
returns c =
    let bytes = c.put_parent.new.bytes in
    c.put_name.ensures
    ∙ ap (λ n. take 4 bytes ++ (length n ∷ n ++ drop (5 + length n) bytes)) c.all.ensures.value
    ∙ slot_written c.args.slot.now bytes c.put_parent.ensures
