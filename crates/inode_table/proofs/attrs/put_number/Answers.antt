-- Behind the place the number stands in front of what stood behind it; nothing stands behind the part that was lent.
use Rattle.std.proofs.Common.{◌≡◌, ◌+◌, ◌-◌, [], ◌++◌, List, ℕ, take, drop, ap, ◌∙◌, arith}
use Rattle.std.proofs.lemmas.List.{drop_all, take_all, drop-drop, append-nil, length-drop}
use Rattle.byteorder.specs.Endian.{little_bytes}
use Rattle.inode_table.proofs.attrs.put_number.Goals as goal

pub returns : goal.returns
returns c =
    let place : ℕ = c.args.place in
    let bytes : List ℕ = c.args.bytes.now in
    let number : List ℕ = little_bytes 8 c.args.number in
    let long = length-drop place bytes in
    let whole : take (24 - place) (drop place bytes) ≡ drop place bytes = take_all (24 - place) (drop place bytes) (omega arith) in
    let none : drop (24 - place) (drop place bytes) ≡ [] = drop_all (24 - place) (drop place bytes) (omega arith) in
    let written : c.write_u64.new.buf ≡ number ++ drop (place + 8) bytes = c.write_u64.ensures ∙ ap (λ z. number ++ drop 8 z) whole ∙ ap (λ z. number ++ z) (drop-drop 8 place bytes) in
    ap (λ z. take place bytes ++ (z ++ drop (24 - place) (drop place bytes))) written
    ∙ ap (λ z. take place bytes ++ ((number ++ drop (place + 8) bytes) ++ z)) none
    ∙ ap (λ z. take place bytes ++ z) (append-nil (number ++ drop (place + 8) bytes))
