-- Behind the place the number stands in front of what stood behind it; nothing stands behind the part that was lent.
use Rattle.std.proofs.Common.{◌≡◌, ◌+◌, ◌-◌, [], ◌++◌, List, ℕ, take, drop, ap, ◌∙◌, arith}
use Rattle.std.proofs.lemmas.List.{drop_all, take_all, drop-drop, append-nil, length-drop}
use Rattle.byteorder.specs.Endian.{little_bytes}
use Rattle.block_layout.proofs.superblock.put_number.Goals as goal

pub returns : goal.returns
returns c =
    let place : ℕ = c.args.place in
    let bytes : List ℕ = c.args.bytes.now in
    let number : List ℕ = little_bytes 4 c.args.number in
    let long = length-drop place bytes in
    let whole : take (36 - place) (drop place bytes) ≡ drop place bytes = take_all (36 - place) (drop place bytes) (omega arith) in
    let none : drop (36 - place) (drop place bytes) ≡ [] = drop_all (36 - place) (drop place bytes) (omega arith) in
    let written : c.write_u32.new.buf ≡ number ++ drop (place + 4) bytes = c.write_u32.ensures ∙ ap (λ z. number ++ drop 4 z) whole ∙ ap (λ z. number ++ z) (drop-drop 4 place bytes) in
    ap (λ z. take place bytes ++ (z ++ drop (36 - place) (drop place bytes))) written
    ∙ ap (λ z. take place bytes ++ ((number ++ drop (place + 4) bytes) ++ z)) none
    ∙ ap (λ z. take place bytes ++ z) (append-nil (number ++ drop (place + 4) bytes))
