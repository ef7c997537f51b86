-- How a name is kept: its bytes, and zeros behind them.
use Rattle.std.specs.Prelude.{◌≡◌, ℕ, ◌-◌, ◌≤◌, IsTrue, List, ◌++◌, length, take, drop, replicate}
use mathlib.Core.Path.{sym, ap, subst, ◌∙◌}
use Rattle.std.proofs.lemmas.List.{length-take-le, take-append-drop}
use Rattle.ccfs_base.specs.Names.{is_name_or_none}
use Rattle.ccfs_base.specs.declared.naming.Name.TheInside.{Inside}

-- the bytes that a name shows
abbrev pub shown : Inside → List ℕ
shown n = take n.len n.bytes

-- at most 64 bytes, which are a name's or none, and zeros behind them
pub record IsPadded (n : Inside) : Type 0 where
  pub short : n.len ≤ 64
  pub rest : drop n.len n.bytes ≡ replicate (64 - n.len) 0
  pub size : length n.bytes ≡ 64
  pub name : IsTrue (is_name_or_none (take n.len n.bytes))

-- the fields of a name by its bytes
abbrev pub kept : List ℕ → Inside
kept t = record { bytes = t ++ replicate (64 - length t) 0; len = length t }

-- the fields can be told from the bytes that they show
pub kept_ok : (n : Inside) → IsPadded n → kept (shown n) ≡ n
kept_ok n k =
    let l : length (take n.len n.bytes) ≡ n.len = length-take-le n.len n.bytes (subst (λ z. n.len ≤ z) (sym k.size) k.short) in
    let same : take n.len n.bytes ++ replicate (64 - length (take n.len n.bytes)) 0 ≡ n.bytes
    = ap (λ z. take n.len n.bytes ++ replicate (64 - z) 0) l ∙ ap (λ z. take n.len n.bytes ++ z) (sym k.rest) ∙ take-append-drop n.len n.bytes in
    λ i. record { bytes = same i; len = l i }
