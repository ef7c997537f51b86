use Rattle.std.proofs.Common.{ℕ, Bool, not, length, sym, ap, arith}
use Rattle.std.proofs.lemmas.List.Sums.{position_or_len_is}
use Rattle.ccfs_base.specs.Names.{is_name_byte}
use Rattle.ccfs_base.proofs.naming.first_bad_byte.Goals as goal

pub returns-then-not-may_stand_in_name : goal.returns-then-not-may_stand_in_name
returns-then-not-may_stand_in_name c =
    let bad : ℕ → Bool = λ b. not (is_name_byte b) in
    sym (position_or_len_is bad c.args.text.now c.loop-place.place 0 (omega arith) (λ k h. ap not (c.loop-place.invariant k h)) (λ _. grind arith))

pub returns : goal.returns
returns c =
    let bad : ℕ → Bool = λ b. not (is_name_byte b) in
    sym (position_or_len_is bad c.args.text.now (length c.args.text.now) 0 (omega arith) (λ k h. ap not (c.loop-place.invariant k (omega arith))) (λ h. absurd (omega arith)))
