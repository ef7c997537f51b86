use Rattle.std.proofs.Common.{◌==◌, length, sym, arith}
use Rattle.std.proofs.lemmas.List.Sums.{position_or_len_is}
use Rattle.std.proofs.lemmas.Bool.Decides.{nat_tests}
use Rattle.ccfs_base.proofs.paths.component_length.Goals as goal

pub returns-then-byte-eq47-clause-length : goal.returns-then-byte-eq47-clause-length
returns-then-byte-eq47-clause-length c =
    sym (position_or_len_is (λ b. b == 47) c.args.text.now c.loop-place.place 0 (omega arith) c.loop-place.invariant (λ _. grind (arith, nat_tests)))

pub returns-clause-length : goal.returns-clause-length
returns-clause-length c =
    sym (position_or_len_is (λ b. b == 47) c.args.text.now (length c.args.text.now) 0 (omega arith) (λ k h. c.loop-place.invariant k (omega arith)) (λ h. absurd (omega arith)))
