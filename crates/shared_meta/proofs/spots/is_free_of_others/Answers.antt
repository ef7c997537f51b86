use Rattle.std.proofs.Common.{◌≡◌, ℕ, ◌+◌, sym, ◌∙◌, arith}
use Rattle.shared_meta.specs.Spots.{is_free_of}
use Rattle.shared_meta.proofs.Others.{others_forth, others_back}
use Rattle.shared_meta.proofs.spots.is_free_of_others.Goals as goal

pub returns-clause-forth : goal.returns-clause-forth
returns-clause-forth c h other d =
    let zero : other ≡ 0 + other = omega arith in
    others_forth (is_free_of c.args.spot) c.from.result 0 c.args.logs.now (sym c.passes_others.ensures ∙ h) other (λ e. d (zero ∙ e ∙ c.from.ensures))

pub returns-clause-back : goal.returns-clause-back
returns-clause-back c h =
    c.passes_others.ensures
    ∙ others_back (is_free_of c.args.spot) c.from.result 0 c.args.logs.now (λ (k : ℕ) d. let zero : 0 + k ≡ k = omega arith in h k (λ e. d (zero ∙ e ∙ sym c.from.ensures)))
