-- Chains of checks, of which all were passed.
use Rattle.std.proofs.Common.{◌≡◌, ℕ, Bool, true, false, cond, refl, ap, ◌∙◌}
use Rattle.std.specs.Prelude.{◌||◌}
use Rattle.std.specs.declared.result.Result.{Result}
use Rattle.std.specs.declared.result.Result.TheVariants.{Ok}
use Rattle.ccfs_base.specs.declared.replies.Refusal.{Refusal}
use Rattle.history_model.specs.Answers.{Answer, from_row}

pub past : {X : Type 0} (a : Bool) (x z : X) → a ≡ false → z ≡ cond a x z
past false x z p = refl
past true x z p = cc

-- on from the row that a walk led to, behind two checks
pub past_row : (a b : Bool) (x : Answer) (w : Result ℕ Refusal) (id : ℕ) (f : ℕ → Answer) (z : Answer) → a ≡ false → b ≡ false → Ok id ≡ w → z ≡ f id → z ≡ cond (a || b) x (from_row w f)
past_row false false x w id f z p q e h = h ∙ ap (λ (r : Result ℕ Refusal). from_row r f) e
past_row true b x w id f z p q e h = absurd (cc)
past_row false true x w id f z p q e h = absurd (cc)
