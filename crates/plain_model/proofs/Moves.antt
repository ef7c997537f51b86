-- Chains of checks, of which all were passed.
use Rattle.std.proofs.Common.{◌≡◌, Bool, true, false, cond, refl, ◌∙◌}
use Rattle.std.specs.Prelude.{◌||◌, Result, IfOk}
use Rattle.std.proofs.lemmas.Result.{IfOk-weaker}
use Rattle.tree_cuts.specs.Calls.{Sizes}
use Rattle.history_model.specs.Answers.{Answer}

pub past_three : {X : Type 0} (a b d : Bool) (x y z : X) → a ≡ false → b ≡ false → d ≡ false → z ≡ cond a x (cond (b || d) y z)
past_three false false false x y z p q r = refl
past_three true b d x y z p q r = cc
past_three false true d x y z p q r = cc
past_three false false true x y z p q r = cc

pub past : {X : Type 0} (a : Bool) (x z : X) → a ≡ false → z ≡ cond a x z
past false x z p = refl
past true x z p = cc

-- an answer that is right with any sizes is right with these
pub at_these : {E : Type 0} (r : Result Answer E) (sizes : Sizes) (f : Sizes → Answer) (y : Answer) → f sizes ≡ y → IfOk r (λ a. (s : Sizes) → a ≡ f s) → IfOk r (λ a. a ≡ y)
at_these r sizes f y e h = IfOk-weaker r (λ a. (s : Sizes) → a ≡ f s) (λ a. a ≡ y) (λ a g. g sizes ∙ e) h
