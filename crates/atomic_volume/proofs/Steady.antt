-- What an answer that isn't the device's refusal tells of a call inside it.
use Rattle.std.proofs.Common.{◌≡◌, Result, Ok, Err, IsErrAnd, IsErrOf, ◌∙◌, ap}
use Rattle.std.proofs.lemmas.Result.{err_from_is_err_and}

-- what stands unless a call was refused with e stands where it answered Ok
pub unless_ok : {A X E : Type 0} (x : X) (e : E) → ((Ok x ≡ Err e → ⊥) → A) → A
unless_ok x e steady = steady (λ is. cc)

-- the refusal that a `?` makes of another one
pub passed_on : {X E : Type 0} (r : Result X E) (f e : E) → IsErrAnd r (λ y. y ≡ f) → f ≡ e → r ≡ Err e
passed_on r f e made is = let p = err_from_is_err_and r made in p.1 ∙ ap Err (p.2 ∙ is)

-- what stands unless a call was refused with e stands unless the refusal that a `?` made of the call's is e
pub unless_passed : {A X Y E : Type 0} (r : Result X E) (f e : E) → IsErrAnd r (λ y. y ≡ f) → ((IsErrOf {T = Y} (Err f) e → ⊥) → A) → (r ≡ Err e → ⊥) → A
unless_passed r f e made steady not = steady (λ is. let same : f ≡ e = cc in not (passed_on r f e made same))
