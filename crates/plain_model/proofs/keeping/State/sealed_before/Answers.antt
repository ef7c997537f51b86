use Rattle.std.proofs.Common.{◌≡◌, ℕ, List, [], ◌∷◌, ◌++◌, Bool, not, ap, subst, ◌∙◌}
use Rattle.std.specs.Prelude.{IfOk, ◌==◌, ◌&&◌, if◌then◌else◌}
use Rattle.std.specs.List.{filter, list_any}
use Rattle.stream_cuts.specs.Forced.{streams}
use Rattle.tree_model.specs.Keys.{meets}
use Rattle.tree_cuts.specs.Calls.{Charged}
use Rattle.plain_model.proofs.keeping.State.sealed_before.Goals as goal

pub returns-clause-those : goal.returns-clause-those
returns-clause-those c =
    let now = c.args.self.now in
    let F : List (ℕ × Charged) → List ℕ → List ℕ = λ u l. filter (λ r. not (r == c.args.stream) && list_any (λ e. e.0 == r && meets e.1.0 c.args.update.now) u) l in
    let all : c.deref-2.result.now ≡ streams = c.deref-2.ensures.value ∙ c.in_ok-streams.ensures in
    let held : c.deref.result.now ≡ now.unsealed = c.deref.ensures.value ∙ ap (λ n. n.unsealed) c.self.view_is in
    let those : c.in_ok-all.all.items ≡ F now.unsealed streams = c.in_ok-all.ensures.those ∙ ap (λ u. F u c.deref-2.result.now) held ∙ ap (λ l. F now.unsealed l) all in
    let P : List ℕ → Bool → Type 0 = λ l b. IfOk c.with_own.result (λ v. v.items ≡ l ++ (if b then c.args.stream ∷ [] else [])) in
    subst (λ b. P (F now.unsealed streams) b) c.seals_own-own.ensures (subst (λ l. P l c.seals_own-own.result) those c.with_own.ensures.those)
