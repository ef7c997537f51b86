use Rattle.std.proofs.Common.{◌≡◌, ℕ, List, ap, subst, ◌∙◌}
use Rattle.std.specs.Prelude.{IfOk}
use Rattle.std.specs.List.{filter}
use Rattle.stream_cuts.specs.Forced.{is_open, streams}
use Rattle.tree_cuts.specs.Calls.{Charged}
use Rattle.plain_model.proofs.keeping.State.sealed_by_all.Goals as goal

pub returns-clause-those : goal.returns-clause-those
returns-clause-those c =
    let all : c.deref-2.result.now ≡ streams = c.deref-2.ensures.value ∙ c.in_ok-all.ensures in
    let held : c.deref.result.now ≡ c.args.self.now.unsealed = c.deref.ensures.value ∙ ap (λ n. n.unsealed) c.self.view_is in
    let P : List (ℕ × Charged) → List ℕ → Type 0 = λ u l. IfOk c.open_ones.result (λ v. v.items ≡ filter (is_open u) l) in
    subst (λ l. P c.args.self.now.unsealed l) all (subst (λ u. P u c.deref-2.result.now) held c.open_ones.ensures.those)
