use Rattle.std.proofs.Common.{◌≡◌, ℕ, List, ap, subst, ◌∙◌}
use Rattle.std.specs.Prelude.{IfOk, ◌==◌, ◌&&◌}
use Rattle.std.specs.List.{filter, list_any}
use Rattle.stream_cuts.specs.Forced.{is_open, streams}
use Rattle.tree_model.specs.Laws.{changes_node}
use Rattle.tree_cuts.specs.Calls.{Charged, changers}
use Rattle.plain_model.proofs.keeping.State.sealed_by_file.Goals as goal

pub returns-clause-those : goal.returns-clause-those
returns-clause-those c =
    let now = c.args.self.now in
    let all : c.deref-2.result.now ≡ streams = c.deref-2.ensures.value ∙ c.in_ok-all.ensures in
    let held : c.deref.result.now ≡ now.unsealed = c.deref.ensures.value ∙ ap (λ n. n.unsealed) c.self.view_is in
    let held2 : c.deref-3.result.now ≡ now.unsealed = c.deref-3.ensures.value ∙ ap (λ n. n.unsealed) c.self.view_is in
    let those : c.deref-4.result.now ≡ changers c.args.id now.unsealed
    = c.deref-4.ensures.value ∙ c.in_ok-those.ensures.those
    ∙ ap (λ (u : List (ℕ × Charged)). filter (λ s. list_any (λ e. e.0 == s && changes_node c.args.id e.1.0) u) c.deref-2.result.now) held
    ∙ ap (λ l. filter (λ s. list_any (λ (e : ℕ × Charged). e.0 == s && changes_node c.args.id e.1.0) now.unsealed) l) all in
    let P : List (ℕ × Charged) → List ℕ → Type 0 = λ u l. IfOk c.open_ones.result (λ v. v.items ≡ filter (is_open u) l) in
    subst (λ l. P now.unsealed l) those (subst (λ u. P u c.deref-4.result.now) held2 c.open_ones.ensures.those)
