use Rattle.std.proofs.Common.{◌≡◌, refl, sym, ap, subst, ◌∙◌}
use Rattle.std.specs.List.{insert}
use Rattle.cross_dep.specs.Kept.{Held}
use Rattle.cross_dep.specs.Marked.{with_changed}
use Rattle.cross_dep.specs.Order.{Rises, IsAt, IsGapFor}
use Rattle.cross_dep.proofs.Keyed.{IsMarkedAt, marked_at, rises_at, marked_new, rises_new}
use Rattle.cross_dep.proofs.marks.Marks.mark.Goals as goal

pub invariant_of-self : goal.invariant_of-self
invariant_of-self c =
    let keys = c.self.inside.keys.items in
    let is : IsMarkedAt keys c.args.key.now c.in-Ok.at c.index.result.now c.with_changed.result = record {
      stands = subst (λ (z : Held). IsAt z.keys c.args.key.now c.in-Ok.at) (sym c.self.view_is) c.in-Ok.ensures.found;
      read = c.index.ensures;
      told = c.with_changed.ensures ∙ ap (with_changed c.index.result.now) c.is_changed.ensures;
    } in
    rises_at keys c.args.key.now c.in-Ok.at c.index.result.now c.with_changed.result is c.self.invariant

pub returns-in-Ok-clause-tells : goal.returns-in-Ok-clause-tells
returns-in-Ok-clause-tells c =
    let keys = c.self.inside.keys.items in
    let is : IsMarkedAt keys c.args.key.now c.in-Ok.at c.index.result.now c.with_changed.result = record {
      stands = subst (λ (z : Held). IsAt z.keys c.args.key.now c.in-Ok.at) (sym c.self.view_is) c.in-Ok.ensures.found;
      read = c.index.ensures;
      told = c.with_changed.ensures ∙ ap (with_changed c.index.result.now) c.is_changed.ensures;
    } in
    λ other. rw (← c.self.view_is) (marked_at keys c.args.key.now c.in-Ok.at c.index.result.now c.with_changed.result is other)

pub invariant_of-self-in-Err : goal.invariant_of-self-in-Err
invariant_of-self-in-Err c =
    let keys = c.self.inside.keys.items in
    let put : c.insert.new.self.items ≡ insert keys c.in-Err.at c.args.key.now = c.insert.ensures.items ∙ (rw c.unwrap.ensures refl) in
    let goes : IsGapFor keys c.args.key.now c.in-Err.at = subst (λ (z : Held). IsGapFor z.keys c.args.key.now c.in-Err.at) (sym c.self.view_is) c.in-Err.ensures.absent in
    subst Rises (sym put) (rises_new keys c.args.key.now c.in-Err.at goes c.self.invariant)

pub returns-in-Err-clause-tells : goal.returns-in-Err-clause-tells
returns-in-Err-clause-tells c =
    let keys = c.self.inside.keys.items in
    let put : c.insert.new.self.items ≡ insert keys c.in-Err.at c.args.key.now = c.insert.ensures.items ∙ (rw c.unwrap.ensures refl) in
    λ other. rw (put, ← c.self.view_is) (marked_new keys c.args.key.now c.in-Err.at other)
