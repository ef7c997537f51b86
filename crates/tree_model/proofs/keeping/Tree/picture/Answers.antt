use Rattle.std.proofs.Common.{◌≡◌, ◌++◌, ◌∷◌, [], ◌<◌, ◌-◌, arith, ap, sym, subst, ◌∙◌}
use Rattle.std.specs.FinMap.{get}
use Rattle.std.proofs.lemmas.List.{append-nil}
use Rattle.tree_model.specs.Picture.{head, items}
use Rattle.tree_model.proofs.Showing.{one_shown, less_ahead, still, total, weight_at}
use Rattle.tree_model.proofs.keeping.Tree.picture.Goals as goal

pub loop-depth-init : goal.loop-depth-init
loop-depth-init c =
    let t = c.args.self.now in
    let ahead : c.push.new.self.items ≡ (0, 0) ∷ [] = c.in_ok-push.ensures.items ∙ ap (λ l. l ++ (0, 0) ∷ []) c.new-ahead.ensures.items in
    let all_of : c.len-levels.result - 0 ≡ c.len-levels.result = omega arith in
    record {
      all = ap (λ o. o ++ still c.len-levels.result t c.push.new.self.items) c.new-out.ensures
          ∙ ap (still c.len-levels.result t) ahead ∙ ap (λ n. items n t 0 0 ++ []) all_of ∙ append-nil (items c.len-levels.result t 0 0) ∙ ap (λ n. items n t 0 0) c.len-levels.ensures.rows;
    }

pub loop-depth-preserved : goal.loop-depth-preserved
loop-depth-preserved c =
    let t = c.args.self.now in
    let levels = c.len-levels.result in
    let was : c.loop-depth.ahead.items ≡ c.pop.new.self.items ++ (c.in-Some.depth, c.in-Some.id) ∷ [] = c.in-Some.ensures.items in
    record {
      all = ap (λ o. o ++ still levels t c.show.new.ahead.items) c.in_ok-show.ensures.shown
          ∙ ap (λ l. (c.loop-depth.out ++ head t c.in-Some.depth c.in-Some.id (get t c.in-Some.id)) ++ still levels t l) c.in_ok-show.ensures.ahead
          ∙ one_shown levels t c.pop.new.self.items c.in-Some.depth c.in-Some.id c.loop-depth.out _ (ap (λ l. c.loop-depth.out ++ still levels t l) (sym was) ∙ c.loop-depth.invariant.all);
    }

pub loop-depth-smaller : goal.loop-depth-smaller
loop-depth-smaller c =
    let t = c.args.self.now in
    let levels = c.len-levels.result in
    let was : c.loop-depth.ahead.items ≡ c.pop.new.self.items ++ (c.in-Some.depth, c.in-Some.id) ∷ [] = c.in-Some.ensures.items in
    let total_at = total (weight_at levels t) in
    subst (λ l. total_at c.show.new.ahead.items < total_at l) (sym was)
    (subst (λ l. total_at l < total_at (c.pop.new.self.items ++ (c.in-Some.depth, c.in-Some.id) ∷ [])) (sym c.in_ok-show.ensures.ahead)
    (less_ahead levels t c.pop.new.self.items c.in-Some.depth c.in-Some.id))
