use Rattle.std.proofs.Common.{◌≡◌, ◌∷◌, [], ◌++◌, ap, sym, ◌∙◌, rules}
use Rattle.std.specs.FinMap as map
use Rattle.tree_model.proofs.MapView.{onto, onto_last, onto_empty}
use Rattle.tree_model.proofs.nodes.Nodes.copy.Goals as goal

pub loop-id-init : goal.loop-id-init
loop-id-init c =
    let held : c.into_iter-id-iterator.result.iter ≡ c.self.inside.nodes.entries = search rules in
    ap (λ m. onto m c.into_iter-id-iterator.result.iter) c.new-nodes.ensures ∙ onto_empty c.into_iter-id-iterator.result.iter
    ∙ ap (λ l. map.from_entries l) held ∙ c.self.view_is

pub loop-id-preserved : goal.loop-id-preserved
loop-id-preserved c =
    let rest = c.next.new.self.iter in
    let taken : c.loop-id.id-iterator.iter ≡ rest ++ (c.in-Some.id.now, c.in-Some.node.now) ∷ [] = c.in-Some.ensures.steps in
    ap (λ m. onto m rest) (c.in_ok-put.ensures.ok ∙ ap (map.insert c.loop-id.nodes c.in-Some.id.now) c.in_ok-copy.ensures)
    ∙ sym (onto_last c.loop-id.nodes rest c.in-Some.id.now c.in-Some.node.now) ∙ ap (onto c.loop-id.nodes) (sym taken) ∙ c.loop-id.invariant
