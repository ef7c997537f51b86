use Rattle.std.proofs.Common.{◌≡◌, ◌∷◌, [], ◌++◌, ap, sym, ◌∙◌, rules}
use Rattle.tree_model.specs.Nodes.{index_of}
use Rattle.tree_model.proofs.MapView.{onto, onto_last, onto_empty}
use Rattle.tree_model.proofs.node.Node.copy.Goals as goal

pub loop-name-init : goal.loop-name-init
loop-name-init c =
    let held : c.into_iter-name-iterator.result.iter ≡ c.self.inside.entries.entries = search rules in
    ap (λ l. onto (index_of l) c.into_iter-name-iterator.result.iter) c.new-entries.ensures.empty ∙ onto_empty c.into_iter-name-iterator.result.iter
    ∙ ap index_of held ∙ ap (λ k. k.1) c.self.view_is

pub loop-name-preserved : goal.loop-name-preserved
loop-name-preserved c =
    let rest = c.next.new.self.iter in
    let taken : c.loop-name.name-iterator.iter ≡ rest ++ (c.in-Some.name.now, c.in-Some.id.now) ∷ [] = c.in-Some.ensures.steps in
    ap (λ m. onto m rest) c.in_ok-put_entry.ensures.ok
    ∙ sym (onto_last (index_of c.loop-name.entries.entries) rest c.in-Some.name.now c.in-Some.id.now) ∙ ap (onto (index_of c.loop-name.entries.entries)) (sym taken) ∙ c.loop-name.invariant
