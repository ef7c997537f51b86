use Rattle.std.proofs.Common.{◌≡◌, ◌-◌, ◌++◌, ◌∷◌, reverse, take, replicate, rules, sym, ◌∙◌, ap, subst, List, IsTrue}
use Rattle.disk_model.specs.Bytes.{resized}
use Rattle.disk_model.specs.History.{contents, all_inside}
use Rattle.disk_model.specs.declared.operation.Operation.{Operation}
use Rattle.disk_model.specs.declared.operation.Operation.TheVariants.{Resize}
use Rattle.disk_model.proofs.Record.{reverse_push, resized_by_parts}
use Rattle.disk_model.proofs.history.History.resize.Goals as goal

pub invariant_of-self-2 : goal.invariant_of-self-2
invariant_of-self-2 c =
    let s = c.args.self.now in
    let operations : reverse c.push.new.self.items ≡ Resize c.args.size ∷ reverse s.operations.items = reverse_push _ _ _ c.in_ok-push.ensures.items in
    let made : c.extend_from_slice.new.self.items ≡ take c.min-both.result s.bytes.items ++ replicate (c.args.size - c.min-both.result) 0 = search rules in
    record {
      kept = made ∙ resized_by_parts s.bytes.items c.args.size _ (search rules) ∙ ap (λ (l : List _). resized l c.args.size) s.kept ∙ ap (λ (l : List Operation). contents s.start.items l) (sym operations);
      inside = subst (λ (l : List Operation). IsTrue (all_inside s.start.items l)) (sym operations) s.inside;
    }
