use Rattle.std.proofs.Common.{◌≡◌, ap, sym, subst, ◌∙◌}
use Rattle.std.specs.FinMap as map
use Rattle.tree_model.specs.declared.rows.Row.{Row}
use Rattle.tree_model.specs.Nodes.{AreIndexed, rows_in}
use Rattle.tree_model.proofs.Stays.{root_row, alone_rows, kept_alone}
use Rattle.tree_model.proofs.keeping.Tree.with_root.Goals as goal

pub invariant_of-result : goal.invariant_of-result
invariant_of-result c =
    let r : Row = root_row c.args.changes in
    let is : c.put.new.self ≡ map.insert map.empty 0 (r, map.empty) =
    c.in_ok-put.ensures.ok ∙ ap (λ m. map.insert m 0 c.new.result) c.new-nodes.ensures ∙ ap (map.insert map.empty 0) (c.new.ensures ∙ ap (λ n. (record r { name = n }, map.empty)) c.empty.ensures) in
    subst AreIndexed (sym is) (kept_alone c.args.changes)

pub returns : goal.returns
returns c =
    let r : Row = root_row c.args.changes in
    let is : c.put.new.self ≡ map.insert map.empty 0 (r, map.empty) =
    c.in_ok-put.ensures.ok ∙ ap (λ m. map.insert m 0 c.new.result) c.new-nodes.ensures ∙ ap (map.insert map.empty 0) (c.new.ensures ∙ ap (λ n. (record r { name = n }, map.empty)) c.empty.ensures) in
    ap rows_in is ∙ alone_rows c.args.changes
