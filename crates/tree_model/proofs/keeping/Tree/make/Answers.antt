use Rattle.std.proofs.Common.{◌≡◌, ◌+◌, ◌<◌, ◌^◌, ap, sym, subst, ◌∙◌, arith}
use Rattle.std.specs.Prelude.{OnOk}
use Rattle.tree_model.specs.declared.rows.Body.{Body}
use Rattle.std.specs.declared.option.Option.TheVariants.{Some}
use Rattle.std.specs.FinMap as map
use Rattle.std.proofs.lemmas.Result.{on_ok_weaker, on_err_weaker}
use Rattle.tree_model.specs.declared.rows.Update.TheVariants.{Make}
use Rattle.tree_model.specs.Updates.{apply, new_body}
use Rattle.tree_model.specs.Tests.{applies}
use Rattle.tree_model.specs.Nodes.{AreIndexed, on_node, entered}
use Rattle.tree_model.proofs.Stays.{id_free, made, Made, on_both}
use Rattle.tree_model.proofs.keeping.Tree.make.Goals as goal

pub put_below-requires : goal.put_below-requires
put_below-requires c =
    id_free c.self.inside.nodes c.args.dir c.args.name c.args.id c.args.is_dir (ap (λ t. applies t (Make c.args.dir c.args.name c.args.id c.args.is_dir)) c.self.view_is ∙ c.requires)

after : (c : goal.After-put_below) → OnOk c.put_below.result (Made c.self.inside.nodes c.args.dir c.args.name c.args.id c.args.is_dir c.put_below.new.self)
after c =
    let m = c.self.inside.nodes in
    let few : map.len m + 1 < 2 ^ 32 = let a = c.len.ensures in omega arith in
    let all = made m c.self.invariant c.args.dir c.args.name c.args.id c.args.is_dir (ap (λ t. applies t (Make c.args.dir c.args.name c.args.id c.args.is_dir)) c.self.view_is ∙ c.requires) few in
    let node : c.new-2.result ≡ (record { parent = Some c.args.dir; name = c.args.name; body = new_body c.args.is_dir }, map.empty) = c.new-2.ensures ∙ ap (λ (b : Body). (record { parent = Some c.args.dir; name = c.args.name; body = b }, map.empty)) c.new.ensures in
    on_ok_weaker c.put_below.result
    (λ is. subst (Made m c.args.dir c.args.name c.args.id c.args.is_dir) (sym (is ∙ ap (λ k. on_node (entered c.args.name c.args.id) (map.insert m c.args.id k) c.args.dir) node)) all)
    c.put_below.ensures.ok

pub invariant_of-self : goal.invariant_of-self
invariant_of-self c =
    on_both c.put_below.result
    (on_ok_weaker c.put_below.result (λ made. made.kept) (after c))
    (on_err_weaker c.put_below.result (λ is. subst AreIndexed (sym is) c.self.invariant) c.put_below.ensures.err)

pub returns-clause-ok : goal.returns-clause-ok
returns-clause-ok c =
    on_ok_weaker c.put_below.result (λ made. made.rows ∙ ap (λ t. apply t (Make c.args.dir c.args.name c.args.id c.args.is_dir)) c.self.view_is) (after c)
