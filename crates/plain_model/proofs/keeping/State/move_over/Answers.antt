use Rattle.std.proofs.Common.{◌≡◌, Some, false, eqb, ap, sym, ◌∙◌, arith}
use Rattle.std.proofs.lemmas.Bool.Decides.{nat_tests}
use Rattle.tree_model.specs.declared.rows.Update.TheVariants.{Move}
use Rattle.tree_model.specs.Rows.{is_dir_at, place_of}
use Rattle.history_model.specs.State.{is_open_on}
use Rattle.history_model.specs.Answers.{at_place, does}
use Rattle.plain_model.proofs.Moves.{past_three}
use Rattle.plain_model.proofs.keeping.State.move_over.Goals as goal

pub returns : goal.returns
returns c sizes =
    let now = c.args.self.now in
    let held : c.is_open_on-stays.result ≡ is_open_on now.handles c.args.there
    = c.is_open_on-stays.ensures ∙ ap (λ h. is_open_on h c.args.there) (c.deref.ensures.value ∙ ap (λ n. n.handles) c.self.view_is) in
    let apart : eqb c.args.there c.args.id ≡ false = grind (arith, nat_tests) in
    let first : is_dir_at now.tree c.args.id ≡ false = sym (ap (λ n. is_dir_at n.tree c.args.id) c.self.view_is) ∙ sym c.is_dir.ensures ∙ c.if-is_dir.false in
    let second : is_dir_at now.tree c.args.there ≡ false = sym (ap (λ n. is_dir_at n.tree c.args.there) c.self.view_is) ∙ sym c.is_dir-else-is_dir.ensures ∙ c.if-is_dir-2.false in
    c.move_row.ensures
    ∙ ap (λ s. at_place (place_of now.tree c.args.id) (λ dir name. does (Move dir name c.args.to_dir c.args.to_name c.args.id false (Some c.args.there) s))) held
    ∙ past_three _ _ _ _ _ _ apart first second
