use Rattle.std.proofs.Common.{◌≡◌, true, ◌≤◌, length, arith, rules, sym, ◌∙◌}
use Rattle.std.proofs.lemmas.List.{places}
use Rattle.ccfs_base.specs.Names.{is_name}
use Rattle.ccfs_base.proofs.Kept.{rest_zero, shows, name_few}
use Rattle.ccfs_base.proofs.naming.Name.parse.Goals as goal

pub invariant_of-result : goal.invariant_of-result
invariant_of-result c =
    let name : is_name c.args.text.now ≡ true = sym c.spells_name.ensures ∙ c.if-not-spells_name.false in
    let few : length c.args.text.now ≤ 64 = name_few c.args.text.now name in
    record {
      short = omega arith;
      rest = rest_zero _ _ (length c.args.text.now) (search rules) (omega arith) (search rules);
      size = search (rules, places);
      name = shows c.args.text.now _ _ c.copy_from_slice.ensures.after name;
    }
