use Rattle.std.proofs.Common.{◌≡◌, ℕ, ◌+◌, sym, ap, ◌∙◌, suc, nat_eq, arith}
use Rattle.std.specs.Prelude.{false, Option, Some, None}
use Rattle.std.specs.Option.{option_eq}
use Rattle.tree_model.specs.Rows.{up, up_from}
use Rattle.tree_model.specs.Tests.{is_it}
use Rattle.image_model.specs.Checks.{parent_at, is_root_above}
use Rattle.image_model.specs.Reading.{table_in}
use Rattle.image_model.proofs.Least.{passed_by}
use Rattle.image_model.proofs.failing.is_rooted.Goals as goal

not_there : (at : Option ℕ) → option_eq nat_eq at (Some 0) ≡ false → is_it at 0 ≡ false
not_there None e = e
not_there (Some x) e = e

one_more : (f : ℕ → Option ℕ) (k i : ℕ) (at next : Option ℕ) → at ≡ up f k i → next ≡ up_from f at → next ≡ up f (k + 1) i
one_more f k i at next here step =
    let one : k + 1 ≡ suc k = omega arith in
    step ∙ ap (up_from f) here ∙ sym (ap (λ n. up f n i) one)

pub loop-steps-preserved : goal.loop-steps-preserved
loop-steps-preserved c =
    let f = parent_at (table_in c.args.geometry.now c.args.bytes.now) in
    record {
      here = one_more f c.loop-steps._steps c.args.inode c.loop-steps.at c.up_from-at.result c.loop-steps.invariant.here c.up_from-at.ensures;
      not_yet = passed_by (is_root_above (table_in c.args.geometry.now c.args.bytes.now) c.args.inode) c.loop-steps._steps c.loop-steps.invariant.not_yet
          (ap (λ o. is_it o 0) (sym c.loop-steps.invariant.here) ∙ not_there c.loop-steps.at (sym c.eq.ensures ∙ c.if-eq.false));
    }
