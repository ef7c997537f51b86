use Rattle.std.proofs.Common.{◌≡◌, ◌<◌, ℕ, get_or, ap, ◌∙◌, arith, rules, Vec, Global, Option, None}
use Rattle.ccfs_base.specs.declared.records.Rec.{Rec}
use Rattle.shared_meta.specs.Area.{area}
use Rattle.shared_meta.specs.Held.{kept_in}
use Rattle.shared_meta.proofs.Held.{held_none}
use Rattle.shared_meta.proofs.meta.SharedMeta.of.Goals as goal
use Rattle.shared_meta.proofs.Held.{all_none, seen}
use Rattle.std.specs.Prelude.{is_some}

pub invariant_of-result : goal.invariant_of-result
invariant_of-result c =
    let each : (k : ℕ) (d : Option (Vec Rec Global)) → k < 64 → get_or c.from_fn.result k d ≡ None = λ k d l. let called = c.from_fn.ensures.items.at k d l in search (rules, called.2) in
    let none : (s : ℕ) → get_or c.from_fn.result s None ≡ None = λ s. all_none c.from_fn.result s (λ k d l. each k d (omega (arith, c.from_fn.ensures.items.long))) in
    held_none (area (kept_in c.into_vec-base.result.items c.new.result c.from_fn.result)) c.from_fn.result c.new.ensures.ranges c.new.ensures.deltas c.new.ensures.room none

pub returns : goal.returns
returns c =
    let each : (k : ℕ) (d : Option (Vec Rec Global)) → k < 64 → get_or c.from_fn.result k d ≡ None = λ k d l. let called = c.from_fn.ensures.items.at k d l in search (rules, called.2) in
    let none : (s : ℕ) → get_or c.from_fn.result s None ≡ None = λ s. all_none c.from_fn.result s (λ k d l. each k d (omega (arith, c.from_fn.ensures.items.long))) in (
      record {
        base = c.into_vec-base.ensures;
        ranges = c.new.ensures.ranges;
        deltas = c.new.ensures.deltas;
        places = λ s. seen c.from_fn.result s ∙ ap (λ (p : Option (Vec Rec Global)). is_some p) (none s);
      },
      c.new.ensures.room,
    )
