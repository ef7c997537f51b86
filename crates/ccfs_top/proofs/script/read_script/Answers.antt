use Rattle.std.proofs.Common.{◌≡◌, ◌-◌, ◌++◌, length, take, min, inl, inr, arith, ◌∙◌}
use Rattle.ccfs_top.proofs.Reading.{appended, read_further, few_read, read_to_end}
use Rattle.ccfs_top.proofs.script.read_script.Goals as goal

pub returns-then-count-eq0-clause-whole : goal.returns-then-count-eq0-clause-whole
returns-then-count-eq0-clause-whole g c = λ told. inl (read_to_end _ _ _ (c.loop-text.invariant.read told) ((c.in-Ok-read.ensures.end told).0 c.if-count-eq0.true))

pub loop-text-preserved : goal.loop-text-preserved
loop-text-preserved g c =
    let grown : c.extend_from_slice.new.self.items ≡ c.loop-text.text.items ++ take c.in-Ok-read.count c.read.new.into = appended _ _ _ c.loop-text.text.items (take c.in-Ok-read.count c.read.new.into) c.extend_from_slice.ensures.items c.is_err.ensures.negation c.if-is_err.false in
    let most : c.min-most.result ≡ min 65536 (16777217 - length c.loop-text.text.items) = omega (arith, c.min-most.ensures, c.len-in-loop-text.ensures) in
    record {
      read = λ told. read_further _ _ _ _ _ _ (c.loop-text.invariant.read told) (c.in-Ok-read.ensures.left told) grown;
      few = few_read 16777217 65536 _ _ _ _ c.read.new.into _ c.loop-text.invariant.few most c.in-Ok-read.ensures.count grown;
      whole = c.loop-text.invariant.whole;
      later = omega (arith, c.read.ensures.cause.later);
      steady = c.in-Ok-read.ensures.steady ∙ c.loop-text.invariant.steady;
    }

pub returns-clause-whole : goal.returns-clause-whole
returns-clause-whole g c = λ told. inr (omega arith, (_, c.loop-text.invariant.read told))

pub returns-then-count-eq0-clause-source_steady : goal.returns-then-count-eq0-clause-source_steady
returns-then-count-eq0-clause-source_steady g c = λ _. c.in-Ok-read.ensures.steady ∙ c.loop-text.invariant.steady
