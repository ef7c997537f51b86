use Rattle.std.proofs.Common.{sym}
use Rattle.script_text.proofs.Cuts.{line_text-return, line_text-plain}
use Rattle.script_text.proofs.lines.without_return.Goals as goal

pub returns-then-last-eq13 : goal.returns-then-last-eq13
returns-then-last-eq13 c = sym (line_text-return c.args.line.now c.in-Some.last.now c.in-Some.ensures.value c.if-last-eq13.true)

pub returns-else-last-eq13 : goal.returns-else-last-eq13
returns-else-last-eq13 c = sym (line_text-plain c.args.line.now c.in-Some.last.now c.in-Some.ensures.value c.if-last-eq13.false)
