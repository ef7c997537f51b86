use Rattle.std.proofs.Common.{◌∙◌, ◌++◌, ◌≤◌, ℕ, List, length, take, drop, sym, ap, subst}
use Rattle.ccfs_base.specs.Memory.{SourceNow}
use Rattle.ccfs_base.proofs.Written.{IsRead, read_is, given_more, left_less}
use Rattle.ccfs_base.proofs.memory.MemSourceSource.read.Goals as goal

is_read : (c : goal.After-self-2-1) → IsRead c.all.result.now c.copy_from_slice.new.self c.self.inside.place c.min-count.result
is_read c = read_is c.all.result.now _ c.self.inside.place _ c.min.result (subst (λ (z : List ℕ). c.self.inside.place ≤ length z) (sym c.all.ensures) c.self.invariant.0) c.min-count.ensures c.copy_from_slice.ensures.after

pub returns-clause-given : goal.returns-clause-given
returns-clause-given c =
    given_more c.all.result.now _ _ c.self.inside.bytes c.self.inside.place _ (is_read c) c.all.ensures
    ∙ ap (λ (z : List ℕ). z ++ take c.min-count.result (c.copy_from_slice.new.self ++ drop c.min-count.result c.args.into.now)) (ap (λ (z : SourceNow). z.given) c.self.view_is)

pub returns-clause-left : goal.returns-clause-left
returns-clause-left c =
    sym (ap (λ (z : SourceNow). z.left) c.self.view_is) ∙ left_less c.all.result.now _ _ c.self.inside.bytes c.self.inside.place _ (is_read c) c.all.ensures
