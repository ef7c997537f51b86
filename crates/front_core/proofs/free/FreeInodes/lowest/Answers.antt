use Rattle.std.proofs.Common.{◌≡◌, ◌+◌, ◌<◌, List, ℕ, length, sym, ap, subst, ◌∙◌, arith}
use Rattle.front_core.specs.Free.{Taken, IsLowestOf, IsThisOrIn, given_at}
use Rattle.front_core.proofs.Lists.{list_read}
use Rattle.front_core.proofs.Lowest.{IsOpenBelow, lowest_next, lowest_skip}
use Rattle.front_core.proofs.Taking.{lowest_free}
use Rattle.front_core.proofs.free.FreeInodes.lowest.Goals as goal
use Rattle.front_core.proofs.free.FreeInodes.lowest.Goals.{then-has_bit, else-has_bit}

pub loop-stream-preserved : goal.loop-stream-preserved
loop-stream-preserved c =
    let taken = c.args.self.now in
    let sealed = c.args.sealed in
    let at = c.loop-stream.stream in
    let first = c.loop-stream.lowest in
    let inside : at < length c.self.inside.given = omega (arith, c.loop-stream-test.true, c.type_inv.given-items) in
    elim c.if-has_bit.branch [
      | then-has_bit w ↦
          let found = w.lowest_with-lowest.result in
          let list : w.deref.result.now ≡ given_at taken at
          = w.deref.ensures.value ∙ sym (list_read c.self.inside.given at c.given-item.result inside) ∙ ap (λ (z : Taken). given_at z at) c.self.view_is in
          subst (IsLowestOf (IsOpenBelow taken sealed (at + 1))) (sym w.lowest-is)
          (lowest_next taken sealed at first found (sym c.has_bit.ensures ∙ w.if-has_bit.true) c.loop-stream.invariant
          (subst (λ (z : List ℕ). IsLowestOf (IsThisOrIn first z) found) list w.lowest_with-lowest.ensures))
      | else-has_bit w ↦
          subst (IsLowestOf (IsOpenBelow taken sealed (at + 1))) (sym w.lowest-is)
          (lowest_skip taken sealed at first (sym c.has_bit.ensures ∙ w.if-has_bit.false) c.loop-stream.invariant)
    ]

pub returns : goal.returns
returns c count inodes t unsealed owned are =
    let all : c.loop-stream.stream ≡ 64 = omega arith in
    lowest_free count inodes t unsealed c.args.self.now owned are c.args.sealed c.loop-stream.lowest
    (subst (λ n. IsLowestOf (IsOpenBelow c.args.self.now c.args.sealed n) c.loop-stream.lowest) all c.loop-stream.invariant)
