use Rattle.std.proofs.Common.{◌≡◌, ◌+◌, ◌<◌, ◌∷◌, ◌++◌, [], List, ℕ, inl, inr, true, false, take, get_or, sym, subst, ◌∙◌, arith}
use Rattle.std.proofs.lemmas.Bool.{cases_eq}
use Rattle.std.proofs.lemmas.List.{take_more}
use Rattle.free_maps.specs.Maps.{is_set}
use Rattle.front_laws.specs.Inodes.{has}
use Rattle.front_core.proofs.Lists.{has_at, has_last, has_none_last}
use Rattle.front_core.proofs.free.mark_all.Goals as goal

pub set-requires : goal.set-requires
set-requires c =
    let inodes = c.args.inodes.now in
    let i = c.loop-inode.inode-index in
    let below : get_or inodes i 0 < c.args.taken.now.count = c.requires (get_or inodes i 0) (has_at inodes i 0 c.loop-inode-test.true) in
    omega (arith, below, c.loop-inode.invariant.count)

pub loop-inode-preserved : goal.loop-inode-preserved
loop-inode-preserved c =
    let inodes = c.args.inodes.now in
    let i = c.loop-inode.inode-index in
    let inode = get_or inodes i 0 in
    let new = c.set.new.self.bytes in
    let more : take (i + 1) inodes ≡ take i inodes ++ inode ∷ [] = take_more inodes i 0 c.loop-inode-test.true in
    record {
      own = λ j p. elim (has_last j (take i inodes) inode (subst (λ (z : List ℕ). has j z ≡ true) more p)) [
        | inl q ↦ elim (cases_eq j inode) [
          | inl e ↦ subst (λ z. is_set new z ≡ c.args.on) (sym e) c.set.ensures.bit
          | inr n ↦ c.set.ensures.others j n ∙ c.loop-inode.invariant.own j q
        ]
        | inr e ↦ subst (λ z. is_set new z ≡ c.args.on) e c.set.ensures.bit
      ];
      others = λ j p.
          (let q = has_none_last j (take i inodes) inode (subst (λ (z : List ℕ). has j z ≡ false) more p) in
          c.set.ensures.others j (λ e. q.1 (sym e)) ∙ c.loop-inode.invariant.others j q.0);
      count = c.set.ensures.count ∙ c.loop-inode.invariant.count;
    }
