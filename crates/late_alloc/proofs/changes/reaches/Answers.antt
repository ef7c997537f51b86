use Rattle.std.proofs.Common.{◌≡◌, ◌≤◌, ◌+◌, ◌++◌, ◌∷◌, [], ℕ, List, length, take, cond, sym, ap, subst, ◌∙◌}
use Rattle.std.specs.Prelude.{Some, unwrap_or, Result, Ok, Err, IfOk}
use Rattle.std.specs.BTreeMap.{get, is_at, values}
use Rattle.std.specs.Ordering.{nat_cmp}
use Rattle.std.proofs.lemmas.List.{take_more, take_all}
use Rattle.std.proofs.lemmas.List.Elements.{All-take}
use Rattle.std.proofs.Common.{arith, Vec, Global}
use Rattle.ccfs_base.specs.Limits.{file_max}
use Rattle.file_bodies.specs.declared.ops.BodyOp.{BodyOp}
use Rattle.file_bodies.specs.Files.{file_of}
use Rattle.late_alloc.specs.Lengths.{IsWithin}
use Rattle.block_maps.specs.Maps.{Mapped, file_at, no_file}
use Rattle.late_alloc.specs.declared.changes.Reach.{Reach}
use Rattle.late_alloc.specs.Reaches.{reach_by, touched_of}
use Rattle.late_alloc.specs.Steps.{started, stepped}
use Rattle.late_alloc.proofs.Listing.{all_in_order}
use Rattle.late_alloc.proofs.Reaching.{so_far, found_is, so_far_more, length_after_few}
use Rattle.late_alloc.proofs.changes.reaches.Goals as goal

pub by-requires-clause-end : goal.by-requires-clause-end
by-requires-clause-end c =
    let files : List Mapped = c.args.maps.now in
    let done : List BodyOp = take c.loop-op.op-index c.args.ops.now in
    let k : ℕ = c.inode_of-inode.result in
    let own : k ≡ file_of c.op-item.result = c.inode_of-inode.ensures in
    let within : IsWithin (length files) c.op-item.result = subst (IsWithin (length files)) (sym c.op-item.is) (c.requires.within c.loop-op.op-index c.op-item.result c.loop-op-test.true) in
    let found : c.so_far-reach.result ≡ reach_by done k (file_at files k).len
    = found_is files done k c.so_far-reach.result (c.so_far-reach.ensures ∙ ap (λ z. unwrap_or z (started files k)) (c.loop-op.invariant k)) in
    subst (λ (z : Reach). z.end ≤ file_max) (sym found)
    (length_after_few (length files) done k (file_at files k).len (All-take (IsWithin (length files)) c.loop-op.op-index c.args.ops.now c.requires.within)
    (c.requires.whole k no_file (omega (arith, own, within.inode))).len)

pub loop-op-preserved : goal.loop-op-preserved
loop-op-preserved c = λ q.
    let files : List Mapped = c.args.maps.now in
    let op : BodyOp = c.op-item.result in
    let done : List BodyOp = take c.loop-op.op-index c.args.ops.now in
    let k : ℕ = c.inode_of-inode.result in
    let v : Reach = c.so_far-reach.result in
    let found : v ≡ reach_by done k (file_at files k).len
    = found_is files done k v (c.so_far-reach.ensures ∙ ap (λ z. unwrap_or z (started files k)) (c.loop-op.invariant k)) in
    let more : take (c.loop-op.op-index + 1) c.args.ops.now ≡ done ++ op ∷ []
    = take_more c.args.ops.now c.loop-op.op-index op c.loop-op-test.true ∙ ap (λ z. done ++ z ∷ []) (sym c.op-item.is) in
    so_far_more files done op k v q (get nat_cmp c.insert.new.self q) c.inode_of-inode.ensures found
    (c.in_ok-insert.ensures.updates.0 q ∙ ap (λ z. cond (is_at (nat_cmp k) q) (Some z) (get nat_cmp c.loop-op.reaches q)) c.by.ensures
    ∙ ap (cond (is_at (nat_cmp k) q) (Some (stepped op v))) (c.loop-op.invariant q))
    ∙ sym (ap (λ z. so_far files z q) more)

listed_ok : {E : Type 0} (r : Result (Vec Reach Global) E) (xs ys : List Reach) → IfOk r (λ list. list.items ≡ xs) → xs ≡ ys → IfOk r (λ list. list.items ≡ ys)
listed_ok (Ok list) xs ys h e = h ∙ e
listed_ok (Err err) xs ys h e = tt

pub returns : goal.returns
returns c =
    let files : List Mapped = c.args.maps.now in
    let whole : take c.loop-op.op-index c.args.ops.now ≡ c.args.ops.now = take_all c.loop-op.op-index c.args.ops.now (omega arith) in
    listed_ok c.in_order.result (values c.loop-op.reaches) (touched_of files c.args.ops.now) c.in_order.ensures.items
    (all_in_order files c.args.ops.now c.loop-op.reaches.entries c.in_order.ensures.order c.requires.within
    (λ q. c.loop-op.invariant q ∙ ap (λ z. so_far files z q) whole))
