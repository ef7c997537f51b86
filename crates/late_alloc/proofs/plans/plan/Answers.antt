use Rattle.std.proofs.Common.{◌≡◌, ◌≤◌, ◌<◌, ℕ, List, All, length, take, arith, sym, ap, subst, ◌∙◌, rules, Vec, Global, vec_len}
use Rattle.std.proofs.lemmas.List.{length-take}
use Rattle.ccfs_base.specs.Limits.{file_max}
use Rattle.file_bodies.specs.declared.ops.BodyOp.{BodyOp}
use Rattle.block_maps.specs.Maps.{Mapped}
use Rattle.late_alloc.specs.declared.changes.Reach.{Reach}
use Rattle.late_alloc.specs.Choice.{unheld}
use Rattle.late_alloc.specs.Gaining.{gains_by}
use Rattle.late_alloc.specs.Reaches.{touched_of, news, given_by}
use Rattle.late_alloc.proofs.Counting.{planned, fewer}
use Rattle.late_alloc.proofs.Listing.{touched_end, touched_in, length-touched}
use Rattle.late_alloc.proofs.plans.plan.Goals as goal

vec_len_is : (v : Vec ℕ Global) → vec_len v ≡ length v.items
vec_len_is v = search rules

pub needed-need-requires-clause-few : goal.needed-need-requires-clause-few
needed-need-requires-clause-few c =
    let is : c.deref.result.now ≡ touched_of c.args.maps.now c.args.batch.now.ops = c.deref.ensures.value ∙ c.in_ok-reaches.ensures ∙ ap (touched_of c.args.maps.now) c.all.ensures in
    omega (arith, ap length is, length-touched c.args.maps.now c.args.batch.now.ops, c.requires.inodes)

pub needed-need-requires-clause-ends : goal.needed-need-requires-clause-ends
needed-need-requires-clause-ends c =
    let is : c.deref.result.now ≡ touched_of c.args.maps.now c.args.batch.now.ops = c.deref.ensures.value ∙ c.in_ok-reaches.ensures ∙ ap (touched_of c.args.maps.now) c.all.ensures in
    subst (λ (z : List Reach). All (λ (reach : Reach). reach.end ≤ file_max) z) (sym is) (touched_end c.args.maps.now c.args.batch.now.ops c.requires.whole c.requires.within)

pub returns-then-len-need : goal.returns-then-len-need
returns-then-len-need c =
    let files : List Mapped = c.args.maps.now in
    let ops : List BodyOp = c.args.batch.now.ops in
    let is : c.in_ok-reaches.reaches.items ≡ touched_of files ops = c.in_ok-reaches.ensures ∙ ap (touched_of files) c.all.ensures in
    let count : c.needed-need.result ≡ length (news c.in_ok-reaches.reaches.items) = c.needed-need.ensures.count ∙ ap (λ z. length (news z)) c.deref.ensures.value in
    let many : c.len.result ≡ length c.in_ok-blocks.blocks.items = c.len.ensures ∙ vec_len_is c.in_ok-blocks.blocks in
    let told : c.len-then-len-need.result ≡ length c.in_ok-blocks.blocks.items = c.len-then-len-need.ensures ∙ vec_len_is c.in_ok-blocks.blocks in
    let short : length c.in_ok-blocks.blocks.items < c.needed-need.result = omega arith in
    let both = fewer files ops c.in_ok-reaches.reaches.items (unheld c.args.free.now c.args.held.now c.args.first) c.in_ok-blocks.blocks.items c.needed-need.result is count c.in_ok-blocks.ensures short in
    (both.0, told ∙ both.1, omega arith)

pub gains-requires-clause-ends : goal.gains-requires-clause-ends
gains-requires-clause-ends c =
    let is : c.deref-2.result.now ≡ touched_of c.args.maps.now c.args.batch.now.ops = c.deref-2.ensures.value ∙ c.in_ok-reaches.ensures ∙ ap (touched_of c.args.maps.now) c.all.ensures in
    subst (λ (z : List Reach). All (λ (reach : Reach). reach.end ≤ file_max) z) (sym is) (touched_end c.args.maps.now c.args.batch.now.ops c.requires.whole c.requires.within)

pub given-requires-clause-inodes : goal.given-requires-clause-inodes
given-requires-clause-inodes c =
    let is : c.deref-4.result.now ≡ touched_of c.args.maps.now c.args.batch.now.ops = c.deref-4.ensures.value ∙ c.in_ok-reaches.ensures ∙ ap (touched_of c.args.maps.now) c.all.ensures in
    subst (λ (z : List Reach). All (λ (reach : Reach). reach.inode < length c.args.maps.now) z) (sym is) (touched_in c.args.maps.now c.args.batch.now.ops)

pub returns : goal.returns
returns c =
    let files : List Mapped = c.args.maps.now in
    let ops : List BodyOp = c.args.batch.now.ops in
    let stand : List ℕ = unheld c.args.free.now c.args.held.now c.args.first in
    let reaches : List Reach = c.in_ok-reaches.reaches.items in
    let blocks : List ℕ = c.in_ok-blocks.blocks.items in
    let n : ℕ = length (news reaches) in
    let is : reaches ≡ touched_of files ops = c.in_ok-reaches.ensures ∙ ap (touched_of files) c.all.ensures in
    let count : c.needed-need.result ≡ n = c.needed-need.ensures.count ∙ ap (λ z. length (news z)) c.deref.ensures.value in
    let many : c.len.result ≡ length blocks = c.len.ensures ∙ vec_len_is c.in_ok-blocks.blocks in
    let lowest : blocks ≡ take n stand = c.in_ok-blocks.ensures ∙ ap (λ z. take z stand) count in
    let enough : n ≤ length blocks = omega arith in
    planned files ops reaches stand blocks (record { gained = c.in_ok-gains.field-0; given = c.in_ok-given.field-0 }) is lowest enough
    (omega (arith, enough, ap length lowest, length-take n stand))
    (c.in_ok-gains.ensures ∙ ap (λ z. gains_by z c.deref-3.result.now) c.deref-2.ensures.value ∙ ap (gains_by reaches) c.deref-3.ensures.value)
    (c.in_ok-given.ensures ∙ ap (given_by files) c.deref-4.ensures.value)
