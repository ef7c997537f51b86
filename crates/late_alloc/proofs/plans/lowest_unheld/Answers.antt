use Rattle.std.proofs.Common.{◌≡◌, ◌+◌, ◌++◌, ◌∷◌, [], ℕ, List, length, cond, Vec, Global, append-nil, sym, ap, ◌∙◌, arith, rules, vec_len, length-append}
use Rattle.late_alloc.specs.Choice.{unheld_below}
use Rattle.late_alloc.proofs.Standing.{unheld_more, first_unheld}
use Rattle.late_alloc.proofs.plans.lowest_unheld.Goals as goal
use Rattle.late_alloc.proofs.plans.lowest_unheld.Goals.{then-is_free+in_ok-push, else-is_free}

vec_len_is : (v : Vec ℕ Global) → vec_len v ≡ length v.items
vec_len_is v = search rules

pub returns-then-len-most : goal.returns-then-len-most
returns-then-len-most c =
    let many : c.len.result ≡ length c.loop-item.blocks.items = c.len.ensures ∙ vec_len_is c.loop-item.blocks in
    first_unheld c.args.free.now c.args.held.now c.args.first c.loop-item.item c.args.free.now.count c.args.most c.loop-item.blocks.items (omega arith) c.loop-item.invariant.blocks
    (omega (arith, many))

pub loop-item-preserved : goal.loop-item-preserved
loop-item-preserved c =
    let item : ℕ = c.loop-item.item in
    let block : ℕ = c.args.first + item in
    let before : List ℕ = unheld_below c.args.free.now c.args.held.now c.args.first item in
    let more = unheld_more c.args.free.now c.args.held.now c.args.first item in
    let many : c.len.result ≡ length c.loop-item.blocks.items = c.len.ensures ∙ vec_len_is c.loop-item.blocks in
    elim c.if-is_free.branch [
      | then-is_free+in_ok-push w ↦
          let pushed : c.if-is_free.blocks.items ≡ c.loop-item.blocks.items ++ block ∷ [] = ap (λ (z : Vec ℕ Global). z.items) w.blocks-is ∙ w.in_ok-push.ensures.items in
          let count : length c.if-is_free.blocks.items ≡ length c.loop-item.blocks.items + 1 = ap length pushed ∙ length-append c.loop-item.blocks.items (block ∷ []) in
          record {
            blocks = pushed ∙ ap (λ z. z ++ block ∷ []) c.loop-item.invariant.blocks
                ∙ sym (more ∙ ap (λ z. before ++ cond z (block ∷ []) []) (sym c.is_free.ensures ∙ w.if-is_free.true));
            few = omega (arith, count, many, c.loop-item.invariant.few);
          }
      | else-is_free w ↦
          let same : c.if-is_free.blocks.items ≡ c.loop-item.blocks.items = ap (λ (z : Vec ℕ Global). z.items) w.blocks-is in
          record {
            blocks = same ∙ c.loop-item.invariant.blocks
                ∙ sym (more ∙ ap (λ z. before ++ cond z (block ∷ []) []) (sym c.is_free.ensures ∙ w.if-is_free.false) ∙ append-nil before);
            few = omega (arith, ap length same, c.loop-item.invariant.few);
          }
    ]
