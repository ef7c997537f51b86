use Rattle.std.proofs.Common.{rules, ◌≡◌, ◌∙◌, ◌++◌, sym, ap, subst, List, length, take, drop, Vec, Global, ℕ, IfOk, Bool, false, get_or, ◌<◌}
use Rattle.std.proofs.lemmas.List.{take_at}
use Rattle.std.proofs.lemmas.Result.{IfOk-weaker}
use Rattle.disk_model.specs.HistoryView.{past_of}
use Rattle.disk_model.specs.Pick.{stable_of, is_loose, IsPicked}
use Rattle.disk_model.proofs.Pick.{length-stable, picked_now, picked_drawn}
use Rattle.disk_model.proofs.image.image_bytes.Goals as goal

pub returns-then-pick-eq1 : goal.returns-then-pick-eq1
returns-then-pick-eq1 c =
    let h = c.args.history.now in
    let copied : IfOk c.to_vec.result (λ (v : Vec ℕ Global). v.items ≡ h.bytes.items) = search rules in
    IfOk-weaker c.to_vec.result (λ (v : Vec ℕ Global). v.items ≡ h.bytes.items) (λ (v : Vec ℕ Global). IsPicked h.start.items (past_of h) c.args.pick v.items)
    (λ v same. picked_now h.start.items (past_of h) c.args.pick v.items h.inside c.if-pick-eq1.true (same ∙ h.kept)) copied

pub draw_loose-requires-clause-now : goal.draw_loose-requires-clause-now
draw_loose-requires-clause-now c =
    let h = c.args.history.now in
    let image : length c.deref_mut.result.now ≡ length (stable_of h.start.items (past_of h)) = ap length c.deref_mut.ensures.value ∙ ap length c.in_ok-image.ensures in
    ap length c.deref-3.ensures.value ∙ ap length h.kept ∙ sym (image ∙ length-stable h.start.items (past_of h) h.inside)

pub draw_loose-requires-clause-loose : goal.draw_loose-requires-clause-loose
draw_loose-requires-clause-loose c =
    let h = c.args.history.now in
    let image : length c.deref_mut.result.now ≡ length (stable_of h.start.items (past_of h)) = ap length c.deref_mut.ensures.value ∙ ap length c.in_ok-image.ensures in
    let now : length h.bytes.items ≡ length (stable_of h.start.items (past_of h)) = ap length h.kept ∙ sym (length-stable h.start.items (past_of h) h.inside) in
    let loose : length c.deref-4.result.now ≡ length h.bytes.items = search rules in
    loose ∙ now ∙ sym image

pub returns : goal.returns
returns c =
    let h = c.args.history.now in
    let drawn = c.draw_loose.new.image in
    let image = c.in_ok-image.image in
    let long : length drawn ≡ length image.items = search rules in
    let whole : take image.len (drawn ++ drop (length drawn) image.items) ≡ drawn = take_at drawn (drop (length drawn) image.items) image.len (search rules) in
    let same : length drawn ≡ length h.bytes.items = long ∙ ap length c.in_ok-image.ensures ∙ length-stable h.start.items (past_of h) h.inside ∙ sym (ap length h.kept) in
    let places : (x : ℕ) → x < length drawn → get_or c.deref-4.result.now x false ≡ is_loose (past_of h) x = λ x lt.
    ap (λ (l : List Bool). get_or l x false) c.deref-4.ensures.value ∙ c.in_ok-loose.ensures.places x (search rules) in
    subst (IsPicked h.start.items (past_of h) c.args.pick) (sym whole)
    (picked_drawn h.start.items (past_of h) c.args.pick drawn c.deref_mut.result.now c.deref-3.result.now c.deref-4.result.now c.if-pick-eq0.false c.if-pick-eq1.false
    (c.deref_mut.ensures.value ∙ c.in_ok-image.ensures) (c.deref-3.ensures.value ∙ h.kept) (long ∙ sym (ap length c.deref_mut.ensures.value)) places c.draw_loose.ensures)
