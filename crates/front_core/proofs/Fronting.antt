-- One call more in what a front holds.
use Rattle.std.proofs.Common.{◌≡◌, ℕ, zero, suc, ◌+◌, ◌-◌, ◌<◌, ◌≤◌, List, [], ◌∷◌, ◌++◌, length, refl, sym, ap, ◌∙◌, arith}
use Rattle.std.specs.Prelude.{Option, None, Some}
use Rattle.std.proofs.lemmas.List.{append-nil, length-append}
use Rattle.file_bodies.specs.declared.batches.Sealed.{Sealed}
use Rattle.tree_model.specs.declared.rows.Update.{Update}
use Rattle.tree_model.specs.declared.rows.Update.TheVariants.{Make, Write, Resize, Remove, Move, Release}
use Rattle.tree_model.specs.declared.rows.Entry.{Entry}
use Rattle.tree_model.specs.Rows.{Rows}
use Rattle.tree_cuts.specs.Calls.{Sizes}
use Rattle.history_model.specs.Answers.{closes}
use Rattle.history_model.specs.Histories.{start, steps_by, seal_count}
use Rattle.history_model.proofs.Longer.{now_more, seals_counted}
use Rattle.front_laws.specs.Inodes.{with_inode}
use Rattle.front_laws.specs.Kept.{IsKept, now_of}
use Rattle.front_laws.specs.Batches.{batch_at, batches_from, sealed_in}
use Rattle.front_core.specs.Left.{IsMade}
use Rattle.front_core.specs.Held.{IsFrontOf}
use Rattle.front_core.specs.declared.state.State.{State}
use Rattle.front_core.proofs.Laws.{longer_batches, seals_make_batches}
use Rattle.front_core.proofs.Next.{next_stays}

-- the inodes behind the others
abbrev pub made_list : Option Update → ℕ → List ℕ
made_list None i = []
made_list (Some (Make dir name id d)) i = i ∷ []
made_list (Some (Write id off bytes)) i = []
made_list (Some (Resize id len)) i = []
made_list (Some (Remove dir name id stays)) i = []
made_list (Some (Move dir name to_dir to_name id d replaced stays)) i = []
made_list (Some (Release id)) i = []

pub with_behind : (o : Option Update) (i : ℕ) (inodes : List ℕ) → with_inode o i inodes ≡ inodes ++ made_list o i
with_behind None i inodes = sym (append-nil inodes)
with_behind (Some (Make dir name id d)) i inodes = refl
with_behind (Some (Write id off bytes)) i inodes = sym (append-nil inodes)
with_behind (Some (Resize id len)) i inodes = sym (append-nil inodes)
with_behind (Some (Remove dir name id stays)) i inodes = sym (append-nil inodes)
with_behind (Some (Move dir name to_dir to_name id d replaced stays)) i inodes = sym (append-nil inodes)
with_behind (Some (Release id)) i inodes = sym (append-nil inodes)

module _ (sizes : Sizes) (t : Rows) where
  -- batches in two parts
  pub parted : (inodes : List ℕ) (h : List Entry) (k a b : ℕ) → batches_from sizes t inodes h k (a + b) ≡ batches_from sizes t inodes h k a ++ batches_from sizes t inodes h (k + a) b
  parted inodes h k zero b =
      let e : 0 + b ≡ b = omega arith in
      let f : k ≡ k + 0 = omega arith in
      ap (batches_from sizes t inodes h k) e ∙ ap (λ z. batches_from sizes t inodes h z b) f
  parted inodes h k (suc a) b =
      let e : suc a + b ≡ suc (a + b) = omega arith in
      let f : suc k + a ≡ k + suc a = omega arith in
      ap (batches_from sizes t inodes h k) e
      ∙ ap (λ z. batch_at sizes t inodes h k ∷ z) (parted inodes h (suc k) a b ∙ ap (λ z. batches_from sizes t inodes h (suc k) a ++ batches_from sizes t inodes h z b) f)

  -- the older ones stay
  pub stay : (inodes more : List ℕ) (h g : List Entry) (k a : ℕ) → IsKept sizes t inodes h → k + a ≤ seal_count sizes (start t) h
      → batches_from sizes t (inodes ++ more) (h ++ g) k a ≡ batches_from sizes t inodes h k a
  stay inodes more h g k zero kept few = refl
  stay inodes more h g k (suc a) kept few =
      ap (λ z. z ∷ batches_from sizes t (inodes ++ more) (h ++ g) (suc k) a) (longer_batches sizes t inodes more h g k kept (omega (arith, few)))
      ∙ ap (λ z. batch_at sizes t inodes h k ∷ z) (stay inodes more h g (suc k) a kept (omega (arith, few)))

  -- the seals of a history are counted
  pub counted : (h : List Entry) → (now_of sizes t h).seals ≡ seal_count sizes (start t) h
  counted h = seals_counted sizes (start t) h ∙ (let e : 0 + seal_count sizes (start t) h ≡ seal_count sizes (start t) h = omega arith in e)

  pub count_more : (h : List Entry) (e : Entry) → seal_count sizes (start t) (h ++ e ∷ []) ≡ seal_count sizes (start t) h + closes (steps_by sizes (now_of sizes t h) e)
  count_more h e =
      sym (counted (h ++ e ∷ [])) ∙ ap (λ n. n.seals) (now_more sizes (start t) h e) ∙ ap (λ z. z + closes (steps_by sizes (now_of sizes t h) e)) (counted h)

  pub queue_more : (inodes inodes2 : List ℕ) (h : List Entry) (e : Entry) (i handed : ℕ) (old new : List Sealed) → IsKept sizes t inodes h → IsKept sizes t inodes2 (h ++ e ∷ [])
      → inodes2 ≡ with_inode e.update i inodes → handed ≤ seal_count sizes (start t) h
      → old ≡ batches_from sizes t inodes h handed (seal_count sizes (start t) h - handed)
      → new ≡ old ++ sealed_in sizes.inodes inodes2 (now_of sizes t h).seals (now_of sizes t h).unsealed (steps_by sizes (now_of sizes t h) e)
      → new ≡ batches_from sizes t inodes2 (h ++ e ∷ []) handed (seal_count sizes (start t) (h ++ e ∷ []) - handed)
  queue_more inodes inodes2 h e i handed old new kept kept2 listed few was is =
      let k = seal_count sizes (start t) h in
      let more = closes (steps_by sizes (now_of sizes t h) e) in
      let m = made_list e.update i in
      let all : inodes2 ≡ inodes ++ m = listed ∙ with_behind e.update i inodes in
      let grown : seal_count sizes (start t) (h ++ e ∷ []) ≡ k + more = count_more h e in
      let older : batches_from sizes t inodes2 (h ++ e ∷ []) handed (k - handed) ≡ batches_from sizes t inodes h handed (k - handed)
      = ap (λ z. batches_from sizes t z (h ++ e ∷ []) handed (k - handed)) all ∙ stay inodes m h (e ∷ []) handed (k - handed) kept (omega (arith, few)) in
      let newer : batches_from sizes t inodes2 (h ++ e ∷ []) k more ≡ sealed_in sizes.inodes inodes2 k (now_of sizes t h).unsealed (steps_by sizes (now_of sizes t h) e)
      = seals_make_batches sizes t inodes2 h e more kept2 grown in
      let sum : seal_count sizes (start t) (h ++ e ∷ []) - handed ≡ (k - handed) + more = omega (arith, grown, few) in
      let at : handed + (k - handed) ≡ k = omega (arith, few) in
      is ∙ ap (λ z. z ++ sealed_in sizes.inodes inodes2 (now_of sizes t h).seals (now_of sizes t h).unsealed (steps_by sizes (now_of sizes t h) e)) (was ∙ sym older)
      ∙ ap (λ z. batches_from sizes t inodes2 (h ++ e ∷ []) handed (k - handed) ++ sealed_in sizes.inodes inodes2 z (now_of sizes t h).unsealed (steps_by sizes (now_of sizes t h) e)) (counted h)
      ∙ ap (λ z. batches_from sizes t inodes2 (h ++ e ∷ []) handed (k - handed) ++ z) (sym newer)
      ∙ ap (λ z. batches_from sizes t inodes2 (h ++ e ∷ []) handed (k - handed) ++ batches_from sizes t inodes2 (h ++ e ∷ []) z more) (sym at)
      ∙ sym (parted inodes2 (h ++ e ∷ []) handed (k - handed) more)
      ∙ ap (batches_from sizes t inodes2 (h ++ e ∷ []) handed) (sym sum)

-- what a front holds once a call was made
pub fronted_more : (sizes : Sizes) (limit : ℕ) (t : Rows) (h : List Entry) (handed : ℕ) (old new : State) (e : Entry) → IsFrontOf sizes limit t h handed old → length h < limit
    → IsMade sizes t h e old new → IsFrontOf sizes limit t (h ++ e ∷ []) handed new
fronted_more sizes limit t h handed old new e front room made =
    let long : length (h ++ e ∷ []) ≡ length h + 1 = length-append h (e ∷ []) in
    let grown = count_more sizes t h e in
    let few = front.handed_out in
    record {
      kept = made.kept;
      left = made.left;
      queue = queue_more sizes t old.inodes.items new.inodes.items h e made.inodes.0 handed old.pending.txns.queue new.pending.txns.queue front.kept made.kept made.inodes.1 front.handed_out front.queue made.queue;
      handed_out = omega (arith, grown, few);
      good = front.good;
      few = omega (arith, long, room);
      short = (let now = made.left.next in let was = front.left.next in let short = front.short in
          let stays = next_stays sizes t h e (omega (arith, was, short)) in omega (arith, now, stays));
      limited = front.limited;
    }
