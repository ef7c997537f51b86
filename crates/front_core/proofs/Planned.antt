-- What a plan tells: the streams that a call seals, and its reply.
use Rattle.std.proofs.Common.{◌≡◌, ℕ, zero, suc, ◌+◌, ◌-◌, ◌<◌, ◌≤◌, inl, inr, List, [], ◌∷◌, ◌++◌, length, map, refl, sym, ap, ◌∙◌, arith}
use Rattle.std.specs.Prelude.{Bool, true, false, cond, not, if◌then◌else◌, ◌&&◌, ◌||◌, ◌==◌, nat_lt, Option, None, Some, filter}
use Rattle.std.specs.FinMap.{len}
use Rattle.std.specs.List.{AllByRecursion, list_any, range_with_len}
use Rattle.std.proofs.lemmas.Bool.{cases_eq, eq-eqb, ne_eqb, ltb-true, false_from_ne_true, and_parts}
use Rattle.std.proofs.lemmas.Nat.Bits.{bit_at-zero}
use Rattle.std.proofs.lemmas.List.{append-nil}
use Rattle.stream_cuts.specs.Streams.{Seal, Enter}
use Rattle.stream_cuts.specs.Forced.{streams, is_open, is_forced, sealed_before}
use Rattle.ccfs_base.specs.Limits.{transaction_limit}
use Rattle.ccfs_base.specs.declared.commands.Command.{Command}
use Rattle.ccfs_base.specs.declared.commands.Command.TheVariants as commands
use Rattle.ccfs_base.specs.declared.replies.Reply.TheVariants as replies
use Rattle.tree_model.specs.declared.rows.Update.{Update}
use Rattle.tree_model.specs.declared.rows.Entry.{Entry}
use Rattle.tree_model.specs.Rows.{Rows}
use Rattle.tree_model.specs.Updates.{apply, Fits}
use Rattle.tree_model.specs.Weights.{live}
use Rattle.tree_cuts.specs.Calls.{Sizes, Charge, Charged, Call, Other, Accepted, charge, charged_meets, seals_own, unsealed_weight, unsealed_rows, unsealed_blocks, call_steps}
use Rattle.history_model.specs.State.{Now, stream_in}
use Rattle.history_model.specs.Answers.{Answer, answer, closes}
use Rattle.history_model.specs.Histories.{entry_of, steps_by, call_by, sync_call, makes}
use Rattle.cross_dep.specs.Books.{has_bit, is_met}
use Rattle.carried_volumes.specs.Plain.{IsPlain}
use Rattle.update_records.specs.Built.{is_built}
use Rattle.command_answers.specs.Viewing.{IsReady, is_viewed}
use Rattle.front_laws.specs.Inodes.{dropped}
use Rattle.front_laws.specs.Kept.{is_answered}
use Rattle.front_laws.specs.Laws.{IsLight}
use Rattle.front_core.specs.Pending.{all_noted}
use Rattle.front_core.specs.Left.{is_synced, sync_reply, sealed_by, entered_step, IsPlanOf}
use Rattle.front_core.specs.declared.planning.Plan.{Plan}
use Rattle.front_core.proofs.Laws.{rows_counted, live_stays, built_weight, live_none}
use Rattle.front_core.proofs.Rising.{filter_same_from}
use Rattle.front_core.proofs.Told.{met_forced}

-- ---- whether an update's own stream is sealed

-- light updates give up no blocks
pub no_blocks : (n : ℕ) (h : List (ℕ × Charged)) → AllByRecursion (IsLight n) h → unsealed_blocks h ≡ 0
no_blocks n [] a = refl
no_blocks n (e ∷ h) a = let x = a.0.no_blocks in let y = no_blocks n h a.1 in (let z : e.1.1.gave_blocks + unsealed_blocks h ≡ 0 = omega (arith, x, y) in z)

never_below : (d x : ℕ) → x ≡ 0 → nat_lt d x ≡ false
never_below d x e = false_from_ne_true (nat_lt d x) (λ t. let l = ltb-true d x t in omega (arith, l, e))

middle : (a c : Bool) → ((a || false) || c) ≡ (a || c)
middle true c = refl
middle false c = refl

pub own_told : (sizes : Sizes) (n : ℕ) (t : Rows) (h : List (ℕ × Charged)) (s : ℕ) (u : Update) → IsPlain t → AllByRecursion (IsLight n) h → Fits t u → is_built u ≡ true
    → seals_own sizes t h s u ≡ (nat_lt transaction_limit (unsealed_weight s h + 512) || nat_lt (sizes.inodes - 1) (len t + makes u - length (dropped u) + unsealed_rows h))
own_told sizes n t h s u plain light fits built =
    let rows : len (apply t u) ≡ len t + makes u - length (dropped u) = let r = rows_counted t u fits built in omega (arith, r) in
    let blocks : live (apply t u) + unsealed_blocks h ≡ 0
    = let l = live_stays t u plain built in let z = live_none t plain in let b = no_blocks n h light in omega (arith, l, z, b) in
    ap (λ w. nat_lt transaction_limit (unsealed_weight s h + w) || nat_lt sizes.data_blocks (live (apply t u) + unsealed_blocks h) || nat_lt (sizes.inodes - 1) (len (apply t u) + unsealed_rows h)) (built_weight t u plain built)
    ∙ ap (λ b. nat_lt transaction_limit (unsealed_weight s h + 512) || b || nat_lt (sizes.inodes - 1) (len (apply t u) + unsealed_rows h)) (never_below sizes.data_blocks (live (apply t u) + unsealed_blocks h) blocks)
    ∙ middle (nat_lt transaction_limit (unsealed_weight s h + 512)) (nat_lt (sizes.inodes - 1) (len (apply t u) + unsealed_rows h))
    ∙ ap (λ r. nat_lt transaction_limit (unsealed_weight s h + 512) || nat_lt (sizes.inodes - 1) (r + unsealed_rows h)) rows

-- the streams that an update seals, from the bits of those that it meets and whether its own is sealed
pub before_told : (s : ℕ) (u : Update) (cost : Rattle.tree_cuts.specs.Calls.Charge) (h : List (ℕ × Charged)) (forced : ℕ) (own over : Bool)
    → ((r : ℕ) → r < 64 → has_bit forced r ≡ is_met s u (all_noted h) r) → own ≡ (over && is_open h s)
    → filter (has_bit forced) streams ++ (if own then s ∷ [] else []) ≡ sealed_before charged_meets s (u, cost) over h
before_told s u cost h forced own over bits is =
    ap (λ z. z ++ (if own then s ∷ [] else [])) (filter_same_from (has_bit forced) (is_forced charged_meets s (u, cost) h) 0 64 (λ r l. bits r (omega (arith, l)) ∙ met_forced s u cost h r))
    ∙ ap (λ b. filter (is_forced charged_meets s (u, cost) h) streams ++ (if b then s ∷ [] else [])) is

any_later : {A : Type 0} (q : A → Bool) (e : A) (h : List A) → list_any q h ≡ true → list_any q (e ∷ h) ≡ true
any_later q e h r = elim (q e) as (λ b. (b || list_any q h) ≡ true) [ true ↦ refl | false ↦ r ]

any_step : {A : Type 0} (p q : A → Bool) → ((e : A) → p e ≡ true → q e ≡ true) → (e : A) (h : List A) (b : Bool) → p e ≡ b → list_any p (e ∷ h) ≡ true
    → (list_any p h ≡ true → list_any q h ≡ true) → list_any q (e ∷ h) ≡ true
any_step p q f e h true is on rest = ap (λ b. b || list_any q h) (f e is)
any_step p q f e h false is on rest = any_later q e h (rest (ap (λ b. b || list_any p h) (sym is) ∙ on))

any_weaker : {A : Type 0} (p q : A → Bool) → ((e : A) → p e ≡ true → q e ≡ true) → (h : List A) → list_any p h ≡ true → list_any q h ≡ true
any_weaker p q f [] on = on
any_weaker p q f (e ∷ h) on = any_step p q f e h (p e) refl on (any_weaker p q f h)

-- a stream that an update meets has an unsealed update
pub met_open : (s : ℕ) (u : Update) (h : List (ℕ × Charged)) (r : ℕ) → is_met s u (all_noted h) r ≡ true → is_open h r ≡ true
met_open s u h r on =
    let cost : Charge = record { weight = 0; gave_blocks = 0; gave_rows = 0 } in
    any_weaker (λ e. e.0 == r && charged_meets e.1 (u, cost)) (λ e. e.0 == r) (λ e both. (and_parts (e.0 == r) (charged_meets e.1 (u, cost)) both).0) h
    (and_parts (not (r == s)) (list_any (λ e. e.0 == r && charged_meets e.1 (u, cost)) h) (sym (met_forced s u cost h r) ∙ on)).1

-- and it is another one
pub met_apart : (s : ℕ) (u : Update) (h : List (ℕ × Charged)) → is_met s u (all_noted h) s ≡ false
met_apart s u h = met_forced s u (record { weight = 0; gave_blocks = 0; gave_rows = 0 }) h s
    ∙ ap (λ b. not b && list_any (λ e. e.0 == s && charged_meets e.1 (u, record { weight = 0; gave_blocks = 0; gave_rows = 0 })) h) (eq-eqb s s refl)

pub no_bit : (r : ℕ) → has_bit 0 r ≡ false
no_bit r = ap (λ z. z == 1) (bit_at-zero r)

-- ---- sync forms

pub closes_seals : (l : List ℕ) → closes {U = Charged} (map Seal l) ≡ length l
closes_seals [] = refl
closes_seals (s ∷ l) = ap (λ n. suc n) (closes_seals l)

none_from : (p : ℕ → Bool) (s a n : ℕ) → s < a → filter (λ r. r == s && p r) (range_with_len a n) ≡ []
none_from p s a zero l = refl
none_from p s a (suc n) l =
    ap (λ b. cond (b && p a) (a ∷ filter (λ r. r == s && p r) (range_with_len (a + 1) n)) (filter (λ r. r == s && p r) (range_with_len (a + 1) n))) (ne_eqb a s (λ e. omega (arith, e, l)))
    ∙ none_from p s (a + 1) n (omega (arith, l))

one_from : (p : ℕ → Bool) (s a n : ℕ) → a ≤ s → s < a + n → filter (λ r. r == s && p r) (range_with_len a n) ≡ filter p (s ∷ [])
one_from p s a zero l m = absurd (omega (arith, l, m))
one_from p s a (suc n) l m = elim (cases_eq a s) [
  | inl e ↦
      ap (λ b. cond (b && p a) (a ∷ filter (λ r. r == s && p r) (range_with_len (a + 1) n)) (filter (λ r. r == s && p r) (range_with_len (a + 1) n))) (eq-eqb a s e)
      ∙ ap (λ z. cond (p a) (a ∷ z) z) (none_from p s (a + 1) n (omega (arith, e)))
      ∙ ap (λ z. cond (p z) (z ∷ []) []) e
  | inr ne ↦
      ap (λ b. cond (b && p a) (a ∷ filter (λ r. r == s && p r) (range_with_len (a + 1) n)) (filter (λ r. r == s && p r) (range_with_len (a + 1) n))) (ne_eqb a s ne)
      ∙ one_from p s (a + 1) n (omega (arith, l, ne)) (omega (arith, m))
]

none_of : (a n : ℕ) → filter (λ r. false) (range_with_len a n) ≡ []
none_of a zero = refl
none_of a (suc n) = none_of (a + 1) n

-- nothing is sealed where no bit is set and the own stream isn't sealed
pub nothing_sealed : (forced s : ℕ) (own : Bool) → forced ≡ 0 → own ≡ false → filter (has_bit forced) streams ++ (if own then s ∷ [] else []) ≡ []
nothing_sealed forced s own zeros off =
    ap (λ b. filter (has_bit forced) streams ++ (if b then s ∷ [] else [])) off ∙ append-nil (filter (has_bit forced) streams)
    ∙ filter_same_from (has_bit forced) (λ r. false) 0 64 (λ r l. ap (λ z. has_bit z r) zeros ∙ ap (λ z. z == 1) (bit_at-zero r)) ∙ none_of 0 64

-- the streams that a sync form seals
abbrev synced_list : Command → ℕ → List (ℕ × Charged) → List ℕ
synced_list commands.StreamSync s h = filter (is_open h) (s ∷ [])
synced_list commands.Sync s h = filter (is_open h) streams
synced_list c s h = []

module _ (sizes : Sizes) (n : Now) (s actor : ℕ) where
  -- what such an entry has
  record IsSyncEntry (c : Command) : Type 0 where
    reply : (answer sizes n actor c).0 ≡ sync_reply c (n.seals + length (synced_list c s n.unsealed))
    update : (answer sizes n actor c).1 ≡ None
    steps : steps_by sizes n (entry_of sizes n actor c) ≡ map Seal (synced_list c s n.unsealed)
    list : filter (λ r. is_synced c s r && is_open n.unsealed r) streams ≡ synced_list c s n.unsealed

  sync_entry : (c : Command) → is_answered c ≡ true → is_viewed c ≡ false → s ≡ stream_in n.choices actor → s < 64 → IsSyncEntry c
  sync_entry commands.StreamSync a v is l = record {
    reply = ap (λ z. replies.Synced (n.seals + z)) (closes_seals (filter (is_open n.unsealed) (stream_in n.choices actor ∷ []))) ∙ ap (λ z. replies.Synced (n.seals + length (filter (is_open n.unsealed) (z ∷ [])))) (sym is);
    update = refl;
    steps = ap (λ z. map Seal (filter (is_open n.unsealed) (z ∷ []))) (sym is);
    list = one_from (is_open n.unsealed) s 0 64 (omega arith) (omega (arith, l));
  }
  sync_entry commands.Sync a v is l = record {
    reply = ap (λ z. replies.Synced (n.seals + z)) (closes_seals (filter (is_open n.unsealed) streams));
    update = refl;
    steps = refl;
    list = refl;
  }
  sync_entry commands.Flush a v is l = record { reply = refl; update = refl; steps = refl; list = none_of 0 64 }
  sync_entry (commands.SetStream stream ignore) a v is l = record { reply = refl; update = refl; steps = refl; list = none_of 0 64 }
  sync_entry (commands.Mkdir path) a v is l = absurd (cc)
  sync_entry (commands.Create path) a v is l = absurd (cc)
  sync_entry (commands.Write path off bytes) a v is l = absurd (cc)
  sync_entry (commands.Resize path size) a v is l = absurd (cc)
  sync_entry (commands.Read path off size) a v is l = absurd (cc)
  sync_entry (commands.Unlink path) a v is l = absurd (cc)
  sync_entry (commands.Rmdir path) a v is l = absurd (cc)
  sync_entry (commands.Rename path to) a v is l = absurd (cc)
  sync_entry (commands.OpenFile path) a v is l = absurd (cc)
  sync_entry (commands.HWrite handle off bytes) a v is l = absurd (cc)
  sync_entry (commands.HRead handle off size) a v is l = absurd (cc)
  sync_entry (commands.Close handle) a v is l = absurd (cc)
  sync_entry (commands.Stat path) a v is l = absurd (cc)
  sync_entry (commands.List path skip) a v is l = absurd (cc)
  sync_entry commands.Space a v is l = absurd (cc)
  sync_entry (commands.Fsync handle) a v is l = absurd (cc)

  pub sync_planned : (c : Command) (plan : Plan) → is_answered c ≡ true → is_viewed c ≡ false → s ≡ stream_in n.choices actor → s < 64
      → plan.stream ≡ s → plan.update ≡ None → plan.own ≡ false
      → ((r : ℕ) → r < 64 → has_bit plan.forced r ≡ (is_synced c s r && is_open n.unsealed r))
      → plan.reply ≡ sync_reply c (n.seals + length (filter (has_bit plan.forced) streams))
      → IsPlanOf sizes n (entry_of sizes n actor c) plan
  sync_planned c plan a v is l stream update own bits reply =
      let e = sync_entry c a v is l in
      let list : filter (has_bit plan.forced) streams ≡ synced_list c s n.unsealed
      = filter_same_from (has_bit plan.forced) (λ r. is_synced c s r && is_open n.unsealed r) 0 64 (λ r m. bits r (omega (arith, m))) ∙ e.list in
      let all : sealed_by plan ≡ synced_list c s n.unsealed
      = ap (λ b. filter (has_bit plan.forced) streams ++ (if b then plan.stream ∷ [] else [])) own ∙ append-nil (filter (has_bit plan.forced) streams) ∙ list in
      record {
        stream = stream ∙ is;
        reply = reply ∙ ap (λ z. sync_reply c (n.seals + length z)) list ∙ sym e.reply;
        update = update ∙ sym e.update;
        forced_open = λ r m on. (and_parts (is_synced c s r) (is_open n.unsealed r) (sym (bits r m) ∙ on)).1;
        own_open = λ on. absurd (let off = own in cc);
        apart = λ u some. absurd (let nothing = update in cc);
        alone = λ none. own;
        ready = λ u some. absurd (let nothing = e.update in cc);
        built = λ u some. absurd (let nothing = e.update in cc);
        steps = e.steps ∙ ap (map Seal) (sym all) ∙ sym (append-nil (map Seal (sealed_by plan)))
            ∙ ap (λ z. map Seal (sealed_by plan) ++ entered_step n.tree (stream_in n.choices actor) z) (sym e.update);
      }

-- ---- commands on names

viewed_other : (n : Now) (actor : ℕ) (c : Command) → is_viewed c ≡ true → sync_call n actor c ≡ Other
viewed_other n actor (commands.Mkdir path) v = refl
viewed_other n actor (commands.Create path) v = refl
viewed_other n actor (commands.Unlink path) v = refl
viewed_other n actor (commands.Rmdir path) v = refl
viewed_other n actor (commands.Rename path to) v = refl
viewed_other n actor (commands.Stat path) v = refl
viewed_other n actor (commands.List path skip) v = refl
viewed_other n actor (commands.Write path off bytes) v = absurd (cc)
viewed_other n actor (commands.Resize path size) v = absurd (cc)
viewed_other n actor (commands.Read path off size) v = absurd (cc)
viewed_other n actor (commands.OpenFile path) v = absurd (cc)
viewed_other n actor (commands.HWrite handle off bytes) v = absurd (cc)
viewed_other n actor (commands.HRead handle off size) v = absurd (cc)
viewed_other n actor (commands.Close handle) v = absurd (cc)
viewed_other n actor commands.Space v = absurd (cc)
viewed_other n actor (commands.SetStream stream ignore) v = absurd (cc)
viewed_other n actor commands.StreamSync v = absurd (cc)
viewed_other n actor (commands.Fsync handle) v = absurd (cc)
viewed_other n actor commands.Sync v = absurd (cc)
viewed_other n actor commands.Flush v = absurd (cc)

-- the steps of an entry by its update
steps_told : (sizes : Sizes) (n : Now) (e : Entry) (o : Option Update) → e.update ≡ o → is_viewed e.command ≡ true → (l : List ℕ) → (o ≡ None → l ≡ [])
    → ((u : Update) → o ≡ Some u → l ≡ sealed_before charged_meets e.stream (u, charge n.tree u) (seals_own sizes n.tree n.unsealed e.stream u) n.unsealed)
    → steps_by sizes n e ≡ map Seal l ++ entered_step n.tree e.stream e.update
steps_told sizes n e None is v l none some =
    ap (λ o. call_steps sizes n.tree n.unsealed (call_by n (record e { update = o }))) is
    ∙ ap (call_steps sizes n.tree n.unsealed) (viewed_other n e.actor e.command v)
    ∙ ap (λ z. map Seal z ++ []) (sym (none refl)) ∙ ap (λ z. map Seal l ++ entered_step n.tree e.stream z) (sym is)
steps_told sizes n e (Some u) is v l none some =
    ap (λ o. call_steps sizes n.tree n.unsealed (call_by n (record e { update = o }))) is
    ∙ ap (λ z. map Seal z ++ Enter e.stream (u, charge n.tree u) ∷ []) (sym (some u refl)) ∙ ap (λ z. map Seal l ++ entered_step n.tree e.stream z) (sym is)

pub viewed_planned : (sizes : Sizes) (n : Now) (actor : ℕ) (c : Command) (a : Answer) (plan : Plan) → is_viewed c ≡ true → a ≡ answer sizes n actor c
    → plan.stream ≡ stream_in n.choices actor → plan.reply ≡ a.0 → plan.update ≡ a.1
    → (a.1 ≡ None → sealed_by plan ≡ [])
    → ((u : Update) → a.1 ≡ Some u → sealed_by plan ≡ sealed_before charged_meets (stream_in n.choices actor) (u, charge n.tree u) (seals_own sizes n.tree n.unsealed (stream_in n.choices actor) u) n.unsealed)
    → ((s : ℕ) → s < 64 → has_bit plan.forced s ≡ true → is_open n.unsealed s ≡ true) → (plan.own ≡ true → is_open n.unsealed plan.stream ≡ true)
    → ((u : Update) → plan.update ≡ Some u → has_bit plan.forced plan.stream ≡ false) → (plan.update ≡ None → plan.own ≡ false)
    → ((u : Update) → a.1 ≡ Some u → IsReady n.tree u × (is_built u ≡ true))
    → IsPlanOf sizes n (entry_of sizes n actor c) plan
viewed_planned sizes n actor c a plan v told stream reply update none some forced_open own_open apart alone ready = record {
  stream = stream;
  reply = reply ∙ ap (λ z. z.0) told;
  update = update ∙ ap (λ z. z.1) told;
  forced_open = forced_open;
  own_open = own_open;
  apart = apart;
  alone = alone;
  ready = λ u is. (ready u (ap (λ z. z.1) told ∙ is)).0;
  built = λ u is. (ready u (ap (λ z. z.1) told ∙ is)).1;
  steps = steps_told sizes n (entry_of sizes n actor c) a.1 (sym (ap (λ (z : Answer). z.1) told)) v (sealed_by plan) none some;
}
