-- The call with an update: what is known of the history with it, and that the update may enter behind the seals of its plan.
use Rattle.std.proofs.Common.{◌≡◌, ℕ, ◌+◌, ◌-◌, ◌^◌, ◌<◌, ◌≤◌, List, [], ◌∷◌, ◌++◌, length, map, refl, sym, ap, subst, ◌∙◌, arith, inl, inr, eqb, length-append}
use Rattle.std.specs.Prelude.{true, false, cond, ◌==◌, Option, None, Some, reverse}
use Rattle.std.specs.List.{AllByRecursion, list_any}
use Rattle.std.specs.FinMap.{get, find, entries, get-entries, len, len-entries}
use Rattle.std.proofs.Math.Seq.{get_or-append_seam}
use Rattle.std.proofs.lemmas.Bool.{leb-true, and_parts, eq-eqb, ne_eqb, cases_eq, or_left, or_right}
use Rattle.std.proofs.lemmas.List.Sums.{sum_by-cons}
use Rattle.std.proofs.lemmas.Map.Steps.{le-length_from_below}
use Rattle.std.specs.Cmp.{unsigned_tied}
use Rattle.std.specs.Ordering.{nat_cmp}
use Rattle.std.proofs.lemmas.List.{length-map}
use Rattle.block_layout.specs.Sizes.{good_inodes}
use Rattle.stream_cuts.specs.Streams.{Enter, Seal, keep_if, of_stream, unsealed_after}
use Rattle.stream_cuts.specs.Amounts.{sum_over}
use Rattle.stream_cuts.proofs.Longer.{unsealed_append}
use Rattle.ccfs_base.specs.declared.commands.Command.{Command}
use Rattle.ccfs_base.specs.Limits.{transaction_limit}
use Rattle.shared_meta.specs.Area.{area}
use Rattle.stream_txn.specs.Accounts.{account_at}
use Rattle.stream_txn.specs.Updates as txns
use Rattle.tree_model.specs.declared.rows.Entry.{Entry}
use Rattle.tree_model.specs.declared.rows.Row.{Row}
use Rattle.tree_model.specs.declared.rows.Update.{Update}
use Rattle.tree_model.specs.declared.rows.Update.TheVariants.{Make, Write, Resize, Remove, Move, Release}
use Rattle.tree_model.specs.Rows.{Rows}
use Rattle.tree_cuts.specs.Calls.{Sizes, Charge, Charged, charge, unsealed_weight, unsealed_rows}
use Rattle.history_model.specs.State.{Now, Opened, stream_in}
use Rattle.history_model.specs.Histories.{start, entry_of, entered_by, makes, made_by, MayCall}
use Rattle.history_model.proofs.Longer.{now_more}
use Rattle.history_laws.proofs.Sound.{IsSound, handles_left, Told}
use Rattle.history_laws.proofs.Told.{told}
use Rattle.history_laws.proofs.Runs.{sound_start, sound_after}
use Rattle.image_model.specs.Carrying.{inode_in}
use Rattle.carried_volumes.specs.Plain.{IsDense}
use Rattle.carried_volumes.specs.Carried.{HaveInodes}
use Rattle.update_records.specs.Built.{AreSerialsBelow}
use Rattle.update_records.specs.Batches as batches
use Rattle.command_answers.specs.Viewing as viewing
use Rattle.front_laws.specs.Inodes.{dropped, given_by, has, IsFree, IsLowestFree, HasLowest, HasLowestIf, with_inode}
use Rattle.front_laws.specs.Kept.{IsKept, IsTame, is_answered, now_of}
use Rattle.front_laws.specs.Laws.{IsLight, IsKeptNow}
use Rattle.front_laws.specs.Logging.{MayLogAll}
use Rattle.front_laws.specs.Owned.{IsRow}
use Rattle.front_laws.proofs.Turning.{dropped_row}
use Rattle.front_core.specs.Entering.{weight_kept, IsEnteringOf, MayEnter}
use Rattle.front_core.specs.Free.{MakesTheLast}
use Rattle.front_core.specs.Left.{IsStateOf, IsPlanOf, sealed_by, entered_step}
use Rattle.front_core.specs.Pending.{txn_of, IsPendingOf}
use Rattle.front_core.specs.declared.pending.Pending.{Pending}
use Rattle.front_core.specs.declared.pending.Entering.{Entering}
use Rattle.front_core.specs.declared.state.State.{State}
use Rattle.front_core.specs.declared.planning.Plan.{Plan}
use Rattle.front_core.proofs.Entering.{row_of_given}
use Rattle.front_core.proofs.Laws.{next_kept, kept_states, may_be_logged, gave_dropped, built_weight, built_blocks}
use Rattle.front_core.proofs.Planned.{no_blocks}
use Rattle.front_core.proofs.Told.{weight_told, rows_told}
use Rattle.front_laws.proofs.BatchLight.{sum_reverse}
use Rattle.front_core.proofs.Viewed.{known}

-- ---- by the update

named_gives : (u : Update) → viewing.IsNamed u → batches.IsNamed u
named_gives (Make dir name id d) p = p
named_gives (Write id off bytes) p = tt
named_gives (Resize id len) p = tt
named_gives (Remove dir name id stays) p = tt
named_gives (Move dir name to_dir to_name id d r stays) p = p.1
named_gives (Release id) p = tt

-- the row that an update makes has this serial
abbrev MakesAt : ℕ → Update → Type 0
MakesAt k (Make dir name id d) = id ≡ k
MakesAt k (Write id off bytes) = Unit {0}
MakesAt k (Resize id len) = Unit {0}
MakesAt k (Remove dir name id stays) = Unit {0}
MakesAt k (Move dir name to_dir to_name id d r stays) = Unit {0}
MakesAt k (Release id) = Unit {0}

told_at : (sizes : Sizes) (n : Now) (s : ℕ) (hs : List Opened) (u : Update) → Told sizes n s hs u → MakesAt n.next u
told_at sizes n s hs (Make dir name id d) p = p.1
told_at sizes n s hs (Write id off bytes) p = tt
told_at sizes n s hs (Resize id len) p = tt
told_at sizes n s hs (Remove dir name id stays) p = tt
told_at sizes n s hs (Move dir name to_dir to_name id d r stays) p = tt
told_at sizes n s hs (Release id) p = tt

last_is : (items : List ℕ) (i id : ℕ) → id ≡ length items → inode_in (items ++ i ∷ []) id ≡ i
last_is items i id e = ap (inode_in (items ++ i ∷ [])) e ∙ get_or-append_seam items i [] 0

long_by : (items : List ℕ) (i : ℕ) (u : Update) → (makes u ≡ 0 → with_inode (Some u) i items ≡ items) × (length (with_inode (Some u) i items) ≡ length items + makes u)
long_by items i (Make dir name id d) = (λ p. absurd (let z : 1 ≡ 0 = p in omega arith), length-append items (i ∷ []))
long_by items i (Write id off bytes) = (λ p. refl, omega arith)
long_by items i (Resize id len) = (λ p. refl, omega arith)
long_by items i (Remove dir name id stays) = (λ p. refl, omega arith)
long_by items i (Move dir name to_dir to_name id d r stays) = (λ p. refl, omega arith)
long_by items i (Release id) = (λ p. refl, omega arith)

module _ (count : ℕ) (items : List ℕ) (t : Rows) (rest : List (ℕ × Charged)) (i : ℕ) where
  lowest_by : (s : ℕ) (u : Update) (cost : Charge) → MakesAt (length items) u → (makes u ≡ 1 → IsLowestFree count (with_inode (Some u) i items) t rest i)
      → HasLowest count (with_inode (Some u) i items) t ((s, (u, cost)) ∷ rest) u
  lowest_by s (Make dir name id d) cost at low =
      let u : Update = Make dir name id d in
      let l = low refl in (
        (let a = length-append items (i ∷ []) in omega (arith, a, at)),
        subst (λ z. IsLowestFree count (items ++ i ∷ []) t ((s, (u, cost)) ∷ rest) z) (sym (last_is items i id at)) (record {
          high = l.high;
          there = l.there;
          free = record { no_row = l.free.no_row; not_given = l.free.not_given };
          lowest = λ j a b f. l.lowest j a b (record { no_row = f.no_row; not_given = f.not_given });
        }),
      )
  lowest_by s (Write id off bytes) cost at low = tt
  lowest_by s (Resize id len) cost at low = tt
  lowest_by s (Remove dir name id stays) cost at low = tt
  lowest_by s (Move dir name to_dir to_name id d r stays) cost at low = tt
  lowest_by s (Release id) cost at low = tt

  last_by : (u : Update) → MakesAt (length items) u → (makes u ≡ 1 → IsLowestFree count (with_inode (Some u) i items) t rest i) → MakesTheLast count (with_inode (Some u) i items) t rest u
  last_by (Make dir name id d) at low =
      let l = low refl in subst (λ z. (2 ≤ z) × (z < count) × IsFree (items ++ i ∷ []) t rest z) (sym (last_is items i id at)) (l.high, l.there, l.free)
  last_by (Write id off bytes) at low = tt
  last_by (Resize id len) at low = tt
  last_by (Remove dir name id stays) at low = tt
  last_by (Move dir name to_dir to_name id d r stays) at low = tt
  last_by (Release id) at low = tt

-- ---- sums

weight_more : (s : ℕ) (f : ℕ × Charged) (h : List (ℕ × Charged)) → unsealed_weight s h ≤ unsealed_weight s (f ∷ h)
weight_more s f h = elim (f.0 == s) as (λ b. unsealed_weight s h ≤ sum_over (λ e. e.1.1.weight) (keep_if b f (of_stream s h))) [ true ↦ omega arith | false ↦ omega arith ]

blocks_given_of : (inodes : List ℕ) (us : List (ℕ × Charged)) → txns.blocks_of (map (txn_of inodes) us) ≡ sum_over (λ (e : ℕ × Charged). e.1.1.gave_blocks) us
blocks_given_of inodes [] = refl
blocks_given_of inodes (e ∷ us) = sum_by-cons (λ u. u.gave_blocks) (txn_of inodes e) (map (txn_of inodes) us) ∙ ap (λ z. e.1.1.gave_blocks + z) (blocks_given_of inodes us)

few_inodes : (blocks count : ℕ) → good_inodes blocks count ≡ true → count ≤ 8192
few_inodes blocks count good = leb-true count 8192 (and_parts _ _ (and_parts _ _ (and_parts _ _ good).0).0).1

-- ---- the first free serial

found_key : (s : ℕ) (r : Row) (es : List (ℕ × Row)) → find nat_cmp s es ≡ Some r → list_any (eqb s) (map (λ (e : ℕ × Row). e.0) es) ≡ true
found_key s r [] p = absurd (let z : ◌≡◌ {A = Option Row} None (Some r) = p in cc)
found_key s r (e ∷ es) p = elim (cases_eq s e.0) [
  | inl same ↦ or_left (eqb s e.0) (list_any (eqb s) (map (λ (d : ℕ × Row). d.0) es)) (eq-eqb s e.0 same)
  | inr ne ↦ or_right (eqb s e.0) (list_any (eqb s) (map (λ (d : ℕ × Row). d.0) es))
      (found_key s r es (sym (ap (λ z. cond z (Some e.1) (find nat_cmp s es)) (unsigned_tied s e.0 ∙ ne_eqb s e.0 ne)) ∙ p))
]

dense_many : (t : Rows) (n : ℕ) → IsDense t n → n ≤ len t
dense_many t n dense =
    let keys : List ℕ = map (λ (e : ℕ × Row). e.0) (entries t) in
    let a = le-length_from_below keys n (λ q l. by q l (get t q) refl) in
    let b = length-map (entries t) (λ (e : ℕ × Row). e.0) in
    let c = len-entries t in omega (arith, a, b, c)
  where
    by : (q : ℕ) → q < n → (o : Option Row) → get t q ≡ o → list_any (eqb q) (map (λ (e : ℕ × Row). e.0) (entries t)) ≡ true
    by q l None is = absurd (dense.below q l is)
    by q l (Some r) is = found_key q r (entries t) (sym (get-entries t q) ∙ is)

-- an opening has at most as many serials as an image may have inodes
pub few_serials : (blocks count : ℕ) (t : Rows) (inodes : List ℕ) → good_inodes blocks count ≡ true → HaveInodes count inodes t → IsDense t (length inodes) → length inodes ≤ 8192
few_serials blocks count t inodes good have dense =
    let a = dense_many t (length inodes) dense in
    let b = have.few in
    let d = few_inodes blocks count good in omega (arith, a, b, d)

-- a charge by its parts
abbrev costs : ℕ → ℕ → ℕ → Charge
costs a b c = record { weight = a; gave_blocks = b; gave_rows = c }

kept_cost : (cost : Charge) (rows : ℕ) → cost.weight ≡ 512 → cost.gave_blocks ≡ 0 → rows ≡ cost.gave_rows → weight_kept cost rows
kept_cost cost rows p q r = ap (λ z. costs z cost.gave_blocks cost.gave_rows) p ∙ ap (λ z. costs 512 z cost.gave_rows) q ∙ ap (λ z. costs 512 0 z) (sym r)

pub makes_one : (u : Update) → makes u ≤ 1
makes_one (Make dir name id d) = omega arith
makes_one (Write id off bytes) = omega arith
makes_one (Resize id len) = omega arith
makes_one (Remove dir name id stays) = omega arith
makes_one (Move dir name to_dir to_name id d r stays) = omega arith
makes_one (Release id) = omega arith

-- the next serial is small behind an update too
pub next_small : (sizes : Sizes) (t : Rows) (h : List Entry) (old : State) → IsStateOf sizes t h old → (u : Update) → old.next + makes u < 2 ^ 32
next_small sizes t h old st u = (let a = makes_one u in let b = st.few in let d = st.short in omega (arith, a, b, d))

-- and so it is behind each call: it makes at most one row
made_one : (o : Option Update) → made_by o ≤ 1
made_one None = omega arith
made_one (Some u) = makes_one u

pub next_stays : (sizes : Sizes) (t : Rows) (h : List Entry) (e : Entry) → (now_of sizes t h).next ≤ 8192 + length h → (now_of sizes t (h ++ e ∷ [])).next ≤ 8192 + length (h ++ e ∷ [])
next_stays sizes t h e most =
    let n = now_of sizes t h in
    let a = made_one e.update in
    let b = length-append h (e ∷ []) in
    let d : (now_of sizes t (h ++ e ∷ [])).next ≡ n.next + made_by e.update = ap (λ z. z.next) (now_more sizes (start t) h e) in
    omega (arith, most, a, b, d)

-- ---- the call

module _ (sizes : Sizes) (t : Rows) (h : List Entry) (actor : ℕ) (c : Command) (old : State) (plan : Plan) (st : IsStateOf sizes t h old) (may : MayCall actor c) (answered : is_answered c ≡ true)
    (planned : IsPlanOf sizes (now_of sizes t h) (entry_of sizes (now_of sizes t h) actor c) plan) (u : Update) (is : (entry_of sizes (now_of sizes t h) actor c).update ≡ Some u)
    (i : ℕ) where
  abbrev pub n : Now
  n = now_of sizes t h

  abbrev pub e : Entry
  e = entry_of sizes n actor c

  -- what is unsealed behind the seals of the plan
  abbrev pub rest : List (ℕ × Charged)
  rest = unsealed_after n.unsealed (map Seal (sealed_by plan))

  -- the inodes with that of a new row
  abbrev pub all : List ℕ
  all = with_inode (Some u) i old.inodes.items

  pub left_next : (entered_by sizes n e).unsealed ≡ (e.stream, (u, charge n.tree u)) ∷ rest
  left_next =
      ap (unsealed_after n.unsealed) (planned.steps ∙ ap (λ o. map Seal (sealed_by plan) ++ entered_step n.tree e.stream o) is)
      ∙ unsealed_append n.unsealed (map Seal (sealed_by plan)) (Enter e.stream (u, charge n.tree u) ∷ [])

  pub tame_next : IsTame (Some u)
  tame_next = (planned.built u is, named_gives u (planned.ready u is).named)

  pub long_next : (makes u ≡ 0 → all ≡ old.inodes.items) × (length all ≡ length old.inodes.items + makes u)
  long_next = long_by old.inodes.items i u

  made_at : MakesAt (length old.inodes.items) u
  made_at =
      let sound : IsSound n = sound_after sizes (start t) h (sound_start t st.kept.plain.tree) st.kept.legal in
      subst (λ k. MakesAt k u) (sym st.kept.listed) (told_at sizes n (stream_in n.choices actor) (handles_left n actor c) u (told sizes n sound actor c may.1 u is))

  pub weighs_next : weight_kept (charge n.tree u) (length (dropped u))
  weighs_next =
      let plain = (known sizes t h old st).plain in
      let built = planned.built u is in
      kept_cost (charge n.tree u) (length (dropped u)) (built_weight n.tree u plain built) (built_blocks n.tree u plain built) (gave_dropped n.tree u (planned.ready u is).fits built)

  pub given_next : HaveInodes sizes.inodes all n.tree → (j : ℕ) → has j (given_by all u) ≡ true → j < sizes.inodes
  given_next have j p =
      let r = row_of_given all j (dropped u) p in
      let row : IsRow n.tree r.0 = dropped_row n.tree u (planned.ready u is).fits r.0 r.1 in
      subst (λ z. z < sizes.inodes) r.2 (have.there r.0 row.0 row.1)

  module _ (low : makes u ≡ 1 → IsLowestFree sizes.inodes all n.tree rest i) where
    lowest_next : HasLowestIf sizes.inodes (with_inode e.update i old.inodes.items) n.tree (entered_by sizes n e).unsealed e.update
    lowest_next =
        subst (λ o. HasLowestIf sizes.inodes (with_inode o i old.inodes.items) n.tree (entered_by sizes n e).unsealed o) (sym is)
        (subst (λ l. HasLowest sizes.inodes all n.tree l u) (sym left_next)
        (lowest_by sizes.inodes old.inodes.items n.tree rest i e.stream u (charge n.tree u) made_at low))

    pub kept_next : IsKept sizes t all (h ++ e ∷ [])
    kept_next = subst (λ o. IsKept sizes t (with_inode o i old.inodes.items) (h ++ e ∷ [])) is
        (next_kept sizes t old.inodes.items h actor c e i st.kept refl may answered (subst IsTame (sym is) tame_next) lowest_next)

    pub makes_last : MakesTheLast sizes.inodes all n.tree rest u
    makes_last = last_by sizes.inodes old.inodes.items n.tree rest i u made_at low

    known_next : IsKeptNow sizes all (length (h ++ e ∷ [])) (entered_by sizes n e)
    known_next = subst (λ z. IsKeptNow sizes all (length (h ++ e ∷ [])) z) (now_more sizes (start t) h e) (kept_states sizes t all (h ++ e ∷ []) kept_next)

    light_next : AllByRecursion (IsLight (length all)) ((e.stream, (u, charge n.tree u)) ∷ rest)
    light_next = subst (λ l. AllByRecursion (IsLight (length all)) l) left_next known_next.light

    pub serials_next : AreSerialsBelow (length all) u
    serials_next = light_next.0.below

    pub may_enter : (entering : Entering) (p : Pending) → IsPendingOf sizes.inodes all n.tree rest p → IsEnteringOf sizes.inodes all e.stream u entering → MayEnter entering p
    may_enter entering p pending ent = record {
      weight = subst (λ s. (account_at p.txns.accounts s).weight + 512 < 2 ^ 32) (sym ent.stream_)
          (let a = weight_told p.txns all rest e.stream pending.txns in
          let b = weight_more e.stream (e.stream, (u, charge n.tree u)) rest in
          let d : unsealed_weight e.stream ((e.stream, (u, charge n.tree u)) ∷ rest) ≤ transaction_limit = subst (λ l. unsealed_weight e.stream l ≤ transaction_limit) left_next (known_next.weigh e.stream) in
          omega (arith, a, b, d));
      blocks = (let a : p.txns.gave_blocks ≡ 0 = pending.txns.gave_blocks ∙ blocks_given_of all (reverse rest) ∙ sum_reverse (λ e. e.1.1.gave_blocks) rest ∙ no_blocks (length all) rest light_next.1 in omega (arith, a));
      rows = (let a = rows_told p.txns all rest pending.txns in
          let b = ent.rows in
          let g = gave_dropped n.tree u (planned.ready u is).fits (planned.built u is) in
          let d : len (entered_by sizes n e).tree + ((charge n.tree u).gave_rows + unsealed_rows rest) ≤ sizes.inodes - 1 =
          subst (λ l. len (entered_by sizes n e).tree + unsealed_rows l ≤ sizes.inodes - 1) left_next known_next.room in
          let f = few_inodes st.good.0 sizes.inodes st.good.1 in
          omega (arith, a, b, g, d, f));
      logged = subst (λ s. MayLogAll (area p.meta) s entering.recs) (sym ent.stream_) (subst (λ rs. MayLogAll (area p.meta) e.stream rs) (sym ent.recs)
          (may_be_logged sizes st.good.0 t all h e u (charge n.tree u) rest (area p.meta) kept_next is (ap (λ z. z.unsealed) (now_more sizes (start t) h e) ∙ left_next) st.good.1 pending.sized pending.logs));
    }
