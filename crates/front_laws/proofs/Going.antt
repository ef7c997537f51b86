-- What each call of a kept history leaves.
use Rattle.std.proofs.Common.{◌≡◌, ℕ, suc, ◌+◌, ◌-◌, ◌*◌, ◌<◌, ◌≤◌, List, [], ◌∷◌, length, refl, sym, ap, subst, ◌∙◌, arith}
use Rattle.std.specs.Prelude.{Bool, true, false, cond, ◌||◌, ◌==◌, Option, None, Some}
use Rattle.std.specs.List.{AllByRecursion}
use Rattle.std.specs.FinMap.{len}
use Rattle.std.proofs.lemmas.Bool.{ltb-false}
use Rattle.std.proofs.lemmas.List.{append-nil}
use Rattle.stream_cuts.specs.Streams.{without, unsealed_after}
use Rattle.stream_cuts.specs.Amounts.{sum_over}
use Rattle.stream_cuts.proofs.Forcing.{without_all}
use Rattle.ccfs_base.specs.declared.commands.Command.{Command}
use Rattle.ccfs_base.specs.declared.commands.Command.TheVariants as command
use Rattle.ccfs_base.specs.declared.replies.Reply.{Reply}
use Rattle.tree_model.specs.declared.rows.Update.{Update}
use Rattle.tree_model.specs.declared.rows.Update.TheVariants.{Make, Write, Resize, Remove, Move, Release}
use Rattle.tree_model.specs.declared.rows.Entry.{Entry}
use Rattle.tree_model.specs.Rows.{Rows}
use Rattle.tree_model.specs.Updates.{Fits, apply}
use Rattle.tree_cuts.specs.Calls.{Sizes, Charge, Charged, Call, charge, unsealed_rows, seals_own, tree_after}
use Rattle.history_model.specs.State.{Now, Choice, Opened, stream_in, ignores_in, file_in}
use Rattle.history_model.specs.Histories.{file_call, sync_call, call_by, handles_by, tree_by, steps_by, entered_by, IsLegal}
use Rattle.history_model.proofs.Longer.{tree_of_call}
use Rattle.history_laws.proofs.Sound.{IsSound, Told, handles_left}
use Rattle.history_laws.proofs.Kept.{told_fits}
use Rattle.history_laws.proofs.Runs.{sound_next, told_next}
use Rattle.history_laws.proofs.Room.{LetIn, room}
use Rattle.carried_volumes.specs.Plain.{IsPlain}
use Rattle.carried_volumes.specs.Carried.{HaveInodes}
use Rattle.update_records.specs.Built.{is_built}
use Rattle.update_records.specs.Batches.{HasItsInode}
use Rattle.front_laws.specs.Inodes.{dropped, HasLowest, HasLowestIf}
use Rattle.front_laws.specs.Kept.{IsTame, is_answered}
use Rattle.front_laws.specs.Owned.{AreOwned}
use Rattle.front_laws.specs.Laws.{IsLight}
use Rattle.front_laws.proofs.Owning.{HasFree, owned_entered}
use Rattle.front_laws.proofs.Having.{have_entered, plain_entered}
use Rattle.front_laws.proofs.Steps.{HasSteps, MayEnterIf, added, has_steps, left_unsealed, closed_few, all_behind, owned_behind}
use Rattle.front_laws.proofs.Weighing.{rows_counted, gave_dropped, built_weight, built_blocks, HasPlace, serials_below}

-- an unsealed update is light, and is charged the rows that it drops
abbrev pub IsCounted : ℕ → (ℕ × Charged) → Type 0
IsCounted n e = IsLight n e × (length (dropped e.1.0) ≡ e.1.1.gave_rows)

-- what so many calls left
pub record IsGoing (sizes : Sizes) (inodes : List ℕ) (calls : ℕ) (n : Now) : Type 0 where
  pub sound : IsSound n
  pub plain : IsPlain n.tree
  pub have : HaveInodes sizes.inodes inodes n.tree
  pub owned : AreOwned inodes n.tree n.unsealed
  pub counted : AllByRecursion (IsCounted (length inodes)) n.unsealed
  pub room : len n.tree + unsealed_rows n.unsealed ≤ sizes.inodes - 1
  pub seals : n.seals ≤ 65 * calls
  pub closed : n.handles ≡ []

-- ---- a new row

has_its : (count : ℕ) (inodes : List ℕ) (t : Rows) (l : List (ℕ × Charged)) (u : Update) → HasLowest count inodes t l u → HasItsInode count inodes t u
has_its count inodes t l (Make dir name id d) h = (h.0, h.1.high, h.1.there, h.1.free.no_row)
has_its count inodes t l (Write id off bytes) h = tt
has_its count inodes t l (Resize id len) h = tt
has_its count inodes t l (Remove dir name id stays) h = tt
has_its count inodes t l (Move dir name to_dir to_name id d r stays) h = tt
has_its count inodes t l (Release id) h = tt

has_place : (count : ℕ) (inodes : List ℕ) (t : Rows) (l : List (ℕ × Charged)) (u : Update) → HasLowest count inodes t l u → HasPlace inodes u
has_place count inodes t l (Make dir name id d) h = h.0
has_place count inodes t l (Write id off bytes) h = tt
has_place count inodes t l (Resize id len) h = tt
has_place count inodes t l (Remove dir name id stays) h = tt
has_place count inodes t l (Move dir name to_dir to_name id d r stays) h = tt
has_place count inodes t l (Release id) h = tt

has_free : (count : ℕ) (inodes : List ℕ) (t : Rows) (l : List (ℕ × Charged)) (s : ℕ) (u : Update) (cost : Charge)
    → HasLowest count inodes t ((s, (u, cost)) ∷ l) u → HasFree inodes t l u
has_free count inodes t l s (Make dir name id d) cost h = record { no_row = h.1.free.no_row; not_given = h.1.free.not_given }
has_free count inodes t l s (Write id off bytes) cost h = tt
has_free count inodes t l s (Resize id len) cost h = tt
has_free count inodes t l s (Remove dir name id stays) cost h = tt
has_free count inodes t l s (Move dir name to_dir to_name id d r stays) cost h = tt
has_free count inodes t l s (Release id) cost h = tt

-- ---- room

second_false : (x y : Bool) → (x || y) ≡ false → y ≡ false
second_false true y p = absurd (cc)
second_false false y p = p

rows_sealed : (sizes : Sizes) (t : Rows) (h : List (ℕ × Charged)) (s : ℕ) (u : Update) → seals_own sizes t h s u ≡ false → len (apply t u) + sum_over (λ e. e.1.1.gave_rows) h ≤ sizes.inodes - 1
rows_sealed sizes t h s u p = ltb-false (sizes.inodes - 1) (len (apply t u) + unsealed_rows h) (second_false _ _ p)

module _ (sizes : Sizes) where
  abbrev Lets : Rows → List (ℕ × Charged) → Call → Type 0
  Lets t h call = LetIn sizes len (sizes.inodes - 1) (λ c. c.gave_rows) (λ t u. refl) (rows_sealed sizes) t h call

  let_rows : (n : Now) (s : ℕ) (hs : List Opened) (u : Update) → Told sizes n s hs u → is_built u ≡ true
      → len (apply n.tree u) - len n.tree ≤ sizes.inodes - 1 - len n.tree - unsealed_rows (without s n.unsealed)
  let_rows n s hs (Make dir name id d) h built =
      let c = rows_counted n.tree (Make dir name id d) h.0 built in
      let free = ltb-false (sizes.inodes - 1) (len n.tree + 1 + unsealed_rows (without s n.unsealed)) h.2 in omega (arith, c, free)
  let_rows n s hs (Write id off bytes) h built = absurd (cc)
  let_rows n s hs (Resize id size) h built = absurd (cc)
  let_rows n s hs (Remove dir name id stays) h built = let c = rows_counted n.tree (Remove dir name id stays) h.0 built in omega (arith, c)
  let_rows n s hs (Move dir name to_dir to_name id d r stays) h built = let c = rows_counted n.tree (Move dir name to_dir to_name id d r stays) h.0 built in omega (arith, c)
  let_rows n s hs (Release id) h built = absurd (cc)

  let_file : (t : Rows) (h : List (ℕ × Charged)) (b : Bool) (o : Option ℕ) → Lets t h (file_call b o)
  let_file t h true o = tt
  let_file t h false None = tt
  let_file t h false (Some x) = tt

  let_sync : (n : Now) (a : ℕ) (c : Command) → Lets n.tree n.unsealed (sync_call n a c)
  let_sync n a (command.Fsync handle) = let_file n.tree n.unsealed (ignores_in n.choices a) (file_in n.handles a handle)
  let_sync n a command.StreamSync = tt
  let_sync n a command.Sync = tt
  let_sync n a c = tt

  let_call : (n : Now) (e : Entry) (h : List Entry) → IsSound n → IsLegal sizes n (e ∷ h) → IsTame e.update → Lets n.tree n.unsealed (call_by n e)
  let_call n e h sound l tame = by e.update refl tame
    where
      by : (o : Option Update) → e.update ≡ o → IsTame o → Lets n.tree n.unsealed (call_by n e)
      by None is tame = subst (λ o. Lets n.tree n.unsealed (call_by n (record e { update = o }))) (sym is) (let_sync n e.actor e.command)
      by (Some u) is tame = subst (λ o. Lets n.tree n.unsealed (call_by n (record e { update = o }))) (sym is)
          (subst (λ s. len (apply n.tree u) - len n.tree ≤ sizes.inodes - 1 - len n.tree - unsealed_rows (without s n.unsealed)) (sym (ap (λ z. z.stream) l.0))
          (let_rows n (stream_in n.choices e.actor) (handles_left n e.actor e.command) u (told_next sizes n e h sound l u is) tame.0))

  room_next : (n : Now) (e : Entry) → Lets n.tree n.unsealed (call_by n e) → len n.tree + unsealed_rows n.unsealed ≤ sizes.inodes - 1
      → len (tree_by n.tree e.update) + unsealed_rows (unsealed_after n.unsealed (steps_by sizes n e)) ≤ sizes.inodes - 1
  room_next n e lets inv =
      let r = room sizes len (sizes.inodes - 1) (λ c. c.gave_rows) (λ t u. refl) (rows_sealed sizes) n.tree n.unsealed (call_by n e ∷ []) (lets, tt) inv in
      subst (λ (t : Rows). len t + unsealed_rows (unsealed_after n.unsealed (steps_by sizes n e)) ≤ sizes.inodes - 1) (tree_of_call n e)
      (subst (λ l. len (tree_after n.tree (call_by n e)) + unsealed_rows (unsealed_after n.unsealed l) ≤ sizes.inodes - 1) (append-nil (steps_by sizes n e)) r)

-- ---- handles

still_closed : (n : Now) (a : ℕ) (c : Command) (r : Reply) → is_answered c ≡ true → handles_by n a c r ≡ n.handles
still_closed n a (command.OpenFile path) r p = absurd (cc)
still_closed n a (command.Close handle) r p = absurd (cc)
still_closed n a c r p = refl

-- ---- streams

pub low_stream : (cs : List Choice) (a : ℕ) → AllByRecursion (λ c. c.stream < 64) cs → stream_in cs a < 64
low_stream [] a s = let z : 0 < 64 = omega arith in z
low_stream (c ∷ cs) a s = let rest = low_stream cs a s.1 in elim (c.actor == a) as (λ b. cond b c.stream (stream_in cs a) < 64) [ true ↦ s.0 | false ↦ rest ]

-- ---- the tree and what is unsealed

abbrev Facts : ℕ → List ℕ → Rows → List (ℕ × Charged) → Type 0
Facts count inodes t l = IsPlain t × HaveInodes count inodes t × AreOwned inodes t l × AllByRecursion (IsCounted (length inodes)) l

abbrev FitsIf : Rows → Option Update → Type 0
FitsIf t None = Unit {0}
FitsIf t (Some u) = Fits t u

facts_next : (count : ℕ) (inodes : List ℕ) (t : Rows) (s : ℕ) (o : Option Update) (l : List (ℕ × Charged)) → IsTame o → FitsIf t o → HasLowestIf count inodes t (added t s o l) o
    → MayEnterIf t s o l → s < 64 → len (tree_by t o) ≤ count - 1 → Facts count inodes t l → Facts count inodes (tree_by t o) (added t s o l)
facts_next count inodes t s None l tame fits low may below few f = f
facts_next count inodes t s (Some u) l tame fits low may below few f =
    let plain : IsPlain t = f.0 in
    let have : HaveInodes count inodes t = f.1 in
    let now : List (ℕ × Charged) = (s, (u, charge t u)) ∷ l in (
      plain_entered t u plain tame.0 fits tame.1,
      have_entered count inodes t u have (has_its count inodes t now u low) few,
      owned_entered count inodes t l s u (charge t u) plain.tree have f.2 tame.0 fits below may (has_free count inodes t l s u (charge t u) low),
      (
        (
          record {
            built = tame.0;
            below = serials_below count inodes t u plain.tree have fits (has_place count inodes t now u low);
            weight = built_weight t u plain tame.0;
            no_blocks = built_blocks t u plain tame.0;
          },
          gave_dropped t u fits tame.0,
        ),
        f.3,
      ),
    )

-- ---- one call

module _ (sizes : Sizes) (inodes : List ℕ) (calls : ℕ) (n : Now) (e : Entry) (h : List Entry) (g : IsGoing sizes inodes calls n) (legal : IsLegal sizes n (e ∷ h))
    (tame : IsTame e.update) (low : HasLowestIf sizes.inodes inodes n.tree (entered_by sizes n e).unsealed e.update) where
  fits_if : (o : Option Update) → e.update ≡ o → FitsIf n.tree o
  fits_if None is = tt
  fits_if (Some u) is = told_fits sizes n (stream_in n.choices e.actor) (handles_left n e.actor e.command) u (told_next sizes n e h g.sound legal u is)

  small_stream : e.stream < 64
  small_stream = subst (λ z. z < 64) (sym (ap (λ z. z.stream) legal.0)) (low_stream n.choices e.actor g.sound.streams)

  next_room : len (tree_by n.tree e.update) + unsealed_rows (unsealed_after n.unsealed (steps_by sizes n e)) ≤ sizes.inodes - 1
  next_room = room_next sizes n e (let_call sizes n e h g.sound legal tame) g.room

  next_facts : Facts sizes.inodes inodes (tree_by n.tree e.update) (unsealed_after n.unsealed (steps_by sizes n e))
  next_facts =
      let has : HasSteps sizes n e = has_steps sizes n e g.owned.numbered in
      let l : List (ℕ × Charged) = without_all has.rs n.unsealed in
      let same : unsealed_after n.unsealed (steps_by sizes n e) ≡ added n.tree e.stream e.update l = left_unsealed sizes n e has in
      let lowest : HasLowestIf sizes.inodes inodes n.tree (added n.tree e.stream e.update l) e.update
      = subst (λ z. HasLowestIf sizes.inodes inodes n.tree z e.update) same low in
      let before : Facts sizes.inodes inodes n.tree l
      = (g.plain, g.have, owned_behind inodes n.tree has.rs n.unsealed g.owned, all_behind (IsCounted (length inodes)) has.rs n.unsealed g.counted) in
      let few : len (tree_by n.tree e.update) ≤ sizes.inodes - 1 = (let r = next_room in omega arith) in
      subst (λ z. Facts sizes.inodes inodes (tree_by n.tree e.update) z) (sym same)
      (facts_next sizes.inodes inodes n.tree e.stream e.update l tame (fits_if e.update refl) lowest has.may small_stream few before)

pub going_next : (sizes : Sizes) (inodes : List ℕ) (calls : ℕ) (n : Now) (e : Entry) (h : List Entry) → IsGoing sizes inodes calls n → IsLegal sizes n (e ∷ h)
    → is_answered e.command ≡ true → IsTame e.update → HasLowestIf sizes.inodes inodes n.tree (entered_by sizes n e).unsealed e.update
    → IsGoing sizes inodes (suc calls) (entered_by sizes n e)
going_next sizes inodes calls n e h g legal answered tame low =
    let f = next_facts sizes inodes calls n e h g legal tame low in record {
      sound = sound_next sizes n e h g.sound legal;
      plain = f.0;
      have = f.1;
      owned = f.2;
      counted = f.3;
      room = next_room sizes inodes calls n e h g legal tame low;
      seals = (let few = closed_few sizes n e (has_steps sizes n e g.owned.numbered) in let s = g.seals in omega arith);
      closed = still_closed n e.actor e.command e.reply answered ∙ g.closed;
    }
