-- Each seal of a history is one of a stream with an unsealed update.
use Rattle.std.proofs.Common.{◌≡◌, ◌≢◌, ℕ, zero, suc, ◌+◌, ◌<◌, ◌≤◌, List, [], ◌∷◌, ◌++◌, length, map, refl, sym, ap, ◌∙◌, arith, eqb}
use Rattle.std.specs.Prelude.{Bool, true, false, cond, not, ◌&&◌, ◌||◌}
use Rattle.std.specs.List.{AllByRecursion, filter, list_any, range_with_len}
use Rattle.std.specs.declared.option.Option.{Option}
use Rattle.std.specs.declared.option.Option.TheVariants.{None, Some}
use Rattle.std.proofs.lemmas.Bool.{eqb-true, eq-eqb, ne_eqb, and_parts}
use Rattle.stream_cuts.specs.Streams.{Step, Enter, Seal, keep_if, of_stream, without, unsealed_after}
use Rattle.stream_cuts.specs.Forced.{streams, is_open, is_forced, sealed_before}
use Rattle.stream_cuts.proofs.Forcing.{without_all}
use Rattle.ccfs_base.specs.declared.commands.Command.{Command}
use Rattle.ccfs_base.specs.declared.commands.Command.TheVariants as command
use Rattle.ccfs_base.specs.declared.replies.Reply.{Reply}
use Rattle.tree_model.specs.declared.rows.Entry.{Entry}
use Rattle.tree_model.specs.declared.rows.Update.{Update}
use Rattle.tree_model.specs.Rows.{Rows}
use Rattle.tree_model.specs.Laws.{changes_node}
use Rattle.tree_cuts.specs.Calls.{Sizes, Charged, charge, charged_meets, changers, seals_own, call_steps}
use Rattle.history_model.specs.State.{Now, ignores_in, file_in, stream_in}
use Rattle.history_model.specs.Histories.{file_call, sync_call, steps_by, entered_by, charged_in}

-- ---- lists of streams

-- numbers from a on, each greater than the one before it
abbrev Rises : ℕ → List ℕ → Type 0
Rises a [] = Unit {0}
Rises a (r ∷ rs) = (a ≤ r) × Rises (r + 1) rs

rises_more : (a b : ℕ) (rs : List ℕ) → b ≤ a → Rises a rs → Rises b rs
rises_more a b [] le s = tt
rises_more a b (r ∷ rs) le s = (let z = s.0 in omega arith, s.1)

rises_range : (n a : ℕ) → Rises a (range_with_len a n)
rises_range zero a = tt
rises_range (suc n) a = (omega arith, rises_range n (a + 1))

rises_filter : (test : ℕ → Bool) (a : ℕ) (rs : List ℕ) → Rises a rs → Rises a (filter test rs)
rises_filter test a [] s = tt
rises_filter test a (r ∷ rs) s =
    let rest : Rises (r + 1) (filter test rs) = rises_filter test (r + 1) rs s.1 in
    let from : a ≤ r = s.0 in
    elim (test r) as (λ b. Rises a (cond b (r ∷ filter test rs) (filter test rs))) [ true ↦ (from, rest) | false ↦ rises_more (r + 1) a (filter test rs) (omega arith) rest ]

all_test : (test : ℕ → Bool) (rs : List ℕ) → AllByRecursion (λ r. test r ≡ true) (filter test rs)
all_test test [] = tt
all_test test (r ∷ rs) = let rest : AllByRecursion (λ q. test q ≡ true) (filter test rs) = all_test test rs in
    elim (test r) as (λ b. test r ≡ b → AllByRecursion (λ q. test q ≡ true) (cond b (r ∷ filter test rs) (filter test rs))) [ true ↦ λ p. (p, rest) | false ↦ λ p. rest ] refl

all_so : (P Q : ℕ → Type 0) → ((r : ℕ) → P r → Q r) → (rs : List ℕ) → AllByRecursion P rs → AllByRecursion Q rs
all_so P Q f [] a = tt
all_so P Q f (r ∷ rs) a = (f r a.0, all_so P Q f rs a.1)

module _ {U : Type 0} where
  -- ---- streams that are open stay so

  stays_open : (r q : ℕ) (h : List (ℕ × U)) → q ≢ r → is_open h q ≡ true → is_open (without r h) q ≡ true
  stays_open r q [] ne p = p
  stays_open r q (e ∷ h) ne p =
      elim (eqb e.0 r) as (λ b. eqb e.0 r ≡ b → is_open (keep_if (not b) e (without r h)) q ≡ true) [
        | true ↦ λ s. stays_open r q h ne (sym (ap (λ b. b || is_open h q) (ne_eqb e.0 q (λ z. ne (sym z ∙ eqb-true e.0 r s)))) ∙ p)
        | false ↦ λ s. elim (eqb e.0 q) as (λ b. (b || is_open h q) ≡ true → (b || is_open (without r h) q) ≡ true) [ true ↦ λ z. refl | false ↦ λ z. stays_open r q h ne z ] p
      ] refl

  still_open : (s : ℕ) (rs : List ℕ) (h : List (ℕ × U)) → AllByRecursion (λ r. s ≢ r) rs → is_open h s ≡ true → is_open (without_all rs h) s ≡ true
  still_open s [] h a p = p
  still_open s (r ∷ rs) h a p = still_open s rs (without r h) a.1 (stays_open r s h a.0 p)

  abbrev AreOpen : List (ℕ × U) → List ℕ → Type 0
  AreOpen h rs = AllByRecursion (λ r. is_open h r ≡ true) rs

  open_behind : (r a : ℕ) (h : List (ℕ × U)) (rs : List ℕ) → r < a → Rises a rs → AreOpen h rs → AreOpen (without r h) rs
  open_behind r a h [] l s o = tt
  open_behind r a h (q ∷ rs) l s o = let from = s.0 in (stays_open r q h (λ z. omega arith) o.0, open_behind r (q + 1) h rs (omega arith) s.1 o.1)

  -- ---- streams that are sealed one after another, each of them open then

  abbrev CanSeal : List (ℕ × U) → List ℕ → Type 0
  CanSeal h [] = Unit {0}
  CanSeal h (r ∷ rs) = (is_open h r ≡ true) × CanSeal (without r h) rs

  can_seal : (a : ℕ) (h : List (ℕ × U)) (rs : List ℕ) → Rises a rs → AreOpen h rs → CanSeal h rs
  can_seal a h [] s o = tt
  can_seal a h (r ∷ rs) s o = (o.0, can_seal (r + 1) (without r h) rs s.1 (open_behind r (r + 1) h rs (omega arith) s.1 o.1))

  can_append : (rs qs : List ℕ) (h : List (ℕ × U)) → CanSeal h rs → CanSeal (without_all rs h) qs → CanSeal h (rs ++ qs)
  can_append [] qs h a b = b
  can_append (r ∷ rs) qs h a b = (a.0, can_append rs qs (without r h) a.1 b)

  any_open : (meets : U → U → Bool) (u : U) (r : ℕ) (h : List (ℕ × U)) → list_any (λ e. eqb e.0 r && meets e.1 u) h ≡ true → is_open h r ≡ true
  any_open meets u r [] p = p
  any_open meets u r (e ∷ h) p =
      elim (eqb e.0 r) as (λ b. ((b && meets e.1 u) || list_any (λ (d : ℕ × U). eqb d.0 r && meets d.1 u) h) ≡ true → (b || is_open h r) ≡ true) [
        | true ↦ λ z. refl
        | false ↦ λ z. any_open meets u r h z
      ] p

  module _ (meets : U → U → Bool) (s : ℕ) (u : U) (h : List (ℕ × U)) where
    forced_open : (r : ℕ) → is_forced meets s u h r ≡ true → is_open h r ≡ true
    forced_open r p = any_open meets u r h (and_parts (not (eqb r s)) (list_any (λ e. eqb e.0 r && meets e.1 u) h) p).1

    forced_other : (r : ℕ) → is_forced meets s u h r ≡ true → s ≢ r
    forced_other r p same =
        let other : not (eqb r s) ≡ true = (and_parts (not (eqb r s)) (list_any (λ e. eqb e.0 r && meets e.1 u) h) p).0 in
        let bad : false ≡ true = sym (ap not (eq-eqb r s (sym same))) ∙ other in cc

    -- the streams that an update seals, its own one last
    can_before : (own : Bool) → CanSeal h (sealed_before meets s u own h)
    can_before own =
        let rs : List ℕ = filter (is_forced meets s u h) streams in
        let forced : AllByRecursion (λ r. is_forced meets s u h r ≡ true) rs = all_test (is_forced meets s u h) streams in
        can_append rs (cond (own && is_open h s) (s ∷ []) []) h
        (can_seal 0 h rs (rises_filter (is_forced meets s u h) 0 streams (rises_range 64 0)) (all_so (λ r. is_forced meets s u h r ≡ true) (λ r. is_open h r ≡ true) forced_open rs forced))
        (elim (own && is_open h s) as (λ b. (own && is_open h s) ≡ b → CanSeal (without_all rs h) (cond b (s ∷ []) [])) [
          | true ↦ λ p. (still_open s rs h (all_so (λ r. is_forced meets s u h r ≡ true) (λ r. s ≢ r) forced_other rs forced) (and_parts own (is_open h s) p).1, tt)
          | false ↦ λ p. tt
        ] refl)

  -- ---- steps

  -- each seal of these steps is one of a stream that is open then
  abbrev pub AreSealsOpen : List (ℕ × U) → List (Step U) → Type 0
  AreSealsOpen h [] = Unit {0}
  AreSealsOpen h (Enter s u ∷ l) = AreSealsOpen ((s, u) ∷ h) l
  AreSealsOpen h (Seal s ∷ l) = (is_open h s ≡ true) × AreSealsOpen (without s h) l

  open_append : (h : List (ℕ × U)) (l k : List (Step U)) → AreSealsOpen h l → AreSealsOpen (unsealed_after h l) k → AreSealsOpen h (l ++ k)
  open_append h [] k a b = b
  open_append h (Enter s u ∷ l) k a b = open_append ((s, u) ∷ h) l k a b
  open_append h (Seal s ∷ l) k a b = (a.0, open_append (without s h) l k a.1 b)

  open_enter : (rs : List ℕ) (h : List (ℕ × U)) (s : ℕ) (u : U) → CanSeal h rs → AreSealsOpen h (map Seal rs ++ Enter s u ∷ [])
  open_enter [] h s u a = tt
  open_enter (r ∷ rs) h s u a = (a.0, open_enter rs (without r h) s u a.1)

  open_seals : (rs : List ℕ) (h : List (ℕ × U)) → CanSeal h rs → AreSealsOpen h (map Seal rs)
  open_seals [] h a = tt
  open_seals (r ∷ rs) h a = (a.0, open_seals rs (without r h) a.1)

  open_sealing : (a : ℕ) (rs : List ℕ) (h : List (ℕ × U)) → Rises a rs → AreSealsOpen h (map Seal (filter (is_open h) rs))
  open_sealing a rs h s = open_seals (filter (is_open h) rs) h (can_seal a h (filter (is_open h) rs) (rises_filter (is_open h) a rs s) (all_test (is_open h) rs))

  pub at_seal : (h : List (ℕ × U)) (first : List (Step U)) (s : ℕ) (rest : List (Step U)) → AreSealsOpen h (first ++ Seal s ∷ rest) → is_open (unsealed_after h first) s ≡ true
  at_seal h [] s rest a = a.0
  at_seal h (Enter q u ∷ first) s rest a = at_seal ((q, u) ∷ h) first s rest a
  at_seal h (Seal q ∷ first) s rest a = at_seal (without q h) first s rest a.1

  -- an open stream has at least one unsealed update
  pub some_unsealed : (s : ℕ) (h : List (ℕ × U)) → is_open h s ≡ true → 1 ≤ length (of_stream s h)
  some_unsealed s [] p = absurd (let z : false ≡ true = p in cc)
  some_unsealed s (e ∷ h) p =
      elim (eqb e.0 s) as (λ b. (b || is_open h s) ≡ true → 1 ≤ length (keep_if b e (of_stream s h))) [ true ↦ λ z. omega arith | false ↦ λ z. some_unsealed s h z ] p

-- ---- a history

module _ (sizes : Sizes) where
  file_open : (t : Rows) (h : List (ℕ × Charged)) (b : Bool) (o : Option ℕ) → AreSealsOpen h (call_steps sizes t h (file_call b o))
  file_open t h true o = tt
  file_open t h false None = tt
  file_open t h false (Some x) =
      open_sealing 0 (changers x h) h (rises_filter (λ s. list_any (λ (e : ℕ × Charged). eqb e.0 s && changes_node x e.1.0) h) 0 streams (rises_range 64 0))

  sync_open : (n : Now) (actor : ℕ) (c : Command) → AreSealsOpen n.unsealed (call_steps sizes n.tree n.unsealed (sync_call n actor c))
  sync_open n actor command.StreamSync = open_sealing 0 (stream_in n.choices actor ∷ []) n.unsealed (omega arith, tt)
  sync_open n actor (command.Fsync handle) = file_open n.tree n.unsealed (ignores_in n.choices actor) (file_in n.handles actor handle)
  sync_open n actor command.Sync = open_sealing 0 streams n.unsealed (rises_range 64 0)
  sync_open n actor c = tt

  parts_open : (n : Now) (actor stream : ℕ) (c : Command) (r : Reply) (o : Option Update)
      → AreSealsOpen n.unsealed (steps_by sizes n (record { actor = actor; stream = stream; command = c; reply = r; update = o }))
  parts_open n actor stream c r None = sync_open n actor c
  parts_open n actor stream c r (Some u) =
      let own : Bool = seals_own sizes n.tree n.unsealed stream u in
      let m : Charged = (u, charge n.tree u) in
      open_enter (sealed_before charged_meets stream m own n.unsealed) n.unsealed stream m (can_before charged_meets stream m n.unsealed own)

  pub open_along : (n : Now) (h : List Entry) → AreSealsOpen n.unsealed (charged_in sizes n h)
  open_along n [] = tt
  open_along n (e ∷ h) =
      open_append n.unsealed (steps_by sizes n e) (charged_in sizes (entered_by sizes n e) h)
      (parts_open n e.actor e.stream e.command e.reply e.update) (open_along (entered_by sizes n e) h)
