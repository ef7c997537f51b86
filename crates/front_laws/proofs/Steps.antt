-- The steps of one call: seals, and then its update, where it has one.
use Rattle.std.proofs.Common.{◌≡◌, ℕ, suc, ◌≤◌, List, [], ◌∷◌, ◌++◌, length, refl, sym, ap, subst, ◌∙◌, arith, length-append}
use Rattle.std.specs.Prelude.{Bool, true, false, cond, ◌&&◌, ◌==◌, Option, None, Some, map}
use Rattle.std.specs.List.{AllByRecursion, filter, list_any}
use Rattle.std.proofs.lemmas.List.{append-nil}
use Rattle.stream_cuts.specs.Streams.{Step, Enter, Seal, without, unsealed_after, MayEnter, IsGuarded}
use Rattle.stream_cuts.specs.Forced.{streams, Numbered, is_open, is_forced, sealed_before}
use Rattle.stream_cuts.proofs.Forcing.{without_all, entering_guarded}
use Rattle.ccfs_base.specs.declared.commands.Command.{Command}
use Rattle.ccfs_base.specs.declared.commands.Command.TheVariants as command
use Rattle.tree_model.specs.declared.rows.Update.{Update}
use Rattle.tree_model.specs.declared.rows.Entry.{Entry}
use Rattle.tree_model.specs.Rows.{Rows}
use Rattle.tree_model.specs.Laws.{changes_node}
use Rattle.tree_cuts.specs.Calls.{Sizes, Charged, charged_meets, charge, changers, seals_own, call_steps}
use Rattle.tree_cuts.proofs.Plain.{ChargedMeet}
use Rattle.history_model.specs.State.{Now, ignores_in, file_in}
use Rattle.history_model.specs.Answers.{closes}
use Rattle.history_model.specs.Histories.{file_call, sync_call, steps_by}
use Rattle.front_laws.specs.Owned.{AreOwned}
use Rattle.front_laws.proofs.Among.{at_among, all_among, among_was}
use Rattle.front_laws.proofs.Owning.{owned_sealed}

-- ---- what a call does

abbrev pub enters : Rows → ℕ → Option Update → List (Step Charged)
enters t s None = []
enters t s (Some u) = Enter s (u, charge t u) ∷ []

-- what is unsealed once it entered
abbrev pub added : Rows → ℕ → Option Update → List (ℕ × Charged) → List (ℕ × Charged)
added t s None h = h
added t s (Some u) h = (s, (u, charge t u)) ∷ h

abbrev pub MayEnterIf : Rows → ℕ → Option Update → List (ℕ × Charged) → Type 0
MayEnterIf t s None h = Unit {0}
MayEnterIf t s (Some u) h = MayEnter ChargedMeet s (u, charge t u) h

-- it seals some streams, at most 65, and its update enters where none of another stream that is left meets it
pub record HasSteps (sizes : Sizes) (n : Now) (e : Entry) : Type 0 where
  pub rs : List ℕ
  pub few : length rs ≤ 65
  pub steps : steps_by sizes n e ≡ map Seal rs ++ enters n.tree e.stream e.update
  pub may : MayEnterIf n.tree e.stream e.update (without_all rs n.unsealed)

-- ---- seals alone

few_filter : (test : ℕ → Bool) (rs : List ℕ) → length (filter test rs) ≤ length rs
few_filter test [] = omega arith
few_filter test (r ∷ rs) = let ih = few_filter test rs in
    elim (test r) as (λ b. length (cond b (r ∷ filter test rs) (filter test rs)) ≤ length (r ∷ rs)) [ true ↦ omega arith | false ↦ omega arith ]

abbrev HasSeals : List (Step Charged) → Type 0
HasSeals l = (rs : List ℕ) × (length rs ≤ 65) × (l ≡ map Seal rs ++ [])

no_seals : HasSeals []
no_seals = ([], (let z : 0 ≤ 65 = omega arith in z), refl)

some_seals : (rs : List ℕ) (h : List (ℕ × Charged)) → length rs ≤ 65 → HasSeals (map Seal (filter (is_open h) rs))
some_seals rs h few = let le = few_filter (is_open h) rs in (filter (is_open h) rs, omega arith, sym (append-nil (map Seal (filter (is_open h) rs))))

long_streams : length streams ≡ 64
long_streams = refl

module _ (sizes : Sizes) where
  file_seals : (t : Rows) (h : List (ℕ × Charged)) (b : Bool) (o : Option ℕ) → HasSeals (call_steps sizes t h (file_call b o))
  file_seals t h true o = no_seals
  file_seals t h false None = no_seals
  file_seals t h false (Some x) = some_seals (changers x h) h (
      let le : length (changers x h) ≤ length streams = few_filter (λ s. list_any (λ (e : ℕ × Charged). e.0 == s && changes_node x e.1.0) h) streams in
      let long = long_streams in omega arith)

  sync_seals : (n : Now) (a : ℕ) (c : Command) → HasSeals (call_steps sizes n.tree n.unsealed (sync_call n a c))
  sync_seals n a command.StreamSync = some_seals (_ ∷ []) n.unsealed (let z : 1 ≤ 65 = omega arith in z)
  sync_seals n a (command.Fsync handle) = file_seals n.tree n.unsealed (ignores_in n.choices a) (file_in n.handles a handle)
  sync_seals n a command.Sync = some_seals streams n.unsealed (let long = long_streams in omega arith)
  sync_seals n a c = no_seals

-- ---- seals before an update

behind_seals : (rs : List ℕ) (h : List (ℕ × Charged)) (l : List (Step Charged)) → IsGuarded ChargedMeet h (map Seal rs ++ l) → IsGuarded ChargedMeet (without_all rs h) l
behind_seals [] h l g = g
behind_seals (r ∷ rs) h l g = behind_seals rs (without r h) l g

few_before : (s : ℕ) (u : Charged) (own : Bool) (h : List (ℕ × Charged)) → length (sealed_before charged_meets s u own h) ≤ 65
few_before s u own h =
    let rs : List ℕ = filter (is_forced charged_meets s u h) streams in
    let le : length rs ≤ length streams = few_filter (is_forced charged_meets s u h) streams in
    let long = long_streams in
    elim (own && is_open h s) as (λ b. length (rs ++ cond b (s ∷ []) []) ≤ 65) [
      | true ↦ (let e = length-append rs (s ∷ []) in omega arith)
      | false ↦ (let e = length-append rs [] in omega arith)
    ]

pub has_steps : (sizes : Sizes) (n : Now) (e : Entry) → Numbered n.unsealed → HasSteps sizes n e
has_steps sizes n e numbered = by e.update refl
  where
    by : (o : Option Update) → e.update ≡ o → HasSteps sizes n e
    by None is = subst (λ o. HasSteps sizes n (record e { update = o })) (sym is)
        (let s = sync_seals sizes n e.actor e.command in record { rs = s.0; few = s.1; steps = s.2; may = tt })
    by (Some u) is = subst (λ o. HasSteps sizes n (record e { update = o })) (sym is) (
        let own : Bool = seals_own sizes n.tree n.unsealed e.stream u in
        let rs : List ℕ = sealed_before charged_meets e.stream (u, charge n.tree u) own n.unsealed in
        record {
          rs = rs;
          few = few_before e.stream (u, charge n.tree u) own n.unsealed;
          steps = refl;
          may = (behind_seals rs n.unsealed (Enter e.stream (u, charge n.tree u) ∷ []) (entering_guarded charged_meets e.stream (u, charge n.tree u) own n.unsealed numbered)).0;
        })

-- ---- what is left

unsealed_behind : (rs : List ℕ) (h : List (ℕ × Charged)) (l : List (Step Charged)) → unsealed_after h (map Seal rs ++ l) ≡ unsealed_after (without_all rs h) l
unsealed_behind [] h l = refl
unsealed_behind (r ∷ rs) h l = unsealed_behind rs (without r h) l

unsealed_added : (t : Rows) (s : ℕ) (o : Option Update) (h : List (ℕ × Charged)) → unsealed_after h (enters t s o) ≡ added t s o h
unsealed_added t s None h = refl
unsealed_added t s (Some u) h = refl

closed_by : (rs : List ℕ) (t : Rows) (s : ℕ) (o : Option Update) → closes (map Seal rs ++ enters t s o) ≡ length rs
closed_by [] t s None = refl
closed_by [] t s (Some u) = refl
closed_by (r ∷ rs) t s o = ap (λ z. suc z) (closed_by rs t s o)

module _ (sizes : Sizes) (n : Now) (e : Entry) (has : HasSteps sizes n e) where
  -- what is unsealed behind a call: the updates of the streams that it doesn't seal, and its own
  pub left_unsealed : unsealed_after n.unsealed (steps_by sizes n e) ≡ added n.tree e.stream e.update (without_all has.rs n.unsealed)
  left_unsealed = ap (unsealed_after n.unsealed) has.steps ∙ unsealed_behind has.rs n.unsealed (enters n.tree e.stream e.update)
      ∙ unsealed_added n.tree e.stream e.update (without_all has.rs n.unsealed)

  pub closed_few : closes (steps_by sizes n e) ≤ 65
  closed_few = let c = ap closes has.steps ∙ closed_by has.rs n.tree e.stream e.update in let few = has.few in omega arith

-- ---- what holds of all holds of those that are left

all_left : (P : (ℕ × Charged) → Type 0) (s : ℕ) (h : List (ℕ × Charged)) → AllByRecursion P h → AllByRecursion P (without s h)
all_left P s h a = all_among P (without s h) (λ e i. at_among P e h a (among_was e s h i).0)

pub all_behind : (P : (ℕ × Charged) → Type 0) (rs : List ℕ) (h : List (ℕ × Charged)) → AllByRecursion P h → AllByRecursion P (without_all rs h)
all_behind P [] h a = a
all_behind P (r ∷ rs) h a = all_behind P rs (without r h) (all_left P r h a)

pub owned_behind : (inodes : List ℕ) (t : Rows) (rs : List ℕ) (h : List (ℕ × Charged)) → AreOwned inodes t h → AreOwned inodes t (without_all rs h)
owned_behind inodes t [] h own = own
owned_behind inodes t (r ∷ rs) h own = owned_behind inodes t rs (without r h) (owned_sealed inodes t h r own)
