-- A kept history leaves a tree whose rows have inodes of their own, and unsealed updates that own theirs.
use Rattle.std.proofs.Common.{◌≡◌, ◌⊎◌, inl, inr, ℕ, suc, ◌+◌, ◌*◌, ◌≤◌, List, [], ◌∷◌, length, refl, sym, ap, subst, ◌∙◌, arith, length-append}
use Rattle.std.specs.Prelude.{true, false, ◌==◌}
use Rattle.std.specs.List.{AllByRecursion}
use Rattle.std.proofs.lemmas.List.{length-map}
use Rattle.stream_cuts.specs.Streams.{keep_if, of_stream, unsealed_after}
use Rattle.stream_cuts.specs.Amounts.{sum_over}
use Rattle.ccfs_base.specs.Limits.{transaction_limit}
use Rattle.tree_model.specs.declared.rows.Entry.{Entry}
use Rattle.tree_model.specs.Rows.{Rows}
use Rattle.tree_cuts.specs.Calls.{Sizes, Charged, unsealed_weight, unsealed_rows}
use Rattle.tree_cuts.specs.Runs.{unsealed_of}
use Rattle.tree_cuts.proofs.Light.{transactions_are_light}
use Rattle.history_model.specs.State.{Now}
use Rattle.history_model.specs.Histories.{start, entered_by, now_after, calls_by, IsLegal}
use Rattle.history_model.proofs.Longer.{steps_of_calls, unsealed_is}
use Rattle.history_laws.proofs.Runs.{sound_start}
use Rattle.image_model.specs.Carrying.{inode_in}
use Rattle.front_laws.specs.Inodes.{dropped, given_by, given, AllHaveLowest}
use Rattle.front_laws.specs.Kept.{IsTame, is_answered, IsKept, now_of}
use Rattle.front_laws.specs.Laws.{IsLight, HistoriesLeaveKeptStates}
use Rattle.front_laws.proofs.Among.{at_among, all_among}
use Rattle.front_laws.proofs.Going.{IsCounted, IsGoing, low_stream, going_next}

-- ---- along a history

pub going_start : (sizes : Sizes) (t : Rows) (inodes : List ℕ) (h : List Entry) → IsKept sizes t inodes h → IsGoing sizes inodes 0 (start t)
going_start sizes t inodes h kept = record {
  sound = sound_start t kept.plain.tree;
  plain = kept.plain;
  have = kept.have;
  owned = record { held = λ x r. refl; nodes = λ e a. absurd a; entries = λ e a. absurd a; numbered = tt };
  counted = tt;
  room = (let few = kept.have.few in omega arith);
  seals = omega arith;
  closed = refl;
}

pub going_after : (sizes : Sizes) (inodes : List ℕ) (calls m : ℕ) (n : Now) (h : List Entry) → IsGoing sizes inodes calls n → IsLegal sizes n h
    → AllByRecursion (λ e. is_answered e.command ≡ true) h → AllByRecursion (λ e. IsTame e.update) h → AllHaveLowest sizes inodes n h
    → calls + length h ≡ m → IsGoing sizes inodes m (now_after sizes n h)
going_after sizes inodes calls m n [] g legal answered tame low e = subst (λ z. IsGoing sizes inodes z n) (let z : calls ≡ m = omega arith in z) g
going_after sizes inodes calls m n (e ∷ h) g legal answered tame low same =
    going_after sizes inodes (suc calls) m (entered_by sizes n e) h (going_next sizes inodes calls n e h g legal answered.0 tame.0 low.0) legal.2 answered.1 tame.1 low.1 (omega arith)

-- ---- sums

given_many : (inodes : List ℕ) (h : List (ℕ × Charged)) → AllByRecursion (λ e. length (dropped e.1.0) ≡ e.1.1.gave_rows) h → length (given inodes h) ≡ unsealed_rows h
given_many inodes [] a = refl
given_many inodes (e ∷ h) a =
    let ih = given_many inodes h a.1 in
    let first : length (given_by inodes e.1.0) ≡ e.1.1.gave_rows = length-map (dropped e.1.0) (inode_in inodes) ∙ a.0 in
    let both = length-append (given_by inodes e.1.0) (given inodes h) in omega (arith, ih, first, both)

-- one update of a stream alone weighs 512
one_weight : (s : ℕ) (h : List (ℕ × Charged)) → AllByRecursion (λ e. e.1.1.weight ≡ 512) h → unsealed_weight s h ≡ 512 * length (of_stream s h)
one_weight s [] a = refl
one_weight s (e ∷ h) a = let ih = one_weight s h a.1 in let w = a.0 in
    elim (e.0 == s) as (λ b. sum_over (λ e. e.1.1.weight) (keep_if b e (of_stream s h)) ≡ 512 * length (keep_if b e (of_stream s h))) [ true ↦ omega (arith, ih, w) | false ↦ ih ]

pub unsealed_in : (sizes : Sizes) (t : Rows) (h : List Entry) → unsealed_of sizes t (calls_by sizes (start t) h) ≡ (now_of sizes t h).unsealed
unsealed_in sizes t h = ap (unsealed_after []) (sym (steps_of_calls sizes (start t) h)) ∙ sym (unsealed_is sizes (start t) h)

weigh_little : (sizes : Sizes) (t : Rows) (h : List Entry) (s : ℕ) → AllByRecursion (λ e. e.1.1.weight ≡ 512) (now_of sizes t h).unsealed
    → unsealed_weight s (now_of sizes t h).unsealed ≤ transaction_limit
weigh_little sizes t h s all =
    let l : List (ℕ × Charged) = (now_of sizes t h).unsealed in
    elim (subst (λ z. (unsealed_weight s z ≤ transaction_limit) ⊎ (length (of_stream s z) ≡ 1)) (unsealed_in sizes t h) (transactions_are_light sizes t (calls_by sizes (start t) h) s)) [
      | inl le ↦ le
      | inr one ↦ (let w = one_weight s l all in omega (arith, w, one))
    ]

pub histories_leave_kept_states : HistoriesLeaveKeptStates
histories_leave_kept_states sizes t inodes h kept =
    let n : Now = now_of sizes t h in
    let g : IsGoing sizes inodes (length h) n
    = going_after sizes inodes 0 (length h) (start t) h (going_start sizes t inodes h kept) kept.legal kept.answered kept.tame kept.lowest (omega arith) in
    let each : (P : (ℕ × Charged) → Type 0) → ((e : ℕ × Charged) → IsCounted (length inodes) e → P e) → AllByRecursion P n.unsealed
    = λ P f. all_among P n.unsealed (λ e i. f e (at_among (IsCounted (length inodes)) e n.unsealed g.counted i)) in record {
      plain = g.plain;
      have = g.have;
      owned = g.owned;
      fresh = g.sound.new;
      light = each (IsLight (length inodes)) (λ e c. c.0);
      weigh = λ s. weigh_little sizes t h s (each (λ e. e.1.1.weight ≡ 512) (λ e c. c.0.weight));
      rows = given_many inodes n.unsealed (each (λ e. length (dropped e.1.0) ≡ e.1.1.gave_rows) (λ e c. c.1));
      room = g.room;
      seals = g.seals;
      closed = g.closed;
      streams = λ a. low_stream n.choices a g.sound.streams;
    }
