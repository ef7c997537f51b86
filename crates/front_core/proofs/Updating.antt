-- An update behind seals: which inode a new row gets, and what is known before it enters.
use Rattle.std.proofs.Common.{◌≡◌, ℕ, ◌<◌, inl, inr, List, [], ◌∷◌, ◌++◌, length, map, refl, sym, ap, subst, ◌∙◌, arith}
use Rattle.std.specs.Prelude.{true, false, Some, reverse, slice_index_or, take}
use Rattle.std.proofs.Math.Seq.{take-append_seam}
use Rattle.std.proofs.lemmas.List.{append-nil}
use Rattle.std.proofs.lemmas.Bool.{cases_eq}
use Rattle.stream_cuts.specs.Streams.{Seal, of_stream, without, unsealed_after}
use Rattle.stream_cuts.proofs.OfSeal.{none_of_stream, other_stream}
use Rattle.stream_txn.specs.Accounts.{account_at}
use Rattle.ccfs_base.specs.declared.commands.Command.{Command}
use Rattle.tree_model.specs.declared.rows.Entry.{Entry}
use Rattle.tree_model.specs.declared.rows.Update.{Update}
use Rattle.tree_model.specs.declared.rows.Update.TheVariants.{Make, Write, Resize, Remove, Move, Release}
use Rattle.tree_model.specs.Rows.{Rows}
use Rattle.tree_cuts.specs.Calls.{Sizes, Charged}
use Rattle.history_model.specs.State.{Now}
use Rattle.history_model.specs.Histories.{entry_of, makes}
use Rattle.carried_volumes.specs.Carried.{HaveInodes}
use Rattle.cross_dep.specs.Books.{has_bit}
use Rattle.front_laws.specs.Inodes.{given, with_inode, IsLowestFree}
use Rattle.front_laws.specs.Kept.{now_of}
use Rattle.front_laws.specs.Laws.{IsKeptNow}
use Rattle.front_laws.specs.Owned.{AreOwned}
use Rattle.front_core.specs.Free.{AreTaken, MakesTheLast, but_of, given_at}
use Rattle.front_core.specs.Left.{IsStateOf, IsPlanOf, sealed_by}
use Rattle.front_core.specs.Pending.{txns_of, IsPendingOf, IsHeld, IsAsBefore, AreSealed}
use Rattle.front_core.specs.declared.pending.Pending.{Pending}
use Rattle.front_core.specs.declared.state.State.{State}
use Rattle.front_core.specs.declared.planning.Plan.{Plan}
use Rattle.front_core.proofs.SealedBits.{bits_sealed, among_behind}
use Rattle.front_core.proofs.Told.{open_told}
use Rattle.front_core.proofs.Viewed.{known}
use Rattle.front_core.proofs.WithMore.{pending_more, owned_more, have_more, lowest_more}

-- ---- the inode that was listed

-- the inodes with that of a new row are those and perhaps one more
more_of : (u : Update) (i : ℕ) (inodes : List ℕ) → (more : List ℕ) × (inodes ++ more ≡ with_inode (Some u) i inodes)
more_of (Make dir name id d) i inodes = (i ∷ [], refl)
more_of (Write id off bytes) i inodes = ([], append-nil inodes)
more_of (Resize id len) i inodes = ([], append-nil inodes)
more_of (Remove dir name id stays) i inodes = ([], append-nil inodes)
more_of (Move dir name to_dir to_name id d r stays) i inodes = ([], append-nil inodes)
more_of (Release id) i inodes = ([], append-nil inodes)

pub listed_of : (u : Update) (old new : List ℕ) (P : ℕ → Type 0) → (makes u ≡ 0 → new ≡ old) → (makes u ≡ 1 → (i : ℕ) × ((new ≡ old ++ i ∷ []) × P i))
    → (i : ℕ) × ((new ≡ with_inode (Some u) i old) × (makes u ≡ 1 → P i))
listed_of (Make dir name id d) old new P none some = (let x = some refl in (x.0, (x.1.0, λ e. x.1.1)))
listed_of (Write id off bytes) old new P none some = (0, (none refl, λ e. absurd (let z : 0 ≡ 1 = e in omega arith)))
listed_of (Resize id len) old new P none some = (0, (none refl, λ e. absurd (let z : 0 ≡ 1 = e in omega arith)))
listed_of (Remove dir name id stays) old new P none some = (0, (none refl, λ e. absurd (let z : 0 ≡ 1 = e in omega arith)))
listed_of (Move dir name to_dir to_name id dd r stays) old new P none some = (0, (none refl, λ e. absurd (let z : 0 ≡ 1 = e in omega arith)))
listed_of (Release id) old new P none some = (0, (none refl, λ e. absurd (let z : 0 ≡ 1 = e in omega arith)))

-- what was listed is taken off again
pub listed_off : (u : Update) (k : ℕ) (old new : List ℕ) (P : ℕ → Type 0) → k ≡ length old → (makes u ≡ 0 → new ≡ old) → (makes u ≡ 1 → (i : ℕ) × ((new ≡ old ++ i ∷ []) × P i)) → take k new ≡ old
listed_off u k old new P e none some =
    let x = listed_of u old new P none some in
    let m = more_of u x.0 old in
    ap (take k) (x.1.0 ∙ sym m.1) ∙ ap (λ z. take z (old ++ m.0)) e ∙ take-append_seam old m.0

-- the inode of a new row is below the count
pub made_below : (count : ℕ) (inodes : List ℕ) (t : Rows) (rest : List (ℕ × Charged)) (u : Update) (dir : ℕ) (name : List ℕ) (id : ℕ) (is_dir : _) → MakesTheLast count inodes t rest u
    → u ≡ Make dir name id is_dir → slice_index_or inodes id 0 < count
made_below count inodes t rest u dir name id is_dir last is = (subst (MakesTheLast count inodes t rest) is last).1

-- ---- what a stream gave up behind seals

-- its updates are those of before, or none is left
stream_behind : (l : List ℕ) (us : List (ℕ × Charged)) (s : ℕ) (P : List (ℕ × Charged) → Type 0) → P (of_stream s us) → P [] → P (of_stream s (unsealed_after us (map Seal l)))
stream_behind [] us s P there none = there
stream_behind (r ∷ l) us s P there none = stream_behind l (without r us) s P
    (elim (cases_eq s r) [
      | inl e ↦ subst (λ z. P (of_stream z (without r us))) (sym e) (subst P (sym (none_of_stream r us)) none)
      | inr ne ↦ subst P (sym (other_stream s r us ne)) there
    ]) none

pub gave_behind : (count : ℕ) (inodes : List ℕ) (t : Rows) (us : List (ℕ × Charged)) (l : List ℕ) (s : ℕ) (before mid : Pending) → s < 64
    → AreTaken count inodes t us before.free → AreTaken count inodes t (unsealed_after us (map Seal l)) mid.free → mid.free.places ≡ before.free.places
    → length (given_at before.free s) < slice_index_or before.free.places s 0 → length (given_at mid.free s) < slice_index_or mid.free.places s 0
gave_behind count inodes t us l s before mid low old new places less =
    let was : length (given inodes (reverse (of_stream s us))) < slice_index_or before.free.places s 0
    = subst (λ z. length z < slice_index_or before.free.places s 0) (old.own s low) less in
    let none : length (given inodes (reverse {A = ℕ × Charged} [])) < slice_index_or before.free.places s 0 = omega (arith, was) in
    subst (λ z. length (given_at mid.free s) < slice_index_or z s 0) (sym places)
    (subst (λ z. length z < slice_index_or before.free.places s 0) (sym (new.own s low))
    (stream_behind l us s (λ z. length (given inodes (reverse z)) < slice_index_or before.free.places s 0) was none))

module _ (sizes : Sizes) (t : Rows) (h : List Entry) (actor : ℕ) (c : Command) (old : State) (plan : Plan) (st : IsStateOf sizes t h old)
    (planned : IsPlanOf sizes (now_of sizes t h) (entry_of sizes (now_of sizes t h) actor c) plan) (u : Update) (i : ℕ) where
  abbrev n : Now
  n = now_of sizes t h

  abbrev rest : List (ℕ × Charged)
  rest = unsealed_after n.unsealed (map Seal (sealed_by plan))

  abbrev all : List ℕ
  all = with_inode (Some u) i old.inodes.items

  more : (more : List ℕ) × (old.inodes.items ++ more ≡ all)
  more = more_of u i old.inodes.items

  k : IsKeptNow sizes old.inodes.items (length h) n
  k = known sizes t h old st

  pub longer : IsPendingOf sizes.inodes all n.tree n.unsealed old.pending
  longer = subst (λ z. IsPendingOf sizes.inodes z n.tree n.unsealed old.pending) more.1
      (pending_more sizes.inodes old.inodes.items more.0 n.tree n.unsealed k.have k.light old.pending st.left.pending)

  pub owned_all : AreOwned all n.tree n.unsealed
  owned_all = subst (λ z. AreOwned z n.tree n.unsealed) more.1 (owned_more sizes.inodes old.inodes.items more.0 n.tree n.unsealed k.have k.light k.owned)

  pub have_all : HaveInodes sizes.inodes all n.tree
  have_all = subst (λ z. HaveInodes sizes.inodes z n.tree) more.1 (have_more sizes.inodes old.inodes.items more.0 n.tree n.unsealed k.have k.light k.plain.tree)

  -- a new row has the lowest inode that is free behind the seals
  pub low_all : (sealed : ℕ) → plan.stream < 64 → has_bit plan.forced plan.stream ≡ false → has_bit sealed plan.stream ≡ plan.own
      → ((s : ℕ) → (s ≡ plan.stream → ⊥) → has_bit sealed s ≡ has_bit plan.forced s)
      → (makes u ≡ 1 → (count : ℕ) (inodes : List ℕ) (t : Rows) (us : List (ℕ × Charged)) → AreOwned inodes t us → AreTaken count inodes t us old.pending.free → IsLowestFree count inodes t (but_of sealed us) i)
      → makes u ≡ 1 → IsLowestFree sizes.inodes all n.tree rest i
  low_all sealed low apart own others lowest makes =
      subst (λ z. IsLowestFree sizes.inodes z n.tree rest i) more.1
      (lowest_more sizes.inodes old.inodes.items more.0 n.tree n.unsealed k.have k.light rest (among_behind (sealed_by plan) n.unsealed) i
      (subst (λ z. IsLowestFree sizes.inodes old.inodes.items n.tree z i) (bits_sealed plan sealed n.unsealed k.owned.numbered low apart own others)
      (lowest makes sizes.inodes old.inodes.items n.tree n.unsealed k.owned st.left.pending.taken)))

  pub open_forced : (s : ℕ) → s < 64 → has_bit plan.forced s ≡ true → (account_at old.pending.txns.accounts s).is_open ≡ true
  open_forced s l on = open_told old.pending.txns old.inodes.items n.unsealed s st.left.pending.txns ∙ planned.forced_open s l on

  pub open_own : plan.own ≡ true → (account_at old.pending.txns.accounts plan.stream).is_open ≡ true
  open_own on = open_told old.pending.txns old.inodes.items n.unsealed plan.stream st.left.pending.txns ∙ planned.own_open on

  module _ (before : Pending) (same : IsAsBefore old.pending before) where
    pub held_all : IsHeld before
    held_all = (txns_of old.inodes.items n.unsealed, same.held (txns_of old.inodes.items n.unsealed) st.left.pending.txns)

    pub at_first : IsPendingOf sizes.inodes all n.tree n.unsealed before
    at_first = same.kept sizes.inodes all n.tree n.unsealed longer

    pub counted : before.free.count ≡ sizes.inodes
    counted = at_first.taken.counted

    pub behind : (mid : Pending) → AreSealed before (sealed_by plan) mid → IsPendingOf sizes.inodes all n.tree rest mid
    behind mid sealed = sealed.kept sizes.inodes all n.tree n.unsealed owned_all at_first

    pub place_behind : (mid : Pending) (s : ℕ) → s < 64 → AreSealed before (sealed_by plan) mid → length (given_at before.free s) < slice_index_or before.free.places s 0
        → length (given_at mid.free s) < slice_index_or mid.free.places s 0
    place_behind mid s low sealed less = gave_behind sizes.inodes all n.tree n.unsealed (sealed_by plan) s before mid low at_first.taken (behind mid sealed).taken sealed.room.places less
