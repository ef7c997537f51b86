-- One inode is free behind a plan's seals, where its update makes a row.
use Rattle.std.proofs.Common.{◌≡◌, ℕ, ◌+◌, ◌-◌, ◌<◌, ◌≤◌, List, ◌∷◌, length, map, refl, sym, subst, arith}
use Rattle.std.specs.Prelude.{true, false, Option, None, Some, MatchOption, IsSome}
use Rattle.std.specs.FinMap.{len}
use Rattle.stream_cuts.specs.Streams.{Seal, unsealed_after}
use Rattle.ccfs_base.specs.declared.commands.Command.{Command}
use Rattle.tree_model.specs.declared.rows.Entry.{Entry}
use Rattle.tree_model.specs.declared.rows.Update.{Update}
use Rattle.tree_model.specs.declared.rows.Update.TheVariants.{Make, Write, Resize, Remove, Move, Release}
use Rattle.tree_model.specs.Rows.{Rows}
use Rattle.tree_cuts.specs.Calls.{Sizes, Charged, charge}
use Rattle.history_model.specs.State.{Now}
use Rattle.history_model.specs.Histories.{entry_of, entered_by, makes, MayCall}
use Rattle.cross_dep.specs.Books.{has_bit}
use Rattle.front_laws.specs.Inodes.{given, IsFree, IsLowestFree}
use Rattle.front_laws.specs.Kept.{IsKept, is_answered, now_of}
use Rattle.front_laws.specs.Laws.{IsKeptNow}
use Rattle.front_laws.specs.Owned.{AreOwned}
use Rattle.front_core.specs.Free.{Taken, AreTaken, IsOneFree, but_of}
use Rattle.front_core.specs.Left.{IsStateOf, IsPlanOf, sealed_by}
use Rattle.front_core.specs.declared.state.State.{State}
use Rattle.front_core.specs.declared.planning.Plan.{Plan}
use Rattle.front_core.proofs.Laws.{a_free_inode, rows_fit}
use Rattle.front_core.proofs.Next.{left_next}
use Rattle.front_core.proofs.SealedBits.{bits_sealed}
use Rattle.front_core.proofs.Viewed.{known}

-- where one is free, the lowest is found
pub lowest_found : (bits : ℕ) (taken : Taken) (found : Option ℕ)
    → ((count : ℕ) (inodes : List ℕ) (t : Rows) (us : List (ℕ × Charged)) → AreOwned inodes t us → AreTaken count inodes t us taken
    → MatchOption found ((i : ℕ) → 2 ≤ i → i < count → IsFree inodes t (but_of bits us) i → ⊥) (λ i. IsLowestFree count inodes t (but_of bits us) i))
    → IsOneFree bits taken → IsSome found
lowest_found bits taken None told one = absurd (one.one (told one.count one.inodes one.t one.unsealed one.owned one.taken_))
lowest_found bits taken (Some i) told one = refl

-- where an update makes a row, there is room beside the rows and what is given up behind the seals
row_fits : (sizes : Sizes) (t : Rows) (h : List Entry) (actor : ℕ) (c : Command) (inodes : List ℕ) (s : ℕ) (rest : List (ℕ × Charged)) (u : Update) → IsKept sizes t inodes h → MayCall actor c
    → (entry_of sizes (now_of sizes t h) actor c).update ≡ Some u → makes u ≡ 1
    → (entered_by sizes (now_of sizes t h) (entry_of sizes (now_of sizes t h) actor c)).unsealed ≡ (s, (u, charge (now_of sizes t h).tree u)) ∷ rest
    → len (now_of sizes t h).tree + 1 + length (given inodes rest) ≤ sizes.inodes - 1
row_fits sizes t h actor c inodes s rest (Make dir name id d) kept may is one left =
    subst (λ l. len (now_of sizes t h).tree + 1 + length (given inodes l) ≤ sizes.inodes - 1) left (rows_fit sizes t inodes h actor c dir name id d kept is may)
row_fits sizes t h actor c inodes s rest (Write id off bytes) kept may is one left = absurd (let z : 0 ≡ 1 = one in omega arith)
row_fits sizes t h actor c inodes s rest (Resize id size) kept may is one left = absurd (let z : 0 ≡ 1 = one in omega arith)
row_fits sizes t h actor c inodes s rest (Remove dir name id stays) kept may is one left = absurd (let z : 0 ≡ 1 = one in omega arith)
row_fits sizes t h actor c inodes s rest (Move dir name to_dir to_name id d r stays) kept may is one left = absurd (let z : 0 ≡ 1 = one in omega arith)
row_fits sizes t h actor c inodes s rest (Release id) kept may is one left = absurd (let z : 0 ≡ 1 = one in omega arith)

module _ (sizes : Sizes) (t : Rows) (h : List Entry) (actor : ℕ) (c : Command) (old : State) (plan : Plan) (st : IsStateOf sizes t h old) (may : MayCall actor c) (answered : is_answered c ≡ true)
    (planned : IsPlanOf sizes (now_of sizes t h) (entry_of sizes (now_of sizes t h) actor c) plan) (u : Update) (is : (entry_of sizes (now_of sizes t h) actor c).update ≡ Some u) where
  -- so one is free behind the seals
  pub one_free : (sealed : ℕ) → plan.stream < 64 → has_bit plan.forced plan.stream ≡ false → has_bit sealed plan.stream ≡ plan.own
      → ((s : ℕ) → (s ≡ plan.stream → ⊥) → has_bit sealed s ≡ has_bit plan.forced s) → makes u ≡ 1 → IsOneFree sealed old.pending.free
  one_free sealed low apart own others one =
      let n : Now = now_of sizes t h in
      let inodes : List ℕ = old.inodes.items in
      let k : IsKeptNow sizes inodes (length h) n = known sizes t h old st in
      let rest : List (ℕ × Charged) = unsealed_after n.unsealed (map Seal (sealed_by plan)) in
      let fits = row_fits sizes t h actor c inodes (entry_of sizes n actor c).stream rest u st.kept may is one (left_next sizes t h actor c old plan st may answered planned u is 0) in
      record {
        count = sizes.inodes;
        inodes = inodes;
        t = n.tree;
        unsealed = n.unsealed;
        owned = k.owned;
        taken_ = st.left.pending.taken;
        one = subst (λ us. ((i : ℕ) → 2 ≤ i → i < sizes.inodes → IsFree inodes n.tree us i → ⊥) → ⊥) (sym (bits_sealed plan sealed n.unsealed k.owned.numbered low apart own others))
            (a_free_inode sizes.inodes inodes n.tree rest k.have k.plain fits);
      }
