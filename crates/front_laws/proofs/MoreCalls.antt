-- One more call is kept.
use Rattle.std.proofs.Common.{◌≡◌, ℕ, suc, ◌+◌, ◌<◌, ◌≤◌, List, [], ◌∷◌, ◌++◌, length, refl, sym, ap, subst, ◌∙◌, arith, length-append}
use Rattle.std.specs.Prelude.{true, Option, None, Some}
use Rattle.std.specs.List.{AllByRecursion}
use Rattle.std.specs.FinMap.{get, len}
use Rattle.std.proofs.lemmas.List.{append-nil}
use Rattle.tree_model.specs.declared.rows.Row.{Row}
use Rattle.tree_model.specs.declared.rows.Update.{Update}
use Rattle.tree_model.specs.declared.rows.Update.TheVariants.{Make, Write, Resize, Remove, Move, Release}
use Rattle.tree_model.specs.declared.rows.Entry.{Entry}
use Rattle.tree_model.specs.Rows.{Rows, IsTree}
use Rattle.tree_cuts.specs.Calls.{Sizes, Charged}
use Rattle.history_model.specs.State.{Now}
use Rattle.history_model.specs.Histories.{start, made_by, entered_by, now_after, entry_of, MayCall, IsLegal}
use Rattle.history_model.proofs.Longer.{now_more}
use Rattle.image_model.specs.Carrying.{inode_in}
use Rattle.carried_volumes.specs.Carried.{HaveInodes}
use Rattle.front_laws.specs.Inodes.{has, given_by, given, IsFree, IsLowestFree, HasLowest, HasLowestIf, AllHaveLowest, with_inode}
use Rattle.front_laws.specs.Kept.{IsTame, is_answered, IsKept, now_of}
use Rattle.front_laws.specs.Laws.{NextCallsAreKept}
use Rattle.front_laws.proofs.Among.{at_among, all_among}
use Rattle.front_laws.proofs.MoreInodes.{in_more, more_inodes_leave_updates}
use Rattle.front_laws.proofs.Going.{IsCounted, IsGoing, going_next}
use Rattle.front_laws.proofs.KeptNow.{going_start}

-- ---- more inodes behind the others leave the lowest one that is free

abbrev GivesSame : List ℕ → List ℕ → (ℕ × Charged) → Type 0
GivesSame inodes more e = given_by (inodes ++ more) e.1.0 ≡ given_by inodes e.1.0

given_more : (inodes more : List ℕ) (l : List (ℕ × Charged)) → AllByRecursion (GivesSame inodes more) l → given (inodes ++ more) l ≡ given inodes l
given_more inodes more [] a = refl
given_more inodes more (e ∷ l) a =
    ap (λ (z : List ℕ). z ++ given (inodes ++ more) l) a.0 ∙ ap (λ (z : List ℕ). given_by inodes e.1.0 ++ z) (given_more inodes more l a.1)

module _ (count : ℕ) (inodes more : List ℕ) (t : Rows) (l : List (ℕ × Charged)) (have : HaveInodes count inodes t) (all : AllByRecursion (GivesSame inodes more) l) where
  free_more : (i : ℕ) → IsFree inodes t l i → IsFree (inodes ++ more) t l i
  free_more i f = record {
    no_row = λ s r e same. f.no_row s r e (sym (in_more inodes more s (have.listed s r e)) ∙ same);
    not_given = ap (has i) (given_more inodes more l all) ∙ f.not_given;
  }

  free_back : (i : ℕ) → IsFree (inodes ++ more) t l i → IsFree inodes t l i
  free_back i f = record {
    no_row = λ s r e same. f.no_row s r e (in_more inodes more s (have.listed s r e) ∙ same);
    not_given = ap (has i) (sym (given_more inodes more l all)) ∙ f.not_given;
  }

  lowest_more : (i : ℕ) → IsLowestFree count inodes t l i → IsLowestFree count (inodes ++ more) t l i
  lowest_more i h = record { high = h.high; there = h.there; free = free_more i h.free; lowest = λ j a b f. h.lowest j a b (free_back j f) }

  has_more : (u : Update) → HasLowest count inodes t l u → HasLowest count (inodes ++ more) t l u
  has_more (Make dir name id d) h = (
    (let lt = h.0 in let long = length-append inodes more in omega arith),
    subst (λ i. IsLowestFree count (inodes ++ more) t l i) (sym (in_more inodes more id h.0)) (lowest_more (inode_in inodes id) h.1),
  )
  has_more (Write id off bytes) h = tt
  has_more (Resize id len) h = tt
  has_more (Remove dir name id stays) h = tt
  has_more (Move dir name to_dir to_name id d r stays) h = tt
  has_more (Release id) h = tt

  has_more_if : (o : Option Update) → HasLowestIf count inodes t l o → HasLowestIf count (inodes ++ more) t l o
  has_more_if None h = tt
  has_more_if (Some u) h = has_more u h

module _ (sizes : Sizes) (inodes more : List ℕ) (e : Entry) where
  -- the rows of the calls before have the lowest inodes as before
  lowest_along : (calls : ℕ) (n : Now) (h : List Entry) → IsGoing sizes inodes calls n → IsLegal sizes n h
      → AllByRecursion (λ e. is_answered e.command ≡ true) h → AllByRecursion (λ e. IsTame e.update) h → AllHaveLowest sizes inodes n h
      → HasLowestIf sizes.inodes (inodes ++ more) (now_after sizes n h).tree (entered_by sizes (now_after sizes n h) e).unsealed e.update
      → AllHaveLowest sizes (inodes ++ more) n (h ++ e ∷ [])
  lowest_along calls n [] g legal answered tame lows low = (low, tt)
  lowest_along calls n (d ∷ h) g legal answered tame lows low =
      let next : IsGoing sizes inodes (suc calls) (entered_by sizes n d) = going_next sizes inodes calls n d h g legal answered.0 tame.0 lows.0 in
      let l : List (ℕ × Charged) = (entered_by sizes n d).unsealed in
      let same : AllByRecursion (GivesSame inodes more) l = all_among (GivesSame inodes more) l (λ f i.
      let c = at_among (IsCounted (length inodes)) f l next.counted i in (more_inodes_leave_updates sizes.inodes inodes more f.1.0 c.0.built c.0.below).2) in (
        has_more_if sizes.inodes inodes more n.tree l g.have same d.update lows.0,
        lowest_along (suc calls) (entered_by sizes n d) h next legal.2 answered.1 tame.1 lows.1 low,
      )

-- ---- one entry behind the others

legal_more : (sizes : Sizes) (n : Now) (h : List Entry) (e : Entry) → IsLegal sizes n h → e ≡ entry_of sizes (now_after sizes n h) e.actor e.command → MayCall e.actor e.command
    → IsLegal sizes n (h ++ e ∷ [])
legal_more sizes n [] e l same may = (same, may, tt)
legal_more sizes n (d ∷ h) e l same may = (l.0, l.1, legal_more sizes (entered_by sizes n d) h e l.2 same may)

all_more : (P : Entry → Type 0) (h : List Entry) (e : Entry) → AllByRecursion P h → P e → AllByRecursion P (h ++ e ∷ [])
all_more P [] e a p = (p, tt)
all_more P (d ∷ h) e a p = (a.0, all_more P h e a.1 p)

have_more : (count : ℕ) (inodes more : List ℕ) (t : Rows) → IsTree t → HaveInodes count inodes t → HaveInodes count (inodes ++ more) t
have_more count inodes more t tree have =
    let same : (s : ℕ) (r : Row) → get t s ≡ Some r → inode_in (inodes ++ more) s ≡ inode_in inodes s = λ s r e. in_more inodes more s (have.listed s r e) in
    let long = length-append inodes more in
    let root = tree.root in
    record {
      listed = λ s r e. (let lt = have.listed s r e in omega arith);
      there = λ s r e. subst (λ z. z < count) (sym (same s r e)) (have.there s r e);
      root = same 0 _ root.1 ∙ have.root;
      high = λ s r ne e. subst (λ z. 2 ≤ z) (sym (same s r e)) (have.high s r ne e);
      apart = λ s u r q e f p. have.apart s u r q e f (sym (same s r e) ∙ p ∙ same u q f);
      few = have.few;
    }

-- the inodes with that of a new row are those and perhaps one more
record Grown (inodes : List ℕ) (o : Option Update) (all : List ℕ) : Type 0 where
  more : List ℕ
  same : inodes ++ more ≡ all
  long : length all ≡ length inodes + made_by o

not_grown : (inodes : List ℕ) (o : Option Update) → made_by o ≡ 0 → Grown inodes o inodes
not_grown inodes o none = record { more = []; same = append-nil inodes; long = omega arith }

grown : (inodes : List ℕ) (i : ℕ) (o : Option Update) → Grown inodes o (with_inode o i inodes)
grown inodes i None = not_grown inodes None refl
grown inodes i (Some (Make dir name id d)) = record { more = i ∷ []; same = refl; long = length-append inodes (i ∷ []) }
grown inodes i (Some (Write id off bytes)) = not_grown inodes (Some (Write id off bytes)) refl
grown inodes i (Some (Resize id len)) = not_grown inodes (Some (Resize id len)) refl
grown inodes i (Some (Remove dir name id stays)) = not_grown inodes (Some (Remove dir name id stays)) refl
grown inodes i (Some (Move dir name to_dir to_name id d r stays)) = not_grown inodes (Some (Move dir name to_dir to_name id d r stays)) refl
grown inodes i (Some (Release id)) = not_grown inodes (Some (Release id)) refl

pub next_calls_are_kept : NextCallsAreKept
next_calls_are_kept sizes t inodes h actor c e i kept same may answered tame low = by (grown inodes i e.update) low
  where
    by : {all : List ℕ} → Grown inodes e.update all → HasLowestIf sizes.inodes all (now_of sizes t h).tree (entered_by sizes (now_of sizes t h) e).unsealed e.update → IsKept sizes t all (h ++ e ∷ [])
    by {all} g low =
        let wide : List ℕ = inodes ++ g.more in
        let lowest : HasLowestIf sizes.inodes wide (now_of sizes t h).tree (entered_by sizes (now_of sizes t h) e).unsealed e.update
        = subst (λ z. HasLowestIf sizes.inodes z (now_of sizes t h).tree (entered_by sizes (now_of sizes t h) e).unsealed e.update) (sym g.same) low in
        let its : is_answered e.command ≡ true = subst (λ (z : Entry). is_answered z.command ≡ true) (sym same) answered in
        subst (λ z. IsKept sizes t z (h ++ e ∷ [])) g.same (record {
          plain = kept.plain;
          have = have_more sizes.inodes inodes g.more t kept.plain.tree kept.have;
          legal = legal_more sizes (start t) h e kept.legal (subst (λ (z : Entry). z ≡ entry_of sizes (now_of sizes t h) z.actor z.command) (sym same) refl)
              (subst (λ (z : Entry). MayCall z.actor z.command) (sym same) may);
          answered = all_more (λ e. is_answered e.command ≡ true) h e kept.answered its;
          tame = all_more (λ e. IsTame e.update) h e kept.tame tame;
          lowest = lowest_along sizes inodes g.more e 0 (start t) h (going_start sizes t inodes h kept) kept.legal kept.answered kept.tame kept.lowest lowest;
          listed = ap length g.same ∙ g.long ∙ ap (λ z. z + made_by e.update) kept.listed ∙ ap (λ (z : Now). z.next) (sym (now_more sizes (start t) h e));
        })
