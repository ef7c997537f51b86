-- Where the inodes that are kept as taken stay those of the rows and of the unsealed updates.
use Rattle.std.proofs.Common.{◌≡◌, ◌≢◌, ◌⊎◌, inl, inr, ℕ, ◌<◌, ◌≤◌, List, [], ◌∷◌, length, set, refl, sym, ap, subst, ◌∙◌, arith}
use Rattle.std.specs.Prelude.{true, false, not, Option, None, Some, MatchOption, reverse}
use Rattle.std.specs.List.{AllByRecursion}
use Rattle.std.specs.FinMap.{get}
use Rattle.std.proofs.lemmas.Bool.{cases_eq, cases_Bool, not_from_true, not_from_false}
use Rattle.std.proofs.lemmas.List.{get_or-set_same, get_or-set_other}
use Rattle.stream_cuts.specs.Streams.{of_stream, without}
use Rattle.stream_cuts.proofs.OfSeal.{none_of_stream, other_stream}
use Rattle.tree_model.specs.declared.rows.Row.{Row}
use Rattle.tree_model.specs.Rows.{Rows}
use Rattle.tree_cuts.specs.Calls.{Charged}
use Rattle.image_model.specs.Carrying.{inode_in}
use Rattle.free_maps.specs.Maps.{is_set}
use Rattle.cross_dep.specs.Books.{has_bit}
use Rattle.carried_volumes.specs.Plain.{IsDense}
use Rattle.carried_volumes.specs.Carried.{HaveInodes}
use Rattle.front_laws.specs.Inodes.{has, dropped, given_by, given, IsFree, IsLowestFree}
use Rattle.front_laws.specs.Owned.{Among, AreOwned}
use Rattle.front_laws.proofs.Among.{among_left, among_was}
use Rattle.front_core.specs.Free.{Taken, AreTaken, IsLowestOf, list_at, given_at, but_of}
use Rattle.front_core.proofs.Given.{IsGivenIn, in_and_out, given_in, in_given, none_given, not_given, given_by_stream, stream_gave, among_passing, passing_among, has_reversed}
use Rattle.front_core.proofs.Lists.{has_at, place_of_one}
use Rattle.front_core.proofs.Lowest.{IsOpenBelow}

-- ---- an image that was just opened

some_row : (o : Option Row) → o ≢ None → (r : Row) × (o ≡ Some r)
some_row None n = absurd (n refl)
some_row (Some r) n = (r, refl)

-- the rows alone have inodes, and each inode in the list is a row's
pub taken_at_first : (count : ℕ) (inodes : List ℕ) (t : Rows) (taken : Taken) → HaveInodes count inodes t → IsDense t (length inodes) → taken.count ≡ count
    → ((s : ℕ) → given_at taken s ≡ []) → ((i : ℕ) → has i inodes ≡ true → is_set taken.bits i ≡ true) → ((i : ℕ) → has i inodes ≡ false → is_set taken.bits i ≡ false)
    → AreTaken count inodes t [] taken
taken_at_first count inodes t taken have dense counted none on off = record {
  counted = counted;
  clear = λ i high low c. record {
    no_row = λ (s : ℕ) (r : Row) (g : get t s ≡ Some r) (e : inode_in inodes s ≡ i).
        in_and_out (is_set taken.bits i) (on i (subst (λ z. has z inodes ≡ true) e (has_at inodes s 0 (have.listed s r g)))) c;
    not_given = refl;
  };
  free = λ i high low f. elim (cases_Bool (has i inodes)) [
    | inl q ↦ (let k = place_of_one i inodes q in let r = some_row (get t k.0) (dense.below k.0 k.1) in absurd (f.no_row k.0 r.0 r.1 k.2))
    | inr q ↦ off i q
  ];
  own = λ s l. none s;
  inside = λ i p. absurd (let z : false ≡ true = p in cc);
  apart = λ s r i ne p q. (let z : false ≡ true = p in cc);
}

-- ---- inodes that were given up

numbered_at : (e : ℕ × Charged) (h : List (ℕ × Charged)) → AllByRecursion (λ (d : ℕ × Charged). d.0 < 64) h → Among e h → e.0 < 64
numbered_at e [] a i = absurd i
numbered_at e (d ∷ h) a (inl p) = subst (λ (z : ℕ × Charged). z.0 < 64) p a.0
numbered_at e (d ∷ h) a (inr i) = numbered_at e h a.1 i

module _ (count : ℕ) (inodes : List ℕ) (t : Rows) (unsealed : List (ℕ × Charged)) (taken : Taken) (owned : AreOwned inodes t unsealed) (are : AreTaken count inodes t unsealed taken) where
  -- what is in a stream's list an update of the stream gave up
  pub listed_given : (s i : ℕ) → s < 64 → has i (given_at taken s) ≡ true → has i (given inodes (of_stream s unsealed)) ≡ true
  listed_given s i l p = sym (has_reversed inodes i (of_stream s unsealed)) ∙ sym (ap (has i) (are.own s l)) ∙ p

  pub given_listed : (e : ℕ × Charged) (i : ℕ) → Among e unsealed → has i (given_by inodes e.1.0) ≡ true → has i (given_at taken e.0) ≡ true
  given_listed e i a p =
      ap (has i) (are.own e.0 (numbered_at e unsealed owned.numbered a)) ∙ has_reversed inodes i (of_stream e.0 unsealed)
      ∙ stream_gave inodes i e.0 unsealed e a refl p

  -- it is from 2 on below the count
  pub listed_inside : (s i : ℕ) → s < 64 → has i (given_at taken s) ≡ true → (2 ≤ i) × (i < count)
  listed_inside s i l p =
      let g = given_by_stream inodes i s unsealed (listed_given s i l p) in
      are.inside i (in_given inodes i unsealed g.0 g.1 g.3)

  -- and free once the stream is sealed, whatever other streams are
  pub listed_free : (s i : ℕ) (h : List (ℕ × Charged)) → s < 64 → has i (given_at taken s) ≡ true
      → ((e : ℕ × Charged) → Among e h → Among e unsealed × (e.0 ≢ s)) → IsFree inodes t h i
  listed_free s i h l p left =
      let given = listed_given s i l p in
      let g = given_by_stream inodes i s unsealed given in
      record {
        no_row = λ (x : ℕ) (r : Row) (row : get t x ≡ Some r) (same : inode_in inodes x ≡ i).
            not_given inodes i unsealed g.0 (subst (λ z. has z (Rattle.front_laws.specs.Inodes.given inodes unsealed) ≡ false) same (owned.held x (r, row))) g.1 g.3;
        not_given = none_given inodes i h (λ (f : IsGivenIn inodes i h).
            (let w = left f.0 f.1 in are.apart s f.0.0 i (λ q. w.1 (sym q)) given (stream_gave inodes i f.0.0 unsealed f.0 w.0 refl f.2)));
      }

  -- an inode stays free as updates are sealed
  pub free_left : (i : ℕ) (h : List (ℕ × Charged)) → ((e : ℕ × Charged) → Among e h → Among e unsealed) → IsFree inodes t unsealed i → IsFree inodes t h i
  free_left i h left f = record {
    no_row = f.no_row;
    not_given = none_given inodes i h (λ (g : IsGivenIn inodes i h). not_given inodes i unsealed g.0 f.not_given (left g.0 g.1) g.2);
  }

  -- and one that is free behind them was free before, or was given up
  pub free_before : (i : ℕ) (h : List (ℕ × Charged)) → IsFree inodes t h i → IsFree inodes t unsealed i ⊎ IsGivenIn inodes i unsealed
  free_before i h f = elim (cases_Bool (has i (given inodes unsealed))) [
    | inl q ↦ inr (given_in inodes i unsealed q)
    | inr q ↦ inl (record { no_row = f.no_row; not_given = q })
  ]

  -- ---- the lowest one

  -- those that are open are those that are free once the streams are sealed
  pub open_free : (sealed i : ℕ) → IsOpenBelow taken sealed 64 i → (2 ≤ i) × (i < count) × IsFree inodes t (but_of sealed unsealed) i
  open_free sealed i (inl p) =
      let low : i < count = omega (arith, p.1, are.counted) in (
        p.0,
        low,
        free_left i (but_of sealed unsealed) (λ (e : ℕ × Charged) (a : Among e (but_of sealed unsealed)). (passing_among (λ (d : ℕ × Charged). not (has_bit sealed d.0)) e unsealed a).0)
            (are.clear i p.0 low p.2),
      )
  open_free sealed i (inr q) =
      let there = listed_inside q.0 i q.1 q.3 in (
        there.0,
        there.1,
        listed_free q.0 i (but_of sealed unsealed) q.1 q.3 (λ (e : ℕ × Charged) (a : Among e (but_of sealed unsealed)).
            (let w = passing_among (λ (d : ℕ × Charged). not (has_bit sealed d.0)) e unsealed a in
            (w.0, λ same. in_and_out (not (has_bit sealed e.0)) w.1 (not_from_true (has_bit sealed e.0) (ap (has_bit sealed) same ∙ q.2))))),
      )

  pub free_open : (sealed i : ℕ) → 2 ≤ i → i < count → IsFree inodes t (but_of sealed unsealed) i → IsOpenBelow taken sealed 64 i
  free_open sealed i high low f = elim (free_before i (but_of sealed unsealed) f) [
    | inl g ↦ inl (high, omega (arith, low, are.counted), are.free i high low g)
    | inr g ↦ elim (cases_Bool (has_bit sealed g.0.0)) [
      | inl on ↦ inr (g.0.0, numbered_at g.0 unsealed owned.numbered g.1, on, given_listed g.0 i g.1 g.2)
      | inr off ↦ absurd (not_given inodes i (but_of sealed unsealed) g.0 f.not_given
          (among_passing (λ (d : ℕ × Charged). not (has_bit sealed d.0)) g.0 unsealed (not_from_false (has_bit sealed g.0.0) off) g.1) g.2)
    ]
  ]

  pub lowest_free : (sealed : ℕ) (found : Option ℕ) → IsLowestOf (IsOpenBelow taken sealed 64) found
      → MatchOption found ((i : ℕ) → 2 ≤ i → i < count → IsFree inodes t (but_of sealed unsealed) i → ⊥) (λ i. IsLowestFree count inodes t (but_of sealed unsealed) i)
  lowest_free sealed None is = λ i high low f. is i (free_open sealed i high low f)
  lowest_free sealed (Some low) is =
      let free = open_free sealed low is.0 in
      record {
        high = free.0;
        there = free.1;
        free = free.2;
        lowest = λ (j : ℕ) (high : 2 ≤ j) (l : j < low) (f : IsFree inodes t (but_of sealed unsealed) j).
            (let m : low ≤ j = is.1 j (free_open sealed j high (let c : low < count = free.1 in omega arith) f) in absurd (omega arith));
      }

  -- ---- a stream is sealed

  pub taken_released : (s : ℕ) (new : Taken) → s < 64 → s < length taken.given → new.count ≡ taken.count → new.given ≡ set taken.given s []
      → ((i : ℕ) → has i (given_at taken s) ≡ true → is_set new.bits i ≡ false)
      → ((i : ℕ) → has i (given_at taken s) ≡ false → is_set new.bits i ≡ is_set taken.bits i) → AreTaken count inodes t (without s unsealed) new
  taken_released s new l within counts lists own others = record {
    counted = counts ∙ are.counted;
    clear = λ i high low c. elim (cases_Bool (has i (given_at taken s))) [
      | inl q ↦ listed_free s i (without s unsealed) l q (λ (e : ℕ × Charged) (a : Among e (without s unsealed)). among_was e s unsealed a)
      | inr q ↦ free_left i (without s unsealed) (λ (e : ℕ × Charged) (a : Among e (without s unsealed)). (among_was e s unsealed a).0)
          (are.clear i high low (sym (others i q) ∙ c))
    ];
    free = λ i high low f. elim (cases_Bool (has i (given_at taken s))) [
      | inl q ↦ own i q
      | inr q ↦ others i q ∙ are.free i high low (free_then s i q f)
    ];
    own = λ r m. elim (cases_eq r s) [
      | inl e ↦ subst (λ z. given_at new z ≡ given inodes (reverse (of_stream z (without s unsealed)))) (sym e)
          (ap (λ (z : List (List ℕ)). list_at z s) lists ∙ get_or-set_same taken.given s [] [] within
          ∙ sym (ap (λ (z : List (ℕ × Charged)). given inodes (reverse z)) (none_of_stream s unsealed)))
      | inr n ↦ ap (λ (z : List (List ℕ)). list_at z r) lists ∙ get_or-set_other taken.given s r [] [] n ∙ are.own r m
          ∙ sym (ap (λ (z : List (ℕ × Charged)). given inodes (reverse z)) (other_stream r s unsealed n))
    ];
    inside = λ i p. (let g = given_in inodes i (without s unsealed) p in are.inside i (in_given inodes i unsealed g.0 (among_was g.0 s unsealed g.1).0 g.2));
    apart = λ q r i ne p k. are.apart q r i ne (still q i p) (still r i k);
  }
    where
      free_then : (s i : ℕ) → has i (given_at taken s) ≡ false → IsFree inodes t (without s unsealed) i → IsFree inodes t unsealed i
      free_then s i q f = elim (free_before i (without s unsealed) f) [
        | inl g ↦ g
        | inr g ↦ elim (cases_eq g.0.0 s) [
          | inl e ↦ in_and_out (has i (given_at taken s)) (subst (λ z. has i (given_at taken z) ≡ true) e (given_listed g.0 i g.1 g.2)) q
          | inr n ↦ absurd (not_given inodes i (without s unsealed) g.0 f.not_given (among_left g.0 s unsealed n g.1) g.2)
        ]
      ]

      still : (q i : ℕ) → has i (given inodes (of_stream q (without s unsealed))) ≡ true → has i (given inodes (of_stream q unsealed)) ≡ true
      still q i p =
          let g = given_by_stream inodes i q (without s unsealed) p in
          stream_gave inodes i q unsealed g.0 (among_was g.0 s unsealed g.1).0 g.2 g.3
