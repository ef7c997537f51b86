-- Records may be logged one after another, where those of changes don't clash.
use Rattle.std.proofs.Common.{◌≡◌, ◌≢◌, inl, inr, ℕ, ◌<◌, ◌≤◌, ◌%◌, Bool, true, false, cond, not, ◌==◌, List, [], ◌∷◌, ◌++◌, length, get_or, reverse, filter, flat_map, refl, sym, ap, subst, ◌∙◌}
use Rattle.std.specs.List.{All, AllByRecursion}
use Rattle.std.proofs.lemmas.Bool.{eqb-true}
use Rattle.std.proofs.lemmas.List.{reverse-append}
use Rattle.std.proofs.lemmas.Grind.{flat_map-append}
use Rattle.std.proofs.lemmas.List.Elements.{All-nil, All-cons, All-head, All-tail, All-append, All-filter, filter-append}
use Rattle.stream_cuts.specs.Streams.{keep_if, of_stream}
use Rattle.ccfs_base.specs.declared.records.Rec.{Rec}
use Rattle.ccfs_base.specs.declared.records.Rec.TheVariants as recs
use Rattle.ccfs_base.specs.Records.{AreInside, AreFree}
use Rattle.record_logs.specs.Kept.{call_by}
use Rattle.range_log.specs.Ranges.{is_range}
use Rattle.delta_log.specs.Deltas.{is_delta}
use Rattle.delta_log.specs.Laws.{AllFree, ranges_of, deltas_of, IsRangeFirst}
use Rattle.shared_meta.specs.Area.{Area, log_of, IsLoggedIn}
use Rattle.shared_meta.proofs.Free.{free_sym, all_free_of, free_behind, free_before, inside_append}
use Rattle.tree_model.specs.declared.rows.Update.{Update}
use Rattle.tree_cuts.specs.Calls.{Charged}
use Rattle.std.specs.FinMap.{empty}
use Rattle.image_model.specs.Changes.{Change, New, Drop, Touch, Enter, Fill, records_of, all_records, changes_of}
use Rattle.front_laws.specs.Batches.{its_records, records_of_all}
use Rattle.front_laws.specs.Owned.{Among}
use Rattle.front_laws.specs.Logging.{metadata_size, AreLogsOf, MayLogAll}
use Rattle.front_laws.proofs.Apart.{DontClash, LeavesCount, IsGood, changes_are_free, ranges_are_free, changes_are_inside}

-- ---- one record after another

-- Records fit the logs for a stream: they lie in the area, they disturb no log of another stream, and their ranges disturb neither the
-- raises and flips of the own one nor those before them. A raise of the counter at 16 fits where another stream raises it, and a range
-- over it doesn't.
pub record FitLogs (a : Area) (s : ℕ) (records : List Rec) : Type 0 where
  pub inside : AreInside (length a.base) records
  pub others : (o : ℕ) → o ≢ s → AllFree records (log_of a o)
  pub own : AllFree (ranges_of records) (a.deltas s)
  pub first : IsRangeFirst records

-- the logs of other streams stay
others_stay : (a b : Area) (s : ℕ) (rec : Rec) → IsLoggedIn a (call_by s rec) b → (o : ℕ) → o ≢ s → log_of b o ≡ log_of a o
others_stay a b s (recs.Range off bytes) l o ne = λ k. l.ranges.others o ne k ++ l.deltas o k
others_stay a b s (recs.Add off by) l o ne = λ k. l.ranges o k ++ l.deltas.others o ne k
others_stay a b s (recs.Bit off bit on) l o ne = λ k. l.ranges o k ++ l.deltas.others o ne k

-- what is left of the records fits the logs with the first
rest_fits : (a b : Area) (s : ℕ) (rec : Rec) (rest : List Rec) → FitLogs a s (rec ∷ rest) → IsLoggedIn a (call_by s rec) b → FitLogs b s rest
rest_fits a b s rec rest f l = record {
  inside = subst (λ (z : List ℕ). AreInside (length z) rest) (sym l.base) f.inside.1;
  others = λ o ne. subst (AllFree rest) (sym (others_stay a b s rec l o ne)) (All-tail (λ r. All (AreFree r) (log_of a o)) rec rest (f.others o ne));
  own = own rec l f.own f.first.0;
  first = f.first.1;
}
  where
    own : (rec : Rec) → IsLoggedIn a (call_by s rec) b → AllFree (ranges_of (rec ∷ rest)) (a.deltas s)
        → (is_delta rec ≡ true → All (AreFree rec) (ranges_of rest)) → AllFree (ranges_of rest) (b.deltas s)
    own (recs.Range off bytes) l h i =
        subst (AllFree (ranges_of rest)) (sym (l.deltas s)) (All-tail (λ r. All (AreFree r) (a.deltas s)) (recs.Range off bytes) (ranges_of rest) h)
    own (recs.Add off by) l h i =
        subst (AllFree (ranges_of rest)) (sym l.deltas.own)
        (free_behind (ranges_of rest) (a.deltas s) (recs.Add off by ∷ []) h (all_free_of (recs.Add off by) (ranges_of rest) (i refl)))
    own (recs.Bit off bit on) l h i =
        subst (AllFree (ranges_of rest)) (sym l.deltas.own)
        (free_behind (ranges_of rest) (a.deltas s) (recs.Bit off bit on ∷ []) h (all_free_of (recs.Bit off bit on) (ranges_of rest) (i refl)))

own_first : (a : Area) (s : ℕ) (rec : Rec) (rest : List Rec) → AllFree (ranges_of (rec ∷ rest)) (a.deltas s) → is_range rec ≡ true → All (AreFree rec) (a.deltas s)
own_first a s (recs.Range off bytes) rest h e = All-head (λ r. All (AreFree r) (a.deltas s)) (recs.Range off bytes) (ranges_of rest) h
own_first a s (recs.Add off by) rest h e = absurd (cc)
own_first a s (recs.Bit off bit on) rest h e = absurd (cc)

pub fitting_may_log : (a : Area) (s : ℕ) (records : List Rec) → s < 64 → FitLogs a s records → MayLogAll a s records
fitting_may_log a s [] lt f = tt
fitting_may_log a s (rec ∷ rest) lt f = (
  record {
    stream = lt;
    inside = f.inside.0;
    others = λ o ne. All-head (λ r. All (AreFree r) (log_of a o)) rec rest (f.others o ne);
    own = own_first a s rec rest f.own;
  },
  λ b l. fitting_may_log b s rest lt (rest_fits a b s rec rest f l),
)

-- ---- the records of updates

module _ (P : Rec → Type 0) where
  all_reverse : (f : (ℕ × Charged) → List Rec) (us : List (ℕ × Charged)) → AllByRecursion (λ e. All P (f e)) us → All P (flat_map f (reverse us))
  all_reverse f [] h = All-nil P
  all_reverse f (e ∷ us) h =
      subst (All P) (sym (ap (flat_map f) (reverse-append (e ∷ []) us) ∙ flat_map-append f (reverse us) (e ∷ [])))
      (All-append P (flat_map f (reverse us)) (flat_map f (e ∷ [])) (all_reverse f us h.1) (All-append P (f e) [] h.0 (All-nil P)))

  all_of_stream : (f : (ℕ × Charged) → List Rec) (s : ℕ) (us : List (ℕ × Charged)) → ((e : ℕ × Charged) → Among e us → e.0 ≡ s → All P (f e))
      → AllByRecursion (λ e. All P (f e)) (of_stream s us)
  all_of_stream f s [] h = tt
  all_of_stream f s (d ∷ us) h =
      let rest = all_of_stream f s us (λ e i. h e (inr i)) in
      elim (d.0 == s) as (λ b. (d.0 == s) ≡ b → AllByRecursion (λ e. All P (f e)) (keep_if b d (of_stream s us))) [
        | true ↦ λ p. (h d (inl refl) (eqb-true d.0 s p), rest)
        | false ↦ λ p. rest
      ] refl

  -- what holds of the records of each update of a stream holds of its log
  all_of_log : (count : ℕ) (inodes : List ℕ) (s : ℕ) (us : List (ℕ × Charged)) → ((e : ℕ × Charged) → Among e us → e.0 ≡ s → All P (its_records count inodes e.1.0))
      → All P (records_of_all count inodes (reverse (of_stream s us)))
  all_of_log count inodes s us h = all_reverse (λ e. its_records count inodes e.1.0) (of_stream s us) (all_of_stream (λ e. its_records count inodes e.1.0) s us h)

  -- what holds of those that pass a test
  into_filter : (p : Rec → Bool) (xs : List Rec) → All (λ x. p x ≡ true → P x) xs → All P (filter p xs)
  into_filter p [] h = All-nil P
  into_filter p (x ∷ xs) h =
      let rest = into_filter p xs (All-tail (λ x. p x ≡ true → P x) x xs h) in
      let this = All-head (λ x. p x ≡ true → P x) x xs h in
      elim (p x) as (λ b. (p x ≡ b) → All P (cond b (x ∷ filter p xs) (filter p xs))) [ true ↦ λ q. All-cons P x (filter p xs) (this q) rest | false ↦ λ q. rest ] refl

  of_filter : (p : Rec → Bool) (xs : List Rec) → All P (filter p xs) → All (λ x. p x ≡ true → P x) xs
  of_filter p [] h = All-nil (λ x. p x ≡ true → P x)
  of_filter p (x ∷ xs) h =
      elim (p x) as (λ b. (p x ≡ b) → All P (cond b (x ∷ filter p xs) (filter p xs)) → All (λ x. p x ≡ true → P x) (x ∷ xs)) [
        | true ↦ λ q k. All-cons (λ x. p x ≡ true → P x) x xs (λ r. All-head P x (filter p xs) k) (of_filter p xs (All-tail P x (filter p xs) k))
        | false ↦ λ q k. All-cons (λ x. p x ≡ true → P x) x xs (λ r. absurd (two q r)) (of_filter p xs k)
      ] refl h
    where
      two : {b : Bool} → b ≡ false → b ≡ true → ⊥
      two q r = cc

-- ---- the records of changes

none_behind : (xs : List Rec) → AllFree xs []
none_behind xs = λ k d lt. All-nil (AreFree (get_or xs k d))

ranges_append : (xs ys : List Rec) → ranges_of (xs ++ ys) ≡ ranges_of xs ++ ranges_of ys
ranges_append xs ys = filter-append (λ rec. not (is_delta rec)) xs ys

deltas_append : (xs ys : List Rec) → deltas_of (xs ++ ys) ≡ deltas_of xs ++ deltas_of ys
deltas_append xs ys = filter-append is_delta xs ys

-- each change of the first list is so to each of the second
abbrev pub AllPairs : (Change → Change → Type 0) → List Change → List Change → Type 0
AllPairs R cs ds = AllByRecursion (λ c. AllByRecursion (R c) ds) cs

-- no range of a change disturbs a raise or a flip of an earlier one: New of inode 5 and then Touch of inode 5 are ordered so, and not the
-- other way round
abbrev pub AreOrdered : List Change → Type 0
AreOrdered [] = Unit {0}
AreOrdered (c ∷ cs) = AllByRecursion (λ d. LeavesCount d c) cs × AreOrdered cs

module _ (n : ℕ) (steps : n % 32 ≡ 0) (few : n ≤ 8192) where
  free_one : (c : Change) (ds : List Change) → IsGood n c → AllByRecursion (IsGood n) ds → AllByRecursion (DontClash c) ds → AllFree (records_of n c) (all_records n ds)
  free_one c [] g h e = none_behind (records_of n c)
  free_one c (d ∷ ds) g h e = free_behind (records_of n c) (records_of n d) (all_records n ds) (changes_are_free n c d steps few g h.0 e.0) (free_one c ds g h.1 e.1)

  pub free_all : (cs ds : List Change) → AllByRecursion (IsGood n) cs → AllByRecursion (IsGood n) ds → AllPairs DontClash cs ds → AllFree (all_records n cs) (all_records n ds)
  free_all [] ds g h e = All-nil (λ r. All (AreFree r) (all_records n ds))
  free_all (c ∷ cs) ds g h e = free_before (records_of n c) (all_records n cs) (all_records n ds) (free_one c ds g.0 h e.0) (free_all cs ds g.1 h e.1)

  ranges_one : (c : Change) (ds : List Change) → IsGood n c → AllByRecursion (IsGood n) ds → AllByRecursion (LeavesCount c) ds
      → AllFree (ranges_of (records_of n c)) (deltas_of (all_records n ds))
  ranges_one c [] g h e = none_behind (ranges_of (records_of n c))
  ranges_one c (d ∷ ds) g h e =
      subst (AllFree (ranges_of (records_of n c))) (sym (deltas_append (records_of n d) (all_records n ds)))
      (free_behind (ranges_of (records_of n c)) (deltas_of (records_of n d)) (deltas_of (all_records n ds)) (ranges_are_free n c d steps few g h.0 e.0) (ranges_one c ds g h.1 e.1))

  pub ranges_all : (cs ds : List Change) → AllByRecursion (IsGood n) cs → AllByRecursion (IsGood n) ds → AllPairs LeavesCount cs ds
      → AllFree (ranges_of (all_records n cs)) (deltas_of (all_records n ds))
  ranges_all [] ds g h e = All-nil (λ r. All (AreFree r) (deltas_of (all_records n ds)))
  ranges_all (c ∷ cs) ds g h e =
      subst (λ (z : List Rec). AllFree z (deltas_of (all_records n ds))) (sym (ranges_append (records_of n c) (all_records n cs)))
      (free_before (ranges_of (records_of n c)) (ranges_of (all_records n cs)) (deltas_of (all_records n ds)) (ranges_one c ds g.0 h e.0) (ranges_all cs ds g.1 h e.1))

  ranges_behind : (cs : List Change) (d : Change) → AllByRecursion (IsGood n) cs → IsGood n d → AllByRecursion (λ c. LeavesCount c d) cs
      → AllFree (ranges_of (all_records n cs)) (deltas_of (records_of n d))
  ranges_behind [] d g h e = All-nil (λ r. All (AreFree r) (deltas_of (records_of n d)))
  ranges_behind (c ∷ cs) d g h e =
      subst (λ (z : List Rec). AllFree z (deltas_of (records_of n d))) (sym (ranges_append (records_of n c) (all_records n cs)))
      (free_before (ranges_of (records_of n c)) (ranges_of (all_records n cs)) (deltas_of (records_of n d)) (ranges_are_free n c d steps few g.0 h e.0) (ranges_behind cs d g.1 h e.1))

  pub inside_all : (cs : List Change) → AllByRecursion (IsGood n) cs → AreInside (metadata_size n) (all_records n cs)
  inside_all [] g = tt
  inside_all (c ∷ cs) g = inside_append (metadata_size n) (records_of n c) (all_records n cs) (changes_are_inside n c steps few g.0) (inside_all cs g.1)

-- ---- ranges first

-- two logs joined, of which the ranges of the second leave the raises and flips of the first
delta_first : (r : Rec) (xs ys : List Rec) → (is_delta r ≡ true → All (AreFree r) (ranges_of xs)) → AllFree (ranges_of ys) (deltas_of (r ∷ xs))
    → is_delta r ≡ true → All (AreFree r) (ranges_of (xs ++ ys))
delta_first (recs.Range off bytes) xs ys h f e = absurd (cc)
delta_first (recs.Add off by) xs ys h f e =
    subst (All (AreFree (recs.Add off by))) (sym (ranges_append xs ys)) (All-append (AreFree (recs.Add off by)) (ranges_of xs) (ranges_of ys) (h e)
    (λ k d lt. free_sym (get_or (ranges_of ys) k d) (recs.Add off by) (All-head (AreFree (get_or (ranges_of ys) k d)) (recs.Add off by) (deltas_of xs) (f k d lt))))
delta_first (recs.Bit off bit on) xs ys h f e =
    subst (All (AreFree (recs.Bit off bit on))) (sym (ranges_append xs ys)) (All-append (AreFree (recs.Bit off bit on)) (ranges_of xs) (ranges_of ys) (h e)
    (λ k d lt. free_sym (get_or (ranges_of ys) k d) (recs.Bit off bit on) (All-head (AreFree (get_or (ranges_of ys) k d)) (recs.Bit off bit on) (deltas_of xs) (f k d lt))))

later_deltas : (r : Rec) (xs zs : List Rec) → AllFree zs (deltas_of (r ∷ xs)) → AllFree zs (deltas_of xs)
later_deltas (recs.Range off bytes) xs zs f = f
later_deltas (recs.Add off by) xs zs f = λ k d lt. All-tail (AreFree (get_or zs k d)) (recs.Add off by) (deltas_of xs) (f k d lt)
later_deltas (recs.Bit off bit on) xs zs f = λ k d lt. All-tail (AreFree (get_or zs k d)) (recs.Bit off bit on) (deltas_of xs) (f k d lt)

pub range_first_append : (xs ys : List Rec) → IsRangeFirst xs → IsRangeFirst ys → AllFree (ranges_of ys) (deltas_of xs) → IsRangeFirst (xs ++ ys)
range_first_append [] ys h i f = i
range_first_append (r ∷ xs) ys h i f = (delta_first r xs ys h.0 f, range_first_append xs ys h.1 i (later_deltas r xs (ranges_of ys) f))

-- a change has its ranges first
range_first_one : (n : ℕ) (c : Change) → IsRangeFirst (records_of n c)
range_first_one n (New i p name kind) = ((λ e. absurd (cc)), ((λ e. absurd (cc)), ((λ e. All-nil _), ((λ e. All-nil _), tt))))
range_first_one n (Drop i) = ((λ e. All-nil _), ((λ e. All-nil _), tt))
range_first_one n (Touch i) = ((λ e. All-nil _), tt)
range_first_one n (Enter i p name) = ((λ e. absurd (cc)), tt)
range_first_one n (Fill i bytes) = ((λ e. absurd (cc)), tt)

pub range_first_all : (n : ℕ) (cs : List Change) → n % 32 ≡ 0 → n ≤ 8192 → AllByRecursion (IsGood n) cs → AreOrdered cs → IsRangeFirst (all_records n cs)
range_first_all n [] steps few g o = tt
range_first_all n (c ∷ cs) steps few g o =
    range_first_append (records_of n c) (all_records n cs) (range_first_one n c) (range_first_all n cs steps few g.1 o.1) (ranges_behind n steps few cs c g.1 g.0 o.0)

-- ---- an update

-- The changes of an update clash with none of the unsealed updates of other streams, and its ranges leave the raises and flips of its own
-- stream and those before them. So making `/a/f` disturbs no making of `/a/g` in another stream, where both touch `/a`.
pub record DontDisturb (count : ℕ) (inodes : List ℕ) (s : ℕ) (u : Update) (rest : List (ℕ × Charged)) : Type 0 where
  pub good : AllByRecursion (IsGood count) (changes_of inodes empty u)
  pub goods : (e : ℕ × Charged) → Among e rest → AllByRecursion (IsGood count) (changes_of inodes empty e.1.0)
  pub others : (e : ℕ × Charged) → Among e rest → e.0 ≢ s → AllPairs DontClash (changes_of inodes empty u) (changes_of inodes empty e.1.0)
  pub own : (e : ℕ × Charged) → Among e rest → e.0 ≡ s → AllPairs LeavesCount (changes_of inodes empty u) (changes_of inodes empty e.1.0)
  pub ordered : AreOrdered (changes_of inodes empty u)

-- the records of an update that disturbs none may be logged
pub undisturbing_may_log : (count : ℕ) (inodes : List ℕ) (s : ℕ) (u : Update) (rest : List (ℕ × Charged)) (a : Area) → count % 32 ≡ 0 → count ≤ 8192 → s < 64
    → length a.base ≡ metadata_size count → AreLogsOf count inodes a rest → DontDisturb count inodes s u rest → MayLogAll a s (its_records count inodes u)
undisturbing_may_log count inodes s u rest a steps few lt room logs quiet = fitting_may_log a s records lt (record {
  inside = subst (λ (z : ℕ). AreInside z records) (sym room) (inside_all count steps few (changes_of inodes empty u) quiet.good);
  others = λ o ne. subst (AllFree records) (sym (λ k. logs.ranges o k ++ logs.deltas o k)) (others o ne);
  own = subst (AllFree (ranges_of records)) (sym (logs.deltas s)) own;
  first = range_first_all count (changes_of inodes empty u) steps few quiet.good quiet.ordered;
})
  where
    records : List Rec
    records = its_records count inodes u

    logged : ℕ → List Rec
    logged o = records_of_all count inodes (reverse (of_stream o rest))

    others : (o : ℕ) → o ≢ s → AllFree records (ranges_of (logged o) ++ deltas_of (logged o))
    others o ne k d lt =
        let P : Rec → Type 0 = AreFree (get_or records k d) in
        let all : All P (logged o) = all_of_log P count inodes o rest (λ e i same.
        free_all count steps few (changes_of inodes empty u) (changes_of inodes empty e.1.0) quiet.good (quiet.goods e i) (quiet.others e i (λ q. ne (sym same ∙ q))) k d lt) in
        All-append P (ranges_of (logged o)) (deltas_of (logged o)) (All-filter (λ rec. not (is_delta rec)) P (logged o) all) (All-filter is_delta P (logged o) all)

    own : AllFree (ranges_of records) (deltas_of (logged s))
    own k d lt =
        let P : Rec → Type 0 = AreFree (get_or (ranges_of records) k d) in
        into_filter P is_delta (logged s) (all_of_log (λ x. is_delta x ≡ true → P x) count inodes s rest (λ e i same.
        of_filter P is_delta (its_records count inodes e.1.0)
        (ranges_all count steps few (changes_of inodes empty u) (changes_of inodes empty e.1.0) quiet.good (quiet.goods e i) (quiet.own e i same) k d lt)))
