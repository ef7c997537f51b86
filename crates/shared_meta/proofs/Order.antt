-- The logs of streams put on bytes in another order.
use Rattle.std.proofs.Common.{◌≡◌, ◌≢◌, ℕ, zero, suc, ◌+◌, ◌<◌, ◌≤◌, List, [], ◌∷◌, length, get_or, set, refl, sym, ap, ◌∙◌, arith, inl, inr}
use Rattle.std.specs.List.Sorted.{IsPermutation}
use Rattle.std.proofs.lemmas.Bool.{cases_eq}
use Rattle.std.proofs.lemmas.List.Edits.{swap_is}
use Rattle.std.proofs.lemmas.List.Sorted.{IsPermutation-keeps}
use Rattle.ccfs_base.specs.declared.records.Rec.{Rec}
use Rattle.std.specs.List.{All, range_with_len}
use Rattle.ccfs_base.specs.Places.{IsInside}
use Rattle.ccfs_base.specs.Records.{acts_at, recorded, all_recorded, AreInside, AreFree}
use Rattle.delta_log.specs.Laws.{AllFree}
use Rattle.delta_log.proofs.Records.{all_recorded_length, one_past, logs_comm}
use Rattle.shared_meta.specs.Area.{put_on}

pub length-put_on : (log : ℕ → List Rec) (order : List ℕ) (bytes : List ℕ) → length (put_on log order bytes) ≡ length bytes
unfolding put_on
length-put_on log [] bytes = refl
length-put_on log (stream ∷ more) bytes = length-put_on log more (all_recorded bytes (log stream)) ∙ all_recorded_length (log stream) bytes

-- the logs of streams lie in so many bytes, and those of different streams don't disturb each other
pub record AreShared (size : ℕ) (log : ℕ → List Rec) : Type 0 where
  pub inside : (stream : ℕ) → AreInside size (log stream)
  pub free : (stream other : ℕ) → stream ≢ other → AllFree (log stream) (log other)

module _ (log : ℕ → List Rec) where
  -- the logs of two streams in either order
  two_streams : (bytes : List ℕ) → AreShared (length bytes) log → (stream other : ℕ) → all_recorded (all_recorded bytes (log stream)) (log other) ≡ all_recorded (all_recorded bytes (log other)) (log stream)
  two_streams bytes shared stream other = elim (cases_eq stream other) [
    | inl same ↦ ap (λ (x : ℕ). all_recorded (all_recorded bytes (log stream)) (log x)) (sym same) ∙ ap (λ (x : ℕ). all_recorded (all_recorded bytes (log x)) (log stream)) same
    | inr n ↦ logs_comm (log stream) (log other) bytes (shared.inside stream) (shared.inside other) (shared.free stream other n)
  ]

  longer : (bytes : List ℕ) → AreShared (length bytes) log → (stream : ℕ) → AreShared (length (all_recorded bytes (log stream))) log
  longer bytes shared stream = rw (all_recorded_length (log stream) bytes) shared

  -- the first stream in the place of a later one, and that one first
  first_swapped : (order : List ℕ) (j d : ℕ) → j < length order → (first : ℕ) (bytes : List ℕ) → AreShared (length bytes) log → put_on log (get_or order j d ∷ set order j first) bytes ≡ put_on log (first ∷ order) bytes
  unfolding put_on
  first_swapped [] j d h first bytes shared = absurd (omega arith)
  first_swapped (next ∷ order) zero d h first bytes shared = ap (put_on log order) (two_streams bytes shared next first)
  first_swapped (next ∷ order) (suc j) d h first bytes shared =
      ap (put_on log (set order j first)) (two_streams bytes shared (get_or order j d) next)
      ∙ first_swapped order j d (omega arith) first (all_recorded bytes (log next)) (longer bytes shared next)
      ∙ ap (put_on log order) (two_streams bytes shared next first)

  swapped : (order : List ℕ) (i j d : ℕ) → i < length order → j < length order → (bytes : List ℕ) → AreShared (length bytes) log → put_on log (set (set order i (get_or order j d)) j (get_or order i d)) bytes ≡ put_on log order bytes
  unfolding put_on
  swapped [] i j d p q bytes shared = absurd (omega arith)
  swapped (first ∷ order) zero zero d p q bytes shared = refl
  swapped (first ∷ order) zero (suc j) d p q bytes shared = first_swapped order j d (omega arith) first bytes shared
  swapped (first ∷ order) (suc i) zero d p q bytes shared = first_swapped order i d (omega arith) first bytes shared
  swapped (first ∷ order) (suc i) (suc j) d p q bytes shared = swapped order i j d (omega arith) (omega arith) (all_recorded bytes (log first)) (longer bytes shared first)

  pub any_order_of : (streams order : List ℕ) → IsPermutation streams order → (bytes : List ℕ) → AreShared (length bytes) log → put_on log order bytes ≡ put_on log streams bytes
  any_order_of streams order same bytes shared =
      IsPermutation-keeps streams (λ some. put_on log some bytes ≡ put_on log streams bytes) refl
      (λ some i j p q h. ap (λ (l : List ℕ). put_on log l bytes) (sym (swap_is some i j 0 p q)) ∙ swapped some i j 0 p q bytes shared ∙ h)
      order same

-- the logs of streams, of which one has changed
module _ (log new : ℕ → List Rec) (stream : ℕ) (others : (other : ℕ) → other ≢ stream → new other ≡ log other) where
  -- the streams behind the changed one do what they did
  stays : (count from : ℕ) → stream < from → (bytes : List ℕ) → put_on new (range_with_len from count) bytes ≡ put_on log (range_with_len from count) bytes
  unfolding put_on
  stays zero from h bytes = refl
  stays (suc count) from h bytes =
      ap (λ (l : List Rec). put_on new (range_with_len (from + 1) count) (all_recorded bytes l)) (others from (omega arith))
      ∙ stays count (from + 1) (omega arith) (all_recorded bytes (log from))

  -- the log of the changed stream put on the bytes before, and that stream none
  pub taken : new stream ≡ [] → (count from : ℕ) → from ≤ stream → stream < from + count → (bytes : List ℕ) → AreShared (length bytes) log
      → put_on new (range_with_len from count) (all_recorded bytes (log stream)) ≡ put_on log (range_with_len from count) bytes
  unfolding put_on
  taken none zero from h i bytes shared = absurd (omega arith)
  taken none (suc count) from h i bytes shared = elim (cases_eq from stream) [
    | inl same ↦
        ap (λ (l : List Rec). put_on new (range_with_len (from + 1) count) (all_recorded (all_recorded bytes (log stream)) l)) (ap new same ∙ none)
        ∙ ap (λ (x : ℕ). put_on new (range_with_len (from + 1) count) (all_recorded bytes (log x))) (sym same)
        ∙ stays count (from + 1) (omega arith) (all_recorded bytes (log from))
    | inr n ↦
        ap (λ (l : List Rec). put_on new (range_with_len (from + 1) count) (all_recorded (all_recorded bytes (log stream)) l)) (others from n)
        ∙ ap (put_on new (range_with_len (from + 1) count)) (two_streams log bytes shared stream from)
        ∙ taken none count (from + 1) (omega arith) (omega arith) (all_recorded bytes (log from)) (longer log bytes shared from)
  ]

  module _ (rec : Rec) (free : (other : ℕ) → other ≢ stream → All (AreFree rec) (log other)) where
    -- the record put on the bytes before the logs of streams that it doesn't disturb
    past : (count from : ℕ) → stream < from → (bytes : List ℕ) → IsInside (length bytes) (acts_at rec) → AreShared (length bytes) log
        → put_on log (range_with_len from count) (recorded bytes rec) ≡ recorded (put_on log (range_with_len from count) bytes) rec
    unfolding put_on
    past zero from h bytes i shared = refl
    past (suc count) from h bytes i shared =
        ap (put_on log (range_with_len (from + 1) count)) (one_past (log from) bytes rec i (shared.inside from) (free from (omega arith)))
        ∙ past count (from + 1) (omega arith) (all_recorded bytes (log from)) (rw (all_recorded_length (log from) bytes) i) (longer log bytes shared from)

    -- the changed stream does the record at its end: so do all streams
    pub grown : (size : ℕ) → ((bytes : List ℕ) → length bytes ≡ size → all_recorded bytes (new stream) ≡ recorded (all_recorded bytes (log stream)) rec)
        → (count from : ℕ) → from ≤ stream → stream < from + count → (bytes : List ℕ) → length bytes ≡ size → IsInside (length bytes) (acts_at rec) → AreShared (length bytes) log
        → put_on new (range_with_len from count) bytes ≡ recorded (put_on log (range_with_len from count) bytes) rec
    unfolding put_on
    grown size does zero from h k bytes e i shared = absurd (omega arith)
    grown size does (suc count) from h k bytes e i shared = elim (cases_eq from stream) [
      | inl same ↦
          ap (λ (x : ℕ). put_on new (range_with_len (from + 1) count) (all_recorded bytes (new x))) same
          ∙ ap (put_on new (range_with_len (from + 1) count)) (does bytes e)
          ∙ stays count (from + 1) (omega arith) (recorded (all_recorded bytes (log stream)) rec)
          ∙ past count (from + 1) (omega arith) (all_recorded bytes (log stream)) (rw (all_recorded_length (log stream) bytes) i) (longer log bytes shared stream)
          ∙ ap (λ (x : ℕ). recorded (put_on log (range_with_len (from + 1) count) (all_recorded bytes (log x))) rec) (sym same)
      | inr n ↦
          ap (λ (l : List Rec). put_on new (range_with_len (from + 1) count) (all_recorded bytes l)) (others from n)
          ∙ grown size does count (from + 1) (omega arith) (omega arith) (all_recorded bytes (log from)) (all_recorded_length (log from) bytes ∙ e)
          (rw (all_recorded_length (log from) bytes) i) (longer log bytes shared from)
    ]
