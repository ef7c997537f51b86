-- The laws of logs of streams over one base.
use Rattle.std.proofs.Common.{◌≡◌, ◌≢◌, ℕ, ◌<◌, true, List, [], ◌∷◌, ◌++◌, length, refl, sym, ap, subst, ◌∙◌, arith, append_assoc, inl, inr}
use Rattle.std.specs.List.{All, range_with_len}
use Rattle.std.specs.List.Sorted.{IsPermutation}
use Rattle.std.proofs.lemmas.Bool.{cases_eq}
use Rattle.std.proofs.lemmas.List.Elements.{All-nil}
use Rattle.ccfs_base.specs.declared.records.Rec.{Rec}
use Rattle.ccfs_base.specs.declared.records.Rec.TheVariants as recs
use Rattle.ccfs_base.specs.Records.{recorded, all_recorded, AreInside, AreFree}
use Rattle.ccfs_base.specs.Logs.{Call, IsLogged}
use Rattle.range_log.specs.Ranges.{is_range}
use Rattle.delta_log.specs.Deltas.{is_delta}
use Rattle.delta_log.specs.Laws.{AllFree}
use Rattle.delta_log.proofs.Records.{all_recorded_length, all_recorded-append, one_past}
use Rattle.shared_meta.specs.Area.{Area, put_on, log_of, all_streams, standing, standing_in, IsShared, MayLog, IsLoggedIn, IsLoggedWhere, IsSealed, AreKept}
use Rattle.shared_meta.proofs.Free.{all_free_of, one_free, free_before, free_behind, first_free, rest_free, free_of_first, free_of_rest, free_of_none, inside_append, inside_first, inside_rest}
use Rattle.shared_meta.proofs.Order.{AreShared, any_order_of, taken, grown}

pub shared_logs : (a : Area) → IsShared a → AreShared (length a.base) (log_of a)
shared_logs a shared = record { inside = shared.inside; free = shared.free }

pub any_order : (a : Area) (order : List ℕ) → IsShared a → IsPermutation all_streams order → standing_in order a ≡ standing a
any_order a order shared same = any_order_of (log_of a) all_streams order same a.base (shared_logs a shared)

-- the logs of two areas are the same where both kinds of records are
logs_kept : (old new : Area) (stream : ℕ) → new.ranges stream ≡ old.ranges stream → new.deltas stream ≡ old.deltas stream → log_of new stream ≡ log_of old stream
logs_kept old new stream r d = ap (λ (l : List Rec). l ++ new.deltas stream) r ∙ ap (λ (l : List Rec). old.ranges stream ++ l) d

-- What the log of a call's stream is, and that the others stayed.
record IsGrown (old : Area) (call : Call) (new : Area) : Type 0 where
  does : (bytes : List ℕ) → length bytes ≡ length old.base → all_recorded bytes (log_of new call.stream) ≡ recorded (all_recorded bytes (log_of old call.stream)) call.rec
  inside : AreInside (length old.base) (log_of new call.stream)
  free : (other : List Rec) → AllFree (log_of old call.stream) other → All (AreFree call.rec) other → AllFree (log_of new call.stream) other
  freed : (other : List Rec) → AllFree other (log_of old call.stream) → All (AreFree call.rec) other → AllFree other (log_of new call.stream)
  others : (other : ℕ) → other ≢ call.stream → log_of new other ≡ log_of old other

-- a range went between the ranges, and the raises and flips
range_grown : (old new : Area) (call : Call) → IsShared old → MayLog old call → is_range call.rec ≡ true → IsLogged old.ranges call new.ranges → AreKept old.deltas new.deltas → IsGrown old call new
range_grown old new call shared may range logged kept =
    let rs : List Rec = old.ranges call.stream in
    let ds : List Rec = old.deltas call.stream in
    let now : log_of new call.stream ≡ (rs ++ call.rec ∷ []) ++ ds = ap (λ (l : List Rec). l ++ new.deltas call.stream) logged.own ∙ ap (λ (l : List Rec). (rs ++ call.rec ∷ []) ++ l) (kept call.stream) in
    let size : ℕ = length old.base in
    let rs_in : AreInside size rs = inside_first size rs ds (shared.inside call.stream) in
    let ds_in : AreInside size ds = inside_rest size rs ds (shared.inside call.stream) in
    record {
      does = λ bytes e.
          let long : length (all_recorded bytes rs) ≡ size = all_recorded_length rs bytes ∙ e in
          ap (all_recorded bytes) now ∙ all_recorded-append (rs ++ call.rec ∷ []) ds bytes ∙ ap (λ (z : List ℕ). all_recorded z ds) (all_recorded-append rs (call.rec ∷ []) bytes)
          ∙ one_past ds (all_recorded bytes rs) call.rec (rw long may.inside) (rw long ds_in) (may.own range)
          ∙ ap (λ (z : List ℕ). recorded z call.rec) (sym (all_recorded-append rs ds bytes));
      inside = rw now (inside_append size (rs ++ call.rec ∷ []) ds (inside_append size rs (call.rec ∷ []) rs_in (may.inside, tt)) ds_in);
      free = λ other f r. rw now
          (free_before (rs ++ call.rec ∷ []) ds other (free_before rs (call.rec ∷ []) other (first_free rs ds other f) (one_free call.rec other r)) (rest_free rs ds other f));
      freed = λ other f r. rw now
          (free_behind other (rs ++ call.rec ∷ []) ds (free_behind other rs (call.rec ∷ []) (free_of_first other rs ds f) (all_free_of call.rec other r)) (free_of_rest other rs ds f));
      others = λ other n. logs_kept old new other (logged.others other n) (kept other);
    }

-- a raise or a flip went to the end
delta_grown : (old new : Area) (call : Call) → IsShared old → MayLog old call → AreKept old.ranges new.ranges → IsLogged old.deltas call new.deltas → IsGrown old call new
delta_grown old new call shared may kept logged =
    let log : List Rec = log_of old call.stream in
    let rs : List Rec = old.ranges call.stream in
    let ds : List Rec = old.deltas call.stream in
    let now : log_of new call.stream ≡ log ++ call.rec ∷ [] =
    ap (λ (l : List Rec). l ++ new.deltas call.stream) (kept call.stream) ∙ ap (λ (l : List Rec). rs ++ l) logged.own ∙ sym (append_assoc rs ds (call.rec ∷ [])) in
    let size : ℕ = length old.base in
    record {
      does = λ bytes e. ap (all_recorded bytes) now ∙ all_recorded-append log (call.rec ∷ []) bytes;
      inside = rw now (inside_append size log (call.rec ∷ []) (shared.inside call.stream) (may.inside, tt));
      free = λ other f r. rw now (free_before log (call.rec ∷ []) other f (one_free call.rec other r));
      freed = λ other f r. rw now (free_behind other log (call.rec ∷ []) f (all_free_of call.rec other r));
      others = λ other n. logs_kept old new other (kept other) (logged.others other n);
    }

grown_of : (old new : Area) (call : Call) → IsShared old → MayLog old call → IsLoggedIn old call new → (rec : Rec) → call.rec ≡ rec → IsGrown old call new
grown_of old new call shared may logged (recs.Range off bytes) e =
    range_grown old new call shared may (ap is_range e) (subst (λ (r : Rec). IsLoggedWhere (is_range r) old.ranges call new.ranges) e logged.ranges) (subst (λ (r : Rec). IsLoggedWhere (is_delta r) old.deltas call new.deltas) e logged.deltas)
grown_of old new call shared may logged (recs.Add off by) e =
    delta_grown old new call shared may (subst (λ (r : Rec). IsLoggedWhere (is_range r) old.ranges call new.ranges) e logged.ranges) (subst (λ (r : Rec). IsLoggedWhere (is_delta r) old.deltas call new.deltas) e logged.deltas)
grown_of old new call shared may logged (recs.Bit off bit on) e =
    delta_grown old new call shared may (subst (λ (r : Rec). IsLoggedWhere (is_range r) old.ranges call new.ranges) e logged.ranges) (subst (λ (r : Rec). IsLoggedWhere (is_delta r) old.deltas call new.deltas) e logged.deltas)

-- the logs of other streams stayed
pub others_stay : (old new : Area) (call : Call) → IsShared old → MayLog old call → IsLoggedIn old call new → (other : ℕ) → other ≢ call.stream → log_of new other ≡ log_of old other
others_stay old new call shared may logged = (grown_of old new call shared may logged call.rec refl).others

-- the logs stay apart
still_free : (old new : Area) (call : Call) → IsShared old → MayLog old call → IsGrown old call new → (stream other : ℕ) → stream ≢ other → AllFree (log_of new stream) (log_of new other)
still_free old new call shared may got stream other n = elim (cases_eq stream call.stream) [
  | inl same ↦
      let m : other ≢ call.stream = λ e. n (same ∙ sym e) in
      subst (λ (l : List Rec). AllFree (log_of new stream) l) (sym (got.others other m))
      (subst (λ (s : ℕ). AllFree (log_of new s) (log_of old other)) (sym same)
      (got.free (log_of old other) (shared.free call.stream other (λ e. m (sym e))) (may.others other m)))
  | inr m ↦ subst (λ (l : List Rec). AllFree l (log_of new other)) (sym (got.others stream m)) (elim (cases_eq other call.stream) [
    | inl same ↦ subst (λ (s : ℕ). AllFree (log_of old stream) (log_of new s)) (sym same) (got.freed (log_of old stream) (shared.free stream call.stream m) (may.others stream m))
    | inr k ↦ subst (λ (l : List Rec). AllFree (log_of old stream) l) (sym (got.others other k)) (shared.free stream other n)
  ])
]

still_inside : (old new : Area) (call : Call) → IsShared old → IsGrown old call new → (stream : ℕ) → AreInside (length old.base) (log_of new stream)
still_inside old new call shared got stream = elim (cases_eq stream call.stream) [
  | inl same ↦ subst (λ (s : ℕ). AreInside (length old.base) (log_of new s)) (sym same) got.inside
  | inr m ↦ subst (AreInside (length old.base)) (sym (got.others stream m)) (shared.inside stream)
]

pub calls_are_recorded : (old new : Area) (call : Call) → IsShared old → MayLog old call → IsLoggedIn old call new
    → IsShared new × (standing new ≡ recorded (standing old) call.rec)
unfolding all_streams
calls_are_recorded old new call shared may logged =
    let got : IsGrown old call new = grown_of old new call shared may logged call.rec refl in (
      record {
        inside = λ stream. subst (λ (b : List ℕ). AreInside (length b) (log_of new stream)) (sym logged.base) (still_inside old new call shared got stream);
        free = still_free old new call shared may got;
      },
      ap (put_on (log_of new) (range_with_len 0 64)) logged.base
          ∙ grown (log_of old) (log_of new) call.stream got.others call.rec may.others (length old.base) got.does 64 0 (omega arith) may.stream old.base refl may.inside (shared_logs old shared),
    )

pub seals_keep : (old new : Area) (stream : ℕ) → stream < 64 → IsShared old → IsSealed old stream new → IsShared new × (standing new ≡ standing old)
unfolding all_streams
seals_keep old new stream h shared sealed =
    let none : log_of new stream ≡ [] = ap (λ (l : List Rec). l ++ new.deltas stream) sealed.ranges.own ∙ sealed.deltas.own in
    let others : (other : ℕ) → other ≢ stream → log_of new other ≡ log_of old other = λ other n. logs_kept old new other (sealed.ranges.others other n) (sealed.deltas.others other n) in
    let long : length new.base ≡ length old.base = ap length sealed.base ∙ all_recorded_length (log_of old stream) old.base in (
      record {
        inside = λ some. elim (cases_eq some stream) [
          | inl same ↦ subst (λ (s : ℕ). AreInside (length new.base) (log_of new s)) (sym same) (subst (AreInside (length new.base)) (sym none) tt)
          | inr n ↦ subst (AreInside (length new.base)) (sym (others some n)) (rw long (shared.inside some))
        ];
        free = λ some other n. elim (cases_eq some stream) [
          | inl same ↦ subst (λ (s : ℕ). AllFree (log_of new s) (log_of new other)) (sym same) (subst (λ (l : List Rec). AllFree l (log_of new other)) (sym none) (All-nil (λ (rec : Rec). All (AreFree rec) (log_of new other))))
          | inr m ↦ subst (λ (l : List Rec). AllFree l (log_of new other)) (sym (others some m)) (elim (cases_eq other stream) [
            | inl same ↦ subst (λ (s : ℕ). AllFree (log_of old some) (log_of new s)) (sym same) (subst (AllFree (log_of old some)) (sym none) (free_of_none (log_of old some)))
            | inr k ↦ subst (AllFree (log_of old some)) (sym (others other k)) (shared.free some other n)
          ])
        ];
      },
      ap (put_on (log_of new) (range_with_len 0 64)) sealed.base
          ∙ taken (log_of old) (log_of new) stream others none 64 0 (omega arith) h old.base (shared_logs old shared),
    )
