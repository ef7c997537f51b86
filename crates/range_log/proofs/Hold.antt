-- What is held stays so when a range is put and when a log is taken.
use Rattle.std.proofs.Common.{◌≡◌, ℕ, ◌<◌, ◌≤◌, true, List, [], length, refl, sym, subst, ◌∙◌, arith}
use Rattle.std.specs.Prelude.{Result, Ok, Err, OnOk, OnErr}
use Rattle.std.specs.List.{list_all}
use Rattle.ccfs_base.specs.declared.records.Rec.{Rec}
use Rattle.ccfs_base.specs.declared.records.Rec.TheVariants as recs
use Rattle.ccfs_base.specs.Logs.{IsLogged, IsTaken, AreSame}
use Rattle.record_logs.specs.Kept.{LogLists, log_of, logs_of, call_by}
use Rattle.range_log.specs.Ranges.{range_call, is_clear_of, is_range, is_apart_from, IsHeld}
use Rattle.range_log.proofs.Apart.{ranges_put, ranges_taken, apart_put, apart_taken}

-- A range that is clear of the other streams was put.
pub held_put : (old new : ℕ → List Rec) (stream off : ℕ) (bytes : List ℕ) → stream < 64 → is_clear_of old stream off (length bytes) ≡ true
    → IsLogged old (range_call stream off bytes) new → IsHeld old → IsHeld new
held_put old new stream off bytes below clear put h = record {
  ranges = ranges_put old new stream off bytes put h.ranges;
  apart = apart_put old new stream off bytes put clear h.none h.apart;
  none = λ (s : ℕ) (past : 64 ≤ s). put.others s (λ (e : s ≡ stream). absurd (omega arith)) ∙ h.none s past;
}

-- A log was taken.
pub held_taken : (old new : ℕ → List Rec) (stream : ℕ) → stream < 64 → IsTaken old stream new → IsHeld old → IsHeld new
held_taken old new stream below taken h = record {
  ranges = ranges_taken old new stream taken h.ranges;
  apart = apart_taken old new stream taken h.apart;
  none = λ (s : ℕ) (past : 64 ≤ s). taken.others s (λ (e : s ≡ stream). absurd (omega arith)) ∙ h.none s past;
}

-- No log changed.
pub held_same : (old new : ℕ → List Rec) → ((s : ℕ) → new s ≡ old s) → IsHeld old → IsHeld new
held_same old new same h =
    let whole : old ≡ new = λ i. λ s. sym (same s) i in
    subst IsHeld whole h

-- No records.
pub held_none : (log : ℕ → List Rec) → ((s : ℕ) → log s ≡ []) → IsHeld log
held_none log none = record {
  ranges = λ (s : ℕ). subst (λ z. list_all is_range z ≡ true) (sym (none s)) refl;
  apart = λ (s : ℕ). subst (λ z. list_all (is_apart_from log s) z ≡ true) (sym (none s)) refl;
  none = λ (s : ℕ) (past : 64 ≤ s). none s;
}

-- What `push` left: a range more, or all as before.
pub held_pushed : {T E : Type 0} (result : Result T E) (old new : ℕ → List Rec) (stream off : ℕ) (bytes : List ℕ) (rec : Rec) → stream < 64
    → is_clear_of old stream off (length bytes) ≡ true → rec ≡ recs.Range off bytes → OnOk result (IsLogged old (call_by stream rec) new)
    → OnErr result ((s : ℕ) → new s ≡ old s) → IsHeld old → IsHeld new
held_pushed (Ok x) old new stream off bytes rec below clear is put same h =
    held_put old new stream off bytes below clear (subst (λ z. IsLogged old (call_by stream z) new) is put) h
held_pushed (Err e) old new stream off bytes rec below clear is put same h = held_same old new same h

-- the same logs and the same room are the same logs
pub same_logs : {T E : Type 0} (result : Result T E) (old new : LogLists) → OnErr result (AreSame (logs_of old) (logs_of new))
    → OnErr result ((s : ℕ) → log_of new s ≡ log_of old s)
same_logs (Ok x) old new h = tt
same_logs (Err e) old new h = h.0
