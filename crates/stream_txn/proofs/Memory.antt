-- Lists of operations that lie in memory of their own.
use Rattle.std.proofs.Common.{◌≡◌, ◌≢◌, ℕ, zero, suc, inl, inr, ◌<◌, ◌≤◌, List, [], ◌∷◌, ◌++◌, length, set, get_or, refl, sym, ap, subst, ◌∙◌, arith, Vec, vec_items, vec_capacity}
use Rattle.std.proofs.lemmas.Bool.{cases_eq}
use Rattle.std.proofs.lemmas.List.{map-set, get_or-map, get_or-set_same, get_or-set_other, set-get_or}
use Rattle.file_bodies.specs.declared.ops.BodyOp.{BodyOp}
use Rattle.stream_txn.specs.Held.{ops_in, places_of, ops_at, number_at, with_ops, NoneFell}

pub length-ops : {Z : Type 0} (logs : List (Vec BodyOp Z)) → length (ops_in logs) ≡ length logs
length-ops [] = refl
length-ops (log ∷ more) = ap suc (length-ops more)

pub length-places : {Z : Type 0} (logs : List (Vec BodyOp Z)) → length (places_of logs) ≡ length logs
length-places [] = refl
length-places (log ∷ more) = ap suc (length-places more)

-- the operations of a list that lies in bounds
pub ops_read : {Z : Type 0} (logs : List (Vec BodyOp Z)) (at : ℕ) (d : Vec BodyOp Z) → at < length logs → ops_at (ops_in logs) at ≡ vec_items (get_or logs at d)
ops_read logs at d l = get_or-map _ logs at d [] l

pub places_read : {Z : Type 0} (logs : List (Vec BodyOp Z)) (at : ℕ) (d : Vec BodyOp Z) → at < length logs → number_at (places_of logs) at ≡ vec_capacity (get_or logs at d)
places_read logs at d l = get_or-map _ logs at d 0 l

-- no list's memory has shrunk, where one was replaced by one with as much memory
pub none_fell : {Z : Type 0} (logs : List (Vec BodyOp Z)) (at : ℕ) (v d : Vec BodyOp Z) → at < length logs → vec_capacity (get_or logs at d) ≤ vec_capacity v
    → NoneFell (places_of logs) (places_of (set logs at v))
none_fell logs at v d l h x = subst (λ z. get_or (places_of logs) x 0 ≤ get_or z x 0) (sym (map-set _ logs at v)) (elim (cases_eq x at) [
  | inl e ↦
      let m : at < length (places_of logs) = omega (arith, length-places logs) in
      let p : get_or (set (places_of logs) at (vec_capacity v)) at 0 ≡ vec_capacity v = get_or-set_same (places_of logs) at (vec_capacity v) 0 m in
      let q : get_or (places_of logs) at 0 ≡ vec_capacity (get_or logs at d) = places_read logs at d l in
      let r : get_or (places_of logs) at 0 ≤ get_or (set (places_of logs) at (vec_capacity v)) at 0 = omega arith in
      subst (λ z. get_or (places_of logs) z 0 ≤ get_or (set (places_of logs) at (vec_capacity v)) z 0) (sym e) r
  | inr n ↦
      let p : get_or (set (places_of logs) at (vec_capacity v)) x 0 ≡ get_or (places_of logs) x 0 = get_or-set_other (places_of logs) at x (vec_capacity v) 0 n in
      omega arith
])

-- the operations where a list was replaced by one with the same operations
pub ops_same : {Z : Type 0} (logs : List (Vec BodyOp Z)) (at : ℕ) (v d : Vec BodyOp Z) → vec_items v ≡ vec_items (get_or logs at d)
    → ops_in (set logs at v) ≡ ops_in logs
ops_same logs at v d e =
    map-set _ logs at v ∙ ap (λ z. set (ops_in logs) at z) e ∙ sym (map-set _ logs at (get_or logs at d)) ∙ ap ops_in (set-get_or logs at d)

-- the operations where a list was replaced by one with more behind its own
pub ops_last : {Z : Type 0} (logs : List (Vec BodyOp Z)) (at stream : ℕ) (v d : Vec BodyOp Z) (ops : List BodyOp) → at ≡ stream → at < length logs
    → vec_items v ≡ vec_items (get_or logs at d) ++ ops → ops_in (set logs at v) ≡ with_ops (ops_in logs) stream ops
ops_last logs at stream v d ops same l e =
    subst (λ z. ops_in (set logs at v) ≡ with_ops (ops_in logs) z ops) same
    (map-set _ logs at v ∙ ap (λ z. set (ops_in logs) at z) (e ∙ ap (λ z. z ++ ops) (sym (ops_read logs at d l))))

-- the operations where a list was replaced by an empty one
pub ops_none : {Z : Type 0} (logs : List (Vec BodyOp Z)) (at stream : ℕ) (v : Vec BodyOp Z) → at ≡ stream → vec_items v ≡ []
    → ops_in (set logs at v) ≡ set (ops_in logs) stream []
ops_none logs at stream v same e = map-set _ logs at v ∙ ap (λ z. set (ops_in logs) at z) e ∙ ap (λ z. set (ops_in logs) z []) same

-- the places where a list was replaced
pub places_at : {Z : Type 0} (logs : List (Vec BodyOp Z)) (at stream : ℕ) (v : Vec BodyOp Z) → at ≡ stream → at < length logs
    → number_at (places_of (set logs at v)) stream ≡ vec_capacity v
places_at logs at stream v same l =
    let m : at < length (places_of logs) = omega (arith, length-places logs) in
    subst (λ z. get_or (places_of (set logs at v)) z 0 ≡ vec_capacity v) same
    (ap (λ z. get_or z at 0) (map-set _ logs at v) ∙ get_or-set_same (places_of logs) at (vec_capacity v) 0 m)

-- the places of the other lists
pub places_other : {Z : Type 0} (logs : List (Vec BodyOp Z)) (at other : ℕ) (v : Vec BodyOp Z) → other ≢ at
    → number_at (places_of (set logs at v)) other ≡ number_at (places_of logs) other
places_other logs at other v n =
    ap (λ z. get_or z other 0) (map-set _ logs at v) ∙ get_or-set_other (places_of logs) at other (vec_capacity v) 0 n

-- no operations, where each list is empty
pub all_none : {Z : Type 0} (logs : List (Vec BodyOp Z)) (at : ℕ) → ((k : ℕ) (d : Vec BodyOp Z) → k < length logs → vec_items (get_or logs k d) ≡ [])
    → ops_at (ops_in logs) at ≡ []
all_none [] at h = refl
all_none (log ∷ more) zero h = h 0 log (omega arith)
all_none {Z} (log ∷ more) (suc at) h = all_none more at (λ (k : ℕ) (d : Vec BodyOp Z) (l : k < length more). h (suc k) d (omega arith))
