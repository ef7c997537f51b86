-- The room for operations, as lists change.
use Rattle.std.proofs.Common.{◌≡◌, ◌≢◌, ℕ, ◌+◌, ◌<◌, ◌≤◌, max, inl, inr, List, [], ◌++◌, length, set, ap, ◌∙◌, arith}
use Rattle.std.proofs.lemmas.Bool.{cases_eq}
use Rattle.std.proofs.lemmas.List.{get_or-set_same, get_or-set_other}
use Rattle.file_bodies.specs.declared.ops.BodyOp.{BodyOp}
use Rattle.stream_txn.specs.Held.{ops_at, number_at, with_ops, HasRoom, NoneFell}

-- no memory was lost, and the operations stayed
pub room_grown : (logs new : List (List BodyOp)) (spaces more : List ℕ) → new ≡ logs → NoneFell spaces more
    → (s count : ℕ) → HasRoom logs spaces s count → HasRoom new more s count
room_grown logs new spaces more same fell s count h =
    let had : length (ops_at logs s) + count ≤ max (number_at spaces s) count = h in
    let grew : number_at spaces s ≤ number_at more s = fell s in
    omega (arith, ap (λ z. length (ops_at z s)) same)

-- the operations of another stream grew
pub room_added : (logs new : List (List BodyOp)) (spaces more : List ℕ) (stream : ℕ) (ops : List BodyOp) → new ≡ with_ops logs stream ops → NoneFell spaces more
    → (s count : ℕ) → s ≢ stream → HasRoom logs spaces s count → HasRoom new more s count
room_added logs new spaces more stream ops is fell s count n h =
    let same : ops_at new s ≡ ops_at logs s = ap (λ z. ops_at z s) is ∙ get_or-set_other logs stream s (ops_at logs stream ++ ops) [] n in
    let had : length (ops_at logs s) + count ≤ max (number_at spaces s) count = h in
    let grew : number_at spaces s ≤ number_at more s = fell s in
    omega (arith, ap length same)

-- the operations of a stream were handed out, and the memory of the others stayed
pub room_taken : (logs new : List (List BodyOp)) (spaces more : List ℕ) (stream : ℕ) → stream < length logs → new ≡ set logs stream []
    → ((other : ℕ) → other ≢ stream → number_at more other ≡ number_at spaces other)
    → (s count : ℕ) → HasRoom logs spaces s count → HasRoom new more s count
room_taken logs new spaces more stream l is kept s count h = elim (cases_eq s stream) [
  | inl e ↦
      let none : ops_at new s ≡ [] = ap (ops_at new) e ∙ ap (λ z. ops_at z stream) is ∙ get_or-set_same logs stream [] [] l in
      omega (arith, ap length none)
  | inr n ↦
      let same : ops_at new s ≡ ops_at logs s = ap (λ z. ops_at z s) is ∙ get_or-set_other logs stream s [] [] n in
      let had : length (ops_at logs s) + count ≤ max (number_at spaces s) count = h in
      let places : number_at more s ≡ number_at spaces s = kept s n in
      omega (arith, ap length same)
]
