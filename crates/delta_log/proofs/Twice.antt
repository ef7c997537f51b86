-- Ranges that are put on bytes twice.
use Rattle.std.proofs.Common.{◌≡◌, ◌⊎◌, ℕ, ◌+◌, ◌-◌, ◌<◌, ◌≤◌, List, [], ◌∷◌, length, get_or, refl, sym, ap, ◌∙◌, arith, inl, inr}
use Rattle.std.proofs.lemmas.Bool.{cases_lt}
use Rattle.std.proofs.lemmas.List.{ext_get_or}
use Rattle.ccfs_base.specs.declared.records.Rec.{Rec}
use Rattle.ccfs_base.specs.declared.records.Rec.TheVariants as recs
use Rattle.ccfs_base.specs.Places.{put}
use Rattle.ccfs_base.specs.Records.{all_recorded, AreInside}
use Rattle.ccfs_base.proofs.Put.{length-put, get_or-put_in, get_or-put_out}
use Rattle.delta_log.specs.Laws.{deltas_of}
use Rattle.delta_log.proofs.Records.{all_recorded_length}

-- a place is in a range or not
cases_in : (from size x : ℕ) → ((from ≤ x) × (x < from + size)) ⊎ (from ≤ x → x < from + size → ⊥)
cases_in from size x = elim (cases_lt x from) [
  | inl a ↦ inr (λ p q. omega arith)
  | inr a ↦ elim (cases_lt x (from + size)) [
    | inl b ↦ inl (a, b)
    | inr b ↦ inr (λ p q. omega arith)
  ]
]

-- the byte at a place after the log: the same whatever the bytes, or as before
abbrev IsGiven : ℕ → List Rec → ℕ → Type 0
IsGiven size log x = (b : ℕ) × ((bytes : List ℕ) → length bytes ≡ size → get_or (all_recorded bytes log) x 0 ≡ b)

abbrev IsLeft : ℕ → List Rec → ℕ → Type 0
IsLeft size log x = (bytes : List ℕ) → length bytes ≡ size → get_or (all_recorded bytes log) x 0 ≡ get_or bytes x 0

-- one range more before ranges that leave the byte
one_more : (size : ℕ) (log : List Rec) (off : ℕ) (new : List ℕ) (x : ℕ) → off + length new ≤ size → IsLeft size log x
    → IsGiven size (recs.Range off new ∷ log) x ⊎ IsLeft size (recs.Range off new ∷ log) x
one_more size log off new x i f = elim (cases_in off (length new) x) [
  | inl c ↦
      let e : x ≡ off + (x - off) = omega (arith, c.0) in
      inl (
        get_or new (x - off) 0,
        λ bytes h.
            f (put bytes off new) (length-put new bytes off ∙ h)
            ∙ ap (λ (z : ℕ). get_or (put bytes off new) z 0) e
            ∙ get_or-put_in new bytes off (x - off) 0 (omega (arith, c.0, c.1)) (omega arith),
      )
  | inr o ↦ inr (λ bytes h. f (put bytes off new) (length-put new bytes off ∙ h) ∙ get_or-put_out new bytes off x 0 o)
]

given_or_left : (size : ℕ) (log : List Rec) (x : ℕ) → AreInside size log → deltas_of log ≡ [] → IsGiven size log x ⊎ IsLeft size log x
given_or_left size [] x i d = inr (λ bytes h. refl)
given_or_left size (recs.Range off new ∷ log) x i d = elim (given_or_left size log x i.1 d) [
  | inl g ↦ inl (g.0, λ bytes h. g.1 (put bytes off new) (length-put new bytes off ∙ h))
  | inr f ↦ one_more size log off new x i.0 f
]
given_or_left size (recs.Add off by ∷ log) x i d = absurd (cc)
given_or_left size (recs.Bit off bit on ∷ log) x i d = absurd (cc)

pub replayed_twice : (bytes : List ℕ) (log : List Rec) → AreInside (length bytes) log → deltas_of log ≡ []
    → all_recorded (all_recorded bytes log) log ≡ all_recorded bytes log
replayed_twice bytes log i d =
    ext_get_or 0 (all_recorded (all_recorded bytes log) log) (all_recorded bytes log) (all_recorded_length log (all_recorded bytes log))
    (λ x l. elim (given_or_left (length bytes) log x i d) [
      | inl g ↦ g.1 (all_recorded bytes log) (all_recorded_length log bytes) ∙ sym (g.1 bytes refl)
      | inr f ↦ f (all_recorded bytes log) (all_recorded_length log bytes)
    ])
