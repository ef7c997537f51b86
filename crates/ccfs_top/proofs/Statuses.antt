-- The statuses of stops.
use Rattle.std.proofs.Common.{◌≡◌, inl, inr, ℕ, sym, ap, ◌∙◌, subst, arith}
use Rattle.ccfs_top.specs.declared.stop.Stop.{Stop}
use Rattle.ccfs_top.specs.declared.stop.Stop.TheVariants.{Usage, Long, BadLine, NotBuilt, Source, Sink, Disk, BadImage, NoMemory}
use Rattle.ccfs_top.specs.Ends.{IsRefusedWith}
use Rattle.ccfs_top.specs.Runs.{Expected}
use Rattle.ccfs_top.specs.Stops.{Told, Decides, IsLate, IsOfScript}
use Rattle.ccfs_top.proofs.Closing.{OfScript}

-- no stop has status 0
pub never_zero : (s : Stop) (code : ℕ) → Told s code → code ≡ 0 → ⊥
never_zero Usage code (inl is) zero = omega (arith, is, zero)
never_zero Long code (inl is) zero = omega (arith, is, zero)
never_zero (BadLine line) code (inl is) zero = omega (arith, is, zero)
never_zero (NotBuilt line) code (inl is) zero = omega (arith, is, zero)
never_zero Source code (inl is) zero = omega (arith, is, zero)
never_zero Sink code (inl is) zero = omega (arith, is, zero)
never_zero Disk code (inl is) zero = omega (arith, is, zero)
never_zero (BadImage bad) code (inl is) zero = omega (arith, is, zero)
never_zero NoMemory code (inl is) zero = omega (arith, is, zero)
never_zero s code (inr nine) zero = let is = nine.0 in omega (arith, is, zero)

-- a stop of a script that can't be performed is by the script
pub of_script : (s : Stop) → OfScript s → IsOfScript s
of_script s kind = elim kind [
  | inl is ↦ subst IsOfScript (sym is) tt
  | inr (inl is) ↦ subst IsOfScript (sym is) tt
  | inr (inr (inl is)) ↦ subst IsOfScript (sym is) tt
  | inr (inr (inr (inl is))) ↦ subst IsOfScript (sym is.1) tt
  | inr (inr (inr (inr is))) ↦ subst IsOfScript (sym is.1) tt
]

-- and ends with the status that was to come, or by a fault of the source or of memory
pub unready_status : (e : Expected) (s : Stop) (code : ℕ) → Told s code → IsOfScript s → ((IsLate s → ⊥) → Decides e s) → IsRefusedWith e code
unready_status e Long code (inl is) kind decides = inl (is ∙ sym (ap (λ (z : Expected). z.status) (decides (λ no. no))))
unready_status e (BadLine line) code (inl is) kind decides = inl (is ∙ sym (ap (λ (z : Expected). z.status) (decides (λ no. no))))
unready_status e (NotBuilt line) code (inl is) kind decides = inl (is ∙ sym (ap (λ (z : Expected). z.status) (decides (λ no. no))))
unready_status e Source code (inl is) kind decides = inr (inl is)
unready_status e Usage code (inl is) kind decides = absurd kind
unready_status e Sink code (inl is) kind decides = absurd kind
unready_status e Disk code (inl is) kind decides = absurd kind
unready_status e (BadImage bad) code (inl is) kind decides = absurd kind
unready_status e NoMemory code (inl is) kind decides = inr (inr is)
unready_status e s code (inr nine) kind decides = inr (inr nine.0)
