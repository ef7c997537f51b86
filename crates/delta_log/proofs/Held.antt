-- The logs hold raises and flips alone after one more was logged.
use Rattle.std.proofs.Common.{◌≡◌, ℕ, true, List, [], ◌∷◌, refl, ap, ◌∙◌, inl, inr}
use Rattle.std.specs.List.{list_all}
use Rattle.std.proofs.lemmas.Bool.{cases_eq}
use Rattle.std.proofs.lemmas.List.Folds.{list_all-append}
use Rattle.ccfs_base.specs.declared.records.Rec.{Rec}
use Rattle.ccfs_base.specs.Logs.{IsLogged}
use Rattle.record_logs.specs.Kept.{call_by}
use Rattle.delta_log.specs.Deltas.{is_delta, AreDeltas}

-- A raise or a flip was logged.
pub deltas_logged : (old new : ℕ → List Rec) (stream : ℕ) (rec : Rec) → is_delta rec ≡ true → IsLogged old (call_by stream rec) new
    → AreDeltas old → AreDeltas new
deltas_logged old new stream rec delta logged h s = elim (cases_eq s stream) [
  | inl e ↦
      ap (λ z. list_all is_delta (new z)) e ∙ ap (list_all is_delta) logged.own ∙ list_all-append is_delta (old stream) (rec ∷ [])
      ∙ rw (h stream, delta) refl
  | inr n ↦ ap (list_all is_delta) (logged.others s n) ∙ h s
]
