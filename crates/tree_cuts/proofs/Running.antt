-- More calls put steps behind those that there are.
use Rattle.std.proofs.Common.{◌≡◌, ℕ, List, [], ◌∷◌, ◌++◌, refl, sym, ap, ◌∙◌, append_assoc}
use Rattle.stream_cuts.specs.Streams.{Step, unsealed_after}
use Rattle.stream_cuts.proofs.Longer.{unsealed_append}
use Rattle.tree_model.specs.declared.rows.Update.{Update}
use Rattle.tree_model.specs.Rows.{Rows}
use Rattle.tree_cuts.specs.Calls.{Sizes, Charged, Call, tree_after, tree_after_all, plain, call_steps, steps_from, steps}
use Rattle.tree_cuts.proofs.Plain.{plain_append}

module _ (sizes : Sizes) where
  pub steps_longer : (t : Rows) (h : List (ℕ × Charged)) (calls more : List Call)
      → steps_from sizes t h (calls ++ more) ≡ steps_from sizes t h calls ++ steps_from sizes (tree_after_all t calls) (unsealed_after h (steps_from sizes t h calls)) more
  steps_longer t h [] more = refl
  steps_longer t h (call ∷ calls) more =
      let l : List (Step Charged) = call_steps sizes t h call in
      let g : List (ℕ × Charged) = unsealed_after h l in
      let k : List (Step Charged) = steps_from sizes (tree_after t call) g calls in
      ap (λ z. l ++ z) (steps_longer (tree_after t call) g calls more)
      ∙ sym (append_assoc l k (steps_from sizes (tree_after_all (tree_after t call) calls) (unsealed_after g k) more))
      ∙ ap (λ z. (l ++ k) ++ steps_from sizes (tree_after_all (tree_after t call) calls) z more) (sym (unsealed_append h l k))

  -- the steps that more calls add
  abbrev pub added : Rows → List Call → List Call → List (Step Update)
  added t calls more = plain (steps_from sizes (tree_after_all t calls) (unsealed_after [] (steps_from sizes t [] calls)) more)

  pub steps_added : (t : Rows) (calls more : List Call) → steps sizes t (calls ++ more) ≡ steps sizes t calls ++ added t calls more
  steps_added t calls more = ap plain (steps_longer t [] calls more)
      ∙ plain_append (steps_from sizes t [] calls) (steps_from sizes (tree_after_all t calls) (unsealed_after [] (steps_from sizes t [] calls)) more)
