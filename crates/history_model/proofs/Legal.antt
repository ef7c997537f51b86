-- Each list of calls has one legal history.
use Rattle.std.proofs.Common.{◌≡◌, ℕ, List, [], ◌∷◌, refl, ap, ◌∙◌}
use Rattle.std.specs.List.{AllByRecursion}
use Rattle.ccfs_base.specs.declared.commands.Command.{Command}
use Rattle.tree_model.specs.declared.rows.Entry.{Entry}
use Rattle.tree_cuts.specs.Calls.{Sizes}
use Rattle.history_model.specs.State.{Now}
use Rattle.history_model.specs.Histories.{MayCall, IsLegal, entered_by, entry_of, hist}
use Rattle.history_model.specs.Laws.{calls_in}

pub legal_is_hist : (sizes : Sizes) (n : Now) (h : List Entry) → IsLegal sizes n h → h ≡ hist sizes n (calls_in h)
legal_is_hist sizes n [] legal = refl
legal_is_hist sizes n (e ∷ h) legal =
    ap (λ (z : List Entry). e ∷ z) (legal_is_hist sizes (entered_by sizes n e) h legal.2)
    ∙ ap (λ (z : Entry). z ∷ hist sizes (entered_by sizes n z) (calls_in h)) legal.0

pub hist_is_legal : (sizes : Sizes) (n : Now) (cs : List (ℕ × Command)) → AllByRecursion (λ (c : ℕ × Command). MayCall c.0 c.1) cs → IsLegal sizes n (hist sizes n cs)
hist_is_legal sizes n [] may = tt
hist_is_legal sizes n (c ∷ cs) may = (refl, may.0, hist_is_legal sizes (entered_by sizes n (entry_of sizes n c.0 c.1)) cs may.1)

pub hist_of_calls : (sizes : Sizes) (n : Now) (cs : List (ℕ × Command)) → calls_in (hist sizes n cs) ≡ cs
hist_of_calls sizes n [] = refl
hist_of_calls sizes n (c ∷ cs) = ap (λ (z : List (ℕ × Command)). c ∷ z) (hist_of_calls sizes (entered_by sizes n (entry_of sizes n c.0 c.1)) cs)
