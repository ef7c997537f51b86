-- Two updates that don't meet apply in either order and do the same.
use Rattle.std.proofs.Common.{◌≡◌, ℕ, List, [], ◌∷◌, sym, subst}
use Rattle.std.specs.Prelude.{true, false}
use Rattle.std.specs.List.{AllByRecursion}
use Rattle.std.proofs.lemmas.Bool.{false_from_ne_true}
use Rattle.tree_model.specs.declared.rows.Update.{Update}
use Rattle.tree_model.specs.Rows.{IsTree, Rows}
use Rattle.tree_model.specs.Updates.{Edit, Rework, Refill, Place, Count, edits, apply, Fits}
use Rattle.tree_model.specs.Keys.{meets}
use Rattle.tree_model.specs.Laws.{UpdatesSwap}
use Rattle.tree_model.proofs.Edited.{Commute, Free, count_count, count_place, place_refill, commute_back, edited_swap}
use Rattle.tree_model.proofs.Locks.{no_entry, no_node, no_node_back, Stands, LockAt, Locked, locks}
use Rattle.tree_model.proofs.Framed.{fits_forth, fits_back, apart_from, apart_back}
use Rattle.tree_model.proofs.TreeKept.{tree_kept}

free_pair : (t : Rows) (u v : Update) → meets u v ≡ false → (x : ℕ) (e f : Edit) → LockAt t u x e → LockAt (apply t u) v x f → Commute e f
free_pair t u v m x (Rework g) (Rework h) a b = absurd (no_node u v x true m a.0 b.0)
free_pair t u v m x (Rework g) (Refill h) a b = absurd (no_node u v x true m a.0 b)
free_pair t u v m x (Rework g) (Place d n) a b =
    let s : Stands (apply t u) x = b.1 in absurd (no_entry u v s.0 s.1 m (a.1.1 s.0 s.1 s.2) (b.0.0 s.0 s.1 s.2))
free_pair t u v m x (Rework g) Count a b = absurd (no_node u v x false m a.0 b)
free_pair t u v m x (Refill g) (Rework h) a b = absurd (no_node u v x true m a b.0)
free_pair t u v m x (Refill g) (Refill h) a b = absurd (no_node u v x true m a b)
free_pair t u v m x (Refill g) (Place d n) a b = commute_back (Place d n) (Refill g) (place_refill d n g)
free_pair t u v m x (Refill g) Count a b = absurd (no_node u v x false m a b)
free_pair t u v m x (Place d n) (Rework h) a b =
    let s : Stands (apply t u) x = a.2 in absurd (no_entry u v s.0 s.1 m (a.0.1 s.0 s.1 s.2) (b.1.0 s.0 s.1 s.2))
free_pair t u v m x (Place d n) (Refill h) a b = place_refill d n h
free_pair t u v m x (Place d n) (Place e k) a b =
    let s : Stands (apply t u) x = b.1 in absurd (no_entry u v s.0 s.1 m (a.0.1 s.0 s.1 s.2) (b.0.0 s.0 s.1 s.2))
free_pair t u v m x (Place d n) Count a b = commute_back Count (Place d n) (count_place d n)
free_pair t u v m x Count (Rework h) a b = absurd (no_node_back u v x false m a b.0)
free_pair t u v m x Count (Refill h) a b = absurd (no_node_back u v x false m a b)
free_pair t u v m x Count (Place e k) a b = count_place e k
free_pair t u v m x Count Count a b = count_count

free_row : (t : Rows) (u v : Update) → meets u v ≡ false → (x : ℕ) (e : Edit) → LockAt t u x e → (fs : List (ℕ × Edit)) → Locked (apply t u) v fs → AllByRecursion (λ b. Free (x, e) b) fs
free_row t u v m x e a [] l = tt
free_row t u v m x e a (b ∷ fs) l = ((λ p. free_pair t u v m x e b.1 a (subst (λ z. LockAt (apply t u) v z b.1) (sym p) l.0)), free_row t u v m x e a fs l.1)

free_all : (t : Rows) (u v : Update) → meets u v ≡ false → (es : List (ℕ × Edit)) → Locked t u es → (fs : List (ℕ × Edit)) → Locked (apply t u) v fs
    → AllByRecursion (λ a. AllByRecursion (λ b. Free a b) fs) es
free_all t u v m [] k fs l = tt
free_all t u v m (a ∷ es) k fs l = (free_row t u v m a.0 a.1 k.0 fs l, free_all t u v m es k.1 fs l)

same_end : (t : Rows) (u v : Update) → meets u v ≡ false → Fits t u → Fits (apply t u) v → apply (apply t u) v ≡ apply (apply t v) u
same_end t u v m f g = edited_swap t (edits u) (edits v) (free_all t u v m (edits u) (locks t u f) (edits v) (locks (apply t u) v g))

pub swaps : UpdatesSwap
swaps t u v apart a b =
    let m : meets u v ≡ false = false_from_ne_true (meets u v) apart in
    let g : Fits t v = fits_back t u v a.0 a.1 (apart_from u v m) b.1 in
    let w : IsTree (apply t v) = tree_kept t v a.0 g in
    ((a.0, g), (w, fits_forth t v u a.0 w g (apart_back u v (apart_from u v m)) a.1), same_end t u v m a.1 b.1)
