-- An update that doesn't meet one that changes a file leaves the file's bytes as they are.
use Rattle.std.proofs.Common.{◌≡◌, ℕ, inl, inr, List, [], ◌∷◌, refl, sym, ap, subst, ◌∙◌}
use Rattle.std.specs.Prelude.{true, false, cond, ◌||◌, ◌==◌}
use Rattle.std.specs.declared.option.Option.{Option}
use Rattle.std.specs.declared.option.Option.TheVariants.{None, Some}
use Rattle.std.specs.List.{AllByRecursion, list_any}
use Rattle.std.specs.FinMap.{get}
use Rattle.std.proofs.lemmas.Bool.{and_parts, eqb-true, cases_Bool, false_from_ne_true}
use Rattle.tree_model.specs.declared.rows.Body.{Body}
use Rattle.tree_model.specs.declared.rows.Body.TheVariants.{Dir, File}
use Rattle.tree_model.specs.declared.rows.Row.{Row}
use Rattle.tree_model.specs.declared.rows.Update.{Update}
use Rattle.tree_model.specs.declared.rows.Update.TheVariants.{Make, Write, Resize, Remove, Move, Release}
use Rattle.tree_model.specs.declared.keys.Key.{Key}
use Rattle.tree_model.specs.declared.keys.Key.TheVariants.{Entry, Node, Shape}
use Rattle.tree_model.specs.Updates.{Edit, Rework, Refill, Place, Count, change, counted, edits}
use Rattle.tree_model.specs.Keys.{keys_of}
use Rattle.tree_model.specs.Weights.{body_bytes, row_bytes}
use Rattle.tree_model.specs.Laws.{is_changed_node, OthersLeaveBytes}
use Rattle.tree_model.proofs.Edited.{act, row_after, get_edited}
use Rattle.tree_model.proofs.Placed.{act_apart}
use Rattle.tree_model.proofs.Locks.{In, no_node}

-- an edit that may change bytes falls on a node that the update changes
abbrev HoldsAt : Update → ℕ → Edit → Type 0
HoldsAt v s (Rework f) = In (Node s true) (keys_of v)
HoldsAt v s (Refill f) = In (Node s true) (keys_of v)
HoldsAt v s (Place d n) = Unit {0}
HoldsAt v s Count = Unit {0}

abbrev Holds : Update → List (ℕ × Edit) → Type 0
Holds v = AllByRecursion (λ e. HoldsAt v e.0 e.1)

holds : (v : Update) → Holds v (edits v)
holds (Make dir name id d) = (inr (inl refl), (tt, tt))
holds (Write id off bytes) = (inl refl, tt)
holds (Resize id len) = (inl refl, tt)
holds (Remove dir name id stays) = (inr (inl refl), (tt, tt))
holds (Release id) = (inl refl, tt)
holds (Move dir name to_dir to_name id d None stays) = (tt, (tt, (tt, tt)))
holds (Move dir name to_dir to_name id d (Some x) stays) = (inr (inr (inr (inr (inl refl)))), (tt, (tt, (tt, tt))))

counted_bytes : (b : Body) → body_bytes (counted b) ≡ body_bytes b
counted_bytes (Dir n) = refl
counted_bytes (File bytes) = refl

count_bytes : (o : Option Row) → row_bytes (change Count o) ≡ row_bytes o
count_bytes None = refl
count_bytes (Some r) = counted_bytes r.body

place_bytes : (d : ℕ) (n : List ℕ) (o : Option Row) → row_bytes (change (Place d n) o) ≡ row_bytes o
place_bytes d n None = refl
place_bytes d n (Some r) = refl

act_bytes : (s x : ℕ) (e : Edit) (o : Option Row) → row_bytes (change e o) ≡ row_bytes o → row_bytes (act s (x, e) o) ≡ row_bytes o
act_bytes s x e o p = elim (s == x) as (λ b. row_bytes (cond b (change e o) o) ≡ row_bytes o) [ true ↦ p | false ↦ refl ]

edit_bytes : (v : Update) (s x : ℕ) (e : Edit) (o : Option Row) → (In (Node s true) (keys_of v) → ⊥) → HoldsAt v x e → row_bytes (act s (x, e) o) ≡ row_bytes o
edit_bytes v s x (Rework f) o free h = ap row_bytes (act_apart s x (Rework f) o (λ e. free (subst (λ z. In (Node z true) (keys_of v)) (sym e) h)))
edit_bytes v s x (Refill f) o free h = ap row_bytes (act_apart s x (Refill f) o (λ e. free (subst (λ z. In (Node z true) (keys_of v)) (sym e) h)))
edit_bytes v s x (Place d n) o free h = act_bytes s x (Place d n) o (place_bytes d n o)
edit_bytes v s x Count o free h = act_bytes s x Count o (count_bytes o)

edits_bytes : (v : Update) (s : ℕ) (es : List (ℕ × Edit)) (o : Option Row) → (In (Node s true) (keys_of v) → ⊥) → Holds v es → row_bytes (row_after es s o) ≡ row_bytes o
edits_bytes v s [] o free h = refl
edits_bytes v s (e ∷ es) o free h = edits_bytes v s es (act s e o) free h.1 ∙ edit_bytes v s e.0 e.1 o free h.0

changed_same : (x : ℕ) (k : Key) → is_changed_node x k ≡ true → k ≡ Node x true
changed_same x (Entry d n c) p = absurd (cc)
changed_same x Shape p = absurd (cc)
changed_same x (Node y c) p = let q = and_parts _ _ p in ap (λ z. Node z c) (eqb-true y x q.0) ∙ ap (Node x) q.1

changed_in : (x : ℕ) (ks : List Key) → list_any (is_changed_node x) ks ≡ true → In (Node x true) ks
changed_in x [] p = cc
changed_in x (k ∷ ks) p = elim (cases_Bool (is_changed_node x k)) [
  | inl q ↦ inl (changed_same x k q)
  | inr q ↦ inr (changed_in x ks (ap (λ b. b || list_any (is_changed_node x) ks) (sym q) ∙ p))
]

pub untouched : OthersLeaveBytes
untouched t u v x apart c =
    ap row_bytes (get_edited (edits v) t x)
    ∙ edits_bytes v x (edits v) (get t x) (λ i. no_node v u x true (false_from_ne_true _ apart) i (changed_in x (keys_of u) c)) (holds v)
