-- The rule where one seat's view changes.
use Rattle.std.proofs.Common.{◌≡◌, ◌≢◌, ℕ, List, [], ◌∷◌, ◌++◌, length, set, refl, sym, ◌∙◌, subst, length-set, get_or-set_other, Option, ⊎_elim}
use Rattle.std.specs.Prelude.{slice_index}
use Rattle.std.proofs.lemmas.List.{set-get_or}
use mathlib.Core.Option.{some}
use lib.ListN.{get_elem?}
use Rattle.atomic_table.proofs.Lists.{at_set}
use Rattle.turn_table.specs.declared.view.Place.{Place}
use Rattle.turn_table.specs.declared.view.Place.TheVariants.{Front, Back}
use Rattle.turn_table.specs.declared.view.FrontPhase.TheVariants.{Holds}
use Rattle.turn_table.specs.declared.view.BackPhase.TheVariants.{Writes}
use Rattle.turn_table.specs.declared.view.View.{View}
use Rattle.turn_table.specs.Values.{FrontMeaning, BackMeaning}
use Rattle.turn_table.specs.Rule.{Hidden, Fits, FrontStands, BackStands, FrontTurn, BackTurn, Counts, IsSound, TurnState, Ruled}
use Rattle.turn_table.proofs.Turned.{turn_still, turn_longer}

module _ {F B E : Type 0} (M : FrontMeaning F E) (caller : E → ℕ) (N : BackMeaning B E) (first : F) (rear : B) where
  abbrev pub Homes : Type 0
  Homes = List (mathlib.Core.Option.Option (Place F B))

  -- what fits a seat's new view and the other seats' fits all
  pub stay : (h : Hidden E) (views : List (View F B E)) (id : ℕ) (w : View F B E) → Fits M caller N first rear h id w → ((j : ℕ) (u : View F B E) → j ≢ id → get_elem? views j ≡ some u → Fits M caller N first rear h j u)
      → (j : ℕ) (u : View F B E) → get_elem? (set views id w) j ≡ some u → Fits M caller N first rear h j u
  stay h views id w mine others j u e = ⊎_elim (λ (t : (j ≡ id) × (w ≡ u)). subst (λ (x : ℕ × View F B E). Fits M caller N first rear h x.0 x.1) (λ i. (sym t.0 i, t.1 i)) mine)
      (λ (t : (j ≢ id) × (get_elem? views j ≡ some u)). others j u t.0 t.1) (at_set views id j w u e)

  -- the front turn where its word, its slot and what its holder keeps of it stay
  pub front_still : (h h' : Hidden E) → h'.log ≡ h.log → h'.fail ≡ h.fail → h'.due ≡ h.due → (s : TurnState F B E) (words : List ℕ) (homes : Homes) (id : ℕ) (v w : View F B E) → w.front ≡ v.front → get_elem? s.views id ≡ some v
      → slice_index words 0 ≡ slice_index s.words 0 → get_elem? homes 0 ≡ get_elem? s.homes 0 → (o : Option ℕ) → FrontTurn M caller N first rear h s o → FrontTurn M caller N first rear h' record { words = words; homes = homes; views = set s.views id w } o
  front_still h h' log fail due s words homes id v w same at word slot o t =
      let kept : Holds h.log h.fail h.due ≡ Holds h'.log h'.fail h'.due = λ i. Holds (sym log i) (sym fail i) (sym due i) in
      turn_still 0 0 Front (FrontStands M caller N first rear h) (FrontStands M caller N first rear h') (λ u. u.front ≡ Holds h.log h.fail h.due) (λ u. u.front ≡ Holds h'.log h'.fail h'.due)
      (λ x p. (p.0 ∙ sym log, p.1 ∙ sym fail, p.2 ∙ sym due, p.3)) (λ u q. q ∙ kept) s words homes id v w (λ q. same ∙ (q ∙ kept)) at word slot o t

  pub back_still : (h h' : Hidden E) → h'.heard ≡ h.heard → h'.written ≡ h.written → h'.back_fail ≡ h.back_fail → h'.due ≡ h.due → (s : TurnState F B E) (words : List ℕ) (homes : Homes) (id : ℕ) (v w : View F B E) → w.back ≡ v.back → get_elem? s.views id ≡ some v
      → slice_index words 2 ≡ slice_index s.words 2 → get_elem? homes 1 ≡ get_elem? s.homes 1 → (o : Option ℕ) → BackTurn M caller N first rear h s o → BackTurn M caller N first rear h' record { words = words; homes = homes; views = set s.views id w } o
  back_still h h' heard written fail due s words homes id v w same at word slot o t =
      let kept : Writes h.heard h.written h.back_fail h.due ≡ Writes h'.heard h'.written h'.back_fail h'.due = λ i. Writes (sym heard i) (sym written i) (sym fail i) (sym due i) in
      turn_still 2 1 Back (BackStands M caller N first rear h) (BackStands M caller N first rear h') (λ u. u.back ≡ Writes h.heard h.written h.back_fail h.due) (λ u. u.back ≡ Writes h'.heard h'.written h'.back_fail h'.due)
      (λ x p. (p.0 ∙ sym heard, p.1 ∙ sym written, p.2 ∙ sym fail, p.3 ∙ sym due, p.4)) (λ u q. q ∙ kept) s words homes id v w (λ q. same ∙ (q ∙ kept)) at word slot o t

  -- the turns where a view comes behind the others
  pub front_longer : (h : Hidden E) (s : TurnState F B E) (w : View F B E) (o : Option ℕ) → FrontTurn M caller N first rear h s o → FrontTurn M caller N first rear h record { words = s.words; homes = s.homes; views = s.views ++ w ∷ [] } o
  front_longer h s w o t = turn_longer 0 0 Front (FrontStands M caller N first rear h) (FrontStands M caller N first rear h) (λ u. u.front ≡ Holds h.log h.fail h.due) (λ u. u.front ≡ Holds h.log h.fail h.due) (λ x p. p) (λ u q. q) s w o t

  pub back_longer : (h : Hidden E) (s : TurnState F B E) (w : View F B E) (o : Option ℕ) → BackTurn M caller N first rear h s o → BackTurn M caller N first rear h record { words = s.words; homes = s.homes; views = s.views ++ w ∷ [] } o
  back_longer h s w o t = turn_longer 2 1 Back (BackStands M caller N first rear h) (BackStands M caller N first rear h) (λ u. u.back ≡ Writes h.heard h.written h.back_fail h.due) (λ u. u.back ≡ Writes h.heard h.written h.back_fail h.due) (λ x p. p) (λ u q. q) s w o t

  -- the numbers stay where another word is stored
  pub counts_else : (h : Hidden E) (words : List ℕ) (i n : ℕ) → 1 ≢ i → 3 ≢ i → Counts M caller N first rear h words → Counts M caller N first rear h (set words i n)
  counts_else h words i n one three t = (get_or-set_other words i 1 n 0 one ∙ t.0, get_or-set_other words i 3 n 0 three ∙ t.1)

  -- the lengths stay
  pub still_sized : (s : TurnState F B E) (r : Ruled M caller N first rear s) (i n k : ℕ) (p : mathlib.Core.Option.Option (Place F B)) → (length (set s.words i n) ≡ 4) × (length (set s.homes k p) ≡ 2)
  still_sized s r i n k p = (length-set s.words i n ∙ r.sized.0, length-set s.homes k p ∙ r.sized.1)

  -- one view, the words and the slots change
  pub moves : (s : TurnState F B E) (r : Ruled M caller N first rear s) (h' : Hidden E) (id : ℕ) (w : View F B E) (words : List ℕ) (homes : Homes)
      → (length words ≡ 4) × (length homes ≡ 2)
      → FrontTurn M caller N first rear h' record { words = words; homes = homes; views = set s.views id w } h'.holder
      → BackTurn M caller N first rear h' record { words = words; homes = homes; views = set s.views id w } h'.writer
      → Counts M caller N first rear h' words → IsSound M caller N first rear h' → Fits M caller N first rear h' id w → ((j : ℕ) (u : View F B E) → j ≢ id → Fits M caller N first rear r.h j u → Fits M caller N first rear h' j u)
      → Ruled M caller N first rear record { words = words; homes = homes; views = set s.views id w }
  moves s r h' id w words homes sized front back counts sound mine others = record {
    h = h';
    sized = sized;
    front = front;
    back = back;
    counts = counts;
    sound = sound;
    each = stay h' s.views id w mine (λ j u apart there. others j u apart (r.each j u there));
  }

  -- a word is read, and only the seat's view changes
  pub quiet : (s : TurnState F B E) (r : Ruled M caller N first rear s) (i id : ℕ) (v w : View F B E) → get_elem? s.views id ≡ some v → w.front ≡ v.front → w.back ≡ v.back → Fits M caller N first rear r.h id w
      → Ruled M caller N first rear record { words = set s.words i (slice_index s.words i); homes = s.homes; views = set s.views id w }
  quiet s r i id v w at front back fits = subst (λ (ws : List ℕ). Ruled M caller N first rear record { words = ws; homes = s.homes; views = set s.views id w }) (sym (set-get_or s.words i 0))
      (moves s r r.h id w s.words s.homes r.sized
      (front_still r.h r.h refl refl refl s s.words s.homes id v w front at refl refl r.h.holder r.front)
      (back_still r.h r.h refl refl refl refl s s.words s.homes id v w back at refl refl r.h.writer r.back)
      r.counts r.sound fits (λ j u apart t. t))
