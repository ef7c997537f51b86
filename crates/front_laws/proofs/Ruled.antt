-- Steps in which each update applies where it enters and its new row has an inode that is free: they stay guarded where updates also meet
-- by the inodes of rows.
use Rattle.std.proofs.Common.{ℕ, List, [], ◌∷◌, ◌++◌}
use Rattle.std.specs.Prelude.{Bool, true, false, not, ◌==◌}
use Rattle.std.specs.List.{AllByRecursion}
use Rattle.stream_cuts.specs.Streams.{Step, Enter, Seal, entered, keep_if, without, of_stream, unsealed_after, MayEnter, IsGuarded}
use Rattle.stream_cuts.specs.States.{after, AllApply}
use Rattle.tree_model.specs.Rows.{Rows}
use Rattle.tree_model.specs.Updates.{apply}
use Rattle.tree_cuts.specs.Calls.{Charged}
use Rattle.tree_cuts.proofs.Plain.{ChargedMeet}
use Rattle.front_laws.proofs.Swapping.{MeetIn, AppliesIn, apply_in}
use Rattle.front_laws.proofs.Held.{IsUnheld, IsHeld, IsBehind, held_entered, held_sealed, guarded, behind_all}

-- each update applies where it enters, meets no unsealed one of another stream by a key, and makes no row with an inode that one gave up
abbrev pub IsRuled : ℕ → List ℕ → Rows → List (ℕ × Charged) → List (Step Charged) → Type 0
IsRuled count inodes t h [] = Unit {0}
IsRuled count inodes t h (Enter s u ∷ l) =
    AppliesIn count inodes t u × MayEnter ChargedMeet s u h × IsUnheld inodes h u.0 × IsRuled count inodes (apply t u.0) ((s, u) ∷ h) l
IsRuled count inodes t h (Seal s ∷ l) = IsRuled count inodes t (without s h) l

-- what each update makes has none of the inodes of the nodes of earlier ones; the last one comes first
abbrev pub AreOrdered : List ℕ → List (ℕ × Charged) → Type 0
AreOrdered inodes [] = Unit {0}
AreOrdered inodes (e ∷ h) = AllByRecursion (λ d. IsBehind inodes d.1.0 e.1.0) h × AreOrdered inodes h

module _ (count : ℕ) (inodes : List ℕ) where
  pub ruled_guarded : (t : Rows) (h : List (ℕ × Charged)) (l : List (Step Charged)) → IsHeld inodes t h → IsRuled count inodes t h l
      → AllApply (AppliesIn count inodes) apply_in t (entered l) × IsGuarded (MeetIn inodes) h l
  ruled_guarded t h [] k r = (tt, tt)
  ruled_guarded t h (Enter s u ∷ l) k r =
      let w = ruled_guarded (apply t u.0) ((s, u) ∷ h) l (held_entered count inodes t h s u k r.0 r.1 r.2) r.3 in
      ((r.0, w.0), (guarded count inodes t h s u k r.0 r.1 r.2, w.1))
  ruled_guarded t h (Seal s ∷ l) k r = ruled_guarded t (without s h) l (held_sealed inodes t h s k) r

  pub ruled_append : (t : Rows) (h : List (ℕ × Charged)) (l k : List (Step Charged)) → IsRuled count inodes t h l
      → IsRuled count inodes (after apply_in t (entered l)) (unsealed_after h l) k → IsRuled count inodes t h (l ++ k)
  ruled_append t h [] k a b = b
  ruled_append t h (Enter s u ∷ l) k a b = (a.0, a.1, a.2, ruled_append (apply t u.0) ((s, u) ∷ h) l k a.3 b)
  ruled_append t h (Seal s ∷ l) k a b = ruled_append t (without s h) l k a b

  pub ruled_first : (t : Rows) (h : List (ℕ × Charged)) (l k : List (Step Charged)) → IsRuled count inodes t h (l ++ k) → IsRuled count inodes t h l
  ruled_first t h [] k a = tt
  ruled_first t h (Enter s u ∷ l) k a = (a.0, a.1, a.2, ruled_first (apply t u.0) ((s, u) ∷ h) l k a.3)
  ruled_first t h (Seal s ∷ l) k a = ruled_first t (without s h) l k a

-- ---- the order of unsealed updates

all_kept : (P : (ℕ × Charged) → Type 0) (b : Bool) (e : ℕ × Charged) (h : List (ℕ × Charged)) → P e → AllByRecursion P h → AllByRecursion P (keep_if b e h)
all_kept P true e h p a = (p, a)
all_kept P false e h p a = a

all_without : (P : (ℕ × Charged) → Type 0) (s : ℕ) (h : List (ℕ × Charged)) → AllByRecursion P h → AllByRecursion P (without s h)
all_without P s [] a = tt
all_without P s (e ∷ h) a = all_kept P (not (e.0 == s)) e (without s h) a.0 (all_without P s h a.1)

all_of_stream : (P : (ℕ × Charged) → Type 0) (s : ℕ) (h : List (ℕ × Charged)) → AllByRecursion P h → AllByRecursion P (of_stream s h)
all_of_stream P s [] a = tt
all_of_stream P s (e ∷ h) a = all_kept P (e.0 == s) e (of_stream s h) a.0 (all_of_stream P s h a.1)

module _ (inodes : List ℕ) where
  ordered_kept : (b : Bool) (e : ℕ × Charged) (h : List (ℕ × Charged)) → AllByRecursion (λ d. IsBehind inodes d.1.0 e.1.0) h → AreOrdered inodes h → AreOrdered inodes (keep_if b e h)
  ordered_kept true e h p a = (p, a)
  ordered_kept false e h p a = a

  ordered_without : (s : ℕ) (h : List (ℕ × Charged)) → AreOrdered inodes h → AreOrdered inodes (without s h)
  ordered_without s [] a = tt
  ordered_without s (e ∷ h) a = ordered_kept (not (e.0 == s)) e (without s h) (all_without (λ d. IsBehind inodes d.1.0 e.1.0) s h a.0) (ordered_without s h a.1)

  pub ordered_of_stream : (s : ℕ) (h : List (ℕ × Charged)) → AreOrdered inodes h → AreOrdered inodes (of_stream s h)
  ordered_of_stream s [] a = tt
  ordered_of_stream s (e ∷ h) a = ordered_kept (e.0 == s) e (of_stream s h) (all_of_stream (λ d. IsBehind inodes d.1.0 e.1.0) s h a.0) (ordered_of_stream s h a.1)

  pub ordered_after : (count : ℕ) (t : Rows) (h : List (ℕ × Charged)) (l : List (Step Charged)) → IsHeld inodes t h → AreOrdered inodes h → IsRuled count inodes t h l
      → AreOrdered inodes (unsealed_after h l)
  ordered_after count t h [] k o r = o
  ordered_after count t h (Enter s u ∷ l) k o r =
      ordered_after count (apply t u.0) ((s, u) ∷ h) l (held_entered count inodes t h s u k r.0 r.1 r.2) (behind_all count inodes t h s u k r.0 r.1 r.2, o) r.3
  ordered_after count t h (Seal s ∷ l) k o r = ordered_after count t (without s h) l (held_sealed inodes t h s k) (ordered_without s h o) r
