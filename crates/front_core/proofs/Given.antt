-- Which unsealed updates gave up an inode.
use Rattle.std.proofs.Common.{◌≡◌, inl, inr, ℕ, List, [], ◌∷◌, ◌++◌, refl, sym, ap, subst, ◌∙◌}
use Rattle.std.specs.Prelude.{Bool, true, false, ◌||◌, ◌==◌, reverse, filter}
use Rattle.std.proofs.Math.Bool.{or_comm}
use Rattle.std.proofs.lemmas.Bool.{eqb-true, eq-eqb, cases_Bool, or_cases, or_left, or_right}
use Rattle.std.proofs.lemmas.List.{reverse-append}
use Rattle.std.proofs.lemmas.List.Folds.{list_any-append}
use Rattle.std.proofs.lemmas.Grind.{flat_map-append}
use Rattle.stream_cuts.specs.Streams.{of_stream}
use Rattle.tree_cuts.specs.Calls.{Charged}
use Rattle.front_laws.specs.Inodes.{has, given_by, given}
use Rattle.front_laws.specs.Owned.{Among}
use Rattle.front_core.proofs.Listed.{those_of}

-- ---- numbers in lists

pub has_append : (i : ℕ) (xs ys : List ℕ) → has i (xs ++ ys) ≡ (has i xs || has i ys)
has_append i xs ys = list_any-append (λ j. j == i) xs ys

-- a number can't be in a list and not be in it
pub in_and_out : {X : Type 0} (b : Bool) → b ≡ true → b ≡ false → X
in_and_out b p q = absurd (let z : true ≡ false = sym p ∙ q in cc)

-- ---- updates among others

-- an unsealed update gave up an inode
abbrev pub IsGivenIn : List ℕ → ℕ → List (ℕ × Charged) → Type 0
IsGivenIn inodes i h = (e : ℕ × Charged) × Among e h × (has i (given_by inodes e.1.0) ≡ true)

-- one of a stream did
abbrev pub IsGivenBy : List ℕ → ℕ → ℕ → List (ℕ × Charged) → Type 0
IsGivenBy inodes i s h = (e : ℕ × Charged) × Among e h × (e.0 ≡ s) × (has i (given_by inodes e.1.0) ≡ true)

pub given_in : (inodes : List ℕ) (i : ℕ) (h : List (ℕ × Charged)) → has i (given inodes h) ≡ true → IsGivenIn inodes i h
given_in inodes i [] p = absurd (cc)
given_in inodes i (e ∷ h) p = elim (or_cases (has i (given_by inodes e.1.0)) (has i (given inodes h)) (sym (has_append i (given_by inodes e.1.0) (given inodes h)) ∙ p)) [
  | inl q ↦ (e, inl refl, q)
  | inr q ↦ (let r = given_in inodes i h q in (r.0, inr r.1, r.2))
]

pub in_given : (inodes : List ℕ) (i : ℕ) (h : List (ℕ × Charged)) (e : ℕ × Charged) → Among e h → has i (given_by inodes e.1.0) ≡ true → has i (given inodes h) ≡ true
in_given inodes i [] e a p = absurd a
in_given inodes i (d ∷ h) e (inl q) p =
    has_append i (given_by inodes d.1.0) (given inodes h) ∙ or_left _ (has i (given inodes h)) (ap (λ (z : ℕ × Charged). has i (given_by inodes z.1.0)) q ∙ p)
in_given inodes i (d ∷ h) e (inr a) p =
    has_append i (given_by inodes d.1.0) (given inodes h) ∙ or_right (has i (given_by inodes d.1.0)) _ (in_given inodes i h e a p)

-- an inode that no update gave up
pub none_given : (inodes : List ℕ) (i : ℕ) (h : List (ℕ × Charged)) → (IsGivenIn inodes i h → ⊥) → has i (given inodes h) ≡ false
none_given inodes i h n = elim (cases_Bool (has i (given inodes h))) [ inl q ↦ absurd (n (given_in inodes i h q)) | inr q ↦ q ]

pub not_given : (inodes : List ℕ) (i : ℕ) (h : List (ℕ × Charged)) (e : ℕ × Charged) → has i (given inodes h) ≡ false → Among e h → has i (given_by inodes e.1.0) ≡ true → ⊥
not_given inodes i h e out a p = in_and_out (has i (given inodes h)) (in_given inodes i h e a p) out

-- ---- those that pass a test

pub among_passing : (test : (ℕ × Charged) → Bool) (e : ℕ × Charged) (h : List (ℕ × Charged)) → test e ≡ true → Among e h → Among e (filter test h)
among_passing test e [] p a = a
among_passing test e (d ∷ h) p (inl q) = rw (ap test q ∙ p) (inl q)
among_passing test e (d ∷ h) p (inr a) =
    let rest = among_passing test e h p a in
    elim (cases_Bool (test d)) [ inl on ↦ rw on (inr rest) | inr off ↦ rw off rest ]

pub passing_among : (test : (ℕ × Charged) → Bool) (e : ℕ × Charged) (h : List (ℕ × Charged)) → Among e (filter test h) → Among e h × (test e ≡ true)
passing_among test e [] a = absurd a
passing_among test e (d ∷ h) a = elim (cases_Bool (test d)) [
  | inl on ↦ elim (rw on at a) [
    | inl q ↦ (inl q, sym (ap test q) ∙ on)
    | inr b ↦ (let r = passing_among test e h b in (inr r.0, r.1))
  ]
  | inr off ↦ (let r = passing_among test e h (rw off at a) in (inr r.0, r.1))
]

-- ---- those of a stream

pub among_of : (e : ℕ × Charged) (s : ℕ) (h : List (ℕ × Charged)) → e.0 ≡ s → Among e h → Among e (of_stream s h)
among_of e s h p a = subst (Among e) (those_of s h) (among_passing (λ (d : ℕ × Charged). d.0 == s) e h (eq-eqb e.0 s p) a)

pub of_among : (e : ℕ × Charged) (s : ℕ) (h : List (ℕ × Charged)) → Among e (of_stream s h) → Among e h × (e.0 ≡ s)
of_among e s h a = let r = passing_among (λ (d : ℕ × Charged). d.0 == s) e h (subst (Among e) (sym (those_of s h)) a) in (r.0, eqb-true e.0 s r.1)

pub given_by_stream : (inodes : List ℕ) (i s : ℕ) (h : List (ℕ × Charged)) → has i (given inodes (of_stream s h)) ≡ true → IsGivenBy inodes i s h
given_by_stream inodes i s h p = let g = given_in inodes i (of_stream s h) p in let r = of_among g.0 s h g.1 in (g.0, r.0, r.1, g.2)

pub stream_gave : (inodes : List ℕ) (i s : ℕ) (h : List (ℕ × Charged)) (e : ℕ × Charged) → Among e h → e.0 ≡ s → has i (given_by inodes e.1.0) ≡ true
    → has i (given inodes (of_stream s h)) ≡ true
stream_gave inodes i s h e a p q = in_given inodes i (of_stream s h) e (among_of e s h p a) q

-- ---- the order doesn't matter

pub has_reversed : (inodes : List ℕ) (i : ℕ) (h : List (ℕ × Charged)) → has i (given inodes (reverse h)) ≡ has i (given inodes h)
has_reversed inodes i [] = refl
has_reversed inodes i (e ∷ h) =
    ap (λ (z : List (ℕ × Charged)). has i (given inodes z)) (reverse-append (e ∷ []) h)
    ∙ ap (has i) (flat_map-append (λ (d : ℕ × Charged). given_by inodes d.1.0) (reverse h) (e ∷ []))
    ∙ has_append i (given inodes (reverse h)) (given_by inodes e.1.0 ++ [])
    ∙ ap (λ b. b || has i (given_by inodes e.1.0 ++ [])) (has_reversed inodes i h)
    ∙ or_comm (has i (given inodes h)) (has i (given_by inodes e.1.0 ++ []))
    ∙ ap (λ b. b || has i (given inodes h)) (has_append i (given_by inodes e.1.0) [] ∙ or_comm (has i (given_by inodes e.1.0)) false)
    ∙ sym (has_append i (given_by inodes e.1.0) (given inodes h))
