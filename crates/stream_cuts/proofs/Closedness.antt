-- What a cut keeps, and closedness by recursion, which is that of the definitions.
use Rattle.std.proofs.Common.{◌≡◌, ℕ, ◌≤◌, ◌<◌, ◌≢◌, List, [], ◌∷◌, ◌++◌, refl, sym, ap, subst, arith, ◌∙◌, ltb}
use Rattle.std.specs.Prelude.{true, false}
use Rattle.std.specs.List.{AllByRecursion}
use Rattle.std.proofs.lemmas.Bool.{ltb-true, ltb-false, lt-ltb, le-ltb}
use Rattle.stream_cuts.specs.Streams.{no_counts, one_more, counts_after, keep_if}
use Rattle.stream_cuts.specs.Cuts.{kept_from, IsClosed}
use Rattle.stream_cuts.proofs.Counts.{one_more_above}

module _ {U : Type 0} where
  -- what holds of each update that is kept, where it is asked of those past the counts
  pub kept_all : (P : (ℕ × U) → Type 0) (seen c : ℕ → ℕ) (h : List (ℕ × U)) → ((e : ℕ × U) → seen e.0 < c e.0 → P e) → AllByRecursion P (kept_from seen c h)
  kept_all P seen c [] f = tt
  kept_all P seen c (e ∷ h) f =
      let rest : AllByRecursion P (kept_from (one_more seen e.0) c h)
      = kept_all P (one_more seen e.0) c h (λ d l. f d (let m = one_more_above seen e.0 d.0 in omega arith)) in
      elim (ltb (seen e.0) (c e.0)) as (λ b. ltb (seen e.0) (c e.0) ≡ b → AllByRecursion P (keep_if b e (kept_from (one_more seen e.0) c h))) [
        | true ↦ λ p. (f e (ltb-true (seen e.0) (c e.0) p), rest)
        | false ↦ λ p. rest
      ] refl

  -- nothing is kept past the counts
  pub kept_none : (seen c : ℕ → ℕ) (h : List (ℕ × U)) → ((s : ℕ) → c s ≤ seen s) → kept_from seen c h ≡ []
  kept_none seen c [] f = refl
  kept_none seen c (e ∷ h) f =
      ap (λ b. keep_if b e (kept_from (one_more seen e.0) c h)) (le-ltb (seen e.0) (c e.0) (f e.0))
      ∙ kept_none (one_more seen e.0) c h (λ s. let m = one_more_above seen e.0 s in let g = f s in omega arith)

  pub All_both : (P Q R : (ℕ × U) → Type 0) → ((e : ℕ × U) → P e → Q e → R e) → (h : List (ℕ × U)) → AllByRecursion P h → AllByRecursion Q h → AllByRecursion R h
  All_both P Q R f [] p q = tt
  All_both P Q R f (e ∷ h) p q = (f e p.0 q.0, All_both P Q R f h p.1 q.1)

  -- what holds of each kept update holds of one that is kept
  at_kept : (P : (ℕ × U) → Type 0) (seen c : ℕ → ℕ) (middle rest : List (ℕ × U)) (d : ℕ × U) → AllByRecursion P (kept_from seen c (middle ++ d ∷ rest))
      → counts_after seen middle d.0 < c d.0 → P d
  at_kept P seen c [] rest d a lt =
      let b : AllByRecursion P (keep_if true d (kept_from (one_more seen d.0) c rest)) = subst (λ z. AllByRecursion P (keep_if z d (kept_from (one_more seen d.0) c rest))) (lt-ltb (seen d.0) (c d.0) lt) a in b.0
  at_kept P seen c (x ∷ middle) rest d a lt =
      let deep : AllByRecursion P (kept_from (one_more seen x.0) c (middle ++ d ∷ rest)) → P d = λ b. at_kept P (one_more seen x.0) c middle rest d b lt in
      elim (ltb (seen x.0) (c x.0)) as (λ b. AllByRecursion P (keep_if b x (kept_from (one_more seen x.0) c (middle ++ d ∷ rest))) → P d) [
        | true ↦ λ b. deep b.1
        | false ↦ λ b. deep b
      ] a

  -- what holds of each update that is kept at its place holds of all kept ones
  kept_each : (P : (ℕ × U) → Type 0) (seen c : ℕ → ℕ) (h : List (ℕ × U))
      → ((middle rest : List (ℕ × U)) (d : ℕ × U) → h ≡ middle ++ d ∷ rest → counts_after seen middle d.0 < c d.0 → P d) → AllByRecursion P (kept_from seen c h)
  kept_each P seen c [] f = tt
  kept_each P seen c (d ∷ h) f =
      let rest : AllByRecursion P (kept_from (one_more seen d.0) c h) = kept_each P (one_more seen d.0) c h (λ m r x is lt. f (d ∷ m) r x (ap (λ z. d ∷ z) is) lt) in
      elim (ltb (seen d.0) (c d.0)) as (λ b. ltb (seen d.0) (c d.0) ≡ b → AllByRecursion P (keep_if b d (kept_from (one_more seen d.0) c h))) [
        | true ↦ λ p. (f [] h d refl (ltb-true (seen d.0) (c d.0) p), rest)
        | false ↦ λ p. rest
      ] refl

  module _ (Meet : U → U → Type 0) where
    -- no update of these that stands in another stream meets u of the stream s
    abbrev pub IsApart : ℕ → U → List (ℕ × U) → Type 0
    IsApart s u = AllByRecursion (λ e. e.0 ≢ s → Meet u e.1 → ⊥)

    -- closed, by recursion: an update that is lost meets no later kept one of another stream
    abbrev pub IsClosedFrom : (ℕ → ℕ) → (ℕ → ℕ) → List (ℕ × U) → Type 0
    IsClosedFrom seen c [] = Unit {0}
    IsClosedFrom seen c (e ∷ h) =
        (ltb (seen e.0) (c e.0) ≡ false → IsApart e.0 e.1 (kept_from (one_more seen e.0) c h)) × IsClosedFrom (one_more seen e.0) c h

    -- closed, by places, on top of the updates seen before
    abbrev IsClosedAt : (ℕ → ℕ) → (ℕ → ℕ) → List (ℕ × U) → Type 0
    IsClosedAt seen c h = (before middle rest : List (ℕ × U)) (e d : ℕ × U) → h ≡ before ++ e ∷ (middle ++ d ∷ rest)
        → e.0 ≢ d.0 → Meet e.1 d.1 → counts_after seen (before ++ e ∷ middle) d.0 < c d.0 → counts_after seen before e.0 < c e.0

    split_closed : (seen c : ℕ → ℕ) (before middle rest : List (ℕ × U)) (e d : ℕ × U) → IsClosedFrom seen c (before ++ e ∷ (middle ++ d ∷ rest))
        → e.0 ≢ d.0 → Meet e.1 d.1 → counts_after seen (before ++ e ∷ middle) d.0 < c d.0 → counts_after seen before e.0 < c e.0
    split_closed seen c [] middle rest e d k ne m lt =
        elim (ltb (seen e.0) (c e.0)) as (λ b. ltb (seen e.0) (c e.0) ≡ b → seen e.0 < c e.0) [
          | true ↦ λ p. ltb-true (seen e.0) (c e.0) p
          | false ↦ λ p. absurd (at_kept (λ x. x.0 ≢ e.0 → Meet e.1 x.1 → ⊥) (one_more seen e.0) c middle rest d (k.0 p) lt (λ q. ne (sym q)) m)
        ] refl
    split_closed seen c (x ∷ before) middle rest e d k ne m lt = split_closed (one_more seen x.0) c before middle rest e d k.1 ne m lt

    closed_at_of : (seen c : ℕ → ℕ) (h : List (ℕ × U)) → IsClosedFrom seen c h → IsClosedAt seen c h
    closed_at_of seen c h k before middle rest e d is = split_closed seen c before middle rest e d (subst (IsClosedFrom seen c) is k)

    closed_from_of : (seen c : ℕ → ℕ) (h : List (ℕ × U)) → IsClosedAt seen c h → IsClosedFrom seen c h
    closed_from_of seen c [] k = tt
    closed_from_of seen c (e ∷ h) k = (
      λ lost. kept_each (λ x. x.0 ≢ e.0 → Meet e.1 x.1 → ⊥) (one_more seen e.0) c h
          (λ middle rest d is lt ne m.
          let kept : seen e.0 < c e.0 = k [] middle rest e d (ap (λ z. e ∷ z) is) (λ q. ne (sym q)) m lt in
          let le = ltb-false (seen e.0) (c e.0) lost in omega arith),
      closed_from_of (one_more seen e.0) c h (λ before middle rest x d is. k (e ∷ before) middle rest x d (ap (λ z. e ∷ z) is)),
    )

    -- the two are the same
    pub closed_of : (c : ℕ → ℕ) (h : List (ℕ × U)) → IsClosedFrom no_counts c h → IsClosed Meet h c
    closed_of c h k = closed_at_of no_counts c h k

    pub closed_from : (c : ℕ → ℕ) (h : List (ℕ × U)) → IsClosed Meet h c → IsClosedFrom no_counts c h
    closed_from c h k = closed_from_of no_counts c h k
