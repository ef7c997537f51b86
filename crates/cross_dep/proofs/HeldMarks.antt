-- The marks of several streams, where those of one were replaced.
use Rattle.std.proofs.Common.{◌≡◌, ◌≢◌, ℕ, zero, suc, inl, inr, ◌<◌, ◌≤◌, List, [], ◌∷◌, length, set, get_or, refl, sym, ap, subst, ◌∙◌, arith}
use Rattle.std.proofs.lemmas.Bool.{cases_eq}
use Rattle.std.proofs.lemmas.List.{map-set, get_or-set_same, get_or-set_other, get_or_default, set-get_or}
use Rattle.tree_model.specs.declared.keys.Key.{Key}
use Rattle.cross_dep.specs.Kept.{Held}
use Rattle.cross_dep.specs.Held.{keys_in, places_in, held_at, none_held, NoneFell}

pub length-keys : (marks : List Held) → length (keys_in marks) ≡ length marks
length-keys [] = refl
length-keys (held ∷ more) = ap suc (length-keys more)

-- the marks of a stream, with the memory and without
pub keys_at : (marks : List Held) (stream : ℕ) → get_or (keys_in marks) stream [] ≡ (held_at marks stream).keys
keys_at [] stream = refl
keys_at (held ∷ more) zero = refl
keys_at (held ∷ more) (suc stream) = keys_at more stream

-- the places of a stream
pub places_at : (marks : List Held) (stream : ℕ) → get_or (places_in marks) stream 0 ≡ (held_at marks stream).places
places_at [] stream = refl
places_at (held ∷ more) zero = refl
places_at (held ∷ more) (suc stream) = places_at more stream

-- no marks, where each stream has none
pub all_none : (marks : List Held) (stream : ℕ) → ((k : ℕ) (d : Held) → k < length marks → (get_or marks k d).keys ≡ []) → (held_at marks stream).keys ≡ []
all_none [] stream h = refl
all_none (held ∷ more) zero h = h 0 held (omega arith)
all_none (held ∷ more) (suc stream) h = all_none more stream (λ (k : ℕ) (d : Held) (l : k < length more). h (suc k) d (omega arith))

-- what stands for a stream of several, at its place, and what stands there once it was replaced
module _ (marks : List Held) (stream at : ℕ) (d : Held) (at_is : at ≡ stream) (inside : stream < length marks) where
  inside_at : at < length marks
  inside_at = subst (λ z. z < length marks) (sym at_is) inside

  pub held_was : held_at marks stream ≡ get_or marks at d
  held_was = subst (λ z. held_at marks z ≡ get_or marks at d) at_is (get_or_default marks at none_held d inside_at)

  pub held_now : (new : Held) → held_at (set marks at new) stream ≡ new
  held_now new = subst (λ z. held_at (set marks at new) z ≡ new) at_is (get_or-set_same marks at new none_held inside_at)

  pub held_other : (new : Held) (other : ℕ) → other ≢ stream → held_at (set marks at new) other ≡ held_at marks other
  held_other new other n = get_or-set_other marks at other new none_held (λ e. n (e ∙ at_is))

  -- no stream has fewer places, where this one has as many
  pub none_fell : (new : Held) → (get_or marks at d).places ≤ new.places → NoneFell marks (set marks at new)
  none_fell new h s = elim (cases_eq s stream) [
    | inl e ↦ subst (λ z. (held_at marks z).places ≤ (held_at (set marks at new) z).places) (sym e)
        (omega (arith, h, ap (λ (z : Held). z.places) held_was, ap (λ (z : Held). z.places) (held_now new)))
    | inr n ↦ omega (arith, ap (λ (z : Held). z.places) (held_other new s n))
  ]

  -- the marks without the memory
  pub keys_now : (new : Held) → keys_in (set marks at new) ≡ set (keys_in marks) stream new.keys
  keys_now new = map-set _ marks at new ∙ ap (λ z. set (keys_in marks) z new.keys) at_is

  pub keys_same : (new : Held) → new.keys ≡ (get_or marks at d).keys → keys_in (set marks at new) ≡ keys_in marks
  keys_same new e =
      map-set _ marks at new ∙ ap (λ z. set (keys_in marks) at z) e
      ∙ sym (map-set _ marks at (get_or marks at d)) ∙ ap keys_in (set-get_or marks at d)

-- the marks of a stream were dropped
pub dropped_own : (marks new : List Held) (stream : ℕ) → stream < length marks → keys_in new ≡ set (keys_in marks) stream [] → get_or (keys_in new) stream [] ≡ []
dropped_own marks new stream l e =
    let m : stream < length (keys_in marks) = omega (arith, length-keys marks) in
    ap (λ (z : List (List Key)). get_or z stream []) e ∙ get_or-set_same (keys_in marks) stream [] [] m

-- and those of the others stayed
pub dropped_other : (marks new : List Held) (stream s : ℕ) → s ≢ stream → keys_in new ≡ set (keys_in marks) stream []
    → get_or (keys_in new) s [] ≡ get_or (keys_in marks) s []
dropped_other marks new stream s n e = ap (λ (z : List (List Key)). get_or z s []) e ∙ get_or-set_other (keys_in marks) stream s [] [] n

-- so no stream has more
pub few_dropped : (marks new : List Held) (stream : ℕ) → stream < length marks → keys_in new ≡ set (keys_in marks) stream []
    → (s : ℕ) → length (held_at new s).keys ≤ length (held_at marks s).keys
few_dropped marks new stream l e s = elim (cases_eq s stream) [
  | inl same ↦ subst (λ z. length (held_at new z).keys ≤ length (held_at marks z).keys) (sym same)
      (omega (arith, ap length (sym (keys_at new stream) ∙ dropped_own marks new stream l e)))
  | inr n ↦ omega (arith, ap length (sym (keys_at new s) ∙ dropped_other marks new stream s n e ∙ keys_at marks s))
]

-- where the marks are the same, no stream has more either
pub few_same : (marks new : List Held) → keys_in new ≡ keys_in marks → (s : ℕ) → length (held_at new s).keys ≤ length (held_at marks s).keys
few_same marks new e s =
    omega (arith, ap length (sym (keys_at new s) ∙ ap (λ (z : List (List Key)). get_or z s []) e ∙ keys_at marks s))

-- the marks of one that is read in a loop
pub item_keys : (marks : List Held) (s : ℕ) (item : Held) → s < length marks → (get_or marks s item).keys ≡ get_or (keys_in marks) s []
item_keys marks s item l =
    ap (λ (z : Held). z.keys) (get_or_default marks s item none_held l) ∙ sym (keys_at marks s)
