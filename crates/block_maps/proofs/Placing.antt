-- The uses of a file's blocks by their places.
use Rattle.std.proofs.Common.{◌≡◌, ℕ, zero, suc, ◌+◌, ◌-◌, ◌<◌, ◌≤◌, ◌==◌, cond, min, true, false, Option, Some, None, List, [], ◌∷◌, ◌++◌, length, map, drop, refl, sym, ap, ◌∙◌, arith, inl, inr, nat_lt, add-zero, append-nil, get_or}
use Rattle.std.specs.List.{range_with_len}
use Rattle.std.proofs.lemmas.Bool.{cases_lt}
use Rattle.std.proofs.lemmas.Grind.{common_steps}
use Rattle.std.proofs.lemmas.List.{map-append}
use Rattle.std.proofs.lemmas.List.FromFn.{length-map-range_with_len}
use Rattle.std.proofs.lemmas.List.{drop-map}
use Rattle.std.proofs.lemmas.Simd.{map-map}
use Rattle.std.proofs.lemmas.List.FromFn.{fill_by_all}
use Rattle.ccfs_base.specs.Limits.{pages}
use Rattle.block_maps.specs.Maps.{Mapped, block_of}
use Rattle.block_maps.specs.Uses.{uses, block_count, place_of, use_at, new_uses, given_uses}
use Rattle.block_maps.proofs.Lists.{range_parts, drop_range}

-- the uses at these places
abbrev pub uses_from : ℕ → ℕ → List (Option ℕ)
uses_from place n = map use_at (range_with_len place n)

-- one longer than another by its first element
two : {X : Type 0} (x y : X) (xs ys : List X) → x ≡ y → xs ≡ ys → x ∷ xs ≡ y ∷ ys
two x y xs ys p q = cc

-- the same with any number of direct pages
module _ (d : ℕ) where
  abbrev at_place : ℕ → Option ℕ
  at_place place = cond (nat_lt place d) (Some place) (cond (place == d) None (Some (place - 1)))

  abbrev in_pages : ℕ → ℕ → List (Option ℕ)
  in_pages a n = map (λ page. Some page) (range_with_len a n)

  abbrev in_places : ℕ → ℕ → List (Option ℕ)
  in_places a n = map at_place (range_with_len a n)

  at_direct : (place : ℕ) → place < d → Some place ≡ at_place place
  at_direct place h = grind (arith, common_steps)

  at_indirect : None ≡ at_place d
  at_indirect = grind (arith, common_steps)

  at_later : (page : ℕ) → d ≤ page → Some page ≡ at_place (page + 1)
  at_later page h = grind (arith, common_steps)

  direct : (n a : ℕ) → a + n ≤ d → in_pages a n ≡ in_places a n
  direct zero a h = refl
  direct (suc n) a h = two (Some a) (at_place a) (in_pages (a + 1) n) (in_places (a + 1) n) (at_direct a (omega arith)) (direct n (a + 1) (omega arith))

  later : (n a : ℕ) → d ≤ a → in_pages a n ≡ in_places (a + 1) n
  later zero a h = refl
  later (suc n) a h = two (Some a) (at_place (a + 1)) (in_pages (a + 1) n) (in_places (a + 1 + 1) n) (at_later a h) (later n (a + 1) (omega arith))

  many : (n : ℕ) → d < n → in_pages 0 (min n d) ++ cond (nat_lt d n) (None ∷ in_pages d (n - d)) [] ≡ in_places 0 (n + cond (nat_lt d n) 1 0)
  many n more =
      let low : min n d ≡ d = omega arith in
      let t : nat_lt d n ≡ true = grind (arith, common_steps) in
      let e : n + 1 ≡ d + suc (n - d) = omega arith in
      let f : 0 + d ≡ d = omega arith in
      let parts = ap (map at_place) (range_parts 0 d (suc (n - d))) ∙ map-append at_place (range_with_len 0 d) (range_with_len (0 + d) (suc (n - d))) in
      rw (low, t, e) (
      ap (λ z. z ++ (None ∷ in_pages d (n - d))) (direct d 0 (omega arith))
      ∙ ap (λ z. in_places 0 d ++ z) (two None (at_place d) (in_pages d (n - d)) (in_places (d + 1) (n - d)) at_indirect (later (n - d) d (omega arith)))
      ∙ sym (rw f at parts)
      )

  few : (n : ℕ) → n ≤ d → in_pages 0 (min n d) ++ cond (nat_lt d n) (None ∷ in_pages d (n - d)) [] ≡ in_places 0 (n + cond (nat_lt d n) 1 0)
  few n h =
      let low : min n d ≡ n = omega arith in
      let t : nat_lt d n ≡ false = grind (arith, common_steps) in
      rw (low, t, add-zero) (append-nil (in_pages 0 n) ∙ direct n 0 (omega arith))

  by_place : (n : ℕ) → in_pages 0 (min n d) ++ cond (nat_lt d n) (None ∷ in_pages d (n - d)) [] ≡ in_places 0 (n + cond (nat_lt d n) 1 0)
  by_place n = elim (cases_lt d n) [ inl more ↦ many n more | inr h ↦ few n h ]

-- the uses of a file are those at its first places
pub uses_at : (n : ℕ) → uses n ≡ uses_from 0 (block_count n)
uses_at n = by_place 24 n

pub length-uses : (n : ℕ) → length (uses n) ≡ block_count n
length-uses n = ap length (uses_at n) ∙ length-map-range_with_len use_at 0 (block_count n)

-- the uses from one on
pub drop-uses : (k n : ℕ) → drop k (uses n) ≡ uses_from k (block_count n - k)
drop-uses k n = ap (drop k) (uses_at n) ∙ drop_range use_at k (block_count n)

pub new_uses_at : (low end : ℕ) → new_uses low end ≡ uses_from (block_count low) (block_count end - block_count low)
new_uses_at low end = ap (λ z. drop z (uses end)) (length-uses low) ∙ drop-uses (block_count low) end

pub given_uses_at : (low before : ℕ) → given_uses low before ≡ uses_from (block_count low) (block_count before - block_count low)
given_uses_at low before = ap (λ z. drop z (uses before)) (length-uses low) ∙ drop-uses (block_count low) before

pub length-new_uses : (low end : ℕ) → length (new_uses low end) ≡ block_count end - block_count low
length-new_uses low end = ap length (new_uses_at low end) ∙ length-map-range_with_len use_at (block_count low) (block_count end - block_count low)

pub place_of-use_at : (place : ℕ) → place_of (use_at place) ≡ place
place_of-use_at place = generally 24 place
  where
    generally : (d p : ℕ) → elim (at_place d p) as (λ v. ℕ) [ None ↦ d | Some page ↦ page + cond (nat_lt page d) 0 1 ] ≡ p
    generally d p = elim (cases_lt p d) [
      | inl low ↦
          let t : nat_lt p d ≡ true = grind (arith, common_steps) in
          rw (t, t) (add-zero p)
      | inr high ↦ elim (cases_lt d p) [
        | inl later ↦
            let t : nat_lt p d ≡ false = grind (arith, common_steps) in
            let u : (p == d) ≡ false = grind (arith, common_steps) in
            let v : nat_lt (p - 1) d ≡ false = grind (arith, common_steps) in
            rw (t, u, v) (omega arith)
        | inr same ↦
            let e : p ≡ d = omega arith in
            let t : nat_lt p d ≡ false = grind (arith, common_steps) in
            let u : (p == d) ≡ true = grind (arith, common_steps) in
            rw (t, u) (sym e)
      ]
    ]

-- the blocks of the uses from one on are those from its place on
pub given_are : (file : Mapped) (least : ℕ) → length file.blocks ≡ block_count (pages file.len) → map (block_of file) (given_uses least (pages file.len)) ≡ drop (block_count least) file.blocks
given_are file least whole =
    let n : ℕ = block_count (pages file.len) in
    let f : ℕ → ℕ = λ place. block_of file (use_at place) in
    let reads : file.blocks ≡ map f (range_with_len 0 n) = fill_by_all f file.blocks n 0 whole (λ k h. ap (λ z. get_or file.blocks z 0) (sym (place_of-use_at k))) in
    sym (drop-map (block_of file) (length (uses least)) (uses (pages file.len)))
    ∙ ap (λ z. drop z (map (block_of file) (uses (pages file.len)))) (length-uses least)
    ∙ ap (λ z. drop (block_count least) (map (block_of file) z)) (uses_at (pages file.len))
    ∙ ap (drop (block_count least)) (map-map (block_of file) use_at (range_with_len 0 n) ∙ sym reads)
