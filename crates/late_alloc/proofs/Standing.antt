-- The lowest blocks that are neither used nor held.
use Rattle.std.proofs.Common.{◌≡◌, ℕ, ◌+◌, ◌-◌, ◌≤◌, ◌++◌, Bool, true, false, cond, List, [], ◌∷◌, length, map, take, filter, refl, sym, ap, ◌∙◌, arith, zero-add}
use Rattle.std.specs.List.{range_with_len}
use Rattle.std.proofs.lemmas.List.{map-append, map-id, take_all, take-append-le}
use Rattle.std.proofs.lemmas.List.Elements.{filter-append}
use Rattle.std.proofs.lemmas.List.FromFn.{filter_of_map_range_with_len_more}
use Rattle.free_maps.specs.Maps.{Map}
use Rattle.block_maps.proofs.Lists.{range_parts}
use Rattle.late_alloc.specs.Choice.{is_unheld, unheld_below}

-- one data block more
pub unheld_more : (bits : Map) (held : List Bool) (first n : ℕ)
    → unheld_below bits held first (n + 1) ≡ unheld_below bits held first n ++ cond (is_unheld bits held first n) ((first + n) ∷ []) []
unheld_more bits held first n =
    let p : ℕ → Bool = is_unheld bits held first in
    ap (map (λ item. first + item)) (last p n)
    ∙ map-append (λ item. first + item) (filter p (range_with_len 0 n)) (cond (p n) (n ∷ []) [])
    ∙ ap (λ z. unheld_below bits held first n ++ z) (chosen first n (p n))
  where
    last : (p : ℕ → Bool) (n : ℕ) → filter p (range_with_len 0 (n + 1)) ≡ filter p (range_with_len 0 n) ++ cond (p n) (n ∷ []) []
    last p n = ap (filter p) (sym (map-id (range_with_len 0 (n + 1)))) ∙ filter_of_map_range_with_len_more p (λ k. k) 0 n n (omega arith)
        ∙ ap (λ z. filter p z ++ cond (p n) (n ∷ []) []) (map-id (range_with_len 0 n))

    chosen : (first n : ℕ) (b : Bool) → map (λ item. first + item) (cond b (n ∷ []) []) ≡ cond b ((first + n) ∷ []) []
    chosen first n true = refl
    chosen first n false = refl

-- those of the first data blocks are the first of all
pub first_unheld : (bits : Map) (held : List Bool) (first n m most : ℕ) (blocks : List ℕ) → n ≤ m → blocks ≡ unheld_below bits held first n → length blocks ≡ most
    → blocks ≡ take most (unheld_below bits held first m)
first_unheld bits held first n m most blocks h is many =
    let p : ℕ → Bool = is_unheld bits held first in
    let e : n + (m - n) ≡ m = omega arith in
    let rest : List ℕ = map (λ item. first + item) (filter p (range_with_len n (m - n))) in
    let parts : unheld_below bits held first m ≡ blocks ++ rest
    = ap (λ z. unheld_below bits held first z) (sym e)
    ∙ ap (λ z. map (λ item. first + item) (filter p z)) (range_parts 0 n (m - n) ∙ ap (λ z. range_with_len 0 n ++ range_with_len z (m - n)) (zero-add n))
    ∙ ap (map (λ item. first + item)) (filter-append p (range_with_len 0 n) (range_with_len n (m - n)))
    ∙ map-append (λ item. first + item) (filter p (range_with_len 0 n)) (filter p (range_with_len n (m - n)))
    ∙ ap (λ z. z ++ rest) (sym is) in
    sym (ap (take most) parts ∙ take-append-le most blocks rest (omega arith) ∙ take_all most blocks (omega arith))

-- all of them, where they aren't too many
pub all_unheld : (most : ℕ) (stand blocks : List ℕ) → blocks ≡ stand → length blocks ≤ most → blocks ≡ take most stand
all_unheld most stand blocks is h = sym (ap (take most) (sym is) ∙ take_all most blocks h)
