-- One row of a picture shown, and what is still ahead.
use Rattle.std.proofs.Common.{◌≡◌, ℕ, zero, suc, ◌+◌, ◌-◌, ◌<◌, ◌≤◌, List, [], ◌∷◌, ◌++◌, refl, sym, ap, ◌∙◌, arith, append_assoc}
use Rattle.std.specs.Prelude.{Bool, true, false, cond, nat_lt, map, reverse}
use Rattle.std.specs.List.{flat_map}
use Rattle.std.specs.declared.option.Option.{Option}
use Rattle.std.specs.declared.option.Option.TheVariants.{None, Some}
use Rattle.std.specs.FinMap.{get, len, len-entries}
use Rattle.std.proofs.lemmas.Bool.{lt-ltb, le-ltb}
use Rattle.std.proofs.lemmas.List.{append-nil, reverse-append, reverse-reverse}
use Rattle.std.proofs.lemmas.Grind.{flat_map-append}
use Rattle.tree_model.specs.declared.picturing.Item.{Item}
use Rattle.tree_model.specs.declared.rows.Row.{Row}
use Rattle.tree_model.specs.Rows.{Rows}
use Rattle.tree_model.specs.Entries.{Index, children, entries_of}
use Rattle.tree_model.specs.Nodes.{IndexedRow}
use Rattle.tree_model.specs.Picture.{item_kind, head, items, with_entries, node_of, below}

-- the items of a row and of those below it, by depth and serial
abbrev pub shown_at : ℕ → Rows → (ℕ × ℕ) → List Item
shown_at levels t s = items (levels - s.0) t s.0 s.1

-- those of all that is ahead, the next one last
abbrev pub still : ℕ → Rows → List (ℕ × ℕ) → List Item
still levels t ahead = flat_map (shown_at levels t) (reverse ahead)

over_map : {X Y Z : Type 0} (f : Y → List Z) (g : X → Y) (h : X → List Z) → ((x : X) → f (g x) ≡ h x) → (xs : List X) → flat_map h xs ≡ flat_map f (map g xs)
over_map f g h is [] = refl
over_map f g h is (x ∷ xs) = ap (λ z. z ++ flat_map h xs) (sym (is x)) ∙ ap (λ z. f (g x) ++ z) (over_map f g h is xs)

items_from : (n levels depth : ℕ) (t : Rows) (x : ℕ) → levels - depth ≡ n → items n t depth x ≡ head t depth x (get t x) ++ flat_map (shown_at levels t) (below levels t depth x)
items_from zero levels depth t x e =
    let le : levels ≤ depth = omega arith in
    sym (append-nil _) ∙ ap (λ b. head t depth x (get t x) ++ flat_map (shown_at levels t) (cond b (map (λ e. (depth + 1, e.1)) (children t x)) [])) (sym (le-ltb depth levels le))
items_from (suc n) levels depth t x e =
    let lt : depth < levels = omega arith in
    let rest : levels - (depth + 1) ≡ n = omega arith in
    ap (λ z. head t depth x (get t x) ++ z) (over_map (shown_at levels t) (λ (e : List ℕ × ℕ). (depth + 1, e.1)) (λ e. items n t (depth + 1) e.1) (λ e. ap (λ k. items k t (depth + 1) e.1) rest) (children t x)
    ∙ ap (λ b. flat_map (shown_at levels t) (cond b (map (λ e. (depth + 1, e.1)) (children t x)) [])) (sym (lt-ltb depth levels lt)))

pub one_shown : (levels : ℕ) (t : Rows) (ahead : List (ℕ × ℕ)) (depth x : ℕ) (out all : List Item) → out ++ still levels t (ahead ++ (depth, x) ∷ []) ≡ all
    → (out ++ head t depth x (get t x)) ++ still levels t (ahead ++ reverse (below levels t depth x)) ≡ all
one_shown levels t ahead depth x out all is =
    let F = flat_map (shown_at levels t) in
    let B = below levels t depth x in
    let H = head t depth x (get t x) in
    ap (λ z. (out ++ H) ++ F z) (reverse-append ahead (reverse B) ∙ ap (λ z. z ++ reverse ahead) (reverse-reverse B))
    ∙ append_assoc out H _
    ∙ ap (λ z. out ++ (H ++ z)) (flat_map-append (shown_at levels t) B (reverse ahead))
    ∙ ap (λ z. out ++ z) (sym (append_assoc H (F B) (F (reverse ahead))) ∙ ap (λ z. z ++ F (reverse ahead)) (sym (items_from (levels - depth) levels depth t x refl)))
    ∙ ap (λ z. out ++ F z) (sym (reverse-append ahead ((depth, x) ∷ [])))
    ∙ is

-- ---- that it ends: each row shown leaves less ahead
abbrev pub total : {X : Type 0} → (X → ℕ) → List X → ℕ
total f [] = 0
total f (x ∷ xs) = f x + total f xs

total-append : {X : Type 0} (f : X → ℕ) (xs ys : List X) → total f (xs ++ ys) ≡ total f xs + total f ys
total-append f [] ys = omega arith
total-append f (x ∷ xs) ys = let a = total-append f xs ys in omega arith

abbrev pub weight : ℕ → Rows → ℕ → ℕ
weight zero t x = 1
weight (suc levels) t x = suc (total (λ e. weight levels t e.1) (children t x))

abbrev pub weight_at : ℕ → Rows → (ℕ × ℕ) → ℕ
weight_at levels t s = weight (levels - s.0) t s.1

sum_over_map : {X Y : Type 0} (f : Y → ℕ) (g : X → Y) (h : X → ℕ) → ((x : X) → f (g x) ≡ h x) → (xs : List X) → total h xs ≡ total f (map g xs)
sum_over_map f g h is [] = refl
sum_over_map f g h is (x ∷ xs) = let a = is x in let b = sum_over_map f g h is xs in omega arith

sum_reverse : {X : Type 0} (f : X → ℕ) (xs : List X) → total f (reverse xs) ≡ total f xs
sum_reverse f [] = refl
sum_reverse f (x ∷ xs) = let a = total-append f (reverse xs) (x ∷ []) in let b = sum_reverse f xs in ap (total f) (reverse-append (x ∷ []) xs) ∙ omega arith

weight_from : (n levels depth : ℕ) (t : Rows) (x : ℕ) → levels - depth ≡ n → weight n t x ≡ suc (total (weight_at levels t) (below levels t depth x))
weight_from zero levels depth t x e =
    let le : levels ≤ depth = omega arith in
    ap (λ b. suc (total (weight_at levels t) (cond b (map (λ e. (depth + 1, e.1)) (children t x)) []))) (sym (le-ltb depth levels le))
weight_from (suc n) levels depth t x e =
    let lt : depth < levels = omega arith in
    let rest : levels - (depth + 1) ≡ n = omega arith in
    ap (λ z. suc z) (sum_over_map (weight_at levels t) (λ (e : List ℕ × ℕ). (depth + 1, e.1)) (λ e. weight n t e.1) (λ e. ap (λ k. weight k t e.1) rest) (children t x)
    ∙ ap (λ b. total (weight_at levels t) (cond b (map (λ e. (depth + 1, e.1)) (children t x)) [])) (sym (lt-ltb depth levels lt)))

pub less_ahead : (levels : ℕ) (t : Rows) (ahead : List (ℕ × ℕ)) (depth x : ℕ)
    → total (weight_at levels t) (ahead ++ reverse (below levels t depth x)) < total (weight_at levels t) (ahead ++ (depth, x) ∷ [])
less_ahead levels t ahead depth x =
    let W = weight_at levels t in
    let a = total-append W ahead (reverse (below levels t depth x)) in
    let b = sum_reverse W (below levels t depth x) in
    let c = total-append W ahead ((depth, x) ∷ []) in
    let d = weight_from (levels - depth) levels depth t x refl in
    omega arith

-- ---- what a node shows
parts : (i : Index) (o : Option Row) (k : IndexedRow) → with_entries i o ≡ Some k → (o ≡ Some k.0) × (i ≡ k.1)
parts i None k e = absurd (cc)
parts i (Some r) k e = (cc, cc)

pub head_shown : (t : Rows) (depth x : ℕ) (k : IndexedRow) → Some k ≡ node_of t x
    → head t depth x (get t x) ≡ (record { depth = depth; name = k.0.name; kind = item_kind (len k.1) k.0.body }) ∷ []
head_shown t depth x k is =
    let p = parts (entries_of t x) (get t x) k (sym is) in
    ap (head t depth x) p.0
    ∙ ap (λ n. (record { depth = depth; name = k.0.name; kind = item_kind n k.0.body }) ∷ []) (sym (len-entries (entries_of t x)) ∙ ap len p.1)

no_matter : {A : Type 0} (b : Bool) (x : A) → cond b x x ≡ x
no_matter true x = refl
no_matter false x = refl

pub nothing_below : (levels : ℕ) (t : Rows) (depth x : ℕ) → children t x ≡ [] → below levels t depth x ≡ []
nothing_below levels t depth x none = ap (λ l. cond (nat_lt depth levels) (map (λ (e : List ℕ × ℕ). (depth + 1, e.1)) l) []) none ∙ no_matter (nat_lt depth levels) []
