-- No update weighs more than the bound, where no file is too long.
use Rattle.std.proofs.Common.{◌≡◌, ℕ, ◌+◌, ◌-◌, ◌*◌, ◌/◌, ◌≤◌, List, [], ◌∷◌, length, refl, arith, ltb, leb}
use Rattle.std.specs.Prelude.{Bool, true, false, cond}
use Rattle.std.specs.declared.option.Option.{Option}
use Rattle.std.specs.declared.option.Option.TheVariants.{None, Some}
use Rattle.std.specs.FinMap.{get}
use Rattle.std.proofs.lemmas.Bool.{leb-true, leb-false}
use Rattle.ccfs_base.specs.Limits.{file_max, rounded, blocks}
use Rattle.ccfs_base.specs.Contents.{resized, written}
use Rattle.tree_model.specs.declared.rows.Body.{Body}
use Rattle.tree_model.specs.declared.rows.Body.TheVariants.{Dir, File}
use Rattle.tree_model.specs.declared.rows.Row.{Row}
use Rattle.tree_model.specs.declared.rows.Update.{Update}
use Rattle.tree_model.specs.declared.rows.Update.TheVariants.{Make, Write, Resize, Remove, Move, Release}
use Rattle.tree_model.specs.declared.rows.Entry.{Entry}
use Rattle.tree_model.specs.Rows.{Rows}
use Rattle.tree_model.specs.Updates.{Refill, change, counted, refilled, left_of, new_body, apply, Fits}
use Rattle.tree_model.specs.Weights.{body_bytes, row_bytes, length_at, live, lower, landed_by, weight}
use Rattle.tree_model.proofs.Live.{body_blocks, part, heavy, old_part, new_part, total_apply}
use Rattle.tree_cuts.specs.Calls.{Sizes}
use Rattle.history_model.specs.State.{Now, Opened, stream_in}
use Rattle.history_model.specs.Histories.{start, IsLegal, entered_by}
use Rattle.history_laws.specs.Laws.{IsSized, weight_max, IsLight, AreLight, NoUpdateWeighsMore}
use Rattle.history_laws.proofs.Sound.{IsSound, handles_left, Told}
use Rattle.history_laws.proofs.Kept.{told_fits}
use Rattle.history_laws.proofs.Runs.{sound_start, sound_next, told_next}
use Rattle.history_laws.proofs.Sized.{written_small, resized_small, sized_next}

pages_small : (size : ℕ) → size ≤ 4292608 → (size + 4095) / 4096 ≤ 1048
pages_small size h = grind arith

blocks_small : (size : ℕ) → size ≤ file_max → blocks size ≤ 1049
blocks_small size h = let p = pages_small size h in elim (ltb 24 ((size + 4095) / 4096)) as (λ b. (size + 4095) / 4096 + cond b 1 0 ≤ 1049) [ true ↦ omega arith | false ↦ omega arith ]

row_small : (o : Option Row) → length (row_bytes o) ≤ file_max → part body_blocks o ≤ 1049
row_small None h = omega arith
row_small (Some r) h = blocks_small (length (body_bytes r.body)) h

refilled_small : (f : List ℕ → List ℕ) (b : Body) → length (body_bytes b) ≤ file_max → ((file : List ℕ) → length file ≤ file_max → length (f file) ≤ file_max) → body_blocks (refilled f b) ≤ 1049
refilled_small f (Dir changes) h g = blocks_small 0 (omega arith)
refilled_small f (File bytes) h g = blocks_small (length (f bytes)) (g bytes h)

fill_small : (f : List ℕ → List ℕ) (o : Option Row) → length (row_bytes o) ≤ file_max → ((file : List ℕ) → length file ≤ file_max → length (f file) ≤ file_max) → part body_blocks (change (Refill f) o) ≤ 1049
fill_small f None h g = omega arith
fill_small f (Some r) h g = refilled_small f r.body h g

left_small : (stays : Bool) (o : Option Row) → length (row_bytes o) ≤ file_max → part body_blocks (left_of stays o) ≤ 1049
left_small true None h = omega arith
left_small true (Some r) h = blocks_small (length (body_bytes r.body)) h
left_small false o h = omega arith

old_small : (t : Rows) (u : Update) → IsSized t → old_part body_blocks t (heavy u) ≤ 1049
old_small t (Make dir name id k) s = row_small (get t id) (s id)
old_small t (Write id off bytes) s = row_small (get t id) (s id)
old_small t (Resize id size) s = row_small (get t id) (s id)
old_small t (Remove dir name id stays) s = row_small (get t id) (s id)
old_small t (Move dir name to_dir to_name id k None stays) s = omega arith
old_small t (Move dir name to_dir to_name id k (Some x) stays) s = row_small (get t x) (s x)
old_small t (Release id) s = row_small (get t id) (s id)

made_small : (k : Bool) → body_blocks (new_body k) ≤ 1049
made_small true = blocks_small 0 (omega arith)
made_small false = blocks_small 0 (omega arith)

new_small : (t : Rows) (u : Update) → Fits t u → IsSized t → new_part body_blocks t (heavy u) ≤ 1049
new_small t (Make dir name id k) f s = made_small k
new_small t (Write id off bytes) f s = fill_small (written off bytes) (get t id) (s id) (λ file h. written_small off bytes file f.2 h)
new_small t (Resize id size) f s = fill_small (resized size) (get t id) (s id) (λ file h. resized_small size file f.1)
new_small t (Remove dir name id stays) f s = left_small stays (get t id) (s id)
new_small t (Move dir name to_dir to_name id k None stays) f s = omega arith
new_small t (Move dir name to_dir to_name id k (Some x) stays) f s = left_small stays (get t x) (s x)
new_small t (Release id) f s = omega arith

rounded_near : (s : ℕ) → rounded s ≤ s + 4095
rounded_near s = grind arith

landed_write : (off l s r : ℕ) → l ≤ 65536 → r ≤ s + 4095 → lower (off + l) r - lower (lower off s) r ≤ 65536
landed_write off l s r a b = elim (leb (off + l) r) as (λ x. leb (off + l) r ≡ x → cond x (off + l) r - lower (lower off s) r ≤ 65536) [
  | true ↦ λ p. let q = leb-true (off + l) r p in elim (leb off s) as (λ y. leb off s ≡ y → (off + l) - lower (cond y off s) r ≤ 65536) [
    | true ↦ λ z. elim (leb off r) as (λ y. (off + l) - cond y off r ≤ 65536) [ true ↦ omega arith | false ↦ omega arith ]
    | false ↦ λ z. (let w = leb-false off s z in elim (leb s r) as (λ y. (off + l) - cond y s r ≤ 65536) [ true ↦ omega arith | false ↦ omega arith ])
  ] refl
  | false ↦ λ p. let q = leb-false (off + l) r p in elim (leb off s) as (λ y. leb off s ≡ y → r - lower (cond y off s) r ≤ 65536) [
    | true ↦ λ z. elim (leb off r) as (λ y. r - cond y off r ≤ 65536) [ true ↦ omega arith | false ↦ omega arith ]
    | false ↦ λ z. elim (leb s r) as (λ y. r - cond y s r ≤ 65536) [ true ↦ omega arith | false ↦ omega arith ]
  ] refl
] refl

landed_resize : (l s r : ℕ) → r ≤ s + 4095 → lower l r - lower s r ≤ 65536
landed_resize l s r b = elim (leb l r) as (λ x. leb l r ≡ x → cond x l r - lower s r ≤ 65536) [
  | true ↦ λ p. let q = leb-true l r p in elim (leb s r) as (λ y. l - cond y s r ≤ 65536) [ true ↦ omega arith | false ↦ omega arith ]
  | false ↦ λ p. elim (leb s r) as (λ y. r - cond y s r ≤ 65536) [ true ↦ omega arith | false ↦ omega arith ]
] refl

-- of an update that was accepted
module _ (sizes : Sizes) (n : Now) (s : ℕ) (hs : List Opened) where
  landed_small : (u : Update) → Told sizes n s hs u → landed_by n.tree u ≤ 65536
  landed_small (Make dir name id k) h = omega arith
  landed_small (Write id off bytes) h = landed_write off (length bytes) (length_at n.tree id) (rounded (length_at n.tree id)) h.1 (rounded_near (length_at n.tree id))
  landed_small (Resize id size) h = landed_resize size (length_at n.tree id) (rounded (length_at n.tree id)) (rounded_near (length_at n.tree id))
  landed_small (Remove dir name id stays) h = omega arith
  landed_small (Move dir name to_dir to_name id k o stays) h = omega arith
  landed_small (Release id) h = omega arith

weighed : (a b x y l : ℕ) → a + x ≡ b + y → x ≤ 1049 → y ≤ 1049 → l ≤ 65536 → 512 + l + 32 * ((a - b) + (b - a)) ≤ weight_max
weighed a b x y l e p q h = omega arith

pub calm_blocks : (b : Body) → body_blocks (counted b) ≡ body_blocks b
calm_blocks (Dir changes) = refl
calm_blocks (File bytes) = refl

light_update : (sizes : Sizes) (n : Now) (s : ℕ) (hs : List Opened) (u : Update) → Told sizes n s hs u → IsSized n.tree → weight n.tree u ≤ weight_max
light_update sizes n s hs u h sized =
    weighed (live (apply n.tree u)) (live n.tree) (old_part body_blocks n.tree (heavy u)) (new_part body_blocks n.tree (heavy u)) (landed_by n.tree u)
    (total_apply body_blocks calm_blocks n.tree u) (old_small n.tree u sized) (new_small n.tree u (told_fits sizes n s hs u h) sized) (landed_small sizes n s hs u h)

module _ (sizes : Sizes) where
  light_entry : (n : Now) (e : Entry) (h : List Entry) → IsSound n → IsSized n.tree → IsLegal sizes n (e ∷ h) → IsLight n.tree e.update
  light_entry n e h sound sized l = by e.update refl
    where
      by : (o : Option Update) → e.update ≡ o → IsLight n.tree o
      by None is = tt
      by (Some u) is = light_update sizes n (stream_in n.choices e.actor) (handles_left n e.actor e.command) u (told_next sizes n e h sound l u is) sized

  are_light : (n : Now) (h : List Entry) → IsSound n → IsSized n.tree → IsLegal sizes n h → AreLight sizes n h
  are_light n [] sound sized l = tt
  are_light n (e ∷ h) sound sized l = (light_entry n e h sound sized l, are_light (entered_by sizes n e) h (sound_next sizes n e h sound l) (sized_next sizes n e h sound sized l) l.2)

pub no_update_weighs_more : NoUpdateWeighsMore
no_update_weighs_more sizes t h tree sized l = are_light sizes (start t) h (sound_start t tree) sized l
