-- What one operation more does to the lengths of files.
use Rattle.std.proofs.Common.{◌≡◌, ℕ, suc, ◌≤◌, ◌==◌, ◌||◌, Bool, true, false, cond, min, List, [], ◌∷◌, ◌++◌, All, refl, sym, ap, ◌∙◌, arith, inl, inr}
use Rattle.std.specs.Prelude.{Option, Some, None, unwrap_or}
use Rattle.std.specs.Ordering.{nat_cmp}
use Rattle.std.specs.BTreeMap.{is_at}
use Rattle.std.proofs.lemmas.Bool.{cases_eq, cases_Bool}
use Rattle.std.proofs.lemmas.Grind.{common_steps}
use Rattle.std.proofs.lemmas.List.Folds.{list_any-append}
use Rattle.ccfs_base.specs.Limits.{file_max, pages}
use Rattle.file_bodies.specs.declared.ops.BodyOp.{BodyOp}
use Rattle.file_bodies.specs.declared.ops.BodyOp.TheVariants as ops
use Rattle.file_bodies.specs.Files.{file_of}
use Rattle.late_alloc.specs.Lengths.{length_by, length_in, length_after, least_pages, reach_of, IsWithin}
use Rattle.block_maps.specs.Maps.{Mapped, file_at}
use Rattle.late_alloc.specs.declared.changes.Reach.{Reach}
use Rattle.late_alloc.specs.Reaches.{reach_by, is_touched}
use Rattle.late_alloc.specs.Steps.{started, stepped}

pub told_equal : (m n : ℕ) → m ≡ n → (m == n) ≡ true
told_equal m n e = grind (arith, common_steps)

pub told_apart : (m n : ℕ) → (m ≡ n → ⊥) → (m == n) ≡ false
told_apart m n d = grind (arith, common_steps)

-- ---- lengths

length_by_few : (op : BodyOp) (len : ℕ) → reach_of op ≤ file_max → len ≤ file_max → length_by op len ≤ file_max
length_by_few (ops.Put inode off bytes) len h l = omega arith
length_by_few (ops.Grow inode to) len h l = omega arith
length_by_few (ops.Shrink inode to) len h l = omega arith
length_by_few (ops.Drop inode) len h l = omega arith

one_few : (own : Bool) (op : BodyOp) (len : ℕ) → reach_of op ≤ file_max → len ≤ file_max → cond own (length_by op len) len ≤ file_max
one_few true op len h l = length_by_few op len h l
one_few false op len h l = l

-- no file becomes longer than the greatest file
pub length_after_few : (inodes : ℕ) (ops : List BodyOp) (i len : ℕ) → All (IsWithin inodes) ops → len ≤ file_max → length_after i len ops ≤ file_max
length_after_few inodes [] i len within h = h
length_after_few inodes (op ∷ rest) i len within h =
    length_after_few inodes rest i (length_in i op len) (λ k d l. within (suc k) d (omega arith)) (one_few (i == file_of op) op len (within 0 op (omega arith)).reach h)

length_more : (i len : ℕ) (ops : List BodyOp) (op : BodyOp) → length_after i len (ops ++ op ∷ []) ≡ length_in i op (length_after i len ops)
length_more i len [] op = refl
length_more i len (first ∷ rest) op = length_more i (length_in i first len) rest op

least_more : (i len : ℕ) (ops : List BodyOp) (op : BodyOp)
    → least_pages i len (ops ++ op ∷ []) ≡ min (least_pages i len ops) (pages (length_in i op (length_after i len ops)))
least_more i len [] op = refl
least_more i len (first ∷ rest) op =
    ap (λ z. min (pages len) z) (least_more i (length_in i first len) rest op)
    ∙ in_turn (pages len) (least_pages i (length_in i first len) rest) (pages (length_in i op (length_after i (length_in i first len) rest)))
  where
    in_turn : (a b c : ℕ) → min a (min b c) ≡ min (min a b) c
    in_turn a b c = omega arith

abbrev pub reach : ℕ → ℕ → ℕ → Reach
reach i least end = record { inode = i; least = least; end = end }

made : (i l m e f : ℕ) → l ≡ m → e ≡ f → reach i l e ≡ reach i m f
made i l m e f p q = cc

-- the file of an operation more
pub reach_more : (ops : List BodyOp) (op : BodyOp) (i len : ℕ) → i ≡ file_of op → reach_by (ops ++ op ∷ []) i len ≡ stepped op (reach_by ops i len)
reach_more ops op i len own =
    let after : ℕ = length_after i len ops in
    let l : length_in i op after ≡ length_by op after = ap (λ b. cond b (length_by op after) after) (told_equal i (file_of op) own) in
    made i (least_pages i len (ops ++ op ∷ [])) (min (least_pages i len ops) (pages (length_by op after))) (length_after i len (ops ++ op ∷ [])) (length_by op after)
    (least_more i len ops op ∙ ap (λ z. min (least_pages i len ops) (pages z)) l) (length_more i len ops op ∙ l)

least_low : (i len : ℕ) (ops : List BodyOp) → least_pages i len ops ≤ pages (length_after i len ops)
least_low i len [] = omega arith
least_low i len (op ∷ rest) = omega (arith, least_low i (length_in i op len) rest)

-- another file stays as it is
pub reach_other : (ops : List BodyOp) (op : BodyOp) (i len : ℕ) → (i ≡ file_of op → ⊥) → reach_by (ops ++ op ∷ []) i len ≡ reach_by ops i len
reach_other ops op i len other =
    let after : ℕ = length_after i len ops in
    let l : length_in i op after ≡ after = ap (λ b. cond b (length_by op after) after) (told_apart i (file_of op) other) in
    let low : least_pages i len ops ≤ pages after = least_low i len ops in
    made i (least_pages i len (ops ++ op ∷ [])) (least_pages i len ops) (length_after i len (ops ++ op ∷ [])) after
    (least_more i len ops op ∙ ap (λ z. min (least_pages i len ops) (pages z)) l ∙ omega arith) (length_more i len ops op ∙ l)

-- a file that no operation is on
pub reach_none : (ops : List BodyOp) (i len : ℕ) → is_touched ops i ≡ false → reach_by ops i len ≡ reach i (pages len) len
reach_none [] i len h = refl
reach_none (op ∷ rest) i len h =
    let told : (i == file_of op) ≡ false = grind (arith, common_steps) in
    let behind : is_touched rest i ≡ false = grind (arith, common_steps) in
    let l : length_in i op len ≡ len = ap (λ b. cond b (length_by op len) len) told in
    let rec : reach_by rest i len ≡ reach i (pages len) len = reach_none rest i len behind in
    made i (least_pages i len (op ∷ rest)) (pages len) (length_after i len (op ∷ rest)) len
    (ap (λ z. min (pages len) (least_pages i z rest)) l ∙ ap (λ z. min (pages len) z) (ap (λ (z : Reach). z.least) rec) ∙ omega arith)
    (ap (λ z. length_after i z rest) l ∙ ap (λ (z : Reach). z.end) rec)

touched_more : (ops : List BodyOp) (op : BodyOp) (i : ℕ) → is_touched (ops ++ op ∷ []) i ≡ (is_touched ops i || (i == file_of op))
touched_more ops op i = list_any-append (λ o. i == file_of o) ops (op ∷ []) ∙ last (is_touched ops i) (i == file_of op)
  where
    last : (a b : Bool) → (a || (b || false)) ≡ (a || b)
    last a b = grind (arith, common_steps)

-- ---- all files so far

-- what operations did to a file by its inode, and None where none was on it
abbrev pub so_far : List Mapped → List BodyOp → ℕ → Option Reach
so_far files ops q = cond (is_touched ops q) (Some (reach_by ops q (file_at files q).len)) None

key_told : (k q : ℕ) → is_at (nat_cmp k) q ≡ (k == q)
key_told k q = grind (arith, common_steps)

-- what is found of the file, or stands for it
pub found_is : (files : List Mapped) (ops : List BodyOp) (k : ℕ) (v : Reach) → v ≡ unwrap_or (so_far files ops k) (started files k) → v ≡ reach_by ops k (file_at files k).len
found_is files ops k v e = e ∙ elim (cases_Bool (is_touched ops k)) [
  | inl told ↦ ap (λ b. unwrap_or (cond b (Some (reach_by ops k (file_at files k).len)) None) (started files k)) told
  | inr told ↦
      ap (λ b. unwrap_or (cond b (Some (reach_by ops k (file_at files k).len)) None) (started files k)) told
      ∙ sym (reach_none ops k (file_at files k).len told)
]

-- one operation more
pub so_far_more : (files : List Mapped) (ops : List BodyOp) (op : BodyOp) (k : ℕ) (v : Reach) (q : ℕ) (new : Option Reach) → k ≡ file_of op → v ≡ reach_by ops k (file_at files k).len
    → new ≡ cond (is_at (nat_cmp k) q) (Some (stepped op v)) (so_far files ops q) → new ≡ so_far files (ops ++ op ∷ []) q
so_far_more files ops op k v q new own is e = elim (cases_eq q k) [
  | inl same ↦
      let here : q ≡ file_of op = same ∙ own in
      let told : is_at (nat_cmp k) q ≡ true = key_told k q ∙ told_equal k q (sym same) in
      let touched : is_touched (ops ++ op ∷ []) q ≡ true = touched_more ops op q ∙ ap (λ b. is_touched ops q || b) (told_equal q (file_of op) here) ∙ or_true (is_touched ops q) in
      e ∙ ap (λ b. cond b (Some (stepped op v)) (so_far files ops q)) told
      ∙ ap (λ z. Some z) (ap (stepped op) (is ∙ ap (λ z. reach_by ops z (file_at files z).len) (sym same)) ∙ sym (reach_more ops op q (file_at files q).len here))
      ∙ sym (ap (λ b. cond b (Some (reach_by (ops ++ op ∷ []) q (file_at files q).len)) None) touched)
  | inr apart ↦
      let other : q ≡ file_of op → ⊥ = λ h. apart (h ∙ sym own) in
      let told : is_at (nat_cmp k) q ≡ false = key_told k q ∙ told_apart k q (λ h. apart (sym h)) in
      let touched : is_touched (ops ++ op ∷ []) q ≡ is_touched ops q = touched_more ops op q ∙ ap (λ b. is_touched ops q || b) (told_apart q (file_of op) other) ∙ or_false (is_touched ops q) in
      e ∙ ap (λ b. cond b (Some (stepped op v)) (so_far files ops q)) told
      ∙ sym (ap (λ b. cond b (Some (reach_by (ops ++ op ∷ []) q (file_at files q).len)) None) touched
      ∙ ap (λ z. cond (is_touched ops q) (Some z) None) (reach_other ops op q (file_at files q).len other))
]
  where
    or_true : (a : Bool) → (a || true) ≡ true
    or_true a = grind (arith, common_steps)

    or_false : (a : Bool) → (a || false) ≡ a
    or_false a = grind (arith, common_steps)
