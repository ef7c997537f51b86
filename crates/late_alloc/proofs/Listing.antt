-- The files that operations are on, inodes rising.
use Rattle.std.proofs.Common.{◌≡◌, ℕ, zero, suc, ◌+◌, ◌-◌, ◌<◌, ◌≤◌, ◌==◌, ◌||◌, Bool, true, false, cond, List, [], ◌∷◌, ◌++◌, All, length, filter, get_or, refl, sym, ap, subst, ◌∙◌, arith, inl, inr, add-zero}
use Rattle.std.specs.Prelude.{Option, Some, None, T, is_some, flat_map, not}
use Rattle.std.specs.declared.cmp.Ordering.TheVariants.{Less}
use Rattle.std.specs.Ordering.{nat_cmp}
use Rattle.std.specs.Cmp.{nat_cmp_total}
use Rattle.std.specs.BTreeMap.{is_at}
use Rattle.std.specs.Map.{lookup, keys_of, values_of}
use Rattle.std.specs.List.Sorted.{IsStrictlySortedBy}
use Rattle.std.proofs.lemmas.Bool.{cases_eq, cases_Bool}
use Rattle.std.proofs.lemmas.Grind.{common_steps}
use Rattle.std.proofs.lemmas.List.Elements.{All-filter}
use Rattle.std.proofs.lemmas.List.Filters.{length-filter_both}
use Rattle.std.proofs.lemmas.Map.{lookup-none}
use Rattle.std.proofs.lemmas.Map.Entries.{lookup_head, lookup_tail, none_below_head}
use Rattle.std.proofs.lemmas.Map.Keys.{sorted_tail, below_from_sorted}
use Rattle.ccfs_base.specs.Limits.{file_max}
use Rattle.file_bodies.specs.declared.ops.BodyOp.{BodyOp}
use Rattle.file_bodies.specs.Files.{file_of}
use Rattle.late_alloc.specs.Lengths.{IsWithin}
use Rattle.block_maps.specs.Maps.{Mapped, file_at, no_file, IsWhole}
use Rattle.late_alloc.specs.declared.changes.Reach.{Reach}
use Rattle.late_alloc.specs.Reaches.{reach_by, reaches_from, reaches_of, is_touched, touched_of}
use Rattle.late_alloc.proofs.Reaching.{length_after_few, told_apart}

-- operations are on the first of so many files alone
touched_within : (inodes : ℕ) (ops : List BodyOp) (q : ℕ) → All (IsWithin inodes) ops → is_touched ops q ≡ true → q < inodes
touched_within inodes [] q within h = absurd (none h)
  where
    none : false ≡ true → ⊥
    none e = grind (arith, common_steps)
touched_within inodes (op ∷ rest) q within h = elim (cases_eq q (file_of op)) [
  | inl own ↦ omega (arith, (within 0 op (omega arith)).inode)
  | inr other ↦
      let told : (q == file_of op) ≡ false = told_apart q (file_of op) other in
      touched_within inodes rest q (λ k d l. within (suc k) d (omega arith)) (sym (ap (λ b. b || is_touched rest q) told) ∙ h)
]

-- ---- entries in order

abbrev Entries : Type 0
Entries = List (ℕ × Reach)

abbrev Above : ℕ → Entries → Type 0
Above i [] = Unit {0}
Above i (e ∷ es) = i ≤ e.0

key_same : (k q : ℕ) → q ≡ k → is_at (nat_cmp q) k ≡ true
key_same k q e = grind (arith, common_steps)

key_other : (k q : ℕ) → (q ≡ k → ⊥) → is_at (nat_cmp q) k ≡ false
key_other k q d = grind (arith, common_steps)

key_less : (q k : ℕ) → q < k → nat_cmp q k ≡ Less
key_less q k h = grind (arith, common_steps)

above_next : (e : ℕ × Reach) (es : Entries) → IsStrictlySortedBy nat_cmp (keys_of (e ∷ es)) → Above (e.0 + 1) es
above_next e [] sorted = tt
above_next e (f ∷ es) sorted = let h = below_from_sorted (keys_of (e ∷ f ∷ es)) 0 1 0 sorted (omega arith) (omega arith) in omega (arith, h)

no_some : (x : Reach) → None ≡ Some x → ⊥
no_some x e = subst (λ (z : Option Reach). T (is_some z)) (sym e) tt

same_some : (x y : Reach) → Some x ≡ Some y → x ≡ y
same_some x y e = ap (λ (z : Option Reach). elim z as (λ v. Reach) [ None ↦ x | Some v ↦ v ]) e

-- what stands at a file among files by inode, the first of them having inode i
abbrev want : List Mapped → ℕ → List BodyOp → ℕ → Option Reach
want files i ops q = cond (is_touched ops q) (Some (reach_by ops q (file_at files (q - i)).len)) None

abbrev pub listed : ℕ → List Mapped → List BodyOp → List Reach
listed i files ops = filter (λ reach. is_touched ops reach.inode) (reaches_from i files ops)

abbrev Finds : List Mapped → ℕ → List BodyOp → Entries → Type 0
Finds files i ops es = (q : ℕ) → i ≤ q → lookup (is_at (nat_cmp q)) es ≡ want files i ops q

want_later : (file : Mapped) (rest : List Mapped) (i q : ℕ) (ops : List BodyOp) → i + 1 ≤ q → want (file ∷ rest) i ops q ≡ want rest (i + 1) ops q
want_later file rest i q ops h =
    let e : q - i ≡ suc (q - (i + 1)) = omega arith in
    ap (λ z. cond (is_touched ops q) (Some (reach_by ops q (file_at (file ∷ rest) z).len)) None) e

want_here : (file : Mapped) (rest : List Mapped) (i : ℕ) (ops : List BodyOp) → want (file ∷ rest) i ops i ≡ cond (is_touched ops i) (Some (reach_by ops i file.len)) None
want_here file rest i ops =
    let e : i - i ≡ 0 = omega arith in
    ap (λ z. cond (is_touched ops i) (Some (reach_by ops i (file_at (file ∷ rest) z).len)) None) e

abbrev Within : ℕ → List BodyOp → Type 0
Within n ops = (q : ℕ) → is_touched ops q ≡ true → q < n

abbrev InOrder : List Mapped → ℕ → List BodyOp → Type 0
InOrder files i ops = (es : Entries) → IsStrictlySortedBy nat_cmp (keys_of es) → Above i es → Finds files i ops es → values_of es ≡ listed i files ops

higher : (i : ℕ) (es : Entries) → Above i es → lookup (is_at (nat_cmp i)) es ≡ None → Above (i + 1) es
higher i [] above none = tt
higher i (e ∷ es) above none = elim (cases_eq i e.0) [
  | inl same ↦ absurd (no_some e.1 (sym none ∙ lookup_head (is_at (nat_cmp i)) e es (key_same e.0 i same)))
  | inr apart ↦ omega (arith, above)
]

first_is : (file : Mapped) (rest : List Mapped) (i : ℕ) (ops : List BodyOp) (es : Entries) → InOrder rest (i + 1) ops → IsStrictlySortedBy nat_cmp (keys_of es) → Above i es
    → Finds (file ∷ rest) i ops es → lookup (is_at (nat_cmp i)) es ≡ Some (reach_by ops i file.len) → values_of es ≡ reach_by ops i file.len ∷ listed (i + 1) rest ops
first_is file rest i ops [] behind sorted above finds there = absurd (no_some (reach_by ops i file.len) there)
first_is file rest i ops (e ∷ es) behind sorted above finds there = elim (cases_eq i e.0) [
  | inl same ↦
      let value : e.1 ≡ reach_by ops i file.len = same_some e.1 (reach_by ops i file.len) (sym (lookup_head (is_at (nat_cmp i)) e es (key_same e.0 i same)) ∙ there) in
      let above_rest : Above (i + 1) es = subst (λ z. Above (z + 1) es) (sym same) (above_next e es sorted) in
      ap (λ z. z ∷ values_of es) value
      ∙ ap (λ z. reach_by ops i file.len ∷ z) (behind es (sorted_tail nat_cmp e.0 (keys_of es) sorted) above_rest
      (λ q h. sym (lookup_tail (is_at (nat_cmp q)) e es (key_other e.0 q (λ s. omega (arith, same, s)))) ∙ finds q (omega arith) ∙ want_later file rest i q ops h))
  | inr apart ↦
      absurd (no_some (reach_by ops i file.len)
      (sym (lookup-none (is_at (nat_cmp i)) (e ∷ es) (none_below_head nat_cmp_total i e es sorted (key_less i e.0 (omega (arith, above))))) ∙ there))
]

pub in_order : (files : List Mapped) (i : ℕ) (ops : List BodyOp) → Within (i + length files) ops → InOrder files i ops
in_order [] i ops within [] sorted above finds = refl
in_order [] i ops within (e ∷ es) sorted above finds =
    let there : lookup (is_at (nat_cmp e.0)) (e ∷ es) ≡ Some e.1 = lookup_head (is_at (nat_cmp e.0)) e es (key_same e.0 e.0 refl) in
    elim (cases_Bool (is_touched ops e.0)) [
      | inl told ↦ absurd (omega (arith, within e.0 told, above))
      | inr told ↦
          absurd (no_some e.1 (sym (finds e.0 above ∙ ap (λ b. cond b (Some (reach_by ops e.0 (file_at [] (e.0 - i)).len)) None) told) ∙ there))
    ]
in_order (file ∷ rest) i ops within es sorted above finds =
    let more : Within (i + 1 + length rest) ops = λ q t. omega (arith, within q t) in
    let here : lookup (is_at (nat_cmp i)) es ≡ cond (is_touched ops i) (Some (reach_by ops i file.len)) None = finds i (omega arith) ∙ want_here file rest i ops in
    elim (cases_Bool (is_touched ops i)) [
      | inl told ↦
          first_is file rest i ops es (in_order rest (i + 1) ops more) sorted above finds (here ∙ ap (λ b. cond b (Some (reach_by ops i file.len)) None) told)
          ∙ sym (ap (λ b. cond b (reach_by ops i file.len ∷ listed (i + 1) rest ops) (listed (i + 1) rest ops)) told)
      | inr told ↦
          in_order rest (i + 1) ops more es sorted (higher i es above (here ∙ ap (λ b. cond b (Some (reach_by ops i file.len)) None) told))
          (λ q h. finds q (omega arith) ∙ want_later file rest i q ops h)
          ∙ sym (ap (λ b. cond b (reach_by ops i file.len ∷ listed (i + 1) rest ops) (listed (i + 1) rest ops)) told)
    ]

above_zero : (es : Entries) → Above 0 es
above_zero [] = tt
above_zero (e ∷ es) = omega arith

-- the entries of all files so far, in order
pub all_in_order : (files : List Mapped) (ops : List BodyOp) (es : Entries) → IsStrictlySortedBy nat_cmp (keys_of es) → All (IsWithin (length files)) ops
    → ((q : ℕ) → lookup (is_at (nat_cmp q)) es ≡ cond (is_touched ops q) (Some (reach_by ops q (file_at files q).len)) None) → values_of es ≡ touched_of files ops
all_in_order files ops es sorted within finds =
    in_order files 0 ops (λ q t. omega (arith, touched_within (length files) ops q within t)) es sorted (above_zero es)
    (λ q h. let e : q - 0 ≡ q = omega arith in finds q ∙ ap (λ z. cond (is_touched ops q) (Some (reach_by ops q (file_at files z).len)) None) (sym e))

-- ---- one file of several

pub length-reaches_from : (files : List Mapped) (first : ℕ) (ops : List BodyOp) → length (reaches_from first files ops) ≡ length files
length-reaches_from [] first ops = refl
length-reaches_from (file ∷ rest) first ops = ap suc (length-reaches_from rest (first + 1) ops)

pub reach_is : (files : List Mapped) (first : ℕ) (ops : List BodyOp) (k : ℕ) (d : Reach) → k < length files → get_or (reaches_from first files ops) k d ≡ reach_by ops (first + k) (file_at files k).len
reach_is [] first ops k d h = absurd (omega arith)
reach_is (file ∷ rest) first ops zero d h = ap (λ z. reach_by ops z file.len) (sym (add-zero first))
reach_is (file ∷ rest) first ops (suc k) d h = reach_is rest (first + 1) ops k d (omega arith) ∙ ap (λ z. reach_by ops z (file_at rest k).len) (omega arith)

-- what holds of each file by its inode holds of those that operations are on
pub All-touched : (P : Reach → Type 0) (files : List Mapped) (ops : List BodyOp) → ((k : ℕ) → k < length files → P (reach_by ops k (file_at files k).len)) → All P (touched_of files ops)
All-touched P files ops each =
    All-filter (λ (reach : Reach). is_touched ops reach.inode) P (reaches_of files ops)
    (λ k d h.
    let in_files : k < length files = omega (arith, length-reaches_from files 0 ops) in
    let e : 0 + k ≡ k = omega arith in
    subst P (sym (reach_is files 0 ops k d in_files ∙ ap (λ z. reach_by ops z (file_at files k).len) e)) (each k in_files))

pub touched_end : (files : List Mapped) (ops : List BodyOp) → All IsWhole files → All (IsWithin (length files)) ops → All (λ (reach : Reach). reach.end ≤ file_max) (touched_of files ops)
touched_end files ops whole within =
    All-touched (λ (reach : Reach). reach.end ≤ file_max) files ops (λ k h. length_after_few (length files) ops k (file_at files k).len within (whole k no_file h).len)

pub touched_in : (files : List Mapped) (ops : List BodyOp) → All (λ (reach : Reach). reach.inode < length files) (touched_of files ops)
touched_in files ops = All-touched (λ (reach : Reach). reach.inode < length files) files ops (λ k h. h)

pub length-touched : (files : List Mapped) (ops : List BodyOp) → length (touched_of files ops) ≤ length files
length-touched files ops =
    omega (arith, length-filter_both (λ (reach : Reach). is_touched ops reach.inode) (λ (reach : Reach). not (is_touched ops reach.inode)) (λ x. refl) (reaches_of files ops), length-reaches_from files 0 ops)

-- what files that no operation is on have none of, is as much of all files
flat_filter : {A : Type 0} (f : Reach → List A) (p : Reach → Bool) (xs : List Reach) → ((k : ℕ) (d : Reach) → k < length xs → p (get_or xs k d) ≡ false → f (get_or xs k d) ≡ [])
    → flat_map f (filter p xs) ≡ flat_map f xs
flat_filter f p [] none = refl
flat_filter f p (x ∷ xs) none =
    let rec : flat_map f (filter p xs) ≡ flat_map f xs = flat_filter f p xs (λ k d h n. none (suc k) d (omega arith) n) in
    elim (cases_Bool (p x)) [
      | inl told ↦ ap (λ b. flat_map f (cond b (x ∷ filter p xs) (filter p xs))) told ∙ ap (λ z. f x ++ z) rec
      | inr told ↦ ap (λ b. flat_map f (cond b (x ∷ filter p xs) (filter p xs))) told ∙ rec ∙ sym (ap (λ z. z ++ flat_map f xs) (none 0 x (omega arith) told))
    ]

pub flat_touched : {A : Type 0} (f : Reach → List A) (files : List Mapped) (ops : List BodyOp)
    → ((k : ℕ) → k < length files → is_touched ops k ≡ false → f (reach_by ops k (file_at files k).len) ≡ []) → flat_map f (touched_of files ops) ≡ flat_map f (reaches_of files ops)
flat_touched f files ops none =
    flat_filter f (λ (reach : Reach). is_touched ops reach.inode) (reaches_of files ops)
    (λ k d h n.
    let in_files : k < length files = omega (arith, length-reaches_from files 0 ops) in
    let e : 0 + k ≡ k = omega arith in
    let is : get_or (reaches_of files ops) k d ≡ reach_by ops k (file_at files k).len = reach_is files 0 ops k d in_files ∙ ap (λ z. reach_by ops z (file_at files k).len) e in
    ap f is ∙ none k in_files (sym (ap (λ (z : Reach). is_touched ops z.inode) is) ∙ n))
