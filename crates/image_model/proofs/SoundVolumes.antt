-- A sound volume carries its tree.
use Rattle.std.proofs.Common.{◌≡◌, ℕ, ◌<◌, ◌≢◌, List, [], ◌∷◌, take, refl, sym, ap, ◌∙◌, inl, inr, arith}
use Rattle.std.specs.Prelude.{Bool, true, false, cond, not, ◌&&◌, ◌||◌, ◌==◌, nat_lt, nat_le, Option, Some, None, MatchOption, flat_map}
use Rattle.std.specs.List.{range_with_len}
use Rattle.std.proofs.lemmas.Bool.{and_parts, and_from, cases_lt, both_ways, or_left, or_right, lt-ltb, ltb-true, le-leb}
use Rattle.ccfs_base.specs.Limits.{pages}
use Rattle.inode_table.specs.declared.attrs.Attr.{Attr}
use Rattle.tree_model.specs.Tests.{is_it}
use Rattle.image_model.specs.Fields.{slot_block, counter_block}
use Rattle.image_model.specs.Volumes.{Volume, Table, table_of, number, format, block_bytes}
use Rattle.image_model.specs.declared.pointer.Pointer.TheVariants.{Page}
use Rattle.image_model.specs.Files.{is_dir_kind, is_dir_at, is_dir_attr, is_file_at, is_file_attr, length_told, named, file_bytes}
use Rattle.image_model.specs.Lowest.{lowest, NoneBelow, IsLowest}
use Rattle.image_model.specs.Checks.{all_built, is_entry, is_bad_slot, is_twin, is_in_ring, parent_at, is_not_bare, IsBare, block_of, unless, is_last, first_failure}
use Rattle.image_model.specs.Trees.{has_row, by_inodes, gone, inodes_of}
use Rattle.image_model.specs.Carrying.{inode_in}
use Rattle.image_model.specs.SoundLaws.{SoundVolumesCarry, SoundBesideBatches, ListsRows, InodesAreListed, BareVolumesAreBare}
use Rattle.image_model.proofs.Least.{lowest_is_lowest}
use Rattle.image_model.proofs.Halves.{each_passes, all_pass, right}
use Rattle.image_model.proofs.NoMore.{bare_is_no_more}
use Rattle.image_model.proofs.PreorderLists.{In, first_place, in_at, stands_at, first_at}
use Rattle.image_model.proofs.SoundNumbers.{Numbers}
use Rattle.image_model.proofs.SoundTable.{IsSoundTable, row_there, no_place, entry_here}
use Rattle.image_model.proofs.SoundListed.{gone_is, numbers, serials_tree, serials_renamed, serials_are_places}

-- ---- the table of a sound volume

none_there : (test : ℕ → Bool) (n : ℕ) (o : Option ℕ) → MatchOption o (NoneBelow test n) (IsLowest test n) → o ≡ None → NoneBelow test n
none_there test n None none e = none
none_there test n (Some i) lowest_is e = absurd (cc)

unmapped : (f : ℕ → ℕ) (o : Option ℕ) → block_of f o ≡ None → o ≡ None
unmapped f None e = refl
unmapped f (Some x) e = absurd (cc)

none_below : (test : ℕ → Bool) (n : ℕ) (f : ℕ → ℕ) → block_of f (lowest test n) ≡ None → NoneBelow test n
none_below test n f e = none_there test n (lowest test n) (lowest_is_lowest test n) (unmapped f (lowest test n) e)

pub sound_table : (v : Volume) → first_failure None v ≡ None → IsSoundTable (table_of v)
sound_table v none =
    let n = each_passes all_built None v none in
    let roots = and_parts (is_dir_at (table_of v) 0) (is_dir_at (table_of v) 1) (right _ _ n.roots) in
    record {
      root = roots.0;
      orphans = roots.1;
      slots = none_below (is_bad_slot all_built (table_of v)) v.inodes (slot_block v.inodes) n.slots;
      twins = none_below (is_twin (table_of v)) v.inodes (slot_block v.inodes) n.twins;
      rings = none_below (is_in_ring (table_of v)) v.inodes (slot_block v.inodes) n.rings;
    }

pub sound_volumes_carry : SoundVolumesCarry
sound_volumes_carry v none =
    let t = sound_table v none in (
      serials_tree (table_of v) (file_bytes v) t,
      record { sound = none; renamed = serials_renamed (table_of v) (file_bytes v) t },
    )

-- ---- the batch number

pub sound_beside_batches : SoundBesideBatches
sound_beside_batches last v none =
    let n = each_passes all_built last v none in
    let told = and_parts (format v == 1) (is_last last (number v)) (right _ _ n.formatted) in
    all_pass all_built None v (record {
      formatted = ap (λ b. unless (b && true) counter_block) told.0;
      roots = n.roots;
      records = n.records;
      slots = n.slots;
      twins = n.twins;
      rings = n.rings;
      named_once = n.named_once;
      marked = n.marked;
      counted = n.counted;
    })

-- ---- the list of inodes

lists : (t : Table) (files : ℕ → List ℕ) → IsSoundTable t → ListsRows t (inodes_of t files)
lists t files sound =
    let n : Numbers (by_inodes t files) (inodes_of t files) = numbers t files sound in
    let inodes : List ℕ = inodes_of t files in
    record {
      root = (n.some, n.root);
      each = λ s below. sym (row_there t files sound (inode_in inodes s)) ∙ n.each (inode_in inodes s) (in_at inodes s below);
      all = λ inode has. let at = stands_at inodes inode (n.all inode (row_there t files sound inode ∙ has)) in (first_place inodes inode, (at.0, at.1));
      once = λ s u a b e. sym (first_at inodes s n.once a) ∙ ap (first_place inodes) e ∙ first_at inodes u n.once b;
    }

pub inodes_are_listed : InodesAreListed
inodes_are_listed v none =
    let t = sound_table v none in (lists (table_of v) (file_bytes v) t, serials_are_places (table_of v) (file_bytes v) t)

-- ---- until files have bytes and may be gone

no_elements : (xs : List ℕ) → ((x : ℕ) → In xs x → ⊥) → xs ≡ []
no_elements [] none = refl
no_elements (x ∷ xs) none = absurd (none x (inl refl))

no_gone : (t : Table) (files : ℕ → List ℕ) → IsSoundTable t → IsBare t → gone t files ≡ []
no_gone t files sound is_bare = no_elements (gone t files) (λ x h.
    let file = gone_is t files sound x h in
    let has : has_row t x ≡ true = sym (row_there t files sound x) ∙ file.1.0 in
    let below : x < t.inodes = ltb-true x t.inodes (and_parts (nat_lt x t.inodes) (t.is_used x && not (x == 1)) has).0 in
    let bytes : Bool = is_file_attr (t.attr x) && nat_lt 0 (length_told (t.attr x)) in
    both_ways (is_not_bare t x) (is_bare x below)
    (and_from (is_entry t x) (bytes || is_it (parent_at t x) 1) (entry_here t files sound x has file.0) (or_right bytes (is_it (parent_at t x) 1) (no_place t files sound x has file.0 file.1.1))))

not_both : (a : Option Attr) → is_dir_attr a ≡ true → is_file_attr a ≡ true → ⊥
not_both None d f = let z : false ≡ true = d in cc
not_both (Some a) d f = elim (is_dir_kind a.kind) as (λ b. b ≡ true → cond b false true ≡ true → ⊥) [
  | true ↦ λ p q. let z : false ≡ true = q in cc
  | false ↦ λ p q. let z : false ≡ true = p in cc
] d f

dir_attr : (t : Table) (x : ℕ) → is_dir_at t x ≡ true → is_dir_attr (t.attr x) ≡ true
dir_attr t x e = (and_parts (t.is_used x) (is_dir_attr (t.attr x)) (and_parts (nat_lt x t.inodes) (t.is_used x && is_dir_attr (t.attr x)) e).1).1

no_bytes : (t : Table) → IsSoundTable t → IsBare t → (x : ℕ) → is_file_at t x ≡ true → length_told (t.attr x) ≡ 0
no_bytes t sound is_bare x e =
    let outer = and_parts (nat_lt x t.inodes) (t.is_used x && is_file_attr (t.attr x)) e in
    let inner = and_parts (t.is_used x) (is_file_attr (t.attr x)) outer.1 in
    let no_dir : (y : ℕ) → is_dir_at t y ≡ true → x ≢ y = λ y d same. not_both (t.attr x) (ap (λ z. is_dir_attr (t.attr z)) same ∙ dir_attr t y d) inner.1 in
    let not_root : x ≢ 0 = no_dir 0 sound.root in
    let not_orphans : x ≢ 1 = no_dir 1 sound.orphans in
    let entry : is_entry t x ≡ true = and_from (nat_le 2 x) (t.is_used x) (le-leb 2 x (omega arith)) inner.0 in
    let bytes : Bool = is_file_attr (t.attr x) && nat_lt 0 (length_told (t.attr x)) in
    elim (cases_lt 0 (length_told (t.attr x))) [
      | inl long ↦ absurd (both_ways (is_not_bare t x) (is_bare x (ltb-true x t.inodes outer.0))
          (and_from (is_entry t x) (bytes || is_it (parent_at t x) 1) entry
          (or_left bytes (is_it (parent_at t x) 1) (and_from (is_file_attr (t.attr x)) (nat_lt 0 (length_told (t.attr x))) inner.1 (lt-ltb 0 (length_told (t.attr x)) long)))))
      | inr short ↦ omega arith
    ]

pub bare_volumes_are_bare : BareVolumesAreBare
bare_volumes_are_bare v none =
    let b = (bare_is_no_more None v).0 none in
    let t = sound_table v b.0 in (
      λ files. no_gone (table_of v) files t b.1,
      λ inode file. ap (λ long. take long (flat_map (λ page. block_bytes v (named v (Page inode page))) (range_with_len 0 (pages long)))) (no_bytes (table_of v) t b.1 inode file),
    )
