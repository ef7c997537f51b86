-- A tree whose rows are numbered anew, in the order of a list, is a tree, and is that one under these numbers.
use Rattle.std.proofs.Common.{◌≡◌, ℕ, zero, suc, ◌<◌, ◌≤◌, ◌≢◌, List, length, slice_index, refl, sym, ap, subst, ◌∙◌, inl, inr}
use Rattle.std.specs.Prelude.{Bool, true, cond, nat_lt, is_some, Option, Some, None, option_map}
use Rattle.std.specs.FinMap.{get}
use Rattle.std.proofs.lemmas.Bool.{cases_lt, lt-ltb, le-ltb}
use Rattle.std.proofs.lemmas.Option.{same_Some, some_pair_parts}
use Rattle.tree_model.specs.declared.rows.Row.{Row}
use Rattle.tree_model.specs.Rows.{Rows, spot, place, place_of, kind, kind_of, parent_in, parent_of, up, IsDir, IsEntry, IsTree}
use Rattle.tree_model.proofs.Chains.{up_first, up_last, parent_entry}
use Rattle.image_model.specs.Trees.{with_parent}
use Rattle.image_model.specs.Carrying.{IsRenamed}
use Rattle.image_model.proofs.PreorderLists.{In, Once, in_at, first_place, stands_at, first_at}

-- a list has each row of a tree once, the root first
pub record Numbers (t : Rows) (inodes : List ℕ) : Type 0 where
  pub once : Once inodes
  pub some : 0 < length inodes
  pub root : slice_index inodes 0 ≡ 0
  pub each : (x : ℕ) → In inodes x → is_some (get t x) ≡ true
  pub all : (x : ℕ) → is_some (get t x) ≡ true → In inodes x

-- ---- a row with another number for its parent

-- a place with another number for its directory
abbrev pub moved : (ℕ → ℕ) → Option (ℕ × List ℕ) → Option (ℕ × List ℕ)
moved f o = option_map (λ (p : ℕ × List ℕ). (f p.0, p.1)) o

pub spot_moved : (f : ℕ → ℕ) (o : Option ℕ) (n : List ℕ) → spot (option_map f o) n ≡ moved f (spot o n)
spot_moved f None n = refl
spot_moved f (Some d) n = refl

place_moved : (f : ℕ → ℕ) (o : Option Row) → place (option_map (with_parent f) o) ≡ moved f (place o)
place_moved f None = refl
place_moved f (Some r) = spot_moved f r.parent r.name

kind_moved : (f : ℕ → ℕ) (o : Option Row) → kind (option_map (with_parent f) o) ≡ kind o
kind_moved f None = refl
kind_moved f (Some r) = refl

pub moved_from : (f : ℕ → ℕ) (o : Option (ℕ × List ℕ)) (d : ℕ) (n : List ℕ) → moved f o ≡ Some (d, n) → (p : ℕ) × ((o ≡ Some (p, n)) × (f p ≡ d))
moved_from f None d n e = absurd (cc)
moved_from f (Some q) d n e =
    let parts = some_pair_parts (f q.0) d q.1 n e in
    (q.0, (ap (λ (m : List ℕ). Some (q.0, m)) parts.1, parts.0))

not_moved : (f : ℕ → ℕ) (o : Option (ℕ × List ℕ)) → moved f o ≡ None → o ≡ None
not_moved f None e = refl
not_moved f (Some q) e = absurd (cc)

row_from : (f : ℕ → ℕ) (o : Option Row) (r : Row) → option_map (with_parent f) o ≡ Some r → (q : Row) × ((o ≡ Some q) × (with_parent f q ≡ r))
row_from f None r e = absurd (cc)
row_from f (Some q) r e = (q, (refl, same_Some (with_parent f q) r e))

parent_back : (f g : ℕ → ℕ) (o : Option ℕ) → ((p : ℕ) → o ≡ Some p → g (f p) ≡ p) → option_map g (option_map f o) ≡ o
parent_back f g None h = refl
parent_back f g (Some p) h = ap (λ z. Some z) (h p refl)

some_row : (o : Option Row) (r : Row) → o ≡ Some r → is_some o ≡ true
some_row o r e = ap (λ z. is_some z) e

some_kind : (o : Option Row) (b : Bool) → kind o ≡ Some b → is_some o ≡ true
some_kind None b e = absurd (let z : ◌≡◌ {A = Option Bool} None (Some b) = e in cc)
some_kind (Some r) b e = refl

some_place : (o : Option Row) (p : ℕ × List ℕ) → place o ≡ Some p → is_some o ≡ true
some_place None p e = absurd (let z : ◌≡◌ {A = Option (ℕ × List ℕ)} None (Some p) = e in cc)
some_place (Some r) p e = refl

-- ---- the tree

module _ (t : Rows) (tree : IsTree t) (inodes : List ℕ) (h : Numbers t inodes) (w : Rows)
    (is : (s : ℕ) → get w s ≡ cond (nat_lt s (length inodes)) (option_map (with_parent (first_place inodes)) (get t (slice_index inodes s))) None) where
  abbrev serial : ℕ → ℕ
  serial x = first_place inodes x

  abbrev inode : ℕ → ℕ
  inode s = slice_index inodes s

  here : (s : ℕ) → s < length inodes → get w s ≡ option_map (with_parent serial) (get t (inode s))
  here s below = is s ∙ ap (λ b. cond b (option_map (with_parent serial) (get t (inode s))) None) (lt-ltb s (length inodes) below)

  past : (s : ℕ) → length inodes ≤ s → get w s ≡ None
  past s above = is s ∙ ap (λ b. cond b (option_map (with_parent serial) (get t (inode s))) None) (le-ltb s (length inodes) above)

  back : (x : ℕ) → is_some (get t x) ≡ true → (serial x < length inodes) × (inode (serial x) ≡ x)
  back x there = stands_at inodes x (h.all x there)

  forth : (s : ℕ) → s < length inodes → serial (inode s) ≡ s
  forth s below = first_at inodes s h.once below

  one_serial : (s u : ℕ) → s < length inodes → u < length inodes → inode s ≡ inode u → s ≡ u
  one_serial s u a b e = sym (forth s a) ∙ ap serial e ∙ forth u b

  first_serial : serial 0 ≡ 0
  first_serial = ap serial (sym h.root) ∙ forth 0 h.some

  within : (s : ℕ) (r : Row) → get w s ≡ Some r → s < length inodes
  within s r e = elim (cases_lt s (length inodes)) [
    | inl below ↦ below
    | inr above ↦ absurd (let z : ◌≡◌ {A = Option Row} None (Some r) = sym (past s above) ∙ e in cc)
  ]

  placed : (s : ℕ) → s < length inodes → place_of w s ≡ moved serial (place_of t (inode s))
  placed s below = ap place (here s below) ∙ place_moved serial (get t (inode s))

  kind_same : (s : ℕ) → s < length inodes → kind_of w s ≡ kind_of t (inode s)
  kind_same s below = ap kind (here s below) ∙ kind_moved serial (get t (inode s))

  -- an entry is one of the tree
  entry_from : (s d : ℕ) (n : List ℕ) → IsEntry w d n s → (s < length inodes) × ((p : ℕ) × (IsEntry t p n (inode s) × (serial p ≡ d)))
  entry_from s d n e = elim (cases_lt s (length inodes)) [
    | inl below ↦ (below, moved_from serial (place_of t (inode s)) d n (sym (placed s below) ∙ e))
    | inr above ↦ absurd (let z : ◌≡◌ {A = Option (ℕ × List ℕ)} None (Some (d, n)) = sym (ap place (past s above)) ∙ e in cc)
  ]

  dir_back : (x p : ℕ) (n : List ℕ) → IsEntry t p n x → (serial p < length inodes) × (inode (serial p) ≡ p)
  dir_back x p n e = back p (some_kind (get t p) true (tree.parents x p n e))

  parents : (s d : ℕ) (n : List ℕ) → IsEntry w d n s → IsDir w d
  parents s d n e =
      let f = entry_from s d n e in
      let p : ℕ = f.1.0 in
      let b = dir_back (inode s) p n f.1.1.0 in
      ap (kind_of w) (sym f.1.1.1) ∙ kind_same (serial p) b.0 ∙ ap (kind_of t) b.1 ∙ tree.parents (inode s) p n f.1.1.0

  unique : (s u d : ℕ) (n : List ℕ) → IsEntry w d n s → IsEntry w d n u → s ≡ u
  unique s u d n e f =
      let a = entry_from s d n e in
      let b = entry_from u d n f in
      let same : a.1.0 ≡ b.1.0 = sym (dir_back (inode s) a.1.0 n a.1.1.0).1 ∙ ap inode (a.1.1.1 ∙ sym b.1.1.1) ∙ (dir_back (inode u) b.1.0 n b.1.1.0).1 in
      one_serial s u a.0 b.0 (tree.unique (inode s) (inode u) b.1.0 n (subst (λ z. IsEntry t z n (inode s)) same a.1.1.0) b.1.1.0)

  climbs : (k x : ℕ) → is_some (get t x) ≡ true → up (parent_of t) k x ≡ Some 0 → up (parent_of w) k (serial x) ≡ Some 0
  climbs zero x there p =
      let q : x ≡ 0 = same_Some x 0 p in
      ap (λ z. Some (serial z)) q ∙ ap (λ z. Some z) first_serial
  climbs (suc k) x there p = elim (parent_of t x) as (λ o. parent_of t x ≡ o → up (parent_of w) (suc k) (serial x) ≡ Some 0) [
    | None ↦ λ e. absurd (let z : ◌≡◌ {A = Option ℕ} None (Some 0) = sym (up_last (parent_of t) k x e) ∙ p in cc)
    | Some z ↦ λ e.
        let v = parent_entry (place_of t x) z e in
        let b = back x there in
        let above : parent_of w (serial x) ≡ Some (serial z) = ap parent_in (placed (serial x) b.0 ∙ ap (λ y. moved serial (place_of t y)) b.1 ∙ ap (moved serial) v.1) in
        up_first (parent_of w) k (serial x) (serial z) above
        ∙ climbs k z (some_kind (get t z) true (tree.parents x z v.0 v.1)) (sym (up_first (parent_of t) k x z e) ∙ p)
  ] refl

  rooted : (s d : ℕ) (n : List ℕ) → IsEntry w d n s → (depth : ℕ) × (up (parent_of w) depth s ≡ Some 0)
  rooted s d n e =
      let f = entry_from s d n e in
      let r = tree.rooted (inode s) f.1.0 n f.1.1.0 in
      (r.0, ap (up (parent_of w) r.0) (sym (forth s f.0)) ∙ climbs r.0 (inode s) (some_place (get t (inode s)) (f.1.0, n) f.1.1.0) r.1)

  gone_file : (s : ℕ) → s ≢ 0 → place_of w s ≡ None → kind_of w s ≢ Some true
  gone_file s ne none k = elim (cases_lt s (length inodes)) [
    | inl below ↦
        tree.gone (inode s) (λ e. ne (sym (forth s below) ∙ ap serial e ∙ first_serial))
        (not_moved serial (place_of t (inode s)) (sym (placed s below) ∙ none)) (sym (kind_same s below) ∙ k)
    | inr above ↦ (let z : ◌≡◌ {A = Option Bool} None (Some true) = sym (ap kind (past s above)) ∙ k in cc)
  ]

  pub numbered_tree : IsTree w
  numbered_tree = record {
    root = (tree.root.0, here 0 h.some ∙ ap (λ x. option_map (with_parent serial) (get t x)) h.root ∙ ap (option_map (with_parent serial)) tree.root.1);
    parents = parents;
    unique = unique;
    rooted = rooted;
    gone = gone_file;
  }

  -- ---- it is that tree under these numbers

  row_back : (x : ℕ) (q : Row) → get t x ≡ Some q → with_parent inode (with_parent serial q) ≡ q
  row_back x q e = ap (λ (o : Option ℕ). record q { parent = o }) (parent_back serial inode q.parent (λ p is_parent.
      (dir_back x p q.name (ap place e ∙ ap (λ (o : Option ℕ). spot o q.name) is_parent)).1))

  renamed_each : (s : ℕ) (r : Row) → get w s ≡ Some r → (s < length inodes) × (get t (inode s) ≡ Some (with_parent inode r))
  renamed_each s r e =
      let below = within s r e in
      let q = row_from serial (get t (inode s)) r (sym (here s below) ∙ e) in
      (below, q.1.0 ∙ ap (λ z. Some z) (sym (row_back (inode s) q.0 q.1.0)) ∙ ap (λ z. Some (with_parent inode z)) q.1.1)

  renamed_all : (i : ℕ) (r : Row) → get t i ≡ Some r → (s : ℕ) × ((q : Row) × ((get w s ≡ Some q) × (inode s ≡ i)))
  renamed_all i r e =
      let b = back i (some_row (get t i) r e) in
      (serial i, (with_parent serial r, (here (serial i) b.0 ∙ ap (λ x. option_map (with_parent serial) (get t x)) b.1 ∙ ap (option_map (with_parent serial)) e, b.1)))

  pub renamed : IsRenamed inodes w (λ i. get t i)
  renamed = record {
    each = renamed_each;
    all = λ i r e. let a = renamed_all i r e in (a.0, (a.1.0, a.1.1.0, a.1.1.1));
    once = λ s u r q a b e. one_serial s u (within s r a) (within u q b) e;
  }

  -- ---- its rows are the places of the list

  pub rows_are_places : (s : ℕ) → is_some (get w s) ≡ nat_lt s (length inodes)
  rows_are_places s = elim (cases_lt s (length inodes)) [
    | inl below ↦ ap (λ o. is_some o) (here s below) ∙ is_there (get t (inode s)) (h.each (inode s) (in_at inodes s below)) ∙ sym (lt-ltb s (length inodes) below)
    | inr above ↦ ap (λ o. is_some o) (past s above) ∙ sym (le-ltb s (length inodes) above)
  ]
    where
      is_there : (o : Option Row) → is_some o ≡ true → is_some (option_map (with_parent serial) o) ≡ true
      is_there None e = e
      is_there (Some r) e = refl
