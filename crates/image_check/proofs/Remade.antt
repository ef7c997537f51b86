-- Rows made one behind the other, and their counts of changes.
use Rattle.std.proofs.Common.{◌≡◌, ℕ, ◌+◌, ◌<◌, ◌≢◌, List, [], length, refl, sym, ap, subst, ◌∙◌, inl, inr, arith}
use Rattle.std.proofs.Math.Path.{ap₂}
use Rattle.std.specs.Prelude.{Bool, true, false, cond, ◌&&◌, ◌==◌, is_none, Option, Some, None, option_map, slice_get}
use Rattle.std.specs.FinMap.{get, empty, get-empty, same_map, nat_cmp-IsAntisymmetric}
use Rattle.std.specs.Cmp.{nat_cmp_total}
use Rattle.std.specs.Ordering.{nat_cmp}
use Rattle.std.proofs.lemmas.Bool.{and_from, cases_eq, cases_lt, eq-eqb, ne_eqb}
use Rattle.std.proofs.lemmas.Option.{same_Some, some_pair_parts}
use Rattle.inode_table.specs.declared.attrs.Attr.{Attr}
use Rattle.inode_table.specs.declared.attrs.Kind.{Kind}
use Rattle.inode_table.specs.declared.attrs.Kind.TheVariants as kinds
use Rattle.tree_model.specs.declared.rows.Body.{Body}
use Rattle.tree_model.specs.declared.rows.Body.TheVariants.{Dir, File}
use Rattle.tree_model.specs.declared.rows.Row.{Row}
use Rattle.tree_model.specs.declared.rows.Update.{Update}
use Rattle.tree_model.specs.declared.rows.Update.TheVariants.{Make}
use Rattle.tree_model.specs.Rows.{Rows, spot, place, place_of, is_dir, kind, is_kind, is_dir_at, alone, IsVacant, IsTree}
use Rattle.tree_model.specs.Updates.{Count, change, counted, recounted, on_body, recount, new_body, edits, apply}
use Rattle.tree_model.specs.Entries.{entry}
use Rattle.tree_model.specs.Tests.{applies}
use Rattle.tree_model.proofs.Edited.{act, get_store, get_edited}
use Rattle.tree_model.proofs.Found.{none_vacant}
use Rattle.image_model.specs.Files.{is_dir_attr, is_dir_kind}
use Rattle.image_model.specs.Trees.{body_of_kind, body_given}
use Rattle.image_model.specs.Carrying.{inode_in}
use Rattle.image_check.specs.declared.table.Table.{Table as Read}
use Rattle.image_check.specs.Tables.{seen}
use Rattle.image_check.specs.Spelled.{AreSerials, making, changes_told, IsSpelled, uncounted, AreMade}

-- ---- counts of changes

counted_no_more : (b : Body) → recounted 0 (counted b) ≡ recounted 0 b
counted_no_more (Dir n) = refl
counted_no_more (File bytes) = refl

recounted_no_more : (n m : ℕ) (b : Body) → recounted n (recounted m b) ≡ recounted n b
recounted_no_more n m (Dir c) = refl
recounted_no_more n m (File bytes) = refl

uncounted_count : (o : Option Row) → uncounted (change Count o) ≡ uncounted o
uncounted_count None = refl
uncounted_count (Some r) = ap (λ b. Some (record r { body = b })) (counted_no_more r.body)

recount_uncounted : (n : ℕ) (o : Option Row) → on_body (recounted n) (uncounted o) ≡ on_body (recounted n) o
recount_uncounted n None = refl
recount_uncounted n (Some r) = ap (λ b. Some (record r { body = b })) (recounted_no_more n 0 r.body)

uncounted_recount : (n : ℕ) (o : Option Row) → uncounted (on_body (recounted n) o) ≡ uncounted o
uncounted_recount n None = refl
uncounted_recount n (Some r) = ap (λ b. Some (record r { body = b })) (recounted_no_more 0 n r.body)

place_uncounted : (o : Option Row) → place (uncounted o) ≡ place o
place_uncounted None = refl
place_uncounted (Some r) = refl

dir_recounted : (n : ℕ) (b : Body) → is_dir (recounted n b) ≡ is_dir b
dir_recounted n (Dir c) = refl
dir_recounted n (File bytes) = refl

kind_uncounted : (o : Option Row) → kind (uncounted o) ≡ kind o
kind_uncounted None = refl
kind_uncounted (Some r) = ap (λ b. Some b) (dir_recounted 0 r.body)

none_uncounted : (o : Option Row) → uncounted o ≡ None → o ≡ None
none_uncounted None e = refl
none_uncounted (Some r) e = absurd (cc)

same_place : (o p : Option Row) → uncounted o ≡ uncounted p → place o ≡ place p
same_place o p e = sym (place_uncounted o) ∙ ap place e ∙ place_uncounted p

same_kind : (o p : Option Row) → uncounted o ≡ uncounted p → kind o ≡ kind p
same_kind o p e = sym (kind_uncounted o) ∙ ap kind e ∙ kind_uncounted p

-- ---- one row made

new_uncounted : (b : Bool) → recounted 0 (new_body b) ≡ new_body b
new_uncounted true = refl
new_uncounted false = refl

abbrev new_row : ℕ → List ℕ → Bool → Option Row
new_row dir name b = Some (record { parent = Some dir; name = name; body = new_body b })

act_counted : (s dir : ℕ) (o : Option Row) → uncounted (act s (dir, Count) o) ≡ uncounted o
act_counted s dir o = elim (s == dir) as (λ b. uncounted (cond b (change Count o) o) ≡ uncounted o) [ true ↦ uncounted_count o | false ↦ refl ]

made_at : (t : Rows) (dir : ℕ) (name : List ℕ) (id : ℕ) (b : Bool) (s : ℕ) → uncounted (get (apply t (Make dir name id b)) s) ≡ cond (s == id) (new_row dir name b) (uncounted (get t s))
made_at t dir name id b s =
    ap uncounted (get_edited (edits (Make dir name id b)) t s) ∙ act_counted s dir _
    ∙ elim (s == id) as (λ c. uncounted (cond c (new_row dir name b) (get t s)) ≡ cond c (new_row dir name b) (uncounted (get t s))) [
      | true ↦ ap (λ z. Some (record { parent = Some dir; name = name; body = z })) (new_uncounted b)
      | false ↦ refl
    ]

made_here : (t : Rows) (dir : ℕ) (name : List ℕ) (id : ℕ) (b : Bool) (s : ℕ) → s ≡ id → uncounted (get (apply t (Make dir name id b)) s) ≡ new_row dir name b
made_here t dir name id b s e = made_at t dir name id b s ∙ ap (λ c. cond c (new_row dir name b) (uncounted (get t s))) (eq-eqb s id e)

made_apart : (t : Rows) (dir : ℕ) (name : List ℕ) (id : ℕ) (b : Bool) (s : ℕ) → s ≢ id → uncounted (get (apply t (Make dir name id b)) s) ≡ uncounted (get t s)
made_apart t dir name id b s e = made_at t dir name id b s ∙ ap (λ c. cond c (new_row dir name b) (uncounted (get t s))) (ne_eqb s id e)

pub row_made : (t made : Rows) (k dir : ℕ) (name : List ℕ) (b : Bool) → AreMade t made k → 0 < k → uncounted (get t k) ≡ new_row dir name b → AreMade t (apply made (Make dir name k b)) (k + 1)
row_made t made k dir name b are some new = record {
  root = made_apart made dir name k b 0 (λ e. omega arith) ∙ are.root;
  here = λ s h. elim (cases_eq s k) [
    | inl same ↦ made_here made dir name k b s same ∙ sym new ∙ ap (λ z. uncounted (get t z)) (sym same)
    | inr other ↦ made_apart made dir name k b s other ∙ are.here s (omega arith)
  ];
  none = λ s some_s h. made_apart made dir name k b s (λ e. omega arith) ∙ are.none s some_s (omega arith);
}

pub root_made : (t : Rows) (was now : Rows) (k : ℕ) → AreMade t was k → k ≡ 0 → now ≡ was → AreMade t now (k + 1)
root_made t was now k are zero_is same = subst (λ m. AreMade t m (k + 1)) (sym same) (record {
  root = are.root;
  here = λ s h. let first : s ≡ 0 = omega arith in ap (λ z. uncounted (get was z)) first ∙ are.root ∙ ap (λ z. uncounted (get t z)) (sym first);
  none = λ s some h. are.none s some (omega arith);
})

-- ---- the update applies

none_test : {X : Type 0} (o : Option X) → o ≡ None → is_none o ≡ true
none_test o e = ap (λ z. is_none z) e

pub row_fits : (t made : Rows) (k dir : ℕ) (name : List ℕ) (b : Bool) → IsTree t → AreMade t made k → dir < k → place_of t k ≡ Some (dir, name) → applies made (Make dir name k b) ≡ true
row_fits t made k dir name b tree are before stands =
    let vacant : IsVacant made dir name = λ x e. elim (cases_eq x 0) [
      | inl root ↦
          let same : place_of made x ≡ place_of t x = same_place (get made x) (get t x) (ap (λ z. uncounted (get made z)) root ∙ are.root ∙ ap (λ z. uncounted (get t z)) (sym root)) in
          let one : x ≡ k = tree.unique x k dir name (sym same ∙ e) stands in
          omega arith
      | inr other ↦ elim (cases_lt x k) [
        | inl below ↦
            let one : x ≡ k = tree.unique x k dir name (sym (same_place (get made x) (get t x) (are.here x below)) ∙ e) stands in
            omega arith
        | inr past ↦
            let none : place_of made x ≡ None = ap place (none_uncounted (get made x) (are.none x (omega arith) past)) in
            let z : ◌≡◌ {A = Option (ℕ × List ℕ)} None (Some (dir, name)) = sym none ∙ e in cc
      ]
    ] in
    let is_directory : is_dir_at made dir ≡ true = ap (λ o. is_kind o true) (same_kind (get made dir) (get t dir) (are.here dir before) ∙ tree.parents k dir name stands) in
    let free : get made k ≡ None = none_uncounted (get made k) (are.none k (omega arith) (omega arith)) in
    and_from (is_dir_at made dir) (is_none (entry made dir name) && is_none (get made k)) is_directory
    (and_from (is_none (entry made dir name)) (is_none (get made k)) (none_test (entry made dir name) (none_vacant made dir name vacant)) (none_test (get made k) free))

-- ---- what the tables say of a row

known_kind : (a : Option Attr) → recounted 0 (body_given a []) ≡ new_body (is_dir_attr a)
known_kind None = refl
known_kind (Some a) = elim (a.kind) as (λ (k : Kind). recounted 0 (body_of_kind k a.changes []) ≡ new_body (is_dir_kind k)) [ kinds.Dir ↦ refl | kinds.File ↦ refl ]

told_again : (a : Option Attr) → recounted (changes_told a) (body_given a []) ≡ body_given a []
told_again None = refl
told_again (Some a) = elim (a.kind) as (λ (k : Kind). recounted a.changes (body_of_kind k a.changes []) ≡ body_of_kind k a.changes []) [ kinds.Dir ↦ refl | kinds.File ↦ refl ]

spot_parts : (o : Option ℕ) (n m : List ℕ) (d : ℕ) → spot o n ≡ Some (d, m) → (o ≡ Some d) × (n ≡ m)
spot_parts None n m d e = absurd (let z : ◌≡◌ {A = Option (ℕ × List ℕ)} None (Some (d, m)) = e in cc)
spot_parts (Some p) n m d e = let parts = some_pair_parts p d n m e in (ap (λ z. Some z) parts.0, parts.1)

row_is : (r : Row) (d : ℕ) (n : List ℕ) (a : Option Attr) → place (Some r) ≡ Some (d, n) → r.body ≡ body_given a [] → uncounted (Some r) ≡ new_row d n (is_dir_attr a)
row_is r d n a stands body =
    let parts = spot_parts r.parent r.name n d stands in
    let bare : recounted 0 r.body ≡ new_body (is_dir_attr a) = ap (recounted 0) body ∙ known_kind a in
    ap (λ z. Some (record { parent = z; name = r.name; body = recounted 0 r.body })) parts.0
    ∙ ap (λ z. Some (record { parent = Some d; name = z; body = recounted 0 r.body })) parts.1
    ∙ ap (λ z. Some (record { parent = Some d; name = n; body = z })) bare

-- the root alone
abbrev fresh_root : Option Row
fresh_root = Some (record { parent = None; name = []; body = Dir 0 })

alone_at : (s : ℕ) → get (alone 0) s ≡ cond (s == 0) fresh_root None
alone_at s = get_store empty 0 fresh_root s ∙ ap (cond (s == 0) fresh_root) (get-empty nat_cmp s)

module _ (table : Read) (inodes : List ℕ) (t : Rows) (spelled : IsSpelled table inodes t) where
  pub first_made : (made : Rows) → made ≡ alone 0 → AreMade t made 0
  first_made made is =
      let root = spelled.tree.root in
      subst (λ m. AreMade t m 0) (sym is) (record {
        root = ap uncounted (alone_at 0) ∙ sym (ap uncounted root.1);
        here = λ s h. absurd (omega arith);
        none = λ s some h. ap uncounted (alone_at s ∙ ap (λ b. cond b fresh_root None) (ne_eqb s 0 (λ e. omega arith)));
      })

  -- the update that is made at a place of the list
  pub step : (serials : List ℕ) (k x : ℕ) → AreSerials inodes serials → 0 < k → k < length inodes → x ≡ inode_in inodes k
      → (dir : ℕ) × ((name : List ℕ) × ((making serials k ((seen table).attr x) (get table.slots x) ≡ Some (Make dir name k (is_dir_attr ((seen table).attr x))))
      × (dir < k) × (place_of t k ≡ Some (dir, name)) × (uncounted (get t k) ≡ new_row dir name (is_dir_attr ((seen table).attr x)))))
  step serials k x are some below here =
      let at = spelled.places k some below in
      let known = spelled.bodies k below in
      let before = at.before in
      let kept : get table.slots x ≡ Some at.slot = ap (get table.slots) here ∙ at.kept in
      let found : slice_get serials at.slot.parent ≡ Some at.dir = ap (slice_get serials) (sym at.parent) ∙ are at.dir (omega arith) in
      let update : making serials k ((seen table).attr x) (get table.slots x) ≡ Some (Make at.dir at.slot.name k (is_dir_attr ((seen table).attr x))) =
      ap (making serials k ((seen table).attr x)) kept ∙ ap (option_map (λ dir. Make dir at.slot.name k (is_dir_attr ((seen table).attr x)))) found in
      let row : uncounted (get t k) ≡ new_row at.dir at.slot.name (is_dir_attr ((seen table).attr x)) =
      ap uncounted known.there ∙ row_is known.row at.dir at.slot.name ((seen table).attr x) (ap place (sym known.there) ∙ at.place) (known.body ∙ ap (λ i. body_given ((seen table).attr i) []) (sym here)) in
      (at.dir, (at.slot.name, (update, before, at.place, row)))

  -- ---- all counts told

  -- the rows below a bound have their counts of changes too
  pub record AreTold (told : Rows) (bound : ℕ) : Type 0 where
    pub here : (s : ℕ) → s < bound → get told s ≡ get t s
    pub all : (s : ℕ) → uncounted (get told s) ≡ uncounted (get t s)

  pub none_told : (made : Rows) → AreMade t made (length inodes) → AreTold made 0
  none_told made are = record {
    here = λ s h. absurd (omega arith);
    all = λ s. elim (cases_lt s (length inodes)) [
      | inl below ↦ are.here s below
      | inr past ↦ (let some : 0 < length inodes = spelled.some in are.none s (omega arith) past ∙ sym (ap uncounted (spelled.none s past)))
    ];
  }

  recount_at : (told : Rows) (k n s : ℕ) → get (recount told k n) s ≡ cond (s == k) (on_body (recounted n) (get told k)) (get told s)
  recount_at told k n s = get_store told k (on_body (recounted n) (get told k)) s

  pub one_told : (was now : Rows) (k x n : ℕ) → AreTold was k → k < length inodes → x ≡ inode_in inodes k → n ≡ changes_told ((seen table).attr x) → now ≡ recount was k n → AreTold now (k + 1)
  one_told was now k x n are below at count is =
      let known = spelled.bodies k below in
      let a : Option Attr = (seen table).attr (inode_in inodes k) in
      let n_is : n ≡ changes_told a = count ∙ ap (λ i. changes_told ((seen table).attr i)) at in
      let whole : on_body (recounted n) (get was k) ≡ get t k =
      sym (recount_uncounted n (get was k)) ∙ ap (on_body (recounted n)) (are.all k) ∙ recount_uncounted n (get t k) ∙ ap (on_body (recounted n)) known.there
      ∙ ap (λ z. Some (record known.row { body = z })) (ap₂ recounted n_is known.body ∙ told_again a ∙ sym known.body) ∙ sym known.there in
      subst (λ m. AreTold m (k + 1)) (sym is) (record {
        here = λ s h. recount_at was k n s ∙ elim (cases_eq s k) [
          | inl same ↦ ap (λ b. cond b (on_body (recounted n) (get was k)) (get was s)) (eq-eqb s k same) ∙ whole ∙ ap (get t) (sym same)
          | inr other ↦ ap (λ b. cond b (on_body (recounted n) (get was k)) (get was s)) (ne_eqb s k other) ∙ are.here s (omega arith)
        ];
        all = λ s. ap uncounted (recount_at was k n s) ∙ elim (cases_eq s k) [
          | inl same ↦ ap (λ b. uncounted (cond b (on_body (recounted n) (get was k)) (get was s))) (eq-eqb s k same) ∙ ap uncounted whole ∙ ap (λ z. uncounted (get t z)) (sym same)
          | inr other ↦ ap (λ b. uncounted (cond b (on_body (recounted n) (get was k)) (get was s))) (ne_eqb s k other) ∙ are.all s
        ];
      })

  pub all_told : (told : Rows) → AreTold told (length inodes) → told ≡ t
  all_told told are = same_map nat_cmp_total nat_cmp-IsAntisymmetric told t (λ s. elim (cases_lt s (length inodes)) [
    | inl below ↦ are.here s below
    | inr past ↦ none_uncounted (get told s) (are.all s ∙ ap uncounted (spelled.none s past)) ∙ sym (spelled.none s past)
  ])

  -- ---- one place of the list

  -- the update at a place of the list applies
  pub update_fits : (serials : List ℕ) (made : Rows) (k x : ℕ) (u : Update) → AreSerials inodes serials → AreMade t made k → k < length inodes → x ≡ inode_in inodes k
      → making serials k ((seen table).attr x) (get table.slots x) ≡ Some u → applies made u ≡ true
  update_fits serials made k x u are so_far below here is = elim (cases_eq k 0) [
    | inl first ↦ absurd (
        let none : making serials k ((seen table).attr x) (get table.slots x) ≡ None = ap (making serials k ((seen table).attr x)) (ap (get table.slots) (here ∙ ap (inode_in inodes) first) ∙ spelled.root) in
        let z : ◌≡◌ {A = Option Update} None (Some u) = sym none ∙ is in cc)
    | inr later ↦
        let w = step serials k x are (omega arith) below here in
        let same : Make w.0 w.1.0 k (is_dir_attr ((seen table).attr x)) ≡ u = same_Some _ u (sym w.1.1.0 ∙ is) in
        ap (applies made) (sym same) ∙ row_fits t made k w.0 w.1.0 (is_dir_attr ((seen table).attr x)) spelled.tree so_far w.1.1.1 w.1.1.2
  ]

  -- and makes its row
  pub update_made : (serials : List ℕ) (made now : Rows) (k x : ℕ) (u : Update) → AreSerials inodes serials → AreMade t made k → k < length inodes → x ≡ inode_in inodes k
      → making serials k ((seen table).attr x) (get table.slots x) ≡ Some u → now ≡ apply made u → AreMade t now (k + 1)
  update_made serials made now k x u are so_far below here is applied = elim (cases_eq k 0) [
    | inl first ↦ absurd (
        let none : making serials k ((seen table).attr x) (get table.slots x) ≡ None = ap (making serials k ((seen table).attr x)) (ap (get table.slots) (here ∙ ap (inode_in inodes) first) ∙ spelled.root) in
        let z : ◌≡◌ {A = Option Update} None (Some u) = sym none ∙ is in cc)
    | inr later ↦
        let w = step serials k x are (omega arith) below here in
        let same : Make w.0 w.1.0 k (is_dir_attr ((seen table).attr x)) ≡ u = same_Some _ u (sym w.1.1.0 ∙ is) in
        subst (λ m. AreMade t m (k + 1)) (ap (apply made) same ∙ sym applied) (row_made t made k w.0 w.1.0 (is_dir_attr ((seen table).attr x)) so_far (omega arith) w.1.1.3)
  ]

  -- without an update it is the root's
  pub none_made : (serials : List ℕ) (made now : Rows) (k x : ℕ) → AreSerials inodes serials → AreMade t made k → k < length inodes → x ≡ inode_in inodes k
      → making serials k ((seen table).attr x) (get table.slots x) ≡ None → now ≡ made → AreMade t now (k + 1)
  none_made serials made now k x are so_far below here is same = elim (cases_eq k 0) [
    | inl first ↦ root_made t made now k so_far first same
    | inr later ↦ absurd (
        let w = step serials k x are (omega arith) below here in
        let z : ◌≡◌ {A = Option Update} None (Some (Make w.0 w.1.0 k (is_dir_attr ((seen table).attr x)))) = sym is ∙ w.1.1.0 in cc)
  ]
