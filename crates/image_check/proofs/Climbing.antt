-- Chains of parents, and marks on them.
use Rattle.std.proofs.Common.{◌≡◌, ℕ, zero, suc, ◌+◌, ◌-◌, ◌<◌, ◌≤◌, List, length, refl, sym, ap, ◌∙◌, inl, inr, arith}
use Rattle.std.specs.Prelude.{Bool, true, false, Option, Some, None, is_some, slice_index_or}
use Rattle.std.proofs.lemmas.Bool.{cases_eq, cases_lt, cases_Bool, eqb-true}
use Rattle.tree_model.specs.Rows.{up, up_from}
use Rattle.tree_model.specs.Tests.{is_it}
use Rattle.tree_model.proofs.Chains.{up_last}
use Rattle.image_model.specs.Volumes.{Table}
use Rattle.image_model.specs.Lowest.{NoneBelow}
use Rattle.image_model.specs.Checks.{parent_at, is_root_above, is_rooted}
use Rattle.image_model.proofs.Least.{lowest_none}
use Rattle.image_model.proofs.Rooted.{rooted_is_below}
use Rattle.image_check.specs.Marks.{marked_at, is_marked_above, Climbs, AreMarks, AreMarkedUp}

apart : {X : Type 0} (b : Bool) → b ≡ true → b ≡ false → X
apart b yes_ no_ = absurd (let z : true ≡ false = sym yes_ ∙ no_ in cc)

-- none of so many steps, and not the next
pub none_more : (test : ℕ → Bool) (n : ℕ) → NoneBelow test n → test n ≡ false → NoneBelow test (n + 1)
none_more test n none next i h = elim (cases_eq i n) [
  | inl same ↦ ap test same ∙ next
  | inr other ↦ none i (omega arith)
]

-- ---- steps

-- one step more
pub a_step : (f : ℕ → Option ℕ) (k i : ℕ) (at next : Option ℕ) → at ≡ up f k i → next ≡ up_from f at → next ≡ up f (k + 1) i
a_step f k i at next here step =
    let one : k + 1 ≡ suc k = omega arith in
    step ∙ ap (up_from f) here ∙ sym (ap (λ n. up f n i) one)

-- first k steps, and then m
pub after : (f : ℕ → Option ℕ) (m k i x : ℕ) → up f k i ≡ Some x → up f (m + k) i ≡ up f m x
after f zero k i x here = let none : 0 + k ≡ k = omega arith in ap (λ n. up f n i) none ∙ here
after f (suc m) k i x here = let next : suc m + k ≡ suc (m + k) = omega arith in ap (λ n. up f n i) next ∙ ap (up_from f) (after f m k i x here)

-- from the end of a chain no step leads anywhere
beyond : (f : ℕ → Option ℕ) (top m j i : ℕ) → f top ≡ None → up f m i ≡ Some top → up f (suc j + m) i ≡ None
beyond f top m j i end here = after f (suc j) m i top here ∙ up_last f j top end

-- whatever a climbing inode comes to climbs too
pub climbs_on : (t : Table) (k i x : ℕ) → Climbs t i → up (parent_at t) k i ≡ Some x → Climbs t x
climbs_on t k i x (m, there) here = elim (cases_lt m k) [
  | inl past ↦
      let steps : k ≡ suc (k - suc m) + m = omega arith in
      absurd (let z : ◌≡◌ {A = Option ℕ} None (Some x) = sym (beyond (parent_at t) 0 m (k - suc m) i refl there) ∙ sym (ap (λ n. up (parent_at t) n i) steps) ∙ here in cc)
  | inr before ↦
      let steps : (m - k) + k ≡ m = omega arith in
      (m - k, sym (after (parent_at t) (m - k) k i x here) ∙ ap (λ n. up (parent_at t) n i) steps ∙ there)
]

-- ---- marks

marked_climbs : (t : Table) (marks : List Bool) (steps i : ℕ) → AreMarks t marks → (o : Option ℕ) → up (parent_at t) steps i ≡ o → marked_at marks o ≡ true → Climbs t i
marked_climbs t marks steps i are None here marked = absurd (cc)
marked_climbs t marks steps i are (Some x) here marked =
    let on = are.sound x marked in
    (on.0 + steps, after (parent_at t) on.0 steps i x here ∙ on.1)

-- an inode climbs where a mark is above it
pub climbs : (t : Table) (marks : List Bool) (steps i : ℕ) → AreMarks t marks → is_marked_above t marks i steps ≡ true → Climbs t i
climbs t marks steps i are marked = marked_climbs t marks steps i are (up (parent_at t) steps i) refl marked

pub rooted : (t : Table) (marks : List Bool) (steps i : ℕ) → 0 < t.inodes → AreMarks t marks → is_marked_above t marks i steps ≡ true → is_rooted t i ≡ true
rooted t marks steps i some are marked = (rooted_is_below t i some).1 (climbs t marks steps i are marked)

no_root : (marks : List Bool) (o : Option ℕ) → slice_index_or marks 0 false ≡ true → marked_at marks o ≡ false → is_it o 0 ≡ false
no_root marks None root unmarked = refl
no_root marks (Some x) root unmarked = elim (cases_Bool (is_it (Some x) 0)) [
  | inl is ↦ let at : x ≡ 0 = eqb-true x 0 is in apart (slice_index_or marks 0 false) root (sym (ap (λ n. slice_index_or marks n false) at) ∙ unmarked)
  | inr isnt ↦ isnt
]

-- none is above it where no mark is
pub unrooted : (t : Table) (marks : List Bool) (i : ℕ) → AreMarks t marks → NoneBelow (is_marked_above t marks i) t.inodes → is_rooted t i ≡ false
unrooted t marks i are none =
    ap (λ o. is_some o) (lowest_none (is_root_above t i) t.inodes (λ k h. no_root marks (up (parent_at t) k i) are.root (none k h)))

-- ---- marking

pub marked_more : (t : Table) (old new : List Bool) (at : Option ℕ) → AreMarks t old → length new ≡ length old
    → ((i : ℕ) → slice_index_or old i false ≡ true → slice_index_or new i false ≡ true)
    → ((i : ℕ) → slice_index_or new i false ≡ true → slice_index_or old i false ≡ false → at ≡ Some i)
    → ((x : ℕ) → at ≡ Some x → Climbs t x) → AreMarks t new
marked_more t old new at are same kept fresh climbing = record {
  long = same ∙ are.long;
  root = kept 0 are.root;
  sound = λ i marked. elim (cases_Bool (slice_index_or old i false)) [
    | inl was ↦ are.sound i was
    | inr wasnt ↦ climbing i (fresh i marked wasnt)
  ];
}

-- one inode more of a chain is marked
pub walked_more : (t : Table) (old new : List Bool) (at : Option ℕ) (inode k : ℕ) → length new ≡ length old
    → ((i : ℕ) → slice_index_or old i false ≡ true → slice_index_or new i false ≡ true)
    → ((i : ℕ) → at ≡ Some i → i < length old → slice_index_or new i false ≡ true)
    → at ≡ up (parent_at t) k inode → AreMarkedUp t old inode k → AreMarkedUp t new inode (k + 1)
walked_more t old new at inode k same kept is_set here walked = λ j x below comes within. elim (cases_lt j k) [
  | inl before ↦ kept x (walked j x before comes (omega arith))
  | inr last ↦
      let this : j ≡ k = omega arith in
      is_set x (here ∙ sym (ap (λ n. up (parent_at t) n inode) this) ∙ comes) (omega arith)
]

-- no more inodes are passed than there are steps to a marked one
pub up_to_mark : (t : Table) (marks : List Bool) (inode steps found : ℕ) → NoneBelow (is_marked_above t marks inode) steps → is_marked_above t marks inode found ≡ true → steps ≤ found
up_to_mark t marks inode steps found none marked = elim (cases_lt found steps) [
  | inl past ↦ apart (is_marked_above t marks inode found) marked (none found past)
  | inr before ↦ before
]
