-- The changes of an update that enters clash with no unsealed update of another stream.
use Rattle.std.proofs.Common.{◌≡◌, ◌≢◌, ◌⊎◌, inl, inr, ℕ, ◌<◌, List, [], ◌∷◌, map, refl, sym, ap, subst, ◌∙◌}
use Rattle.std.specs.Prelude.{Bool, true, false, ◌||◌, ◌==◌, None, Some}
use Rattle.std.specs.List.{AllByRecursion}
use Rattle.std.specs.FinMap.{empty}
use Rattle.std.proofs.lemmas.Bool.{eqb-true, eq-eqb, cases_eq, false_from_ne_true}
use Rattle.stream_cuts.specs.Streams.{MayEnter}
use Rattle.tree_model.specs.declared.rows.Update.{Update}
use Rattle.tree_model.specs.declared.rows.Update.TheVariants.{Make, Write, Resize, Remove, Move, Release}
use Rattle.tree_model.specs.declared.keys.Key.TheVariants.{Entry, Node}
use Rattle.tree_model.specs.Rows.{Rows, place_of, IsTree, IsEntry}
use Rattle.tree_model.specs.Keys.{keys_of, meets}
use Rattle.tree_model.specs.Updates.{Fits}
use Rattle.tree_model.proofs.Locks.{In, no_entry, no_node, some_same}
use Rattle.tree_cuts.specs.Calls.{Charge, Charged}
use Rattle.tree_cuts.proofs.Plain.{ChargedMeet}
use Rattle.image_model.specs.Carrying.{inode_in}
use Rattle.image_model.specs.Changes.{Change, New, Drop, Touch, Enter, Fill, changes_of}
use Rattle.carried_volumes.specs.Carried.{HaveInodes}
use Rattle.update_records.specs.Built.{is_built}
use Rattle.update_records.specs.Batches.{IsNamed}
use Rattle.front_laws.specs.Inodes.{IsFree, has, dropped, given_by, given}
use Rattle.front_laws.specs.Owned.{Among, IsRow, places, IsDroppedBy, AreOwned}
use Rattle.front_laws.proofs.Apart.{DontClash, LeavesCount, IsGood}
use Rattle.front_laws.proofs.Logged.{AllPairs, AreOrdered, DontDisturb}
use Rattle.front_laws.proofs.Among.{at_among, given_all, in_node, entry_in}
use Rattle.front_laws.proofs.Turning.{kind_row, entry_row}
use Rattle.front_laws.proofs.Owning.{HasFree}

-- ---- what the changes of a built update act on

-- The row that a change of an update is of, with the key that the update has of it: removing `/a` with the serial 1 drops 1, and has the
-- key of its node. Moving a row needs no key of its node, and gives it an entry
abbrev ActsOn : List ℕ → Update → Change → Type 0
ActsOn inodes v (New i p n k) = (x : ℕ) × (i ≡ inode_in inodes x) × In (Node x true) (keys_of v) × (places x v ≡ true)
ActsOn inodes v (Drop i) = (x : ℕ) × (i ≡ inode_in inodes x) × In (Node x true) (keys_of v)
ActsOn inodes v (Touch i) = (x : ℕ) × (i ≡ inode_in inodes x) × In (Node x false) (keys_of v)
ActsOn inodes v (Enter i p n) = (x : ℕ) × (i ≡ inode_in inodes x) × (places x v ≡ true)
ActsOn inodes v (Fill i bytes) = ⊥

acts_on : (inodes : List ℕ) (v : Update) → is_built v ≡ true → AllByRecursion (ActsOn inodes v) (changes_of inodes empty v)
acts_on inodes (Make dir name id d) b = ((id, refl, inr (inl refl), eq-eqb id id refl), ((dir, refl, inr (inr (inl refl))), tt))
acts_on inodes (Write id off bytes) b = absurd (cc)
acts_on inodes (Resize id len) b = absurd (cc)
acts_on inodes (Remove dir name id true) b = absurd (cc)
acts_on inodes (Remove dir name id false) b = ((id, refl, inr (inl refl)), ((dir, refl, inr (inr (inl refl))), tt))
acts_on inodes (Move dir name to_dir to_name id d r true) b = absurd (cc)
acts_on inodes (Move dir name to_dir to_name id d None false) b =
    ((id, refl, eq-eqb id id refl), ((dir, refl, inr (inr (inl refl))), ((to_dir, refl, inr (inr (inr (inl refl)))), tt)))
acts_on inodes (Move dir name to_dir to_name id d (Some y) false) b =
    ((y, refl, inr (inr (inr (inr (inl refl))))), ((id, refl, eq-eqb id id refl), ((dir, refl, inr (inr (inl refl))), ((to_dir, refl, inr (inr (inr (inl refl)))), tt))))
acts_on inodes (Release id) b = absurd (cc)

-- The same of an update that fits a tree: a new inode is free, and each other change is of a row. One that is moved stands at an entry that
-- the update changes: `/a` at the entry `a` of 0, where it becomes `/b`
abbrev ActsNow : List ℕ → Rows → List (ℕ × Charged) → Update → Change → Type 0
ActsNow inodes t rest u (New i p n k) = IsFree inodes t rest i
ActsNow inodes t rest u (Drop i) = (x : ℕ) × (i ≡ inode_in inodes x) × IsRow t x × In (Node x true) (keys_of u)
ActsNow inodes t rest u (Touch i) = (x : ℕ) × (i ≡ inode_in inodes x) × IsRow t x × In (Node x false) (keys_of u)
ActsNow inodes t rest u (Enter i p n) = (x : ℕ) × (i ≡ inode_in inodes x) × IsRow t x × ((d : ℕ) × (m : List ℕ) × IsEntry t d m x × In (Entry d m true) (keys_of u))
ActsNow inodes t rest u (Fill i bytes) = ⊥

acts_now : (inodes : List ℕ) (t : Rows) (rest : List (ℕ × Charged)) (u : Update) → IsTree t → Fits t u → is_built u ≡ true → HasFree inodes t rest u
    → AllByRecursion (ActsNow inodes t rest u) (changes_of inodes empty u)
acts_now inodes t rest (Make dir name id d) tree f b free = (free, ((dir, refl, kind_row t dir true f.0, inr (inr (inl refl))), tt))
acts_now inodes t rest (Write id off bytes) tree f b free = absurd (cc)
acts_now inodes t rest (Resize id len) tree f b free = absurd (cc)
acts_now inodes t rest (Remove dir name id true) tree f b free = absurd (cc)
acts_now inodes t rest (Remove dir name id false) tree f b free =
    ((id, refl, entry_row t dir name id f.0, inr (inl refl)), ((dir, refl, kind_row t dir true (tree.parents id dir name f.0), inr (inr (inl refl))), tt))
acts_now inodes t rest (Move dir name to_dir to_name id d r true) tree f b free = absurd (cc)
acts_now inodes t rest (Move dir name to_dir to_name id d None false) tree f b free = (
  (id, refl, entry_row t dir name id f.0, (dir, name, f.0, inl refl)),
  ((dir, refl, kind_row t dir true (tree.parents id dir name f.0), inr (inr (inl refl))), ((to_dir, refl, kind_row t to_dir true f.2, inr (inr (inr (inl refl)))), tt)),
)
acts_now inodes t rest (Move dir name to_dir to_name id d (Some y) false) tree f b free = (
  (y, refl, kind_row t y false f.4.1, inr (inr (inr (inr (inl refl))))),
  (
    (id, refl, entry_row t dir name id f.0, (dir, name, f.0, inl refl)),
    ((dir, refl, kind_row t dir true (tree.parents id dir name f.0), inr (inr (inl refl))), ((to_dir, refl, kind_row t to_dir true f.2, inr (inr (inr (inl refl)))), tt)),
  ),
)
acts_now inodes t rest (Release id) tree f b free = absurd (cc)

-- ---- inodes that are given up

has_later : (x y : ℕ) (ds : List ℕ) → x ≢ y → has y (x ∷ ds) ≡ true → has y ds ≡ true
has_later x y ds ne p = elim (x == y) as (λ b. (x == y) ≡ b → (b || has y ds) ≡ true → has y ds ≡ true) [
  | true ↦ λ q r. absurd (ne (eqb-true x y q))
  | false ↦ λ q r. r
] refl p

has_mapped : (inodes : List ℕ) (y : ℕ) (ds : List ℕ) → has y ds ≡ true → has (inode_in inodes y) (map (inode_in inodes) ds) ≡ true
has_mapped inodes y [] p = absurd (cc)
has_mapped inodes y (x ∷ ds) p = elim (cases_eq x y) [
  | inl e ↦ ap (λ b. b || has (inode_in inodes y) (map (inode_in inodes) ds)) (eq-eqb (inode_in inodes x) (inode_in inodes y) (ap (inode_in inodes) e))
  | inr ne ↦ (let rest = has_mapped inodes y ds (has_later x y ds ne p) in
      elim (inode_in inodes x == inode_in inodes y) as (λ b. (b || has (inode_in inodes y) (map (inode_in inodes) ds)) ≡ true) [ true ↦ refl | false ↦ rest ])
]

-- an inode that none gave up isn't that of a row which one dropped
not_dropped : (inodes : List ℕ) (rest : List (ℕ × Charged)) (r y : ℕ) → has (inode_in inodes y) (given inodes rest) ≡ false → IsDroppedBy rest r y → ⊥
not_dropped inodes rest r y p d =
    let no : has (inode_in inodes y) (given_by inodes d.0.1.0) ≡ false =
    at_among (λ e. has (inode_in inodes y) (given_by inodes e.1.0) ≡ false) d.0 rest (given_all inodes (inode_in inodes y) rest p) d.1 in
    let yes : has (inode_in inodes y) (given_by inodes d.0.1.0) ≡ true = has_mapped inodes y (dropped d.0.1.0) d.3 in
    let bad : false ≡ true = sym no ∙ yes in cc

-- ---- no clash

module _ (count : ℕ) (inodes : List ℕ) (t : Rows) (rest : List (ℕ × Charged)) (s : ℕ) (u : Update) (cost : Charge)
    (have : HaveInodes count inodes t) (own : AreOwned inodes t rest) (may : MayEnter ChargedMeet s (u, cost) rest) where
  -- a free inode isn't that of a node of an unsealed update
  free_apart : (i r y : ℕ) → IsFree inodes t rest i → IsRow t y ⊎ IsDroppedBy rest r y → i ≢ inode_in inodes y
  free_apart i r y free (inl row) p = free.no_row y row.0 row.1 (sym p)
  free_apart i r y free (inr d) p = not_dropped inodes rest r y (subst (λ z. has z (given inodes rest) ≡ false) p free.not_given) d

  -- a row with the inode of such a node is that node
  row_is : (x r y : ℕ) → IsRow t x → IsRow t y ⊎ IsDroppedBy rest r y → inode_in inodes x ≡ inode_in inodes y → x ≡ y
  row_is x r y row (inl other) p = have.apart x y row.0 other.0 row.1 other.1 p
  row_is x r y row (inr d) p = absurd (not_dropped inodes rest r y (subst (λ z. has z (given inodes rest) ≡ false) p (own.held x row)) d)

  not_met : (e : ℕ × Charged) → Among e rest → e.0 ≢ s → meets e.1.0 u ≡ false
  not_met e i ne = false_from_ne_true (meets e.1.0 u) (at_among (λ e. e.0 ≢ s → ChargedMeet e.1 (u, cost) → ⊥) e rest may i ne)

  placed_row : (e : ℕ × Charged) → Among e rest → (y : ℕ) → places y e.1.0 ≡ true → IsRow t y ⊎ IsDroppedBy rest e.0 y
  placed_row e i y p = elim (own.entries e i y p) [ inl z ↦ inl (entry_row t z.0 z.1.0 y z.1.1) | inr d ↦ inr d ]

  node_row : (e : ℕ × Charged) → Among e rest → (y : ℕ) (b : Bool) → In (Node y b) (keys_of e.1.0) → IsRow t y ⊎ IsDroppedBy rest e.0 y
  node_row e i y b k = own.nodes e i y (in_node y b e.1.0 k)

  -- a row of which both change the node
  no_change : (e : ℕ × Charged) → Among e rest → e.0 ≢ s → (x y : ℕ) (b : Bool) → IsRow t x → In (Node x b) (keys_of u) → In (Node y true) (keys_of e.1.0)
      → inode_in inodes x ≡ inode_in inodes y → ⊥
  no_change e i ne x y b row k l p =
      let same : x ≡ y = row_is x e.0 y row (node_row e i y true l) p in
      no_node e.1.0 u y b (not_met e i ne) l (subst (λ z. In (Node z b) (keys_of u)) same k)

  -- a row to which both give an entry
  no_move : (e : ℕ × Charged) → Among e rest → e.0 ≢ s → (x y d : ℕ) (m : List ℕ) → IsRow t x → IsEntry t d m x → In (Entry d m true) (keys_of u) → places y e.1.0 ≡ true
      → inode_in inodes x ≡ inode_in inodes y → ⊥
  no_move e i ne x y d m row at k p q = let same : x ≡ y = row_is x e.0 y row (placed_row e i y p) q in elim (own.entries e i y p) [
    | inr z ↦ not_dropped inodes rest e.0 y (own.held y (subst (IsRow t) same row)) z
    | inl z ↦ (let f = z.1.2 in
        let one : Entry z.0 z.1.0 true ≡ Entry d m true = some_same z.0 d z.1.0 m (place_of t y) z.1.1 (subst (IsEntry t d m) same at) in
        no_entry f.0.1.0 u z.0 z.1.0 (not_met f.0 f.1 (λ w. ne (sym f.2 ∙ w))) (entry_in z.0 z.1.0 f.0.1.0 f.3) (subst (λ w. In w (keys_of u)) (sym one) k))
  ]

  dont_clash : (e : ℕ × Charged) → Among e rest → e.0 ≢ s → (c d : Change) → ActsNow inodes t rest u c → ActsOn inodes e.1.0 d → DontClash c d
  dont_clash e i ne (New a p n k) (New b q m l) x y = λ z. free_apart a e.0 y.0 x (node_row e i y.0 true y.2) (z ∙ y.1)
  dont_clash e i ne (New a p n k) (Drop b) x y = λ z. free_apart a e.0 y.0 x (node_row e i y.0 true y.2) (z ∙ y.1)
  dont_clash e i ne (New a p n k) (Touch b) x y = λ z. free_apart a e.0 y.0 x (node_row e i y.0 false y.2) (z ∙ y.1)
  dont_clash e i ne (New a p n k) (Enter b q m) x y = λ z. free_apart a e.0 y.0 x (placed_row e i y.0 y.2) (z ∙ y.1)
  dont_clash e i ne (Drop a) (New b q m l) x y = λ z. no_change e i ne x.0 y.0 true x.2 x.3 y.2 (sym x.1 ∙ z ∙ y.1)
  dont_clash e i ne (Drop a) (Drop b) x y = λ z. no_change e i ne x.0 y.0 true x.2 x.3 y.2 (sym x.1 ∙ z ∙ y.1)
  dont_clash e i ne (Drop a) (Touch b) x y = tt
  dont_clash e i ne (Drop a) (Enter b q m) x y = tt
  dont_clash e i ne (Touch a) (New b q m l) x y = λ z. no_change e i ne x.0 y.0 false x.2 x.3 y.2 (sym x.1 ∙ z ∙ y.1)
  dont_clash e i ne (Touch a) (Drop b) x y = tt
  dont_clash e i ne (Touch a) (Touch b) x y = tt
  dont_clash e i ne (Touch a) (Enter b q m) x y = tt
  dont_clash e i ne (Enter a p n) (New b q m l) x y = λ z. no_move e i ne x.0 y.0 x.3.0 x.3.1 x.2 x.3.2 x.3.3 y.3 (sym x.1 ∙ z ∙ y.1)
  dont_clash e i ne (Enter a p n) (Drop b) x y = tt
  dont_clash e i ne (Enter a p n) (Touch b) x y = tt
  dont_clash e i ne (Enter a p n) (Enter b q m) x y = λ z. no_move e i ne x.0 y.0 x.3.0 x.3.1 x.2 x.3.2 x.3.3 y.2 (sym x.1 ∙ z ∙ y.1)
  dont_clash e i ne (Fill a p) d x y = absurd x
  dont_clash e i ne c (Fill b q) x y = absurd y

  leaves_count : (e : ℕ × Charged) → Among e rest → (c d : Change) → ActsNow inodes t rest u c → ActsOn inodes e.1.0 d → LeavesCount c d
  leaves_count e i (New a p n k) (Touch b) x y = λ z. free_apart a e.0 y.0 x (node_row e i y.0 false y.2) (z ∙ y.1)
  leaves_count e i (New a p n k) (New b q m l) x y = tt
  leaves_count e i (New a p n k) (Drop b) x y = tt
  leaves_count e i (New a p n k) (Enter b q m) x y = tt
  leaves_count e i (New a p n k) (Fill b q) x y = tt
  leaves_count e i (Drop a) d x y = tt
  leaves_count e i (Touch a) d x y = tt
  leaves_count e i (Enter a p n) d x y = tt
  leaves_count e i (Fill a p) d x y = tt

-- ---- lists

all_pairs : (R : Change → Change → Type 0) (P Q : Change → Type 0) (cs ds : List Change) → ((c d : Change) → P c → Q d → R c d) → AllByRecursion P cs → AllByRecursion Q ds → AllPairs R cs ds
all_pairs R P Q [] ds f p q = tt
all_pairs R P Q (c ∷ cs) ds f p q = (one ds q, all_pairs R P Q cs ds f p.1 q)
  where
    one : (ds : List Change) → AllByRecursion Q ds → AllByRecursion (R c) ds
    one [] q = tt
    one (d ∷ ds) q = (f c d p.0 q.0, one ds q.1)

-- a built update's ranges come before its raises and flips, where they disturb any
ordered : (inodes : List ℕ) (u : Update) → is_built u ≡ true → AreOrdered (changes_of inodes empty u)
ordered inodes (Make dir name id d) b = ((tt, tt), (tt, tt))
ordered inodes (Write id off bytes) b = absurd (cc)
ordered inodes (Resize id len) b = absurd (cc)
ordered inodes (Remove dir name id true) b = absurd (cc)
ordered inodes (Remove dir name id false) b = ((tt, tt), (tt, tt))
ordered inodes (Move dir name to_dir to_name id d r true) b = absurd (cc)
ordered inodes (Move dir name to_dir to_name id d None false) b = ((tt, (tt, tt)), ((tt, tt), (tt, tt)))
ordered inodes (Move dir name to_dir to_name id d (Some y) false) b = ((tt, (tt, (tt, tt))), ((tt, (tt, tt)), ((tt, tt), (tt, tt))))
ordered inodes (Release id) b = absurd (cc)

-- the inode of a new row is one of so many: of 32 inodes 31 is the last that it may be
abbrev pub HasThere : ℕ → List ℕ → Update → Type 0
HasThere count inodes (Make dir name id is_dir) = inode_in inodes id < count
HasThere count inodes (Write id off bytes) = Unit {0}
HasThere count inodes (Resize id len) = Unit {0}
HasThere count inodes (Remove dir name id stays) = Unit {0}
HasThere count inodes (Move dir name to_dir to_name id is_dir replaced stays) = Unit {0}
HasThere count inodes (Release id) = Unit {0}

-- the changes of an update that fits are good
pub good_now : (count : ℕ) (inodes : List ℕ) (t : Rows) (u : Update) → IsTree t → HaveInodes count inodes t → Fits t u → is_built u ≡ true → IsNamed u → HasThere count inodes u
    → AllByRecursion (IsGood count) (changes_of inodes empty u)
good_now count inodes t u tree have f b named new = by u f b named new
  where
    there : (x : ℕ) → IsRow t x → inode_in inodes x < count
    there x r = have.there x r.0 r.1

    by : (u : Update) → Fits t u → is_built u ≡ true → IsNamed u → HasThere count inodes u → AllByRecursion (IsGood count) (changes_of inodes empty u)
    by (Make dir name id d) f b named new = ((new, named), (there dir (kind_row t dir true f.0), tt))
    by (Write id off bytes) f b named new = absurd (cc)
    by (Resize id len) f b named new = absurd (cc)
    by (Remove dir name id true) f b named new = absurd (cc)
    by (Remove dir name id false) f b named new = (there id (entry_row t dir name id f.0), (there dir (kind_row t dir true (tree.parents id dir name f.0)), tt))
    by (Move dir name to_dir to_name id d r true) f b named new = absurd (cc)
    by (Move dir name to_dir to_name id d None false) f b named new =
        ((there id (entry_row t dir name id f.0), named), (there dir (kind_row t dir true (tree.parents id dir name f.0)), (there to_dir (kind_row t to_dir true f.2), tt)))
    by (Move dir name to_dir to_name id d (Some y) false) f b named new =
        (there y (kind_row t y false f.4.1), ((there id (entry_row t dir name id f.0), named), (there dir (kind_row t dir true (tree.parents id dir name f.0)), (there to_dir (kind_row t to_dir true f.2), tt))))
    by (Release id) f b named new = absurd (cc)

-- an unsealed update is built and its changes are good
abbrev pub IsFine : ℕ → List ℕ → ℕ × Charged → Type 0
IsFine count inodes e = (is_built e.1.0 ≡ true) × AllByRecursion (IsGood count) (changes_of inodes empty e.1.0)

-- an update that fits, and that no unsealed one of another stream meets, disturbs none
pub entering_is_quiet : (count : ℕ) (inodes : List ℕ) (t : Rows) (rest : List (ℕ × Charged)) (s : ℕ) (u : Update) (cost : Charge)
    → IsTree t → HaveInodes count inodes t → AreOwned inodes t rest → MayEnter ChargedMeet s (u, cost) rest → Fits t u → IsFine count inodes (s, (u, cost)) → HasFree inodes t rest u
    → AllByRecursion (IsFine count inodes) rest → DontDisturb count inodes s u rest
entering_is_quiet count inodes t rest s u cost tree have own may f fine free others = record {
  good = fine.1;
  goods = λ e i. (at_among (IsFine count inodes) e rest others i).1;
  others = λ e i ne. all_pairs DontClash (ActsNow inodes t rest u) (ActsOn inodes e.1.0) (changes_of inodes empty u) (changes_of inodes empty e.1.0)
      (dont_clash count inodes t rest s u cost have own may e i ne) (acts_now inodes t rest u tree f fine.0 free) (acts_on inodes e.1.0 (at_among (IsFine count inodes) e rest others i).0);
  own = λ e i same. all_pairs LeavesCount (ActsNow inodes t rest u) (ActsOn inodes e.1.0) (changes_of inodes empty u) (changes_of inodes empty e.1.0)
      (leaves_count count inodes t rest s u cost have own may e i) (acts_now inodes t rest u tree f fine.0 free) (acts_on inodes e.1.0 (at_among (IsFine count inodes) e rest others i).0);
  ordered = ordered inodes u fine.0;
}
