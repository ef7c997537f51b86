-- Which inodes unsealed updates hold, and that no update meets one of another stream by an inode.
use Rattle.std.proofs.Common.{◌≡◌, ◌≢◌, ◌⊎◌, inl, inr, ℕ, List, [], ◌∷◌, refl, sym, ap, subst, ◌∙◌}
use Rattle.std.specs.Prelude.{true, false, not, ◌==◌}
use Rattle.std.specs.List.{AllByRecursion}
use Rattle.std.proofs.lemmas.Bool.{eq-eqb, ne_eqb, cases_eq}
use Rattle.std.proofs.lemmas.Bool.{false_from_ne_true}
use Rattle.stream_cuts.specs.Streams.{keep_if, without, MayEnter}
use Rattle.tree_model.specs.declared.rows.Update.{Update}
use Rattle.tree_model.specs.declared.rows.Update.TheVariants.{Make}
use Rattle.tree_model.specs.Rows.{Rows}
use Rattle.tree_model.specs.Updates.{apply}
use Rattle.tree_model.specs.Keys.{meets}
use Rattle.tree_model.proofs.Locks.{no_node, no_node_back}
use Rattle.tree_cuts.specs.Calls.{Charged}
use Rattle.tree_cuts.proofs.Plain.{ChargedMeet}
use Rattle.image_model.specs.Carrying.{inode_in}
use Rattle.update_records.specs.Batches.{HasItsInode}
use Rattle.front_laws.specs.Owned.{Among}
use Rattle.front_laws.proofs.Rows.{Drops, Makes, Changes, HasNode, IsThere, row_of, forth, back, made_there, not_both, one_made, node_there, drops_changes, only_make}
use Rattle.front_laws.proofs.Swapping.{MeetIn, AppliesIn}

-- ---- lists of unsealed updates

at_among : (P : (ℕ × Charged) → Type 0) (e : ℕ × Charged) (h : List (ℕ × Charged)) → AllByRecursion P h → Among e h → P e
at_among P e [] a i = absurd i
at_among P e (f ∷ h) a (inl p) = subst P p a.0
at_among P e (f ∷ h) a (inr i) = at_among P e h a.1 i

all_among : (P : (ℕ × Charged) → Type 0) (h : List (ℕ × Charged)) → ((e : ℕ × Charged) → Among e h → P e) → AllByRecursion P h
all_among P [] f = tt
all_among P (e ∷ h) f = (f e (inl refl), all_among P h (λ g i. f g (inr i)))

among_rest : (s : ℕ) (e : ℕ × Charged) (h : List (ℕ × Charged)) → Among e (without s h) → Among e h × (e.0 ≢ s)
among_rest s e [] i = absurd i
among_rest s e (f ∷ h) i = elim (cases_eq f.0 s) [
  | inl p ↦ let r = among_rest s e h (subst (λ z. Among e (keep_if (not z) f (without s h))) (eq-eqb f.0 s p) i) in (inr r.0, r.1)
  | inr p ↦ elim (subst (λ z. Among e (keep_if (not z) f (without s h))) (ne_eqb f.0 s p) i) [
    | inl q ↦ (inl q, λ z. p (ap (λ (g : ℕ × Charged). g.0) q ∙ z))
    | inr j ↦ let r = among_rest s e h j in (inr r.0, r.1)
  ]
]

rest_among : (s : ℕ) (e : ℕ × Charged) (h : List (ℕ × Charged)) → e.0 ≢ s → Among e h → Among e (without s h)
rest_among s e [] n i = absurd i
rest_among s e (f ∷ h) n (inl p) = subst (λ z. Among e (keep_if (not z) f (without s h))) (sym (ne_eqb f.0 s (λ z. n (sym (ap (λ (g : ℕ × Charged). g.0) p) ∙ z)))) (inl p)
rest_among s e (f ∷ h) n (inr i) = let r = rest_among s e h n i in elim (f.0 == s) as (λ z. Among e (keep_if (not z) f (without s h))) [ true ↦ r | false ↦ inr r ]

-- ---- what unsealed updates hold

-- no unsealed update gave up the inode of the row that an update makes
abbrev pub IsUnheld : List ℕ → List (ℕ × Charged) → Update → Type 0
IsUnheld inodes h u = (id : ℕ) → Makes u id → (e : ℕ × Charged) → Among e h → (x : ℕ) → Drops e.1.0 x → inode_in inodes x ≢ inode_in inodes id

-- an unsealed update of a stream dropped a row
abbrev pub IsDroppedIn : List (ℕ × Charged) → ℕ → ℕ → Type 0
IsDroppedIn h s x = (f : ℕ × Charged) × (Among f h × (f.0 ≡ s) × Drops f.1.0 x)

-- No two rows have one inode, and none has one that an unsealed update gave up. What an unsealed update changes or needs is a row still,
-- or an unsealed update of the same stream dropped it.
pub record IsHeld (inodes : List ℕ) (t : Rows) (h : List (ℕ × Charged)) : Type 0 where
  pub one : (x y : ℕ) → IsThere t x → IsThere t y → inode_in inodes x ≡ inode_in inodes y → x ≡ y
  pub gone : (e : ℕ × Charged) → Among e h → (x : ℕ) → Drops e.1.0 x → (y : ℕ) → IsThere t y → inode_in inodes x ≢ inode_in inodes y
  pub nodes : (e : ℕ × Charged) → Among e h → (x : ℕ) → HasNode e.1.0 x → IsThere t x ⊎ IsDroppedIn h e.0 x

-- the inode of a new row is no row's
pub fresh_of : (count : ℕ) (inodes : List ℕ) (t : Rows) (u : Update) → HasItsInode count inodes t u → (x y : ℕ) → IsThere t x → Makes u y → inode_in inodes x ≢ inode_in inodes y
fresh_of count inodes t u a x y r k =
    let made = only_make u y k in
    let has : HasItsInode count inodes t (Make made.0 made.1 y made.2) = subst (HasItsInode count inodes t) made.3 a in
    let row = row_of t x r in
    has.3 x row.0 row.1

-- ---- an update enters

-- what a later update makes has none of the inodes of the nodes that an earlier one has
abbrev pub IsBehind : List ℕ → Update → Update → Type 0
IsBehind inodes e u = (id : ℕ) → Makes u id → (x : ℕ) → HasNode e x → inode_in inodes x ≢ inode_in inodes id

module _ (count : ℕ) (inodes : List ℕ) (t : Rows) (h : List (ℕ × Charged)) (s : ℕ) (u : Charged) (held : IsHeld inodes t h) (applies : AppliesIn count inodes t u)
    (may : MayEnter ChargedMeet s u h) (unheld : IsUnheld inodes h u.0) where
  meet_no : (e : ℕ × Charged) → Among e h → e.0 ≢ s → meets e.1.0 u.0 ≡ false
  meet_no e i ne = false_from_ne_true (meets e.1.0 u.0) (at_among (λ g. g.0 ≢ s → ChargedMeet g.1 u → ⊥) e h may i ne)

  fresh : (x y : ℕ) → IsThere t x → Makes u.0 y → inode_in inodes x ≢ inode_in inodes y
  fresh = fresh_of count inodes t u.0 applies.1

  one_after : (x y : ℕ) → IsThere (apply t u.0) x → IsThere (apply t u.0) y → inode_in inodes x ≡ inode_in inodes y → x ≡ y
  one_after x y r q e = elim (back t u.0 x r) [
    | inl p ↦ elim (back t u.0 y q) [ inl w ↦ held.one x y p.0 w.0 e | inr k ↦ absurd (fresh x y p.0 k e) ]
    | inr k ↦ elim (back t u.0 y q) [ inl w ↦ absurd (fresh y x w.0 k (sym e)) | inr j ↦ one_made u.0 x y k j ]
  ]

  dropped_there : (x : ℕ) → Drops u.0 x → IsThere t x
  dropped_there x d = elim (node_there t u.0 x true applies.0.0 applies.0.1 (drops_changes u.0 x d)) [ inl r ↦ r | inr k ↦ absurd (not_both u.0 x x d k) ]

  gone_after : (e : ℕ × Charged) → Among e ((s, u) ∷ h) → (x : ℕ) → Drops e.1.0 x → (y : ℕ) → IsThere (apply t u.0) y → inode_in inodes x ≢ inode_in inodes y
  gone_after e (inl p) x d y r same =
      let du : Drops u.0 x = subst (λ (g : ℕ × Charged). Drops g.1.0 x) (sym p) d in
      elim (back t u.0 y r) [
        | inl w ↦ w.1 (subst (Drops u.0) (held.one x y (dropped_there x du) w.0 same) du)
        | inr b ↦ not_both u.0 x y du b
      ]
  gone_after e (inr i) x d y r same = elim (back t u.0 y r) [
    | inl w ↦ held.gone e i x d y w.0 same
    | inr b ↦ unheld y b e i x d same
  ]

  own_node : (x : ℕ) → HasNode u.0 x → IsThere (apply t u.0) x ⊎ Drops u.0 x
  own_node x n = elim (node_there t u.0 x n.0 applies.0.0 applies.0.1 n.1) [ inl r ↦ forth t u.0 x r | inr b ↦ inl (made_there t u.0 x b) ]

  nodes_after : (e : ℕ × Charged) → Among e ((s, u) ∷ h) → (x : ℕ) → HasNode e.1.0 x → IsThere (apply t u.0) x ⊎ IsDroppedIn ((s, u) ∷ h) e.0 x
  nodes_after e (inl p) x n =
      elim (own_node x (subst (λ (g : ℕ × Charged). HasNode g.1.0 x) (sym p) n)) [
        | inl r ↦ inl r
        | inr d ↦ inr ((s, u), (inl refl, ap (λ (g : ℕ × Charged). g.0) p, d))
      ]
  nodes_after e (inr i) x n = elim (held.nodes e i x n) [
    | inl r ↦ elim (forth t u.0 x r) [
      | inl q ↦ inl q
      | inr d ↦ elim (cases_eq e.0 s) [
        | inl z ↦ inr ((s, u), (inl refl, sym z, d))
        | inr z ↦ absurd (no_node_back e.1.0 u.0 x n.0 (meet_no e i z) n.1 (drops_changes u.0 x d))
      ]
    ]
    | inr f ↦ inr (f.0, (inr f.1.0, f.1.1, f.1.2))
  ]

  pub held_entered : IsHeld inodes (apply t u.0) ((s, u) ∷ h)
  held_entered = record { one = one_after; gone = gone_after; nodes = nodes_after }

  -- no unsealed update of another stream meets it by an inode
  guard : (e : ℕ × Charged) → Among e h → e.0 ≢ s → MeetIn inodes e.1 u → ⊥
  guard e i ne (inl q) = at_among (λ g. g.0 ≢ s → ChargedMeet g.1 u → ⊥) e h may i ne q
  guard e i ne (inr w) =
      let x : ℕ = w.0 in
      let y : ℕ = w.1 in
      let cx : Changes e.1.0 x = w.2 in
      let cy : Changes u.0 y = w.3 in
      let same : inode_in inodes x ≡ inode_in inodes y = w.4 in
      elim (cases_eq x y) [
        | inl q ↦ no_node e.1.0 u.0 x true (meet_no e i ne) cx (subst (Changes u.0) (sym q) cy)
        | inr q ↦ elim (node_there t u.0 y true applies.0.0 applies.0.1 cy) [
          | inl ry ↦ elim (held.nodes e i x (true, cx)) [ inl rx ↦ q (held.one x y rx ry same) | inr f ↦ held.gone f.0 f.1.0 x f.1.2 y ry same ]
          | inr my ↦ elim (held.nodes e i x (true, cx)) [ inl rx ↦ fresh x y rx my same | inr f ↦ unheld y my f.0 f.1.0 x f.1.2 same ]
        ]
      ]

  pub guarded : MayEnter (MeetIn inodes) s u h
  guarded = all_among (λ e. e.0 ≢ s → MeetIn inodes e.1 u → ⊥) h guard

  -- what it makes has none of the inodes of the nodes of unsealed updates
  pub behind_all : AllByRecursion (λ e. IsBehind inodes e.1.0 u.0) h
  behind_all = all_among (λ e. IsBehind inodes e.1.0 u.0) h (λ e i id k x n. elim (held.nodes e i x n) [
    | inl r ↦ fresh x id r k
    | inr f ↦ unheld id k f.0 f.1.0 x f.1.2
  ])

pub held_sealed : (inodes : List ℕ) (t : Rows) (h : List (ℕ × Charged)) (s : ℕ) → IsHeld inodes t h → IsHeld inodes t (without s h)
held_sealed inodes t h s k = record {
  one = k.one;
  gone = λ e i x d y r. k.gone e (among_rest s e h i).0 x d y r;
  nodes = λ e i x c. let w = among_rest s e h i in elim (k.nodes e w.0 x c) [
    | inl r ↦ inl r
    | inr f ↦ inr (f.0, (rest_among s f.0 h (λ z. w.1 (sym f.1.1 ∙ z)) f.1.0, f.1.1, f.1.2))
  ];
}

pub held_start : (inodes : List ℕ) (t : Rows) → ((x y : ℕ) → IsThere t x → IsThere t y → inode_in inodes x ≡ inode_in inodes y → x ≡ y) → IsHeld inodes t []
held_start inodes t o = record { one = o; gone = λ e i. absurd i; nodes = λ e i. absurd i }
