-- What an update leaves as it was for those that don't meet it.
use Rattle.std.proofs.Common.{◌≡◌, ℕ, ◌⊎◌, inl, inr, List, [], ◌∷◌, ◌++◌, refl, sym, ap, subst, ◌∙◌}
use Rattle.std.specs.Prelude.{Bool, true, false, cond, not, ◌&&◌, ◌==◌}
use Rattle.std.specs.declared.option.Option.{Option}
use Rattle.std.specs.declared.option.Option.TheVariants.{None, Some}
use Rattle.std.specs.FinMap.{get}
use Rattle.std.proofs.lemmas.Bool.{cases_eq}
use Rattle.tree_model.specs.declared.rows.Row.{Row}
use Rattle.tree_model.specs.declared.rows.Update.{Update}
use Rattle.tree_model.specs.declared.rows.Update.TheVariants.{Make, Write, Resize, Remove, Move, Release}
use Rattle.tree_model.specs.declared.keys.Key.{Key}
use Rattle.tree_model.specs.declared.keys.Key.TheVariants.{Entry, Node, Shape}
use Rattle.tree_model.specs.Rows.{Rows, place, kind, place_of, kind_of, parent_of, IsFile}
use Rattle.tree_model.specs.Updates.{Edit, Rework, Refill, Place, Count, change, edits, apply, Fits}
use Rattle.tree_model.specs.Keys.{replaced_key, shape_key, keys_of}
use Rattle.tree_model.proofs.Edited.{act, row_after, get_edited, kind_count, kind_refilled, kind_placed}
use Rattle.tree_model.proofs.Placed.{place_act_count, place_act_refill, act_apart}
use Rattle.tree_model.proofs.Locks.{In, Settles, Stands, Locked, locks}

-- x stands elsewhere, at entries that u changes; u changes its node, or it stands somewhere both before and after
abbrev pub Moved : Rows → Update → ℕ → Type 0
Moved t u x = Settles t u x × (In (Node x true) (keys_of u) ⊎ (Stands t x × Stands (apply t u) x × ((parent_of (apply t u) x ≡ parent_of t x) ⊎ (IsFile t x ⊎ In Shape (keys_of u)))))

place_frame_list : (t : Rows) (u : Update) (s : ℕ) (es : List (ℕ × Edit)) (o : Option Row) → Locked t u es → (place (row_after es s o) ≡ place o) ⊎ Moved t u s
place_frame_list t u s [] o l = inl refl
place_frame_list t u s ((x, Count) ∷ es) o l = elim (place_frame_list t u s es (act s (x, Count) o) l.1) [ inl p ↦ inl (p ∙ place_act_count s x o) | inr m ↦ inr m ]
place_frame_list t u s ((x, Refill f) ∷ es) o l = elim (place_frame_list t u s es (act s (x, Refill f) o) l.1) [ inl p ↦ inl (p ∙ place_act_refill s x f o) | inr m ↦ inr m ]
place_frame_list t u s ((x, Rework f) ∷ es) o l = elim (cases_eq s x) [
  | inl e ↦ inr (subst (λ z. Moved t u z) (sym e) (l.0.1, inl l.0.0))
  | inr ne ↦ elim (place_frame_list t u s es (act s (x, Rework f) o) l.1) [ inl p ↦ inl (p ∙ ap place (act_apart s x (Rework f) o ne)) | inr m ↦ inr m ]
]
place_frame_list t u s ((x, Place d n) ∷ es) o l = elim (cases_eq s x) [
  | inl e ↦ inr (subst (λ z. Moved t u z) (sym e) (l.0.0, inr (l.0.1, l.0.2, l.0.3)))
  | inr ne ↦ elim (place_frame_list t u s es (act s (x, Place d n) o) l.1) [ inl p ↦ inl (p ∙ ap place (act_apart s x (Place d n) o ne)) | inr m ↦ inr m ]
]

pub place_frame : (t : Rows) (u : Update) → Fits t u → (s : ℕ) → (place_of (apply t u) s ≡ place_of t s) ⊎ Moved t u s
place_frame t u f s = elim (place_frame_list t u s (edits u) (get t s) (locks t u f)) [ inl p ↦ inl (ap place (get_edited (edits u) t s) ∙ p) | inr m ↦ inr m ]

-- the row's kind changes under its node's key, and it stands nowhere before or after
abbrev pub Turned : Rows → Update → ℕ → Type 0
Turned t u x = In (Node x true) (keys_of u) × ((place_of t x ≡ None) ⊎ (place_of (apply t u) x ≡ None))

kind_act : (s x : ℕ) (e : Edit) (o : Option Row) → (kind (change e o) ≡ kind o) → kind (act s (x, e) o) ≡ kind o
kind_act s x e o p = elim (s == x) as (λ b. kind (cond b (change e o) o) ≡ kind o) [ true ↦ p | false ↦ refl ]

kind_frame_list : (t : Rows) (u : Update) (s : ℕ) (es : List (ℕ × Edit)) (o : Option Row) → Locked t u es → (kind (row_after es s o) ≡ kind o) ⊎ Turned t u s
kind_frame_list t u s [] o l = inl refl
kind_frame_list t u s ((x, Count) ∷ es) o l = elim (kind_frame_list t u s es (act s (x, Count) o) l.1) [ inl p ↦ inl (p ∙ kind_act s x Count o (kind_count o)) | inr m ↦ inr m ]
kind_frame_list t u s ((x, Refill f) ∷ es) o l = elim (kind_frame_list t u s es (act s (x, Refill f) o) l.1) [ inl p ↦ inl (p ∙ kind_act s x (Refill f) o (kind_refilled f o)) | inr m ↦ inr m ]
kind_frame_list t u s ((x, Place d n) ∷ es) o l = elim (kind_frame_list t u s es (act s (x, Place d n) o) l.1) [ inl p ↦ inl (p ∙ kind_act s x (Place d n) o (kind_placed d n o)) | inr m ↦ inr m ]
kind_frame_list t u s ((x, Rework f) ∷ es) o l = elim (cases_eq s x) [
  | inl e ↦ inr (subst (λ z. Turned t u z) (sym e) (l.0.0, l.0.2))
  | inr ne ↦ elim (kind_frame_list t u s es (act s (x, Rework f) o) l.1) [ inl p ↦ inl (p ∙ ap kind (act_apart s x (Rework f) o ne)) | inr m ↦ inr m ]
]

pub kind_frame : (t : Rows) (u : Update) → Fits t u → (s : ℕ) → (kind_of (apply t u) s ≡ kind_of t s) ⊎ Turned t u s
kind_frame t u f s = elim (kind_frame_list t u s (edits u) (get t s) (locks t u f)) [ inl p ↦ inl (ap kind (get_edited (edits u) t s) ∙ p) | inr m ↦ inr m ]

-- the directory of an entry that u changes is a node that u needs
abbrev Dirs : Update → List Key → Type 0
Dirs u [] = Unit {0}
Dirs u (Entry d n c ∷ ks) = In (Node d false) (keys_of u) × Dirs u ks
Dirs u (Node x c ∷ ks) = Dirs u ks
Dirs u (Shape ∷ ks) = Dirs u ks

dirs_append : (u : Update) (js ks : List Key) → Dirs u js → Dirs u ks → Dirs u (js ++ ks)
dirs_append u [] ks a b = b
dirs_append u (Entry d n c ∷ js) ks a b = (a.0, dirs_append u js ks a.1 b)
dirs_append u (Node x c ∷ js) ks a b = dirs_append u js ks a b
dirs_append u (Shape ∷ js) ks a b = dirs_append u js ks a b

dirs_replaced : (u : Update) (r : Option ℕ) → Dirs u (replaced_key r)
dirs_replaced u None = tt
dirs_replaced u (Some x) = tt

dirs_shape : (u : Update) (b : Bool) → Dirs u (shape_key b)
dirs_shape u true = tt
dirs_shape u false = tt

dirs : (u : Update) → Dirs u (keys_of u)
dirs (Make dir name id d) = (inr (inr (inl refl)), tt)
dirs (Write id off bytes) = tt
dirs (Resize id len) = tt
dirs (Remove dir name id stays) = (inr (inr (inl refl)), tt)
dirs (Move dir name to_dir to_name id d replaced stays) =
    let u : Update = Move dir name to_dir to_name id d replaced stays in
    (inr (inr (inl refl)), (inr (inr (inr (inl refl))), dirs_append u (replaced_key replaced) (shape_key (d && not (dir == to_dir))) (dirs_replaced u replaced) (dirs_shape u (d && not (dir == to_dir)))))
dirs (Release id) = tt

dir_in : (u : Update) (d : ℕ) (n : List ℕ) (c : Bool) (ks : List Key) → Dirs u ks → In (Entry d n c) ks → In (Node d false) (keys_of u)
dir_in u d n c [] a i = absurd i
dir_in u d n c (Entry e m b ∷ ks) a (inl p) = subst (λ z. In (Node z false) (keys_of u)) (let q : Entry e m b ≡ Entry d n c = p in let r : e ≡ d = cc in r) a.0
dir_in u d n c (Entry e m b ∷ ks) a (inr i) = dir_in u d n c ks a.1 i
dir_in u d n c (Node x b ∷ ks) a (inl p) = absurd (cc)
dir_in u d n c (Node x b ∷ ks) a (inr i) = dir_in u d n c ks a i
dir_in u d n c (Shape ∷ ks) a (inl p) = absurd (cc)
dir_in u d n c (Shape ∷ ks) a (inr i) = dir_in u d n c ks a i

pub entry_dir : (u : Update) (d : ℕ) (n : List ℕ) (c : Bool) → In (Entry d n c) (keys_of u) → In (Node d false) (keys_of u)
entry_dir u d n c i = dir_in u d n c (keys_of u) (dirs u) i
