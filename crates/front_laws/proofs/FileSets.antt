-- The files of a tree under inodes, and what the operations of updates leave of them.
use Rattle.std.proofs.Common.{◌≡◌, ◌≢◌, ◌⊎◌, inl, inr, ℕ, List, [], ◌∷◌, ◌++◌, refl, sym, ap, subst, ◌∙◌}
use Rattle.std.specs.Prelude.{true, false, cond, Option, None, Some}
use Rattle.std.proofs.lemmas.Bool.{eq-eqb, ne_eqb, cases_eq}
use Rattle.stream_cuts.specs.States.{after, AllApply}
use Rattle.file_bodies.specs.declared.ops.BodyOp.{BodyOp}
use Rattle.file_bodies.specs.declared.ops.BodyOp.TheVariants as ops
use Rattle.file_bodies.specs.Files.{Files, bytes_of, grown, acted, all_acted}
use Rattle.tree_model.specs.declared.rows.Update.{Update}
use Rattle.tree_model.specs.declared.rows.Update.TheVariants.{Make, Write, Resize, Remove, Move, Release}
use Rattle.tree_model.specs.Rows.{Rows, kind_of, IsFile}
use Rattle.tree_model.specs.Updates.{apply}
use Rattle.tree_cuts.specs.Calls.{Charged}
use Rattle.history_laws.proofs.Turns.{Turn, Same, Born, Dead, turn_of, turned, kinds, file_stays}
use Rattle.image_model.specs.Carrying.{inode_in}
use Rattle.update_records.specs.Operations.{ops_of, ops_of_made}
use Rattle.front_laws.specs.Batches.{ops_of_all}
use Rattle.front_laws.proofs.Rows.{Drops, Makes, IsThere, file_there, node_there, drops_changes, not_both, back, one_made, dead_dead, born_born, same_dead, same_born, born_dead}
use Rattle.front_laws.proofs.Swapping.{AppliesIn, apply_in}
use Rattle.front_laws.proofs.Held.{fresh_of}

-- each file of a tree has no bytes at its inode, and no other inode has a file
pub record AreFilesOf (inodes : List ℕ) (t : Rows) (files : Files) : Type 0 where
  pub each : (s : ℕ) → IsFile t s → files (inode_in inodes s) ≡ Some []
  pub none : (i : ℕ) → ((s : ℕ) → IsFile t s → inode_in inodes s ≢ i) → files i ≡ None

-- no two rows have one inode
abbrev pub AreApart : List ℕ → Rows → Type 0
AreApart inodes t = (x y : ℕ) → IsThere t x → IsThere t y → inode_in inodes x ≡ inode_in inodes y → x ≡ y

-- ---- the operations of an update

-- they are those of the row that it makes or drops
abbrev ops_of_turn : List ℕ → Turn → List BodyOp
ops_of_turn inodes Same = []
ops_of_turn inodes (Born id d) = ops_of_made (inode_in inodes id) d
ops_of_turn inodes (Dead id) = ops.Drop (inode_in inodes id) ∷ []

turn_ops : (inodes : List ℕ) (u : Update) → ops_of inodes u ≡ ops_of_turn inodes (turn_of u)
turn_ops inodes (Make dir name id d) = refl
turn_ops inodes (Write id off bytes) = refl
turn_ops inodes (Resize id len) = refl
turn_ops inodes (Remove dir name id true) = refl
turn_ops inodes (Remove dir name id false) = refl
turn_ops inodes (Move dir name to_dir to_name id d None stays) = refl
turn_ops inodes (Move dir name to_dir to_name id d (Some y) true) = refl
turn_ops inodes (Move dir name to_dir to_name id d (Some y) false) = refl
turn_ops inodes (Release id) = refl

dir_no_file : Some true ≡ Some false → ⊥
dir_no_file e = cc

no_file : None ≡ Some false → ⊥
no_file e = cc

dir_born : {x y : ℕ} → Born x true ≡ Born y false → ⊥
dir_born e = cc

-- ---- files before and after an update

-- a file was one before and isn't dropped, or is made
came : (t : Rows) (u : Update) (s : ℕ) → IsFile (apply t u) s → (IsFile t s × (Drops u s → ⊥)) ⊎ (turn_of u ≡ Born s false)
unfolding turned
came t u s f = by (turn_of u) refl (kinds t u s)
  where
    by : (w : Turn) → turn_of u ≡ w → kind_of (apply t u) s ≡ turned w s (kind_of t s) → (IsFile t s × (Drops u s → ⊥)) ⊎ (turn_of u ≡ Born s false)
    by Same p k = inl (sym k ∙ f, λ d. same_dead (sym p ∙ d))
    by (Born id true) p k = elim (cases_eq s id) [
      | inl q ↦ absurd (dir_no_file (sym (ap (λ z. cond z (Some true) (kind_of t s)) (eq-eqb s id q)) ∙ sym k ∙ f))
      | inr q ↦ inl (sym (ap (λ z. cond z (Some true) (kind_of t s)) (ne_eqb s id q)) ∙ sym k ∙ f, λ d. born_dead (sym p ∙ d))
    ]
    by (Born id false) p k = elim (cases_eq s id) [
      | inl q ↦ inr (p ∙ ap (λ z. Born z false) (sym q))
      | inr q ↦ inl (sym (ap (λ z. cond z (Some false) (kind_of t s)) (ne_eqb s id q)) ∙ sym k ∙ f, λ d. born_dead (sym p ∙ d))
    ]
    by (Dead id) p k = elim (cases_eq s id) [
      | inl q ↦ absurd (no_file (sym (ap (λ z. cond z None (kind_of t s)) (eq-eqb s id q)) ∙ sym k ∙ f))
      | inr q ↦ inl (sym (ap (λ z. cond z None (kind_of t s)) (ne_eqb s id q)) ∙ sym k ∙ f, λ d. q (sym (dead_dead (sym p ∙ d))))
    ]

module _ (inodes : List ℕ) (t : Rows) (u : Update) (files : Files) (is : AreFilesOf inodes t files) (one : AreApart inodes t)
    (fresh : (x y : ℕ) → IsThere t x → Makes u y → inode_in inodes x ≢ inode_in inodes y) (gone : (x : ℕ) → Drops u x → IsThere t x) where
  -- a file that isn't dropped stays one
  stays : (s : ℕ) → IsFile t s → (Drops u s → ⊥) → IsFile (apply t u) s
  stays s f nd = file_stays t u s f (λ d e. fresh s s (file_there t s f) (d, e) refl) nd

  same_files : turn_of u ≡ Same → AreFilesOf inodes (apply t u) files
  same_files p = record {
    each = λ s f. elim (came t u s f) [ inl w ↦ is.each s w.0 | inr e ↦ absurd (same_born (sym p ∙ e)) ];
    none = λ i no. is.none i (λ s f. no s (stays s f (λ d. same_dead (sym p ∙ d))));
  }

  dir_files : (id : ℕ) → turn_of u ≡ Born id true → AreFilesOf inodes (apply t u) files
  dir_files id p = record {
    each = λ s f. elim (came t u s f) [ inl w ↦ is.each s w.0 | inr e ↦ absurd (dir_born (sym p ∙ e)) ];
    none = λ i no. is.none i (λ s f. no s (stays s f (λ d. born_dead (sym p ∙ d))));
  }

  new_here : (id : ℕ) → turn_of u ≡ Born id false → IsFile (apply t u) id
  unfolding turned
  new_here id p = kinds t u id ∙ ap (λ w. turned w id (kind_of t id)) p ∙ ap (λ z. cond z (Some false) (kind_of t id)) (eq-eqb id id refl)

  new_files : (id : ℕ) → turn_of u ≡ Born id false → AreFilesOf inodes (apply t u) (acted files (ops.Grow (inode_in inodes id) 0))
  new_files id p =
      let i : ℕ = inode_in inodes id in
      record {
        each = λ s f. let j : ℕ = inode_in inodes s in elim (came t u s f) [
          | inl w ↦ ap (λ z. cond z (Some (grown 0 (bytes_of (files j)))) (files j)) (ne_eqb j i (fresh s id (file_there t s w.0) (false, p))) ∙ is.each s w.0
          | inr e ↦
              ap (λ z. cond z (Some (grown 0 (bytes_of (files j)))) (files j)) (eq-eqb j i (ap (inode_in inodes) (born_born (sym e ∙ p))))
              ∙ ap (λ (o : Option (List ℕ)). Some (grown 0 (bytes_of o))) (is.none j (λ x g. fresh x s (file_there t x g) (false, e)))
        ];
        none = λ j no. elim (cases_eq j i) [
          | inl q ↦ absurd (no id (new_here id p) (sym q))
          | inr q ↦
              ap (λ z. cond z (Some (grown 0 (bytes_of (files j)))) (files j)) (ne_eqb j i q)
              ∙ is.none j (λ s f. no s (stays s f (λ d. born_dead (sym p ∙ d))))
        ];
      }

  dropped_files : (id : ℕ) → turn_of u ≡ Dead id → AreFilesOf inodes (apply t u) (acted files (ops.Drop (inode_in inodes id)))
  dropped_files id p =
      let i : ℕ = inode_in inodes id in
      record {
        each = λ s f. let j : ℕ = inode_in inodes s in elim (came t u s f) [
          | inl w ↦
              ap (λ z. cond z None (files j)) (ne_eqb j i (λ q. w.1 (p ∙ ap (λ z. Dead z) (sym (one s id (file_there t s w.0) (gone id p) q)))))
              ∙ is.each s w.0
          | inr e ↦ absurd (born_dead (sym e ∙ p))
        ];
        none = λ j no. elim (cases_eq j i) [
          | inl q ↦ ap (λ z. cond z None (files j)) (eq-eqb j i q)
          | inr q ↦
              ap (λ z. cond z None (files j)) (ne_eqb j i q)
              ∙ is.none j (λ s f same. no s (stays s f (λ d. q (sym same ∙ ap (inode_in inodes) (dead_dead (sym d ∙ p))))) same)
        ];
      }

  by_turn : (w : Turn) → turn_of u ≡ w → AreFilesOf inodes (apply t u) (all_acted files (ops_of_turn inodes w))
  by_turn Same p = same_files p
  by_turn (Born id true) p = dir_files id p
  by_turn (Born id false) p = new_files id p
  by_turn (Dead id) p = dropped_files id p

  -- its operations leave the files of the tree behind it
  files_after : AreFilesOf inodes (apply t u) (all_acted files (ops_of inodes u))
  files_after = subst (λ (l : List BodyOp). AreFilesOf inodes (apply t u) (all_acted files l)) (sym (turn_ops inodes u)) (by_turn (turn_of u) refl)

-- ---- updates in their order

acted_append : (files : Files) (xs ys : List BodyOp) → all_acted files (xs ++ ys) ≡ all_acted (all_acted files xs) ys
acted_append files [] ys = refl
acted_append files (x ∷ xs) ys = acted_append (acted files x) xs ys

module _ (count : ℕ) (inodes : List ℕ) where
  apart_after : (t : Rows) (u : Charged) → AreApart inodes t → AppliesIn count inodes t u → AreApart inodes (apply t u.0)
  apart_after t u one a x y r q e =
      let fresh = fresh_of count inodes t u.0 a.1 in
      elim (back t u.0 x r) [
        | inl p ↦ elim (back t u.0 y q) [ inl w ↦ one x y p.0 w.0 e | inr k ↦ absurd (fresh x y p.0 k e) ]
        | inr k ↦ elim (back t u.0 y q) [ inl w ↦ absurd (fresh y x w.0 k (sym e)) | inr j ↦ one_made u.0 x y k j ]
      ]

  gone_there : (t : Rows) (u : Charged) → AppliesIn count inodes t u → (x : ℕ) → Drops u.0 x → IsThere t x
  gone_there t u a x d = elim (node_there t u.0 x true a.0.0 a.0.1 (drops_changes u.0 x d)) [ inl r ↦ r | inr k ↦ absurd (not_both u.0 x x d k) ]

  -- the operations of updates leave the files of the tree behind them
  pub files_behind : (t : Rows) (us : List (ℕ × Charged)) (files : Files) → AreApart inodes t → AllApply (AppliesIn count inodes) apply_in t us
      → AreFilesOf inodes t files → AreFilesOf inodes (after apply_in t us) (all_acted files (ops_of_all inodes us))
  files_behind t [] files one a is = is
  files_behind t (e ∷ us) files one a is =
      let now = files_after inodes t e.1.0 files is one (fresh_of count inodes t e.1.0 a.0.1) (gone_there t e.1 a.0) in
      subst (AreFilesOf inodes (after apply_in (apply t e.1.0) us)) (sym (acted_append files (ops_of inodes e.1.0) (ops_of_all inodes us)))
      (files_behind (apply t e.1.0) us (all_acted files (ops_of inodes e.1.0)) (apart_after t e.1 one a.0) a.1 now)
