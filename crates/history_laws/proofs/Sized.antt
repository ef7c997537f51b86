-- No file gets longer than a file may be.
use Rattle.std.proofs.Common.{◌≡◌, ℕ, ◌+◌, ◌≤◌, List, [], ◌∷◌, length, refl, sym, subst, arith}
use Rattle.std.specs.Prelude.{Bool, true, false, cond, ◌==◌}
use Rattle.std.specs.List.{AllByRecursion}
use Rattle.std.specs.declared.option.Option.{Option}
use Rattle.std.specs.declared.option.Option.TheVariants.{None, Some}
use Rattle.std.specs.FinMap.{get}
use Rattle.std.proofs.lemmas.Grind.{common_steps}
use Rattle.ccfs_base.specs.Limits.{file_max}
use Rattle.ccfs_base.specs.Contents.{resized, written}
use Rattle.tree_model.specs.declared.rows.Body.{Body}
use Rattle.tree_model.specs.declared.rows.Body.TheVariants.{Dir, File}
use Rattle.tree_model.specs.declared.rows.Row.{Row}
use Rattle.tree_model.specs.declared.rows.Update.{Update}
use Rattle.tree_model.specs.declared.rows.Update.TheVariants.{Make, Write, Resize, Remove, Move, Release}
use Rattle.tree_model.specs.declared.rows.Entry.{Entry}
use Rattle.tree_model.specs.Rows.{Rows}
use Rattle.tree_model.specs.Updates.{Edit, Rework, Refill, Place, Count, change, counted, refilled, edits, apply, left_of, new_body, Fits}
use Rattle.tree_model.specs.Weights.{body_bytes, row_bytes}
use Rattle.tree_model.proofs.Edited.{act, row_after, get_edited}
use Rattle.tree_cuts.specs.Calls.{Sizes}
use Rattle.history_model.specs.State.{Now, stream_in}
use Rattle.history_model.specs.Histories.{start, IsLegal, tree_by, entered_by, now_after}
use Rattle.history_laws.specs.Laws.{IsSized, FilesStayWithinTheirLimit}
use Rattle.history_laws.proofs.Sound.{IsSound, handles_left}
use Rattle.history_laws.proofs.Kept.{told_fits}
use Rattle.history_laws.proofs.Runs.{sound_start, sound_next, told_next}

pub written_small : (off : ℕ) (bytes file : List ℕ) → off + length bytes ≤ file_max → length file ≤ file_max → length (written off bytes file) ≤ file_max
written_small off bytes file a b = grind (arith, common_steps)

pub resized_small : (size : ℕ) (file : List ℕ) → size ≤ file_max → length (resized size file) ≤ file_max
resized_small size file a = grind (arith, common_steps)

-- an edit that keeps a row's bytes within the limit
abbrev Small : Edit → Type 0
Small e = (o : Option Row) → length (row_bytes o) ≤ file_max → length (row_bytes (change e o)) ≤ file_max

small_count : Small Count
small_count None h = h
small_count (Some r) h = by r.body h
  where
    by : (b : Body) → length (body_bytes b) ≤ file_max → length (body_bytes (counted b)) ≤ file_max
    by (Dir changes) g = g
    by (File bytes) g = g

small_place : (d : ℕ) (n : List ℕ) → Small (Place d n)
small_place d n None h = h
small_place d n (Some r) h = h

small_fill : (f : List ℕ → List ℕ) → ((file : List ℕ) → length file ≤ file_max → length (f file) ≤ file_max) → Small (Refill f)
small_fill f g None h = h
small_fill f g (Some r) h = by r.body h
  where
    by : (b : Body) → length (body_bytes b) ≤ file_max → length (body_bytes (refilled f b)) ≤ file_max
    by (Dir changes) k = k
    by (File bytes) k = g bytes k

small_left : (stays : Bool) → Small (Rework (left_of stays))
small_left true None h = h
small_left true (Some r) h = h
small_left false o h = omega arith

small_new : (dir : ℕ) (name : List ℕ) (k : Bool) → Small (Rework (λ o. Some (record { parent = Some dir; name = name; body = new_body k })))
small_new dir name true o h = omega arith
small_new dir name false o h = omega arith

small_edits : (t : Rows) (u : Update) → Fits t u → AllByRecursion (λ e. Small e.1) (edits u)
small_edits t (Make dir name id k) f = (small_new dir name k, (small_count, tt))
small_edits t (Write id off bytes) f = (small_fill (written off bytes) (λ file h. written_small off bytes file f.2 h), tt)
small_edits t (Resize id size) f = (small_fill (resized size) (λ file h. resized_small size file f.1), tt)
small_edits t (Remove dir name id stays) f = (small_left stays, (small_count, tt))
small_edits t (Move dir name to_dir to_name id k None stays) f = (small_place to_dir to_name, (small_count, (small_count, tt)))
small_edits t (Move dir name to_dir to_name id k (Some x) stays) f = (small_left stays, (small_place to_dir to_name, (small_count, (small_count, tt))))
small_edits t (Release id) f = (small_left false, tt)

small_act : (x : ℕ) (e : ℕ × Edit) (o : Option Row) → Small e.1 → length (row_bytes o) ≤ file_max → length (row_bytes (act x e o)) ≤ file_max
small_act x e o s h = elim (x == e.0) as (λ b. length (row_bytes (cond b (change e.1 o) o)) ≤ file_max) [ true ↦ s o h | false ↦ h ]

small_after : (x : ℕ) (es : List (ℕ × Edit)) (o : Option Row) → AllByRecursion (λ e. Small e.1) es → length (row_bytes o) ≤ file_max → length (row_bytes (row_after es x o)) ≤ file_max
small_after x [] o s h = h
small_after x (e ∷ es) o s h = small_after x es (act x e o) s.1 (small_act x e o s.0 h)

pub sized_apply : (t : Rows) (u : Update) → Fits t u → IsSized t → IsSized (apply t u)
sized_apply t u f s x = subst (λ o. length (row_bytes o) ≤ file_max) (sym (get_edited (edits u) t x)) (small_after x (edits u) (get t x) (small_edits t u f) (s x))

module _ (sizes : Sizes) where
  pub sized_next : (n : Now) (e : Entry) (h : List Entry) → IsSound n → IsSized n.tree → IsLegal sizes n (e ∷ h) → IsSized (entered_by sizes n e).tree
  sized_next n e h sound sized l = by e.update refl
    where
      by : (o : Option Update) → e.update ≡ o → IsSized (tree_by n.tree o)
      by None is = sized
      by (Some u) is = sized_apply n.tree u (told_fits sizes n (stream_in n.choices e.actor) (handles_left n e.actor e.command) u (told_next sizes n e h sound l u is)) sized

  sized_after : (n : Now) (h : List Entry) → IsSound n → IsSized n.tree → IsLegal sizes n h → IsSized (now_after sizes n h).tree
  sized_after n [] sound sized l = sized
  sized_after n (e ∷ h) sound sized l = sized_after (entered_by sizes n e) h (sound_next sizes n e h sound l) (sized_next n e h sound sized l) l.2

pub files_stay_within_their_limit : FilesStayWithinTheirLimit
files_stay_within_their_limit sizes t h tree sized l = sized_after sizes (start t) h (sound_start t tree) sized l
