-- Trees of empty files with names stay such trees where built updates are made.
use Rattle.std.proofs.Common.{◌≡◌, ◌≢◌, ℕ, List, [], ◌∷◌, refl, sym, subst, ◌∙◌}
use Rattle.std.specs.Prelude.{Bool, true, false, cond, ◌==◌}
use Rattle.std.specs.List.{AllByRecursion}
use Rattle.std.specs.declared.option.Option.{Option}
use Rattle.std.specs.declared.option.Option.TheVariants.{None, Some}
use Rattle.std.specs.FinMap.{get}
use Rattle.stream_cuts.specs.States.{after, AllApply}
use Rattle.ccfs_base.specs.Names.{is_name}
use Rattle.tree_model.specs.declared.rows.Body.{Body}
use Rattle.tree_model.specs.declared.rows.Body.TheVariants.{Dir, File}
use Rattle.tree_model.specs.declared.rows.Row.{Row}
use Rattle.tree_model.specs.declared.rows.Update.{Update}
use Rattle.tree_model.specs.declared.rows.Update.TheVariants.{Make, Write, Resize, Remove, Move, Release}
use Rattle.tree_model.specs.Rows.{Rows}
use Rattle.tree_model.specs.Updates.{Edit, Rework, Place, Count, change, counted, new_body, left_of, edits, apply, Fits}
use Rattle.tree_model.proofs.Edited.{act, row_after, get_edited}
use Rattle.tree_model.proofs.TreeKept.{tree_kept}
use Rattle.tree_cuts.specs.Calls.{Charged}
use Rattle.carried_volumes.specs.Plain.{IsBareBody, IsPlain}
use Rattle.update_records.specs.Built.{is_built}
use Rattle.update_records.specs.Batches.{IsNamed}
use Rattle.front_laws.proofs.Swapping.{AppliesIn, apply_in}

-- a row under a serial is as in such a tree
abbrev IsFine : ℕ → Row → Type 0
IsFine s r = (s ≢ 0 → (dir : ℕ) × (r.parent ≡ Some dir)) × (s ≢ 0 → is_name r.name ≡ true) × IsBareBody r.body

-- a row, if there is one
abbrev IsFineIf : ℕ → Option Row → Type 0
IsFineIf s None = Unit {0}
IsFineIf s (Some r) = IsFine s r

-- an edit leaves such rows
abbrev KeepsFine : Edit → Type 0
KeepsFine e = (s : ℕ) (o : Option Row) → IsFineIf s o → IsFineIf s (change e o)

bare_counted : (b : Body) → IsBareBody b → IsBareBody (counted b)
bare_counted (Dir changes) is = tt
bare_counted (File bytes) is = is

bare_new : (b : Bool) → IsBareBody (new_body b)
bare_new true = tt
bare_new false = refl

count_keeps : KeepsFine Count
count_keeps s None f = tt
count_keeps s (Some r) f = (f.0, f.1, bare_counted r.body f.2)

place_keeps : (dir : ℕ) (name : List ℕ) → is_name name ≡ true → KeepsFine (Place dir name)
place_keeps dir name is s None f = tt
place_keeps dir name is s (Some r) f = ((λ ne. (dir, refl)), (λ ne. is), f.2)

drop_keeps : KeepsFine (Rework (left_of false))
drop_keeps s o f = tt

make_keeps : (dir : ℕ) (name : List ℕ) (d : Bool) → is_name name ≡ true → KeepsFine (Rework (λ o. Some (record { parent = Some dir; name = name; body = new_body d })))
make_keeps dir name d is s o f = ((λ ne. (dir, refl)), (λ ne. is), bare_new d)

edits_keep : (u : Update) → is_built u ≡ true → IsNamed u → AllByRecursion (λ e. KeepsFine e.1) (edits u)
edits_keep (Make dir name id d) b n = (make_keeps dir name d n, (count_keeps, tt))
edits_keep (Write id off bytes) b n = absurd (let z : false ≡ true = b in cc)
edits_keep (Resize id len) b n = absurd (let z : false ≡ true = b in cc)
edits_keep (Remove dir name id true) b n = absurd (let z : false ≡ true = b in cc)
edits_keep (Remove dir name id false) b n = (drop_keeps, (count_keeps, tt))
edits_keep (Move dir name to_dir to_name id d r true) b n = absurd (let z : false ≡ true = b in cc)
edits_keep (Move dir name to_dir to_name id d None false) b n = (place_keeps to_dir to_name n, (count_keeps, (count_keeps, tt)))
edits_keep (Move dir name to_dir to_name id d (Some y) false) b n = (drop_keeps, (place_keeps to_dir to_name n, (count_keeps, (count_keeps, tt))))
edits_keep (Release id) b n = absurd (let z : false ≡ true = b in cc)

act_keeps : (s : ℕ) (e : ℕ × Edit) (o : Option Row) → KeepsFine e.1 → IsFineIf s o → IsFineIf s (act s e o)
act_keeps s e o k f = elim (s == e.0) as (λ b. IsFineIf s (cond b (change e.1 o) o)) [ true ↦ k s o f | false ↦ f ]

all_keep : (es : List (ℕ × Edit)) (s : ℕ) (o : Option Row) → AllByRecursion (λ e. KeepsFine e.1) es → IsFineIf s o → IsFineIf s (row_after es s o)
all_keep [] s o k f = f
all_keep (e ∷ es) s o k f = all_keep es s (act s e o) k.1 (act_keeps s e o k.0 f)

fine_before : (t : Rows) (s : ℕ) → IsPlain t → IsFineIf s (get t s)
fine_before t s p = of (get t s) refl
  where
    of : (o : Option Row) → get t s ≡ o → IsFineIf s o
    of None e = tt
    of (Some r) e = ((λ ne. p.placed s r ne e), (λ ne. p.named s r ne e), p.bare s r e)

plain_update : (t : Rows) (u : Update) → IsPlain t → is_built u ≡ true → Fits t u → IsNamed u → IsPlain (apply t u)
plain_update t u p b f n =
    let each : (s : ℕ) (r : Row) → get (apply t u) s ≡ Some r → IsFine s r
    = λ s r e. subst (IsFineIf s) (sym (get_edited (edits u) t s) ∙ e) (all_keep (edits u) s (get t s) (edits_keep u b n) (fine_before t s p)) in
    record {
      tree = tree_kept t u p.tree f;
      placed = λ s r ne e. (each s r e).0 ne;
      named = λ s r ne e. (each s r e).1 ne;
      bare = λ s r e. (each s r e).2;
    }

pub plain_after : (count : ℕ) (inodes : List ℕ) (t : Rows) (us : List (ℕ × Charged)) → IsPlain t → AllApply (AppliesIn count inodes) apply_in t us → IsPlain (after apply_in t us)
plain_after count inodes t [] p a = p
plain_after count inodes t (e ∷ us) p a = plain_after count inodes (apply t e.1.0) us (plain_update t e.1.0 p a.0.2 a.0.0.1 a.0.3) a.1
