-- A tree has fewer rows than the image has inodes: one is the orphan directory's.
use Rattle.std.proofs.Common.{◌≡◌, ℕ, ◌+◌, ◌-◌, ◌≤◌, ◌<◌, List, refl, sym, ap, ◌∙◌, arith}
use Rattle.std.specs.Prelude.{true, false, is_some, Option, Some, None}
use Rattle.std.specs.FinMap.{get, remove, len}
use Rattle.tree_model.specs.declared.rows.Row.{Row}
use Rattle.tree_model.specs.Rows.{Rows}
use Rattle.image_model.specs.Volumes.{Volume, table_of}
use Rattle.image_model.specs.Trees.{with_parent}
use Rattle.image_model.specs.Carrying.{inode_in, CarriesRows}
use Rattle.image_model.proofs.CarriedTables.{HasRow, row_there, dir_is_used}
use Rattle.carried_volumes.specs.Carried.{no_bytes}
use Rattle.carried_volumes.proofs.Pairing.{beside, without, fits, full, full_there, full_len}
use Rattle.carried_volumes.proofs.Roots.{roots}

some_there : (o : Option Row) → is_some o ≡ true → (r : Row) × (o ≡ Some r)
some_there None e = absurd (let z : false ≡ true = e in cc)
some_there (Some r) e = (r, refl)

-- a tree whose serials are below a number
pub few_rows : (w : Volume) (t : Rows) (inodes : List ℕ) (n : ℕ) → CarriesRows w no_bytes t inodes → ((s : ℕ) → n ≤ s → get t s ≡ None) → len t ≤ w.inodes - 1
few_rows w t inodes n c past =
    let some : 1 < w.inodes = (dir_is_used (table_of w) 1 (roots w t inodes c).1).0.within in
    let others : Rows = remove (full w.inodes) 1 in
    let few : len t ≤ len others = fits (λ s x. (is_some (get t s) ≡ true) × (inode_in inodes s ≡ x)) n t others past
    (record {
      each = λ s there.
          let r = some_there (get t s) there in
          let x : ℕ = inode_in inodes s in
          let h : HasRow (table_of w) no_bytes x (with_parent (inode_in inodes) r.0) = row_there (table_of w) no_bytes x (with_parent (inode_in inodes) r.0) (c.renamed.each s r.0 r.1).1 in
          (x, (ap (λ o. is_some o) (beside (full w.inodes) 1 x h.other) ∙ full_there w.inodes x h.within, (there, refl)));
      once = λ s u x a b. let r = some_there (get t s) a.0 in let q = some_there (get t u) b.0 in c.renamed.once s u r.0 q.0 r.1 q.1 (a.1 ∙ sym b.1);
    }) in
    let less : len others + 1 ≡ len (full w.inodes) = without (full w.inodes) 1 (full_there w.inodes 1 some) in
    let all : len (full w.inodes) ≡ w.inodes = full_len w.inodes in
    omega arith
