-- The inodes that are listed are those of the volume, in order of their serials.
use Rattle.std.proofs.Common.{◌≡◌, ℕ, ◌+◌, ◌-◌, ◌≤◌, List, ◌++◌, sym, ap, ◌∙◌, arith}
use Rattle.std.specs.FinMap.{len}
use Rattle.std.proofs.lemmas.List.{append-nil}
use Rattle.flat_dirs.specs.Slots.{entries_in}
use Rattle.tree_model.specs.Rows.{Rows, parent_of}
use Rattle.image_model.specs.Volumes.{Volume, table_of}
use Rattle.image_model.specs.Files.{file_bytes}
use Rattle.image_model.specs.Trees.{row_at, by_inodes, preorder, inodes_of}
use Rattle.image_model.proofs.SoundTable.{inodes_tree}
use Rattle.image_check.specs.declared.table.Table.{Table as Read}
use Rattle.image_check.specs.Tables.{IsTableOf}
use Rattle.image_check.specs.Listed.{listed}
use Rattle.image_check.proofs.Sounds.{IsSound}
use Rattle.image_check.proofs.Entries.{same_entries, entry_parent}
use Rattle.image_check.proofs.Walks.{same_walk, deeper, no_longer, few_rows}

pub inodes_listed : (v : Volume) (table : Read) → IsSound v → IsTableOf v table → listed (entries_in table.slots) table.used.count 0 ≡ inodes_of (table_of v) (file_bytes v)
inodes_listed v table sound is =
    let t = table_of v in
    let files = file_bytes v in
    let rows : Rows = by_inodes t files in
    let below : ℕ → List ℕ = entries_in table.slots in
    let few : len rows ≤ v.inodes = few_rows (row_at t files) v.inodes in
    let more : table.used.count ≡ (v.inodes - len rows) + len rows = ap (λ m. m.count) is.used ∙ omega arith in
    ap (λ n. listed below n 0) more
    ∙ deeper below (parent_of rows) (entry_parent t files sound.table sound.bare table.slots is.slots) (v.inodes - len rows) (len rows) 0
    (no_longer rows (inodes_tree t files sound.table))
    ∙ same_walk rows below (same_entries t files sound.table sound.bare table.slots is.slots) (len rows) 0
    ∙ sym (append-nil (preorder (len rows) rows 0))
    ∙ ap (λ g. preorder (len rows) rows 0 ++ g) (sym (sound.gone files))
