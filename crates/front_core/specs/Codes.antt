-- How fronts are told apart: by the tuple of their fields.
use Rattle.std.specs.Prelude.{ℕ, List, refl}
use Rattle.std.specs.Coded.{Coded, code_by, coded×, coded_ℕ, coded_list}
use Rattle.std.specs.FinMap as map
use Rattle.tree_model.specs.Rows.{Rows}
use Rattle.tree_model.specs.contracts.rows.Row as row
use Rattle.tree_model.specs.declared.rows.Entry.{Entry}
use Rattle.tree_model.specs.contracts.rows.Entry as entry
use Rattle.tree_cuts.specs.Calls.{Sizes}
use Rattle.front_core.specs.Fronts.{Fronted}

-- the numbers of an image by its two fields
abbrev pub sizes_code : Coded Sizes
sizes_code = code_by (ℕ × ℕ) (coded× coded_ℕ coded_ℕ) (λ s. (s.data_blocks, s.inodes)) (λ p. record { data_blocks = p.0; inodes = p.1 }) (λ _. refl)

-- a front by its six fields
abbrev pub fronted_code : Coded Fronted
fronted_code = code_by (Sizes × (ℕ × (Rows × (List Entry × (List ℕ × ℕ)))))
    (coded× sizes_code (coded× coded_ℕ (coded× (map.code coded_ℕ row.the_row.coded) (coded× (coded_list entry.the_row.coded) (coded× (coded_list coded_ℕ) coded_ℕ)))))
    (λ f. (f.sizes, (f.limit, (f.opening, (f.entries, (f.inodes, f.handed))))))
    (λ p. record { sizes = p.0; limit = p.1.0; opening = p.1.1.0; entries = p.1.1.1.0; inodes = p.1.1.1.1.0; handed = p.1.1.1.1.1 })
    (λ _. refl)
