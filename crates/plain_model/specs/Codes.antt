-- How what a history leaves is told apart: each record by the tuple of its fields.
use Rattle.std.specs.Prelude.{ℕ, Bool, List, refl}
use Rattle.std.specs.Coded.{Coded, code_by, coded×, coded_ℕ, coded_bool, coded_list}
use Rattle.std.specs.FinMap as map
use Rattle.tree_model.specs.Rows.{Rows}
use Rattle.tree_model.specs.contracts.rows.Row as row
use Rattle.tree_model.specs.contracts.rows.Update as update
use Rattle.tree_cuts.specs.Calls.{Sizes, Charge, Charged}
use Rattle.history_model.specs.State.{Choice, Opened, Now}
use Rattle.tree_model.specs.declared.rows.Entry.{Entry}
use Rattle.tree_model.specs.contracts.rows.Entry as entry
use Rattle.plain_model.specs.Recorded.{Recorded}

-- an actor's choice by its three fields
abbrev pub choice_code : Coded Choice
choice_code = code_by (ℕ × (ℕ × Bool)) (coded× coded_ℕ (coded× coded_ℕ coded_bool)) (λ c. (c.actor, (c.stream, c.ignore))) (λ p. record { actor = p.0; stream = p.1.0; ignore = p.1.1 }) (λ _. refl)

-- a handle by its three fields
abbrev pub opened_code : Coded Opened
opened_code = code_by (ℕ × (ℕ × ℕ)) (coded× coded_ℕ (coded× coded_ℕ coded_ℕ)) (λ o. (o.actor, (o.number, o.file))) (λ p. record { actor = p.0; number = p.1.0; file = p.1.1 }) (λ _. refl)

-- a charge by its three fields
abbrev pub charge_code : Coded Charge
charge_code = code_by (ℕ × (ℕ × ℕ)) (coded× coded_ℕ (coded× coded_ℕ coded_ℕ)) (λ c. (c.weight, (c.gave_blocks, c.gave_rows))) (λ p. record { weight = p.0; gave_blocks = p.1.0; gave_rows = p.1.1 }) (λ _. refl)

-- what a history leaves by its six fields
abbrev pub now_code : Coded Now
now_code = code_by (Rows × (List Choice × (List Opened × (List (ℕ × Charged) × (ℕ × ℕ)))))
    (coded× (map.code coded_ℕ row.the_row.coded) (coded× (coded_list choice_code) (coded× (coded_list opened_code) (coded× (coded_list (coded× coded_ℕ (coded× update.the_row.coded charge_code))) (coded× coded_ℕ coded_ℕ)))))
    (λ n. (n.tree, (n.choices, (n.handles, (n.unsealed, (n.next, n.seals))))))
    (λ p. record { tree = p.0; choices = p.1.0; handles = p.1.1.0; unsealed = p.1.1.1.0; next = p.1.1.1.1.0; seals = p.1.1.1.1.1 })
    (λ _. refl)

-- the numbers of an image by its two fields
abbrev pub sizes_code : Coded Sizes
sizes_code = code_by (ℕ × ℕ) (coded× coded_ℕ coded_ℕ) (λ s. (s.data_blocks, s.inodes)) (λ p. record { data_blocks = p.0; inodes = p.1 }) (λ _. refl)

-- a recorded history by its three fields
abbrev pub recorded_code : Coded Recorded
recorded_code = code_by (Sizes × (Rows × List Entry)) (coded× sizes_code (coded× (map.code coded_ℕ row.the_row.coded) (coded_list entry.the_row.coded)))
    (λ r. (r.sizes, (r.opening, r.entries))) (λ p. record { sizes = p.0; opening = p.1.0; entries = p.1.1 }) (λ _. refl)
