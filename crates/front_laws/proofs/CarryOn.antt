-- The records of a batch take a volume from one cut to the next.
use Rattle.std.proofs.Common.{◌≡◌, ℕ, suc, ◌+◌, ◌*◌, ◌%◌, ◌≤◌, List, [], ◌∷◌, ◌++◌, length, reverse, refl, sym, ap, subst, ◌∙◌, arith}
use Rattle.std.specs.Prelude.{true, not, nat_le}
use Rattle.std.specs.List.{AllByRecursion}
use Rattle.std.proofs.lemmas.Bool.{and_parts, leb-true}
use Rattle.stream_cuts.specs.Streams.{Step, no_counts, of_stream, unsealed_after}
use Rattle.stream_cuts.specs.Cuts.{batch}
use Rattle.stream_cuts.specs.States.{after, state_at, AllApply}
use Rattle.stream_cuts.proofs.Next.{next_batch}
use Rattle.ccfs_base.specs.declared.records.Rec.{Rec}
use Rattle.ccfs_base.specs.Records.{all_recorded, AreInside}
use Rattle.delta_log.specs.Deltas.{is_delta}
use Rattle.delta_log.specs.Laws.{ranges_of, deltas_of, IsRangeFirst}
use Rattle.delta_log.proofs.Sorted.{sorted_alike}
use Rattle.tree_model.specs.Rows.{Rows}
use Rattle.tree_model.specs.Updates.{apply}
use Rattle.tree_cuts.specs.Calls.{Charged}
use Rattle.history_model.specs.Histories.{start, charged_in}
use Rattle.history_laws.proofs.Runs.{sound_start}
use Rattle.image_model.specs.Volumes.{Volume, table_of, data_blocks}
use Rattle.image_model.specs.Changes.{Change, changed, all_records, with_records, files_changed}
use Rattle.image_model.specs.ChangeLaws.{IsSized, AreBesideSame}
use Rattle.image_model.proofs.ChangingFields.{HasSpace, has_space}
use Rattle.image_model.proofs.CarriedTables.{row_there}
use Rattle.carried_volumes.specs.Carried.{Carried, no_bytes}
use Rattle.update_records.specs.Batches.{tree_after, changes_of_all, AllFit, AllNamed, AllHaveInodes}
use Rattle.update_records.specs.BatchLaws.{Stands}
use Rattle.update_records.proofs.Batching.{batches_are_carried}
use Rattle.front_laws.specs.Batches.{records_of_all}
use Rattle.front_laws.specs.Logging.{metadata_size}
use Rattle.front_laws.specs.Laws.{BatchesCarryOn}
use Rattle.front_laws.proofs.Rows.{row_of}
use Rattle.front_laws.proofs.Swapping.{MeetIn, AppliesIn, apply_in, swaps_in}
use Rattle.front_laws.proofs.Held.{IsHeld, held_start}
use Rattle.front_laws.proofs.Ruled.{IsRuled, AreOrdered, ruled_guarded, ruled_first, ordered_after, ordered_of_stream}
use Rattle.front_laws.proofs.Along.{ruled_along}
use Rattle.front_laws.proofs.Bare.{plain_after}
use Rattle.front_laws.proofs.Standing.{AreBounded, MayStand, updates, all_stand, each_stands, all_same, all_inside, parts_inside, front_is, still_none}
use Rattle.front_laws.proofs.Ranges.{ranges_first}
use Rattle.front_laws.proofs.Cuts.{plain_seals, same_state, IsSealAt, find_seal, batch_is}

-- ---- a batch

module _ (count : ℕ) (inodes : List ℕ) where
  all_fit : (t : Rows) (us : List (ℕ × Charged)) → AllApply (AppliesIn count inodes) apply_in t us → AllFit t (updates us)
  all_fit t [] a = tt
  all_fit t (e ∷ us) a = (a.0.0.1, all_fit (apply t e.1.0) us a.1)

  all_named : (t : Rows) (us : List (ℕ × Charged)) → AllApply (AppliesIn count inodes) apply_in t us → AllNamed (updates us)
  all_named t [] a = tt
  all_named t (e ∷ us) a = (a.0.3, all_named (apply t e.1.0) us a.1)

  all_have : (t : Rows) (us : List (ℕ × Charged)) → AllApply (AppliesIn count inodes) apply_in t us → AllHaveInodes count inodes t (updates us)
  all_have t [] a = tt
  all_have t (e ∷ us) a = (a.0.1, all_have (apply t e.1.0) us a.1)

same_tree : (t : Rows) (us : List (ℕ × Charged)) → tree_after t (updates us) ≡ after apply_in t us
same_tree t [] = refl
same_tree t (e ∷ us) = same_tree (apply t e.1.0) us

few_blocks : (v : Volume) → IsSized v → data_blocks v ≤ 16384
few_blocks v sized =
    let parts : (nat_le 512 v.blocks ≡ true) × (nat_le v.blocks 16384 ≡ true) = and_parts (nat_le 512 v.blocks) (nat_le v.blocks 16384) sized.blocks in
    let most : v.blocks ≤ 16384 = leb-true v.blocks 16384 parts.1 in
    omega arith

bounded : (v : Volume) (t : Rows) (inodes : List ℕ) → Carried v t inodes → AreBounded v.inodes inodes t
bounded v t inodes carried x there =
    let r = row_of t x there in
    let h = row_there (table_of v) no_bytes _ _ (carried.rows.renamed.each x r.0 r.1).1 in
    h.within

-- the records of a batch with the ranges first
abbrev sorted : List Rec → List Rec
sorted log = ranges_of log ++ deltas_of log

abbrev IsCarriedOn : Volume → Volume → Rows → List ℕ → Type 0
IsCarriedOn v w t inodes = Carried w t inodes × AreBesideSame v w

-- the volume after the changes of a batch
in_order : (v : Volume) (t : Rows) (inodes : List ℕ) (us : List (ℕ × Charged)) → Carried v t inodes → AllApply (AppliesIn v.inodes inodes) apply_in t us
    → IsCarriedOn v (changed v (changes_of_all inodes t (updates us))) (after apply_in t us) inodes
in_order v t inodes us carried a =
    let cs : List Change = changes_of_all inodes t (updates us) in
    let w : Volume = changed v cs in
    let stand = all_stand v.inodes inodes t us (bounded v t inodes carried) a in
    let stands : Stands v no_bytes t inodes = record { sized = carried.sized; rows = carried.rows; orphans = carried.orphans; tree = carried.plain.tree } in
    let done = batches_are_carried v no_bytes t inodes (updates us) stands (all_fit v.inodes inodes t us a) (all_named v.inodes inodes t us a) (all_have v.inodes inodes t us a) in
    let next : Stands w no_bytes (after apply_in t us) inodes
    = subst (λ (f : ℕ → List ℕ). Stands w f (after apply_in t us) inodes) (still_none v.inodes cs stand)
    (subst (λ (x : Rows). Stands w (files_changed no_bytes cs) x inodes) (same_tree t us) done.0) in
    let beside : AreBesideSame v w = done.1 in (
      record {
        sized = next.sized;
        rows = next.rows;
        orphans = next.orphans;
        plain = plain_after v.inodes inodes t us carried.plain a;
        unused = λ item l. beside.bits item (omega (arith, l, few_blocks v carried.sized)) ∙ carried.unused item l;
        counted = beside.the_free_blocks ∙ carried.counted;
      },
      beside,
    )

-- and after its records, the ranges first
abbrev CarriesOn : Volume → Rows → List ℕ → List (ℕ × Charged) → ℕ → Type 0
CarriesOn v t inodes us count =
    AllApply (AppliesIn count inodes) apply_in t us → IsRangeFirst (records_of_all count inodes us)
    → Carried (with_records v (sorted (records_of_all count inodes us))) (after apply_in t us) inodes
    × AreBesideSame v (with_records v (sorted (records_of_all count inodes us)))
    × AreInside (metadata_size count) (sorted (records_of_all count inodes us))

ranges_before : (v : Volume) (t : Rows) (inodes : List ℕ) (us : List (ℕ × Charged)) → Carried v t inodes → CarriesOn v t inodes us v.inodes
ranges_before v t inodes us carried a first =
    let n : ℕ = v.inodes in
    let cs : List Change = changes_of_all inodes t (updates us) in
    let log : List Rec = records_of_all n inodes us in
    let room : HasSpace v = has_space v carried.sized in
    let stand : AllByRecursion (MayStand n) cs = all_stand n inodes t us (bounded v t inodes carried) a in
    let same : all_records n cs ≡ log = all_same n inodes t us a in
    let inside : AreInside (length v.bytes) log = subst (AreInside (length v.bytes)) same (all_inside n (length v.bytes) room.steps room.few room.long cs stand) in
    let alike : all_recorded v.bytes log ≡ all_recorded v.bytes (sorted log) = sorted_alike (length v.bytes) log inside first v.bytes refl in
    let is : changed v cs ≡ with_records v (sorted log) = λ i. record v { bytes = (ap (all_recorded v.bytes) same ∙ alike) i } in
    let on : IsCarriedOn v (with_records v (sorted log)) (after apply_in t us) inodes = subst (λ (w : Volume). IsCarriedOn v w (after apply_in t us) inodes) is (in_order v t inodes us carried a) in
    let fits : 12288 + 384 * n ≤ metadata_size n = omega (arith, front_is n room.steps) in
    let low : AreInside (metadata_size n) log = subst (AreInside (metadata_size n)) same (all_inside n (metadata_size n) room.steps room.few fits cs stand) in
    (on.0, on.1, parts_inside n (metadata_size n) room.steps room.few fits (λ rec. not (is_delta rec)) is_delta log low)

-- ---- a history

pub batches_carry_on : BatchesCarryOn
batches_carry_on sizes t inodes h k v kept less same carried =
    let n : ℕ = sizes.inodes in
    let l : List (Step Charged) = charged_in sizes (start t) h in
    let ruled : IsRuled n inodes t [] l = ruled_along sizes inodes (start t) h (sound_start t kept.plain.tree) kept.legal kept.tame kept.lowest tt in
    let held : IsHeld inodes t [] = held_start inodes t (λ x y p q e. let r = row_of t x p in let s = row_of t y q in kept.have.apart x y r.0 s.0 r.1 s.1 e) in
    let both = ruled_guarded n inodes t [] l held ruled in
    let next = next_batch (AppliesIn n inodes) apply_in (MeetIn inodes) (swaps_in n inodes) t l k both.0 both.1 in
    let now : Rows = state_at apply_in t l k in
    let us : List (ℕ × Charged) = batch l k in
    let c : Carried v now inodes = subst (λ (x : Rows). Carried v x inodes) (same_state t l k) carried in
    let w : IsSealAt no_counts l k = find_seal no_counts l k (omega (arith, less, ap length (plain_seals no_counts l))) in
    let here : us ≡ reverse (of_stream w.1 (unsealed_after [] w.0)) = batch_is l k w in
    let ordered : AreOrdered inodes (of_stream w.1 (unsealed_after [] w.0)) = ordered_of_stream inodes w.1 (unsealed_after [] w.0)
    (ordered_after inodes n t [] w.0 held tt (ruled_first n inodes t [] w.0 _ (subst (IsRuled n inodes t []) w.3 ruled))) in
    let room : HasSpace v = has_space v c.sized in
    let steps : n % 32 ≡ 0 = subst (λ (z : ℕ). z % 32 ≡ 0) same room.steps in
    let few : n ≤ 8192 = subst (λ (z : ℕ). z ≤ 8192) same room.few in
    let low : AreBounded n inodes now = subst (λ (z : ℕ). AreBounded z inodes now) same (bounded v now inodes c) in
    let first : IsRangeFirst (records_of_all n inodes us) = subst (λ (z : List (ℕ × Charged)). IsRangeFirst (records_of_all n inodes z)) (sym here)
    (ranges_first n steps few inodes (of_stream w.1 (unsealed_after [] w.0)) (subst (AllByRecursion _) here (each_stands n inodes now us low next.0)) ordered) in
    let on : CarriesOn v now inodes us n = subst (CarriesOn v now inodes us) same (ranges_before v now inodes us c) in
    let done = on next.0 first in
    (subst (λ (x : Rows). Carried (with_records v (sorted (records_of_all n inodes us))) x inodes) (sym (same_state t l (suc k) ∙ next.1)) done.0, done.1, done.2)
