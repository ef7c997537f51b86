-- The operations of a batch leave the files of the volume with its records.
use Rattle.std.proofs.Common.{ℕ, suc, List, [], subst, ◌∙◌}
use Rattle.stream_cuts.specs.Streams.{Step}
use Rattle.stream_cuts.specs.Cuts.{batch}
use Rattle.stream_cuts.specs.States.{after, state_at}
use Rattle.stream_cuts.proofs.Next.{next_batch}
use Rattle.file_bodies.specs.Files.{all_acted}
use Rattle.tree_model.specs.Rows.{Rows}
use Rattle.tree_cuts.specs.Calls.{Charged}
use Rattle.history_model.specs.Histories.{start, charged_in, tree_at}
use Rattle.history_laws.proofs.Runs.{sound_start}
use Rattle.image_model.specs.Volumes.{Volume}
use Rattle.image_model.specs.Changes.{with_records}
use Rattle.carried_volumes.specs.Carried.{Carried}
use Rattle.front_laws.specs.Batches.{ops_of_all, batch_at}
use Rattle.front_laws.specs.Covers.{files_of}
use Rattle.front_laws.specs.Contents.{OperationsCarryOn}
use Rattle.front_laws.proofs.Rows.{row_of}
use Rattle.front_laws.proofs.Swapping.{MeetIn, AppliesIn, apply_in, swaps_in}
use Rattle.front_laws.proofs.Held.{IsHeld, held_start}
use Rattle.front_laws.proofs.Ruled.{IsRuled, ruled_guarded}
use Rattle.front_laws.proofs.Along.{ruled_along}
use Rattle.front_laws.proofs.Cuts.{same_state}
use Rattle.front_laws.proofs.FileSets.{AreFilesOf, AreApart, files_behind}
use Rattle.front_laws.proofs.FilesHeld.{files_are, are_its_files}
use Rattle.front_laws.proofs.CarryOn.{batches_carry_on}

apart_in : (v : Volume) (t : Rows) (inodes : List ℕ) → Carried v t inodes → AreApart inodes t
apart_in v t inodes carried x y p q e = let r = row_of t x p in let s = row_of t y q in carried.rows.renamed.once x y r.0 s.0 r.1 s.1 e

pub operations_carry_on : OperationsCarryOn
operations_carry_on sizes t inodes h k v kept less same carried =
    let n : ℕ = sizes.inodes in
    let l : List (Step Charged) = charged_in sizes (start t) h in
    let ruled : IsRuled n inodes t [] l = ruled_along sizes inodes (start t) h (sound_start t kept.plain.tree) kept.legal kept.tame kept.lowest tt in
    let held : IsHeld inodes t [] = held_start inodes t (λ x y p q e. let r = row_of t x p in let s = row_of t y q in kept.have.apart x y r.0 s.0 r.1 s.1 e) in
    let both = ruled_guarded n inodes t [] l held ruled in
    let next = next_batch (AppliesIn n inodes) apply_in (MeetIn inodes) (swaps_in n inodes) t l k both.0 both.1 in
    let now : Rows = state_at apply_in t l k in
    let us : List (ℕ × Charged) = batch l k in
    let c : Carried v now inodes = subst (λ (x : Rows). Carried v x inodes) (same_state t l k) carried in
    let w : Volume = with_records v (batch_at sizes t inodes h k).recs in
    let on : Carried w (tree_at sizes (start t) h (suc k)) inodes = (batches_carry_on sizes t inodes h k v kept less same carried).0 in
    let d : Carried w (after apply_in now us) inodes = subst (λ (x : Rows). Carried w x inodes) (same_state t l (suc k) ∙ next.1) on in
    let are : AreFilesOf inodes (after apply_in now us) (all_acted (files_of v) (ops_of_all inodes us))
    = files_behind n inodes now us (files_of v) (apart_in v now inodes c) next.0 (files_are v now inodes c) in
    are_its_files w (after apply_in now us) inodes d (all_acted (files_of v) (ops_of_all inodes us)) are
