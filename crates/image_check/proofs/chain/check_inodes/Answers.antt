use Rattle.std.proofs.Common.{◌≡◌, [], ◌∷◌, ◌∙◌}
use Rattle.std.proofs.lemmas.Result.{err_from_is_err_and}
use Rattle.image_model.specs.declared.check.Check.TheVariants as checks
use Rattle.image_model.specs.Volumes.{volume_of}
use Rattle.image_model.specs.Checks.{bare, failure}
use Rattle.std.specs.Prelude.{None}
use Rattle.image_check.specs.Verdicts.{inode_checks, first_among}
use Rattle.image_check.proofs.Verdict.{passed, refused, behind, last_step}
use Rattle.image_check.proofs.Steps.{root_told, record_told, slot_told, twin_told, ring_told}
use Rattle.image_check.proofs.chain.check_inodes.Goals as goal

pub returns-in_err-pass : goal.returns-in_err-pass
returns-in_err-pass c =
    let v = volume_of c.args.geometry.now c.args.volume.now in
    let table = c.args.table.now in
    let f = failure bare None v in
    let root = root_told v table c.requires c.are_directories-roots.result c.record_block.result c.unless.result c.are_directories-roots.ensures c.record_block.ensures c.unless.ensures in
    let p = err_from_is_err_and c.from_residual.result c.from_residual.ensures.1 in
    rw (p.1, p.2) (refused f checks.Root (checks.Record ∷ checks.Slot ∷ checks.Twin ∷ checks.Ring ∷ []) c.unless.result c.in_err-pass.field-0.0 root c.in_err-pass.ensures)

pub returns-in_err-pass-2 : goal.returns-in_err-pass-2
returns-in_err-pass-2 c =
    let v = volume_of c.args.geometry.now c.args.volume.now in
    let table = c.args.table.now in
    let f = failure bare None v in
    let root = root_told v table c.requires c.are_directories-roots.result c.record_block.result c.unless.result c.are_directories-roots.ensures c.record_block.ensures c.unless.ensures in
    let records = record_told v table c.requires c.bare-limits.result c.lowest_bad_record-record.result c.in_records.result c.bare-limits.ensures c.lowest_bad_record-record.ensures.lowest c.in_records.ensures in
    let p = err_from_is_err_and c.from_residual-in_err-pass-2.result c.from_residual-in_err-pass-2.ensures.1 in
    rw (p.1, p.2) (behind f checks.Root (checks.Record ∷ checks.Slot ∷ checks.Twin ∷ checks.Ring ∷ []) c.unless.result c.in_err-pass-2.field-0.0 root c.in_ok-pass.ensures (refused f checks.Record (checks.Slot ∷ checks.Twin ∷ checks.Ring ∷ []) c.in_records.result c.in_err-pass-2.field-0.0 records c.in_err-pass-2.ensures))

pub returns-in_err-pass-3 : goal.returns-in_err-pass-3
returns-in_err-pass-3 c =
    let v = volume_of c.args.geometry.now c.args.volume.now in
    let table = c.args.table.now in
    let f = failure bare None v in
    let root = root_told v table c.requires c.are_directories-roots.result c.record_block.result c.unless.result c.are_directories-roots.ensures c.record_block.ensures c.unless.ensures in
    let records = record_told v table c.requires c.bare-limits.result c.lowest_bad_record-record.result c.in_records.result c.bare-limits.ensures c.lowest_bad_record-record.ensures.lowest c.in_records.ensures in
    let slot = slot_told v table c.requires c.bare-limits.result c.lowest_bad_slot-slot.result c.in_slots.result c.bare-limits.ensures c.lowest_bad_slot-slot.ensures.lowest c.in_slots.ensures in
    let p = err_from_is_err_and c.from_residual-in_err-pass-3.result c.from_residual-in_err-pass-3.ensures.1 in
    rw (p.1, p.2) (behind f checks.Root (checks.Record ∷ checks.Slot ∷ checks.Twin ∷ checks.Ring ∷ []) c.unless.result c.in_err-pass-3.field-0.0 root c.in_ok-pass.ensures (behind f checks.Record (checks.Slot ∷ checks.Twin ∷ checks.Ring ∷ []) c.in_records.result c.in_err-pass-3.field-0.0 records c.in_ok-pass-2.ensures (refused f checks.Slot (checks.Twin ∷ checks.Ring ∷ []) c.in_slots.result c.in_err-pass-3.field-0.0 slot c.in_err-pass-3.ensures)))

pub returns-in_err-pass-4 : goal.returns-in_err-pass-4
returns-in_err-pass-4 c =
    let v = volume_of c.args.geometry.now c.args.volume.now in
    let table = c.args.table.now in
    let f = failure bare None v in
    let root = root_told v table c.requires c.are_directories-roots.result c.record_block.result c.unless.result c.are_directories-roots.ensures c.record_block.ensures c.unless.ensures in
    let records = record_told v table c.requires c.bare-limits.result c.lowest_bad_record-record.result c.in_records.result c.bare-limits.ensures c.lowest_bad_record-record.ensures.lowest c.in_records.ensures in
    let slot = slot_told v table c.requires c.bare-limits.result c.lowest_bad_slot-slot.result c.in_slots.result c.bare-limits.ensures c.lowest_bad_slot-slot.ensures.lowest c.in_slots.ensures in
    let twin = twin_told v table c.requires c.lowest_twin-twin.result c.in_slots-2.result c.lowest_twin-twin.ensures.lowest c.in_slots-2.ensures in
    let p = err_from_is_err_and c.from_residual-in_err-pass-4.result c.from_residual-in_err-pass-4.ensures.1 in
    rw (p.1, p.2) (behind f checks.Root (checks.Record ∷ checks.Slot ∷ checks.Twin ∷ checks.Ring ∷ []) c.unless.result c.in_err-pass-4.field-0.0 root c.in_ok-pass.ensures (behind f checks.Record (checks.Slot ∷ checks.Twin ∷ checks.Ring ∷ []) c.in_records.result c.in_err-pass-4.field-0.0 records c.in_ok-pass-2.ensures (behind f checks.Slot (checks.Twin ∷ checks.Ring ∷ []) c.in_slots.result c.in_err-pass-4.field-0.0 slot c.in_ok-pass-3.ensures (refused f checks.Twin (checks.Ring ∷ []) c.in_slots-2.result c.in_err-pass-4.field-0.0 twin c.in_err-pass-4.ensures))))

pub returns : goal.returns
returns c =
    let v = volume_of c.args.geometry.now c.args.volume.now in
    let table = c.args.table.now in
    let f = failure bare None v in
    let root = root_told v table c.requires c.are_directories-roots.result c.record_block.result c.unless.result c.are_directories-roots.ensures c.record_block.ensures c.unless.ensures in
    let records = record_told v table c.requires c.bare-limits.result c.lowest_bad_record-record.result c.in_records.result c.bare-limits.ensures c.lowest_bad_record-record.ensures.lowest c.in_records.ensures in
    let slot = slot_told v table c.requires c.bare-limits.result c.lowest_bad_slot-slot.result c.in_slots.result c.bare-limits.ensures c.lowest_bad_slot-slot.ensures.lowest c.in_slots.ensures in
    let twin = twin_told v table c.requires c.lowest_twin-twin.result c.in_slots-2.result c.lowest_twin-twin.ensures.lowest c.in_slots-2.ensures in
    let ring = ring_told v table c.requires c.in_ok-ring.ring c.in_slots-3.result c.in_ok-ring.ensures.lowest c.in_slots-3.ensures in
    last_step c.pass-5.result checks.Ring c.in_slots-3.result (first_among v inode_checks ≡ None) (first_among v inode_checks) c.pass-5.ensures
    (λ none. passed f checks.Root (checks.Record ∷ checks.Slot ∷ checks.Twin ∷ checks.Ring ∷ []) (root ∙ c.in_ok-pass.ensures) ∙ passed f checks.Record (checks.Slot ∷ checks.Twin ∷ checks.Ring ∷ []) (records ∙ c.in_ok-pass-2.ensures) ∙ passed f checks.Slot (checks.Twin ∷ checks.Ring ∷ []) (slot ∙ c.in_ok-pass-3.ensures) ∙ passed f checks.Twin (checks.Ring ∷ []) (twin ∙ c.in_ok-pass-4.ensures) ∙ passed f checks.Ring [] (ring ∙ none))
    (λ fault refuses. (behind f checks.Root (checks.Record ∷ checks.Slot ∷ checks.Twin ∷ checks.Ring ∷ []) c.unless.result fault root c.in_ok-pass.ensures (behind f checks.Record (checks.Slot ∷ checks.Twin ∷ checks.Ring ∷ []) c.in_records.result fault records c.in_ok-pass-2.ensures (behind f checks.Slot (checks.Twin ∷ checks.Ring ∷ []) c.in_slots.result fault slot c.in_ok-pass-3.ensures (behind f checks.Twin (checks.Ring ∷ []) c.in_slots-2.result fault twin c.in_ok-pass-4.ensures (refused f checks.Ring [] c.in_slots-3.result fault ring refuses))))))
