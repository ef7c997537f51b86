use Rattle.tree_model.specs.Rows.{Rows}
use Rattle.std.proofs.Common.{◌≡◌, ◌≤◌, Some, List, ℕ, length, arith, rules, sym, ap, ◌∙◌, subst}
use Rattle.std.proofs.lemmas.Result.{err_from_is_err_and}
use Rattle.block_layout.specs.declared.geometry.Geometry.{Geometry}
use Rattle.gate_journal.specs.Journal.{Journal}
use Rattle.image_model.specs.Checks.{is_last}
use Rattle.recovery.specs.Opens.{Finds}
use Rattle.recovery.specs.Recovering.{recovered_for_now}
use Rattle.atomic_volume.specs.Held.{contents_by}
use Rattle.ccfs_top.proofs.Opened.{shut_by, shut_behind}
use Rattle.image_model.specs.Reading.{IsWhole}
use Rattle.image_model.specs.Volumes.{volume_of, metadata}
use Rattle.carried_volumes.specs.Carried.{HaveInodes}
use Rattle.front_laws.specs.Logging.{metadata_size}
use Rattle.front_core.specs.Fronts.{Fronted, sizes_of, new_front}
use Rattle.recovery.specs.declared.fault.OpenFault.TheVariants as fault
use Rattle.ccfs_top.proofs.Committing.{metadata_long}
use Rattle.ccfs_top.proofs.Imaged.{image_found, opened_is, settled_first}
use Rattle.ccfs_top.proofs.open.open.Goals as goal

apart : fault.NoMemory ≡ fault.Device → ⊥
apart is = cc is

pub of-requires : goal.of-requires
of-requires g c =
    let v = c.in_ok-opened.opened.volume in
    let whole : IsWhole v.geometry v.volume.items = search (rules, v.whole) in
    subst (λ (z : Geometry). IsWhole z c.bytes.result.now) (sym c.geometry.ensures) (subst (λ (z : List ℕ). IsWhole v.geometry z) (sym c.bytes.ensures) whole)

pub front_on-requires-clause-plain : goal.front_on-requires-clause-plain
front_on-requires-clause-plain g c =
    let o = c.in_ok-opened.opened in let v = o.volume in let e = c.in_ok-opened.ensures in
    let whole : IsWhole v.geometry v.volume.items = search (rules, v.whole) in
    (opened_is v.geometry v.half v.volume.items o.inodes o.number o.tree whole e.held e.sound e.inodes).carried.plain

pub front_on-requires-clause-have : goal.front_on-requires-clause-have
front_on-requires-clause-have g c =
    let o = c.in_ok-opened.opened in let v = o.volume in let e = c.in_ok-opened.ensures in
    let whole : IsWhole v.geometry v.volume.items = search (rules, v.whole) in
    subst (λ (z : Geometry). HaveInodes z.inodes o.inodes o.tree) (sym c.geometry-2.ensures)
    (opened_is v.geometry v.half v.volume.items o.inodes o.number o.tree whole e.held e.sound e.inodes).have

pub front_on-requires-clause-dense : goal.front_on-requires-clause-dense
front_on-requires-clause-dense g c =
    let o = c.in_ok-opened.opened in let v = o.volume in let e = c.in_ok-opened.ensures in
    let whole : IsWhole v.geometry v.volume.items = search (rules, v.whole) in
    (opened_is v.geometry v.half v.volume.items o.inodes o.number o.tree whole e.held e.sound e.inodes).dense

pub front_on-requires-clause-metadata : goal.front_on-requires-clause-metadata
front_on-requires-clause-metadata g c =
    let v = c.in_ok-opened.opened.volume in
    let whole : IsWhole v.geometry v.volume.items = search (rules, v.whole) in
    ap length c.in-Ok.ensures
    ∙ ap (λ (z : Geometry). length (metadata (volume_of z c.bytes.result.now))) c.geometry.ensures
    ∙ ap (λ (z : List ℕ). length (metadata (volume_of v.geometry z))) c.bytes.ensures
    ∙ metadata_long v.geometry v.volume.items whole
    ∙ ap (λ (z : Geometry). metadata_size z.inodes) (sym c.geometry-2.ensures)

-- ---- an opened image

pub returns-in-Ok-front_on-clause-way : goal.returns-in-Ok-front_on-clause-way
returns-in-Ok-front_on-clause-way g c = λ told.
    let o = c.in_ok-opened.opened in let v = o.volume in
    subst (λ (z : Rows). Finds g.D.Disk c.args.disk v.disk (contents_by v.geometry v.half v.volume.items) (o.number, z)) (sym (ap (λ (z : Fronted). z.opening) c.in-Ok-front_on.ensures)) (c.in_ok-opened.ensures.found told)

pub returns-in-Ok-front_on-clause-each : goal.returns-in-Ok-front_on-clause-each
returns-in-Ok-front_on-clause-each g c = λ told image left.
    subst (λ (z : Rows). recovered_for_now image ≡ Some (c.in_ok-opened.opened.number, z)) (sym (ap (λ (z : Fronted). z.opening) c.in-Ok-front_on.ensures)) (c.in_ok-opened.ensures.each told image left)

pub returns-in-Ok-front_on-clause-opened : goal.returns-in-Ok-front_on-clause-opened
returns-in-Ok-front_on-clause-opened g c = λ told.
    let o = c.in_ok-opened.opened in let v = o.volume in
    let was = returns-in-Ok-front_on-clause-way g c told in (
      was.contents,
      record { from_start = was.one_of_them; as_seen = was.as_seen },
      image_found g.D.Disk c.args.disk v.disk o.number c.in-Ok-front_on.front v.geometry v.half v.volume.items
          (ap (λ (z : Fronted). z.sizes) c.in-Ok-front_on.ensures ∙ ap sizes_of c.geometry-2.ensures) was,
    )

pub returns-in-Ok-front_on-clause-last : goal.returns-in-Ok-front_on-clause-last
returns-in-Ok-front_on-clause-last g c = ap (λ (j : Journal). is_last j.last c.in_ok-opened.opened.number) c.in_ok-opened.ensures.journal

pub returns-in_err-opened-clause-shut : goal.returns-in_err-opened-clause-shut
returns-in_err-opened-clause-shut g c = λ told.
    let p = err_from_is_err_and c.from_residual.result c.from_residual.ensures.1 in
    rw (p.1, p.2) (shut_by g.D.Disk c.args.disk _ _ (c.in_err-opened.ensures.refuses told) (c.in_err-opened.ensures.bad told) (c.in_err-opened.ensures.left told))

pub returns-in-Ok-front_on-clause-small : goal.returns-in-Ok-front_on-clause-small
returns-in-Ok-front_on-clause-small g c = let t = rw c.in_ok-opened.was at c.open.type_inv in omega (arith, t)

pub returns-in-Ok-front_on-clause-new : goal.returns-in-Ok-front_on-clause-new
returns-in-Ok-front_on-clause-new g c =
    let o = c.in_ok-opened.opened in let v = o.volume in let front = c.in-Ok-front_on.front in
    let is : front ≡ new_front v.geometry 1048576 o.tree o.inodes = c.in-Ok-front_on.ensures ∙ ap (λ (z : Geometry). new_front z 1048576 o.tree o.inodes) c.geometry-2.ensures in
    is ∙ ap (λ (t : Rows). new_front v.geometry 1048576 t o.inodes) (sym (ap (λ (z : Fronted). z.opening) is))
    ∙ ap (λ (l : List ℕ). new_front v.geometry 1048576 front.opening l) (sym (ap (λ (z : Fronted). z.inodes) is))

pub returns-in-Ok-front_on-clause-settled : goal.returns-in-Ok-front_on-clause-settled
returns-in-Ok-front_on-clause-settled g c =
    let o = c.in_ok-opened.opened in let v = o.volume in let e = c.in_ok-opened.ensures in let front = c.in-Ok-front_on.front in
    let whole : IsWhole v.geometry v.volume.items = search (rules, v.whole) in
    let is : front ≡ new_front v.geometry 1048576 o.tree o.inodes = c.in-Ok-front_on.ensures ∙ ap (λ (z : Geometry). new_front z 1048576 o.tree o.inodes) c.geometry-2.ensures in
    let copied = c.in-Ok.ensures ∙ ap (λ (z : Geometry). metadata (volume_of z c.bytes.result.now)) c.geometry.ensures ∙ ap (λ (z : List ℕ). metadata (volume_of v.geometry z)) c.bytes.ensures in
    settled_first v.geometry v.half v.volume.items o.inodes o.number o.tree whole e.held e.sound e.inodes c.in-Ok.metadata front 1048576 (let t = rw c.in_ok-opened.was at c.open.type_inv in omega (arith, t)) copied is

-- ---- where there is no memory, what was found is handed back: it says nothing of the image

pub returns-in_default-clause-shut : goal.returns-in_default-clause-shut
returns-in_default-clause-shut g c = λ told.
    let o = c.in_ok-opened.opened in let v = o.volume in
    shut_behind g.D.Disk c.args.disk v.disk c.refused.result.kept c.refused.result.fault (contents_by v.geometry v.half v.volume.items) (o.number, o.tree) (c.in_ok-opened.ensures.found told)
    c.refused.ensures.kept c.refused.ensures.fault

pub returns-in_default-clause-later : goal.returns-in_default-clause-later
returns-in_default-clause-later g c = subst (λ x. g.D.Disk.faults c.args.disk ≤ g.D.Disk.faults x) (sym c.refused.ensures.kept) c.in_ok-opened.ensures.later

pub returns-in_default-clause-device : goal.returns-in_default-clause-device
returns-in_default-clause-device g c = λ is. absurd (apart (sym c.refused.ensures.fault ∙ is))

pub returns-in-Err-clause-shut : goal.returns-in-Err-clause-shut
returns-in-Err-clause-shut g c = λ told.
    let o = c.in_ok-opened.opened in let v = o.volume in
    shut_behind g.D.Disk c.args.disk v.disk c.refused-in-Err.result.kept c.refused-in-Err.result.fault (contents_by v.geometry v.half v.volume.items) (o.number, o.tree) (c.in_ok-opened.ensures.found told)
    c.refused-in-Err.ensures.kept c.refused-in-Err.ensures.fault

pub returns-in-Err-clause-later : goal.returns-in-Err-clause-later
returns-in-Err-clause-later g c = subst (λ x. g.D.Disk.faults c.args.disk ≤ g.D.Disk.faults x) (sym c.refused-in-Err.ensures.kept) c.in_ok-opened.ensures.later

pub returns-in-Err-clause-device : goal.returns-in-Err-clause-device
returns-in-Err-clause-device g c = λ is. absurd (apart (sym c.refused-in-Err.ensures.fault ∙ is))

pub returns-in_default-clause-calm : goal.returns-in_default-clause-calm
returns-in_default-clause-calm g c = λ _. ap g.D.Disk.faults c.refused.ensures.kept ∙ c.in_ok-opened.ensures.steady

pub returns-in_default-clause-sure : goal.returns-in_default-clause-sure
returns-in_default-clause-sure g c = λ told _ _. ap g.D.Disk.in_doubt c.refused.ensures.kept ∙ c.in_ok-opened.ensures.settled told

pub returns-in-Err-clause-calm : goal.returns-in-Err-clause-calm
returns-in-Err-clause-calm g c = λ _. ap g.D.Disk.faults c.refused-in-Err.ensures.kept ∙ c.in_ok-opened.ensures.steady

pub returns-in-Err-clause-sure : goal.returns-in-Err-clause-sure
returns-in-Err-clause-sure g c = λ told _ _. ap g.D.Disk.in_doubt c.refused-in-Err.ensures.kept ∙ c.in_ok-opened.ensures.settled told
