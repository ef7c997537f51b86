use Rattle.std.proofs.Common.{◌≡◌, ℕ, length, drop, sym, ◌∙◌, ap}
use Rattle.std.proofs.lemmas.List.{take_at}
use Rattle.disk_model.specs.Bytes.{part}
use Rattle.atomic_volume.proofs.Bytes.{area_read, total_long}
use Rattle.atomic_volume.specs.declared.fault.VolumeFault.TheVariants.{Device}
use Rattle.atomic_volume.proofs.Steady.{passed_on}
use Rattle.atomic_volume.proofs.reading.read_area.Goals as goal

pub returns-clause-bytes : goal.returns-clause-bytes
returns-clause-bytes g c = λ told settled.
    let d = g.D.Disk in let s = c.args.disk.now in let area = c.in_ok-area.area in let got = c.fill.new.into in
    let into : length c.deref_mut.result.now ≡ c.volume_bytes.result = c.deref_mut.ensures.len ∙ c.in_ok-area.ensures.len in
    let whole : area.len ≡ length got = c.in_ok-area.ensures.len ∙ sym into ∙ sym c.fill.ensures.size in
    take_at got (drop (length got) area.items) area.len (sym whole)
    ∙ c.in_ok-fill.ensures.bytes told settled
    ∙ ap (λ (n : ℕ). part 1064960 n (d.seen s)) into
    ∙ area_read c.volume_bytes.result (d.seen s)
    (total_long (length (d.seen s)) c.args.geometry.now.blocks c.volume_bytes.result (g.met.D.Disk.length_seen told s ∙ c.requires) c.args.geometry.now.least_blocks c.volume_bytes.ensures)

pub returns-in_err-fill-clause-steady : goal.returns-in_err-fill-clause-steady
returns-in_err-fill-clause-steady g c = λ not. absurd (not (passed_on c.from_residual-in_err-fill.result c.in_err-fill.field-0.0 Device c.from_residual-in_err-fill.ensures.1 c.in_err-fill.ensures.fault))
