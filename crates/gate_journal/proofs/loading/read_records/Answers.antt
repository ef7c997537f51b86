use Rattle.std.proofs.Common.{◌≡◌, ℕ, List, length, drop, sym, ◌∙◌, ap}
use Rattle.std.proofs.lemmas.List.{take_at}
use Rattle.disk_model.specs.Bytes.{part}
use Rattle.gate_journal.specs.Journal.{records_of}
use Rattle.gate_journal.proofs.Quiets.{quiet_one}
use Rattle.gate_journal.proofs.loading.read_records.Goals as goal

pub returns-in_err-read_at-clause-quiet : goal.returns-in_err-read_at-clause-quiet
returns-in_err-read_at-clause-quiet g c = λ told.
    let e = c.read_at.ensures in
    quiet_one g.D.Disk c.args.disk.now c.read_at.new.self (e.time told) (e.crash told) (e.contents told) (e.doubt told)

pub returns-clause-bytes : goal.returns-clause-bytes
returns-clause-bytes g c = λ told settled.
    let d = g.D.Disk in let area = c.in_ok-area.area in let got = c.read_at.new.into in
    let into : length c.deref_mut.result.now ≡ 524288 = c.deref_mut.ensures.len ∙ c.in_ok-area.ensures.len in
    let whole : area.len ≡ length got = c.in_ok-area.ensures.len ∙ sym into ∙ sym c.read_at.auto.into in
    take_at got (drop (length got) area.items) area.len (sym whole)
    ∙ c.in_ok-read_at.ensures.bytes told
    ∙ ap (λ (n : ℕ). part c.records_start.result n (d.seen c.read_at.new.self)) into
    ∙ ap (λ (o : ℕ). part o 524288 (d.seen c.read_at.new.self)) c.records_start.ensures
    ∙ ap (λ (x : List ℕ). records_of c.args.half x) (c.read_at.ensures.contents told settled)

pub returns-clause-quiet : goal.returns-clause-quiet
returns-clause-quiet g c = λ told.
    let e = c.read_at.ensures in
    quiet_one g.D.Disk c.args.disk.now c.read_at.new.self (e.time told) (e.crash told) (e.contents told) (e.doubt told)
