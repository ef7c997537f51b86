use Rattle.std.proofs.Common.{ℕ, replicate, sym, ◌∙◌, ap, arith}
use Rattle.disk_model.specs.Bytes.{part, patched}
use Rattle.gate_journal.proofs.Closed.{closed_journal}
use Rattle.gate_journal.proofs.halves.Half.clear.Goals as goal

pub returns-clause-shows : goal.returns-clause-shows
returns-clause-shows g c = λ told.
    let d = g.D.Disk in let s = c.write_at.new.self in
    record {
      inside = let long = g.met.D.Disk.length_seen told s in let room = c.requires.inside in let known = c.write_at.ensures.known in omega arith;
      journal = rw c.new.ensures (closed_journal 4096 c.args.half c.args.volume_bytes (d.seen s)
          (ap (λ (o : ℕ). part o 4096 (d.seen s)) (sym c.gates_start.ensures) ∙ c.in_ok-write_at.ensures.read_back told));
    }

pub returns-clause-put : goal.returns-clause-put
returns-clause-put g c = λ told settled.
    c.in_ok-write_at.ensures.put told settled ∙ ap (λ (o : ℕ). patched (g.D.Disk.seen c.args.disk.now) o (replicate 4096 0)) c.gates_start.ensures
