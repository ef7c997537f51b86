use Rattle.std.proofs.Common.{◌≡◌, ℕ, Bool, List, sym, ◌∙◌, ap, arith}
use Rattle.gate_journal.specs.Journal.{open_gates, open_batches, summed}
use Rattle.gate_journal.proofs.halves.Half.load.Goals as goal

pub returns-clause-shows : goal.returns-clause-shows
returns-clause-shows g c = λ told settled.
    let d = g.D.Disk in let s0 = c.args.disk.now in let s1 = c.read_gates.new.disk in
    let half = c.args.half in let size = c.args.volume_bytes in
    let quiet = c.read_gates.ensures.quiet told in
    let same : d.seen s1 ≡ d.seen s0 = quiet.contents settled in
    let gates = c.in_ok-gates.ensures in
    record {
      inside = let long = g.met.D.Disk.length_seen told s0 in let room = c.requires.inside in omega arith;
      journal =
          ap (λ (b : Bool). summed b (open_batches half size (d.seen s0))) (sym (gates.behind told settled))
          ∙ ap (λ (x : List ℕ). summed c.in_ok-gates.gates.behind (open_batches half size x)) (sym same)
          ∙ c.in_ok-read.ensures.read told (quiet.doubt settled) (gates.count told settled ∙ ap (open_gates half) (sym same)) c.in_ok-gates.gates.behind;
    }
