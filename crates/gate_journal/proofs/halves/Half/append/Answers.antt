use Rattle.std.proofs.Common.{rules, ◌≡◌, inl, ◌+◌, ◌≤◌, ℕ, List, ◌++◌, length, refl, sym, ◌∙◌, ap, subst, arith}
use Rattle.std.specs.List.{All}
use Rattle.std.proofs.lemmas.List.Elements.{All-append}
use Rattle.disk_model.proofs.Runs.{elapses_start}
use Rattle.gate_journal.specs.Offsets.{halves_end}
use Rattle.gate_journal.specs.declared.batches.Range.{Range}
use Rattle.gate_journal.specs.Batches.{batch_bytes, range_bytes, Stands}
use Rattle.gate_journal.specs.Halves.{journal_of}
use Rattle.gate_journal.specs.Appending.{next_gate, next_place}
use Rattle.gate_journal.proofs.Bounds.{more_within}
use Rattle.gate_journal.proofs.Appended.{room_is, space_is, all_or_nothing, added, last_elsewhere, shown_at_last, next_is, staged_by, patched_by}
use Rattle.gate_journal.proofs.halves.Half.append.Goals as goal

pub invariant_of-self-in-Ok-put_behind_gate : goal.invariant_of-self-in-Ok-put_behind_gate
invariant_of-self-in-Ok-put_behind_gate g c =
    let h = c.args.self.now in let b = c.args.batch.now in
    let all : c.push_copies.new.self ≡ h.ranges ++ b.ranges = search rules in
    let long : c.len.result ≡ length (batch_bytes b) = search rules in
    let room = room_is (journal_of h) (length (batch_bytes b)) c.requires.fits in
    let space = space_is (journal_of h) (length (batch_bytes b)) c.requires.fits in
    record {
      half_is = h.half_is;
      count_is = omega (arith, room);
      used_is = omega (arith, space, long);
      size_is = h.size_is;
      stand_is = subst (λ (l : List Range). All (Stands h.size) l) (sym all) (All-append (Stands h.size) h.ranges b.ranges h.stand_is c.requires.follows.ranges);
      bytes_are = subst (λ (l : List Range). range_bytes l ≤ h.used + c.len.result) (sym all) (subst (λ (n : ℕ). range_bytes (h.ranges ++ b.ranges) ≤ h.used + n) (sym long) (more_within h.ranges h.used b h.bytes_are));
    }

pub returns-in-Err-clause-any_moment : goal.returns-in-Err-clause-any_moment
returns-in-Err-clause-any_moment g c = λ told.
    let d = g.D.Disk in let s = c.args.disk.now in record {
      time = elapses_start d.moment d.left_since s (g.met.D.Disk.earlier told s);
      each = λ x left. inl (record { old = x; was = g.met.D.Disk.only_now told s x left; elsewhere = record { size = refl; each = λ k other out. refl }; batches = refl });
    }

pub returns-then-is_err-clause-any_moment : goal.returns-then-is_err-clause-any_moment
returns-then-is_err-clause-any_moment g c = λ told.
    let d = g.D.Disk in let s = c.args.disk.now in record {
      time = elapses_start d.moment d.left_since s (g.met.D.Disk.earlier told s);
      each = λ x left. inl (record { old = x; was = g.met.D.Disk.only_now told s x left; elsewhere = record { size = refl; each = λ k other out. refl }; batches = refl });
    }

pub returns-in-Ok-put_behind_gate-clause-any_moment : goal.returns-in-Ok-put_behind_gate-clause-any_moment
returns-in-Ok-put_behind_gate-clause-any_moment g c = λ told.
    let d = g.D.Disk in let s = c.args.disk.now in let h = c.args.self.now in let b = c.args.batch.now in record {
      time = c.put_behind_gate.ensures.time told;
      each = λ x left.
          all_or_nothing h b (d.may_leave s) (d.seen s) (c.requires.shown told) (g.met.D.Disk.may_leave_seen told s) c.requires.fits c.requires.follows (search rules) x
          (staged_by (c.gates_start.result + c.from.result) (next_gate h) (c.records_start.result + c.from-2.result) (next_place h) c.all-2.result.now (batch_bytes b) (d.may_leave s) (d.seen s) x (search rules) (search rules) (search rules) (c.put_behind_gate.ensures.crash told x left));
    }

pub returns-clause-any_moment : goal.returns-clause-any_moment
returns-clause-any_moment g c = λ told.
    let d = g.D.Disk in let s = c.args.disk.now in let h = c.args.self.now in let b = c.args.batch.now in record {
      time = c.put_behind_gate.ensures.time told;
      each = λ x left.
          all_or_nothing h b (d.may_leave s) (d.seen s) (c.requires.shown told) (g.met.D.Disk.may_leave_seen told s) c.requires.fits c.requires.follows (search rules) x
          (staged_by (c.gates_start.result + c.from.result) (next_gate h) (c.records_start.result + c.from-2.result) (next_place h) c.all-2.result.now (batch_bytes b) (d.may_leave s) (d.seen s) x (search rules) (search rules) (search rules) (c.put_behind_gate.ensures.crash told x left));
    }

pub returns-in-Ok-put_behind_gate-clause-shows : goal.returns-in-Ok-put_behind_gate-clause-shows
returns-in-Ok-put_behind_gate-clause-shows g c = λ told x may.
    let d = g.D.Disk in let s = c.args.disk.now in let h = c.args.self.now in let b = c.args.batch.now in
    let now = c.put_behind_gate.new.disk in
    let is : x ≡ d.seen now = c.in-Ok-put_behind_gate.ensures.durable told x may in
    let long : length x ≡ length (d.seen s) = ap length is ∙ g.met.D.Disk.length_seen told now ∙ c.put_behind_gate.ensures.known ∙ sym (g.met.D.Disk.length_seen told s) in
    let old = c.requires.shown told (d.seen s) (g.met.D.Disk.may_leave_seen told s) in
    record {
      inside = subst (λ (n : ℕ). halves_end ≤ n) (sym long) old.inside;
      journal = shown_at_last h b (d.seen s) old c.requires.fits c.requires.follows (search rules) _
          (next_is (journal_of h) b (h.used + c.len.result) c.number_of-number.result c.push_copies.new.self (search rules) (search rules) (search rules)) x
          (patched_by (c.gates_start.result + c.from.result) (next_gate h) (c.records_start.result + c.from-2.result) (next_place h) c.all-2.result.now (batch_bytes b) (d.seen s) x (search rules) (search rules) (search rules)
          (is ∙ c.in-Ok-put_behind_gate.ensures.put told));
    }

pub returns-in-Ok-put_behind_gate-clause-elsewhere : goal.returns-in-Ok-put_behind_gate-clause-elsewhere
returns-in-Ok-put_behind_gate-clause-elsewhere g c = λ told.
    let d = g.D.Disk in let s = c.args.disk.now in let h = c.args.self.now in let b = c.args.batch.now in
    let now = c.put_behind_gate.new.disk in
    last_elsewhere h b (d.seen s) (c.requires.shown told (d.seen s) (g.met.D.Disk.may_leave_seen told s)) c.requires.fits c.requires.follows (search rules) (d.seen now)
    (patched_by (c.gates_start.result + c.from.result) (next_gate h) (c.records_start.result + c.from-2.result) (next_place h) c.all-2.result.now (batch_bytes b) (d.seen s) (d.seen now) (search rules) (search rules) (search rules) (c.in-Ok-put_behind_gate.ensures.put told))

pub returns-in-Ok-put_behind_gate-clause-added : goal.returns-in-Ok-put_behind_gate-clause-added
returns-in-Ok-put_behind_gate-clause-added g c = λ told.
    let d = g.D.Disk in let s = c.args.disk.now in let h = c.args.self.now in let b = c.args.batch.now in
    let now = c.put_behind_gate.new.disk in
    added h b (d.seen s) (c.requires.shown told (d.seen s) (g.met.D.Disk.may_leave_seen told s)) c.requires.fits c.requires.follows (search rules) (d.seen now)
    (patched_by (c.gates_start.result + c.from.result) (next_gate h) (c.records_start.result + c.from-2.result) (next_place h) c.all-2.result.now (batch_bytes b) (d.seen s) (d.seen now) (search rules) (search rules) (search rules) (c.in-Ok-put_behind_gate.ensures.put told))
