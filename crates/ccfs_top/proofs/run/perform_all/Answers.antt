use Rattle.std.proofs.Common.{◌≡◌, ◌+◌, ◌++◌, ◌≤◌, ◌<◌, ℕ, List, [], ◌∷◌, length, true, inl, sym, ap, ◌∙◌, refl, subst, arith}
use Rattle.std.specs.declared.result.Result.{Result}
use Rattle.ccfs_base.specs.Fits.{fits_command}
use Rattle.std.specs.declared.result.Result.TheVariants.{Err}
use Rattle.std.specs.declared.option.Option.TheVariants.{Some}
use Rattle.std.proofs.lemmas.List.{append-nil, length-append}
use Rattle.disk_model.proofs.Runs.{elapses_start}
use Rattle.tree_model.specs.declared.rows.Entry.{Entry}
use Rattle.tree_model.specs.Rows.{Rows}
use Rattle.tree_model.specs.Picture.{picture}
use Rattle.tree_cuts.specs.Calls.{Sizes}
use Rattle.history_model.specs.Histories.{start, seal_count, tree_at, durable}
use Rattle.script_text.specs.Texts.{reply_line}
use Rattle.gate_journal.specs.Halves.{journal_of}
use Rattle.image_model.specs.Checks.{is_last}
use Rattle.atomic_volume.proofs.Steady.{unless_ok}
use Rattle.atomic_volume.specs.Held.{contents_by}
use Rattle.recovery.specs.Recovering.{picture_shown}
use Rattle.front_core.specs.Fronts.{Fronted, next_entry}
use Rattle.ccfs_top.specs.declared.session.Answer.{Answer}
use Rattle.ccfs_top.specs.declared.session.StepFault.{StepFault}
use Rattle.ccfs_top.specs.declared.stop.Stop.{Stop}
use Rattle.script_text.specs.declared.scripts.Call.{Call}
use Rattle.ccfs_top.specs.Ends.{joined}
use Rattle.ccfs_top.specs.Images.{Image}
use Rattle.ccfs_top.specs.Outcomes.{CrashSafe, Within}
use Rattle.ccfs_top.specs.Runs.{further, image_by, reply_lines, ran}
use Rattle.ccfs_top.specs.Stages.{called}
use Rattle.ccfs_top.specs.Reached.{Reached}
use Rattle.ccfs_top.proofs.Committing.{settled_shows}
use Rattle.ccfs_top.proofs.Steps.{each_answered, reached_start}
use Rattle.ccfs_top.proofs.Ending.{first_lines, line_next, fault_decides, step_fault, write_fault, step_grew, write_grew, text_on, further_none, no_sink, no_disk}
use Rattle.ccfs_top.proofs.Keeping.{kept_on, kept_all}
use Rattle.ccfs_top.proofs.Leaving.{leaves_wider}
use Rattle.ccfs_top.proofs.Going.{by_sizes, within_step, stepped_on, shows_same, reached_end}
use Rattle.ccfs_top.proofs.Viewing.{shows_to}
use Rattle.ccfs_top.proofs.run.perform_all.Goals as goal

told_stop : {x y : Stop} → ◌≡◌ {A = Result (Unit {0}) Stop} (Err x) (Err y) → x ≡ y
told_stop is = cc is

told_step : {x y : StepFault} → ◌≡◌ {A = Result Answer StepFault} (Err x) (Err y) → x ≡ y
told_step is = cc is

pub loop-call-init : goal.loop-call-init
loop-call-init g c =
    let first = c.args.session.now in let v = first.volume in
    let new = c.requires.new in let none = c.requires.none_written in
    let empty : first.front.entries ≡ [] = ap (λ (z : Fronted). z.entries) new in
    record {
      reached = subst (λ (z : List Entry). Reached first.front.sizes first.front.opening c.args.calls.now 0 z first.written) (sym empty)
          (subst (λ (z : ℕ). Reached first.front.sizes first.front.opening c.args.calls.now 0 [] z) (sym none) (reached_start first.front.sizes first.front.opening c.args.calls.now));
      text = λ told. sym (append-nil (g.K.Sink.held c.args.out.now)) ∙ ap (λ (z : List Entry). g.K.Sink.held c.args.out.now ++ joined (reply_lines z)) (sym empty);
      sizes = refl;
      opening = refl;
      handed = ap (λ (z : Fronted). z.handed) new ∙ sym none;
      count = ap (λ (z : List Entry). length z) empty;
      limit = ap (λ (z : Fronted). z.limit) new;
      first_number = refl;
      settled = c.requires.settled;
      last = subst (λ (z : ℕ). is_last (journal_of v.half).last z ≡ true) (further_none first.first (omega arith) ∙ ap (further first.first) (sym none)) c.requires.last;
      working = c.requires.working;
      since = λ told. record {
        time = elapses_start g.D.Disk.moment g.D.Disk.left_since v.disk (g.met.D.Disk.earlier told v.disk);
        each = λ x left. inl (g.met.D.Disk.only_now told v.disk x left);
      };
      later = omega arith;
      steady = refl;
      sink_later = omega arith;
      sink_steady = refl;
    }

-- ---- a call that isn't performed

-- it is built
pub stop_of_step-requires : goal.stop_of_step-requires
stop_of_step-requires g c = record {
  built = λ not.
      let answered = each_answered c.args.calls.now c.loop-call.call-index c.call-item.result c.loop-call-test.true c.call-item.is c.requires.built in
      let unbuilt = c.in-Err.ensures.unbuilt (ap (λ (z : StepFault). Err z) not) in
      absurd (cc (answered, unbuilt));
}

pub returns-in-Err-clause-halts : goal.returns-in-Err-clause-halts
returns-in-Err-clause-halts g c = λ told.
    let first = c.args.session.now in let v = c.loop-call.invariant in let s = c.loop-call.session in
    let call = c.call-item.result in let i = c.loop-call.call-index in let calls = c.args.calls.now in
    let image : Image = image_by first.first first.front in
    let h = s.front.entries in
    let lt = c.loop-call-test.true in let is = c.call-item.is in
    let le : i ≤ length calls = omega (arith, lt) in
    let so_far = first_lines image.sizes image.tree calls i h s.written le v.reached in
    let kinds = c.stop_of_step.ensures.kinds in
    record {
      lines = i;
      few = so_far.0;
      decides = fault_decides (ran image calls) c.stop_of_step.result refl (step_fault c.stop_of_step.result kinds);
      leaves = kept_on g.D.Disk first.volume.disk s.volume.disk c.step.new.self.volume.disk image calls i call h s.written (g.met.D.Disk.counts_now told c.step.new.self.volume.disk)
          lt is v.reached.entries v.reached.acknowledged (v.since told)
          (leaves_wider g.D.Disk s.volume.disk c.step.new.self.volume.disk _ (Within image (called image.sizes image.tree h call.actor call.command) s.written)
          (λ x w. within_step s.front s.first first.first image.tree image.sizes call.actor call.command s.written x v.first_number v.opening v.sizes w)
          (c.in-Err.ensures.moments told));
      grew = λ sink_told. step_grew (ran image calls) c.stop_of_step.result (reply_lines h) i (g.K.Sink.held c.args.out.now) (g.K.Sink.held c.loop-call.out) kinds so_far.1 (v.text sink_told);
    }

-- ---- a reply that isn't written

pub returns-in-Err-write_reply-clause-halts : goal.returns-in-Err-write_reply-clause-halts
returns-in-Err-write_reply-clause-halts g c = λ told.
    let first = c.args.session.now in let v = c.loop-call.invariant in let s = c.loop-call.session in let n = c.step.new.self in
    let call = c.call-item.result in let i = c.loop-call.call-index in let calls = c.args.calls.now in
    let image : Image = image_by first.first first.front in
    let h = s.front.entries in
    let lt = c.loop-call-test.true in let is = c.call-item.is in
    let le : i ≤ length calls = omega (arith, lt) in
    let so_far = first_lines image.sizes image.tree calls i h s.written le v.reached in
    let step = stepped_on s.front n.front image calls i call s.written n.written c.in-Ok.answer.reply lt is v.opening v.sizes v.reached c.in-Ok.ensures.answered c.in-Ok.ensures.stepped in
    let kinds = inl c.in-Err-write_reply.ensures.kinds in
    let said_line = c.all.ensures ∙ c.in-Ok.ensures.line in
    record {
      lines = i;
      few = so_far.0;
      decides = fault_decides (ran image calls) c.in-Err-write_reply.stop refl (write_fault c.in-Err-write_reply.stop kinds);
      leaves = kept_on g.D.Disk first.volume.disk s.volume.disk n.volume.disk image calls i call h s.written (g.met.D.Disk.counts_now told n.volume.disk)
          lt is v.reached.entries v.reached.acknowledged (v.since told)
          (leaves_wider g.D.Disk s.volume.disk n.volume.disk _ (Within image (called image.sizes image.tree h call.actor call.command) s.written)
          (λ x w. within_step s.front s.first first.first image.tree image.sizes call.actor call.command s.written x v.first_number v.opening v.sizes w)
          (c.in-Ok.ensures.moments told));
      grew = λ sink_told. write_grew (ran image calls) c.in-Err-write_reply.stop (reply_lines h) i
          c.all.result.now (g.K.Sink.held c.args.out.now) (g.K.Sink.held c.loop-call.out) (g.K.Sink.held c.write_reply.new.out) kinds so_far.1
          (line_next image.sizes image.tree calls i call h n.written (ran image calls).last lt v.reached.entries step.reached ∙ ap (reply_line call.actor) (sym step.said) ∙ sym said_line)
          (v.text sink_told) (λ none. absurd (cc (c.in-Err-write_reply.ensures.kinds, none))) (λ failed. c.in-Err-write_reply.ensures.sink sink_told (ap (λ (z : Stop). Err z) failed));
    }

pub returns-in-Err-clause-fault : goal.returns-in-Err-clause-fault
returns-in-Err-clause-fault g c = step_fault c.stop_of_step.result c.stop_of_step.ensures.kinds

pub returns-in-Err-clause-sink_cause : goal.returns-in-Err-clause-sink_cause
returns-in-Err-clause-sink_cause g c = λ is. absurd (no_sink c.stop_of_step.result c.stop_of_step.ensures.kinds (told_stop is))

pub returns-in-Err-clause-device : goal.returns-in-Err-clause-device
returns-in-Err-clause-device g c = λ is.
    let cause = c.in-Err.ensures.device (ap (λ (z : StepFault). Err z) (c.stop_of_step.ensures.device (told_stop is))) in
    let later = c.loop-call.invariant.later in
    omega (arith, cause, later)

pub returns-in-Err-write_reply-clause-fault : goal.returns-in-Err-write_reply-clause-fault
returns-in-Err-write_reply-clause-fault g c = write_fault c.in-Err-write_reply.stop (inl c.in-Err-write_reply.ensures.kinds)

pub returns-in-Err-write_reply-clause-sink_cause : goal.returns-in-Err-write_reply-clause-sink_cause
returns-in-Err-write_reply-clause-sink_cause g c = λ is.
    let cause = c.in-Err-write_reply.ensures.sink_cause is in
    let later = c.loop-call.invariant.sink_later in
    omega (arith, cause, later)

pub returns-in-Err-write_reply-clause-device : goal.returns-in-Err-write_reply-clause-device
returns-in-Err-write_reply-clause-device g c = λ is. absurd (no_disk c.in-Err-write_reply.stop (inl c.in-Err-write_reply.ensures.kinds) (told_stop is))

pub returns-in-Err-clause-steady : goal.returns-in-Err-clause-steady
returns-in-Err-clause-steady g c = λ not.
    c.in-Err.ensures.steady (λ is. not (ap (λ (z : Stop). Err z) (c.stop_of_step.ensures.told (told_step is)))) ∙ c.loop-call.invariant.steady

pub returns-in-Err-clause-unfailed : goal.returns-in-Err-clause-unfailed
returns-in-Err-clause-unfailed g c = λ not.
    c.in-Err.ensures.unfailed (λ is. not (ap (λ (z : Stop). Err z) (c.stop_of_step.ensures.told (told_step is))))

pub returns-in-Err-write_reply-clause-steady : goal.returns-in-Err-write_reply-clause-steady
returns-in-Err-write_reply-clause-steady g c = λ _. unless_ok _ _ c.in-Ok.ensures.steady ∙ c.loop-call.invariant.steady

pub loop-call-preserved : goal.loop-call-preserved
loop-call-preserved g c =
    let first = c.args.session.now in let v = c.loop-call.invariant in let s = c.loop-call.session in let n = c.step.new.self in
    let call = c.call-item.result in let i = c.loop-call.call-index in let calls = c.args.calls.now in
    let image : Image = image_by first.first first.front in
    let h = s.front.entries in
    let lt = c.loop-call-test.true in let is = c.call-item.is in
    let done = c.in-Ok.ensures.stepped in
    let step = stepped_on s.front n.front image calls i call s.written n.written c.in-Ok.answer.reply lt is v.opening v.sizes v.reached c.in-Ok.ensures.answered done in
    let later = c.in-Ok.ensures.later in
    let sink_later = c.in-Ok-write_reply.ensures.sink_later in
    record {
      reached = subst (λ (z : List Entry). Reached image.sizes image.tree calls (i + 1) z n.written) (sym step.entries) step.reached;
      text = λ told. text_on image.sizes image.tree calls i call h (g.K.Sink.held c.args.out.now) (g.K.Sink.held c.loop-call.out) (g.K.Sink.held c.write_reply.new.out) (v.text told)
          (c.in-Ok-write_reply.ensures.text told ∙ ap (λ z. g.K.Sink.held c.loop-call.out ++ z) (c.all.ensures ∙ c.in-Ok.ensures.line) ∙ ap (λ z. g.K.Sink.held c.loop-call.out ++ reply_line call.actor z) step.said)
          ∙ ap (λ (z : List Entry). g.K.Sink.held c.args.out.now ++ joined (reply_lines z)) (sym step.entries);
      sizes = done.sizes ∙ v.sizes;
      opening = done.opening ∙ v.opening;
      handed = done.handed;
      count = omega (arith, v.count, length-append h (next_entry s.front call.actor call.command ∷ []), ap (λ (z : List Entry). length z) done.entries);
      limit = done.limit ∙ v.limit;
      first_number = c.in-Ok.ensures.first ∙ v.first_number;
      settled = c.in-Ok.ensures.settled;
      last = c.in-Ok.ensures.last;
      working = c.in-Ok.ensures.working;
      since = λ told. (let kept : CrashSafe g.D.Disk first.volume.disk n.volume.disk image calls i =
          kept_on g.D.Disk first.volume.disk s.volume.disk n.volume.disk image calls i call h s.written (g.met.D.Disk.counts_now told n.volume.disk)
          lt is v.reached.entries v.reached.acknowledged (v.since told)
          (leaves_wider g.D.Disk s.volume.disk n.volume.disk _ (Within image (called image.sizes image.tree h call.actor call.command) s.written)
          (λ x w. within_step s.front s.first first.first image.tree image.sizes call.actor call.command s.written x v.first_number v.opening v.sizes w)
          (c.in-Ok.ensures.moments told)) in kept.ever);
      later = omega (arith, v.later, later);
      steady = unless_ok _ _ c.in-Ok.ensures.steady ∙ v.steady;
      sink_later = omega (arith, v.sink_later, sink_later);
      sink_steady = unless_ok _ _ c.in-Ok-write_reply.ensures.sink_steady ∙ v.sink_steady;
    }

pub returns-clause-kept : goal.returns-clause-kept
returns-clause-kept g c = λ told.
    let first = c.args.session.now in let v = c.loop-call.invariant in let s = c.loop-call.session in let i = c.loop-call.call-index in let calls = c.args.calls.now in
    let image : Image = image_by first.first first.front in
    let over = c.loop-call-test.false in
    let contents = contents_by s.volume.geometry s.volume.half s.volume.volume.items in
    let shows : picture_shown contents ≡ Some (further first.first s.written, picture (tree_at image.sizes (start image.tree) s.front.entries s.written)) =
    settled_shows s.volume.geometry s.volume.half s.volume.volume.items s.metadata s.front s.first s.written v.settled v.last ∙ shows_same s.front s.first first.first image s.written v.first_number v.opening v.sizes in
    kept_all g.D.Disk first.volume.disk s.volume.disk image calls i s.front.entries s.written (omega (arith, over)) v.reached.entries v.reached.acknowledged
    (by_sizes (λ (t : Rows) (k : Sizes). s.written ≤ seal_count k (start t) s.front.entries) s.front.opening image.tree s.front.sizes image.sizes v.opening v.sizes v.settled.few)
    (v.since told)
    (λ x left. shows_to x contents (further first.first s.written, picture (tree_at image.sizes (start image.tree) s.front.entries s.written)) (s.volume.sound told v.working x left).opens shows)

pub returns-clause-text : goal.returns-clause-text
returns-clause-text g c = λ told.
    let first = c.args.session.now in let v = c.loop-call.invariant in let i = c.loop-call.call-index in let calls = c.args.calls.now in
    let image : Image = image_by first.first first.front in
    let over = c.loop-call-test.false in
    v.text told ∙ ap (λ (z : List Entry). g.K.Sink.held c.args.out.now ++ joined (reply_lines z)) (reached_end image calls i c.loop-call.session.front.entries c.loop-call.session.written (omega (arith, over)) v.reached)

pub returns-clause-shows : goal.returns-clause-shows
returns-clause-shows g c =
    let first = c.args.session.now in let v = c.loop-call.invariant in let s = c.loop-call.session in let i = c.loop-call.call-index in let calls = c.args.calls.now in
    let image : Image = image_by first.first first.front in
    let over = c.loop-call-test.false in
    settled_shows s.volume.geometry s.volume.half s.volume.volume.items s.metadata s.front s.first s.written v.settled v.last
    ∙ shows_same s.front s.first first.first image s.written v.first_number v.opening v.sizes
    ∙ ap (λ (z : ℕ). Some (further first.first z, picture (tree_at image.sizes (start image.tree) s.front.entries z))) (sym v.reached.acknowledged)
    ∙ ap (λ (z : List Entry). Some (further first.first (durable z), picture (tree_at image.sizes (start image.tree) z (durable z)))) (reached_end image calls i s.front.entries s.written (omega (arith, over)) v.reached)

pub step-requires-clause-actor : goal.step-requires-clause-actor
step-requires-clause-actor g c =
    let call = c.call-item.result in
    subst (λ (z : Call). z.actor < 64) (sym c.call-item.is) (c.requires.actors c.loop-call.call-index call c.loop-call-test.true)

pub step-requires-clause-fits : goal.step-requires-clause-fits
step-requires-clause-fits g c =
    let call = c.call-item.result in
    subst (λ (z : Call). fits_command z.command ≡ true) (sym c.call-item.is) (c.requires.fits c.loop-call.call-index call c.loop-call-test.true)

pub step-requires-clause-room : goal.step-requires-clause-room
step-requires-clause-room g c =
    let v = c.loop-call.invariant in let few = c.requires.few in let lt = c.loop-call-test.true in
    omega (arith, v.count, v.limit, few, lt)

pub returns-in-Err-clause-sink_steady : goal.returns-in-Err-clause-sink_steady
returns-in-Err-clause-sink_steady g c = λ _. c.loop-call.invariant.sink_steady

pub returns-in-Err-write_reply-clause-sink_steady : goal.returns-in-Err-write_reply-clause-sink_steady
returns-in-Err-write_reply-clause-sink_steady g c = λ not. c.in-Err-write_reply.ensures.sink_steady not ∙ c.loop-call.invariant.sink_steady
