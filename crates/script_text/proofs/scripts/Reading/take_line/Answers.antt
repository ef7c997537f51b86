use Rattle.std.proofs.Common.{◌≡◌, ◌∷◌, ◌++◌, [], All, List, arith, sym, subst, true}
use Rattle.std.proofs.lemmas.Grind.{common_steps}
use Rattle.ccfs_base.specs.Fits.{fits_command}
use Rattle.script_text.specs.declared.scripts.Call.{Call}
use Rattle.script_text.proofs.scripts.Reading.take_line.Goals as goal

-- the calls fit, and so does one more behind them
fits_more : (calls more : List Call) (call : Call) → more ≡ calls ++ call ∷ [] → fits_command call.command ≡ true → All (λ (x : Call). fits_command x.command ≡ true) calls → All (λ (x : Call). fits_command x.command ≡ true) more
fits_more calls more call e f h = subst (All (λ (x : Call). fits_command x.command ≡ true)) (sym e) (grind (arith, common_steps))

pub returns-in_ok-push-clause-fits : goal.returns-in_ok-push-clause-fits
returns-in_ok-push-clause-fits c =
    let w = rw c.in-Ok-Call.field-0-is at c.in-Ok-Call.ensures.within in
    λ h. fits_more c.args.self.now.calls.items c.push.new.self.items (record { line = c.args.line; actor = c.in-Ok-Call.actor; command = c.in-Ok-Call.command }) c.in_ok-push.ensures.items w.1 h
