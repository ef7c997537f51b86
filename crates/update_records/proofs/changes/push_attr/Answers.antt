use Rattle.std.proofs.Common.{◌≡◌, ◌++◌, [], ◌∷◌, subst}
use Rattle.std.specs.Prelude.{OnOk}
use Rattle.ccfs_base.specs.declared.records.Rec.{Rec}
use Rattle.update_records.proofs.changes.push_attr.Goals as goal

pub returns : goal.returns
returns c = subst (λ (rec : Rec). OnOk c.push.result (c.push.new.self ≡ c.args.recs.now ++ rec ∷ [])) c.in_ok-attr_record.ensures c.push.ensures.ok
