-- Where nothing is logged, every record inside may be logged.
use Rattle.std.proofs.Common.{◌≡◌, ℕ, ◌<◌, List, [], ◌∷◌, ◌++◌, length, sym, subst}
use Rattle.std.specs.List.{All}
use Rattle.std.proofs.lemmas.List.Elements.{All-nil}
use Rattle.ccfs_base.specs.declared.records.Rec.{Rec}
use Rattle.ccfs_base.specs.Places.{IsInside}
use Rattle.ccfs_base.specs.Records.{acts_at, AreFree}
use Rattle.ccfs_base.specs.Logs.{Call}
use Rattle.shared_meta.specs.Area.{Area, log_of, MayLog}

last_none : (log more : List Rec) → log ++ more ≡ [] → more ≡ []
last_none [] more h = h
last_none (rec ∷ rest) more h = absurd cc

pub may_where_none : (a : Area) (call : Call) → ((s : ℕ) → log_of a s ≡ []) → call.stream < 64 → IsInside (length a.base) (acts_at call.rec) → MayLog a call
may_where_none a call none k h = record {
  stream = k;
  inside = h;
  others = λ s n. subst (All (AreFree call.rec)) (sym (none s)) (All-nil (AreFree call.rec));
  own = λ e. subst (All (AreFree call.rec)) (sym (last_none (a.ranges call.stream) (a.deltas call.stream) (none call.stream))) (All-nil (AreFree call.rec));
}
