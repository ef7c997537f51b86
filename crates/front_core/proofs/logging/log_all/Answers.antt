use Rattle.std.proofs.Common.{◌≡◌, ℕ, suc, ◌+◌, ◌<◌, ◌∷◌, ◌++◌, [], List, length, get_or, take, drop, add-one, drop-cons, sym, ap, subst, ◌∙◌}
use Rattle.std.proofs.lemmas.List.{take_more, take_all, drop_all}
use Rattle.ccfs_base.specs.declared.records.Rec.{Rec}
use Rattle.shared_meta.specs.Area.{area}
use Rattle.front_laws.specs.Logging.{MayLogAll}
use Rattle.front_core.specs.Logged.{calls_of}
use Rattle.front_core.proofs.SoFar.{AreLoggedSoFar, none_logged, logged_more, all_logged}
use Rattle.front_core.proofs.logging.log_all.Goals as goal

-- the records from a place on begin with the one that stands there
rest_is : (recs : List Rec) (i : ℕ) (rec : Rec) → i < length recs → rec ≡ get_or recs i rec → drop i recs ≡ rec ∷ drop (i + 1) recs
rest_is recs i rec l is = rw add-one (drop-cons recs i rec l ∙ ap (λ (z : Rec). z ∷ drop (suc i) recs) (sym is))

pub loop-rec-init : goal.loop-rec-init
loop-rec-init c = record { logged = none_logged (area c.args.meta.now) c.args.stream; room = c.requires.room; may = c.requires.may }

pub log-requires : goal.log-requires
log-requires c =
    let recs = c.args.recs.now in
    let i = c.loop-rec.rec-index in
    let rec = c.rec-item.result in
    let rest = rest_is recs i rec c.loop-rec-test.true c.rec-item.is in
    record {
      room = (calls_of c.args.stream (drop (i + 1) recs), c.loop-rec.invariant.room ∙ ap (calls_of c.args.stream) rest);
      may = (subst (λ (z : List Rec). MayLogAll (area c.loop-rec.meta) c.args.stream z) rest c.loop-rec.invariant.may).0;
    }

pub loop-rec-preserved : goal.loop-rec-preserved
loop-rec-preserved c =
    let recs = c.args.recs.now in
    let i = c.loop-rec.rec-index in
    let rec = c.rec-item.result in
    let rest = rest_is recs i rec c.loop-rec-test.true c.rec-item.is in
    let more : take (i + 1) recs ≡ take i recs ++ rec ∷ [] = take_more recs i rec c.loop-rec-test.true ∙ ap (λ (z : Rec). take i recs ++ z ∷ []) (sym c.rec-item.is) in
    record {
      logged = subst (λ (z : List Rec). AreLoggedSoFar (area c.args.meta.now) c.args.stream z (area c.log.new.meta)) (sym more)
          (logged_more (area c.args.meta.now) (area c.loop-rec.meta) (area c.log.new.meta) c.args.stream (take i recs) rec c.loop-rec.invariant.logged c.log.ensures);
      room = c.log.ensures.room.first (calls_of c.args.stream (drop (i + 1) recs)) (c.loop-rec.invariant.room ∙ ap (calls_of c.args.stream) rest);
      may = (subst (λ (z : List Rec). MayLogAll (area c.loop-rec.meta) c.args.stream z) rest c.loop-rec.invariant.may).1 (area c.log.new.meta) c.log.ensures;
    }

pub returns : goal.returns
returns c =
    let recs = c.args.recs.now in
    let i = c.loop-rec.rec-index in
    let all : take i recs ≡ recs = take_all i recs c.loop-rec-test.false in
    let none : drop i recs ≡ [] = drop_all i recs c.loop-rec-test.false in
    all_logged (area c.args.meta.now) (area c.loop-rec.meta) c.args.stream recs
    (subst (λ (z : List Rec). AreLoggedSoFar (area c.args.meta.now) c.args.stream z (area c.loop-rec.meta)) all c.loop-rec.invariant.logged)
    (c.loop-rec.invariant.room ∙ ap (calls_of c.args.stream) none)
