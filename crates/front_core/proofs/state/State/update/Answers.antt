use Rattle.std.proofs.Common.{◌≡◌, ℕ, ◌+◌, ◌<◌, List, length, sym, ap, subst, ◌∙◌, arith}
use Rattle.std.specs.Prelude.{Some, IsTrue, take}
use Rattle.tree_model.specs.Rows.{Rows}
use Rattle.tree_model.specs.Tests.{applies}
use Rattle.tree_model.specs.Updates.{apply}
use Rattle.tree_model.proofs.Fitting.{applies_fits}
use Rattle.tree_cuts.specs.Calls.{Charged}
use Rattle.history_model.specs.Histories.{entry_of, MayCall}
use Rattle.stream_txn.specs.Accounts.{account_at}
use Rattle.update_records.specs.Built.{AreSerialsBelow}
use Rattle.front_laws.specs.Inodes.{IsLowestFree, with_inode, has, given_by}
use Rattle.front_laws.specs.Owned.{AreOwned}
use Rattle.front_laws.specs.Kept.{now_of}
use Rattle.front_core.specs.Fronts.{sizes_of}
use Rattle.front_core.specs.Free.{AreTaken, but_of}
use Rattle.front_core.specs.Entering.{IsEnteringOf, HasEntered}
use Rattle.front_core.specs.Pending.{IsAsBefore}
use Rattle.front_core.proofs.Viewed.{known}
use Rattle.front_core.proofs.Next.{left_next, kept_next, serials_next, makes_last, given_next, may_enter, weighs_next, next_small}
use Rattle.front_core.proofs.OneFree.{one_free}
use Rattle.front_core.proofs.Made.{made_some}
use Rattle.front_core.proofs.Updating.{listed_of, longer, owned_all, have_all, low_all, open_forced, open_own, held_all, counted, behind, place_behind, made_below, listed_off}
use Rattle.front_core.proofs.state.State.update.Goals as goal

pub sealed-requires-clause-stream : goal.sealed-requires-clause-stream
sealed-requires-clause-stream c =
    let o = c.requires.sound in
    let sizes = sizes_of c.args.geometry.now in
    let p = c.requires.plan o.0 o.1.0 o.1.1 in
    subst (λ z. z < 64) (sym p.stream) ((known sizes o.0 o.1.0 c.args.self.now o.1.1).streams c.args.actor)

pub sealed-requires-clause-apart : goal.sealed-requires-clause-apart
sealed-requires-clause-apart c =
    let o = c.requires.sound in
    (c.requires.plan o.0 o.1.0 o.1.1).apart c.args.update.now c.requires.is

pub overflow_add-next : goal.overflow_add-next
overflow_add-next c =
    let o = c.requires.sound in
    let small = next_small (sizes_of c.args.geometry.now) o.0 o.1.0 c.args.self.now o.1.1 c.args.update.now in
    let made = c.rows_made.ensures in omega (arith, small, made)

pub list_inode-requires : goal.list_inode-requires
list_inode-requires c =
    let o = c.requires.sound in
    let t = o.0 in
    let h = o.1.0 in
    let st = o.1.1 in
    let sizes = sizes_of c.args.geometry.now in
    let plan = c.args.plan.now in
    let planned = c.requires.plan t h st in
    let u = c.args.update.now in
    one_free sizes t h c.args.actor c.args.command.now c.args.self.now plan st (c.requires.actor, c.requires.fits) c.requires.built planned u (sym planned.update ∙ c.requires.is) c.sealed.result
    (subst (λ z. z < 64) (sym planned.stream) ((known sizes t h c.args.self.now st).streams c.args.actor)) (planned.apart u c.requires.is) c.sealed.ensures.own c.sealed.ensures.others

pub prepare-requires-clause-stream : goal.prepare-requires-clause-stream
prepare-requires-clause-stream c =
    let o = c.requires.sound in
    let sizes = sizes_of c.args.geometry.now in
    let p = c.requires.plan o.0 o.1.0 o.1.1 in
    subst (λ z. z < 64) (sym p.stream) ((known sizes o.0 o.1.0 c.args.self.now o.1.1).streams c.args.actor)

pub prepare-requires-clause-apart : goal.prepare-requires-clause-apart
prepare-requires-clause-apart c =
    let o = c.requires.sound in
    (c.requires.plan o.0 o.1.0 o.1.1).apart c.args.update.now c.requires.is

pub prepare-requires-clause-applies : goal.prepare-requires-clause-applies
prepare-requires-clause-applies c =
    let o = c.requires.sound in
    let sizes = sizes_of c.args.geometry.now in
    let n = now_of sizes o.0 o.1.0 in
    let u = c.args.update.now in
    let planned = c.requires.plan o.0 o.1.0 o.1.1 in
    subst (λ z. IsTrue (applies z u)) (sym (c.in_ok-list_inode.ensures.tree ∙ o.1.1.left.tree))
    ((applies_fits n.tree u (known sizes o.0 o.1.0 c.args.self.now o.1.1).plain.tree).1 (planned.ready u (sym planned.update ∙ c.requires.is)).fits)

pub prepare-requires-clause-serials : goal.prepare-requires-clause-serials
prepare-requires-clause-serials c =
    let o = c.requires.sound in
    let t = o.0 in
    let h = o.1.0 in
    let st = o.1.1 in
    let sizes = sizes_of c.args.geometry.now in
    let n = now_of sizes t h in
    let old = c.args.self.now in
    let plan = c.args.plan.now in
    let u = c.args.update.now in
    let actor = c.args.actor in
    let cmd = c.args.command.now in
    let planned = c.requires.plan t h st in
    let is : (entry_of sizes n actor cmd).update ≡ Some u = sym planned.update ∙ c.requires.is in
    let may : MayCall actor cmd = (c.requires.actor, c.requires.fits) in
    let x = listed_of u old.inodes.items c.list_inode.new.self.inodes.items
    (λ i. (count : ℕ) (inodes : List ℕ) (t : Rows) (us : List (ℕ × Charged)) → AreOwned inodes t us → AreTaken count inodes t us old.pending.free → IsLowestFree count inodes t (but_of c.sealed.result us) i)
    c.in_ok-list_inode.ensures.none c.in_ok-list_inode.ensures.listed in
    let i = x.0 in
    let low64 : plan.stream < 64 = subst (λ z. z < 64) (sym planned.stream) ((known sizes t h old st).streams actor) in
    let low = low_all sizes t h actor cmd old plan st planned u i c.sealed.result low64 (planned.apart u c.requires.is) c.sealed.ensures.own c.sealed.ensures.others x.1.1 in
    subst (λ l. AreSerialsBelow (length l) u) (sym x.1.0) (serials_next sizes t h actor cmd old plan st may c.requires.built planned u is i low)

pub prepare-requires-clause-built : goal.prepare-requires-clause-built
prepare-requires-clause-built c =
    let o = c.requires.sound in
    let planned = c.requires.plan o.0 o.1.0 o.1.1 in
    planned.built c.args.update.now (sym planned.update ∙ c.requires.is)

pub enter-requires : goal.enter-requires
enter-requires c =
    let o = c.requires.sound in
    let t = o.0 in
    let h = o.1.0 in
    let st = o.1.1 in
    let sizes = sizes_of c.args.geometry.now in
    let n = now_of sizes t h in
    let old = c.args.self.now in
    let plan = c.args.plan.now in
    let u = c.args.update.now in
    let actor = c.args.actor in
    let cmd = c.args.command.now in
    let planned = c.requires.plan t h st in
    let is : (entry_of sizes n actor cmd).update ≡ Some u = sym planned.update ∙ c.requires.is in
    let may : MayCall actor cmd = (c.requires.actor, c.requires.fits) in
    let x = listed_of u old.inodes.items c.list_inode.new.self.inodes.items
    (λ i. (count : ℕ) (inodes : List ℕ) (t : Rows) (us : List (ℕ × Charged)) → AreOwned inodes t us → AreTaken count inodes t us old.pending.free → IsLowestFree count inodes t (but_of c.sealed.result us) i)
    c.in_ok-list_inode.ensures.none c.in_ok-list_inode.ensures.listed in
    let i = x.0 in
    let low64 : plan.stream < 64 = subst (λ z. z < 64) (sym planned.stream) ((known sizes t h old st).streams actor) in
    let low = low_all sizes t h actor cmd old plan st planned u i c.sealed.result low64 (planned.apart u c.requires.is) c.sealed.ensures.own c.sealed.ensures.others x.1.1 in
    let all = with_inode (Some u) i old.inodes.items in
    let p = c.prepare.new.self.pending in
    let entering = c.in-Ok.entering in
    let same : IsAsBefore old.pending p = subst (λ z. IsAsBefore z p) c.in_ok-list_inode.ensures.pending c.in-Ok.ensures.before in
    let listed : c.prepare.new.self.inodes.items ≡ all = c.in-Ok.ensures.inodes ∙ x.1.0 in
    let told : IsEnteringOf sizes.inodes all plan.stream u entering = subst (λ z. IsEnteringOf sizes.inodes z plan.stream u entering) x.1.0 c.in-Ok.ensures.told in
    let have = have_all sizes t h actor cmd old plan st planned u i in
    let count : p.free.count ≡ sizes.inodes = counted sizes t h actor cmd old plan st planned u i p same in
    record {
      stream = low64;
      apart = planned.apart u c.requires.is;
      held = held_all sizes t h actor cmd old plan st planned u i p same;
      due = λ s l on. c.in-Ok.ensures.due s l on (ap (λ z. (account_at z.txns.accounts s).is_open) c.in_ok-list_inode.ensures.pending ∙ open_forced sizes t h actor cmd old plan st planned u i s l on);
      own = λ on. c.in-Ok.ensures.own_due on (ap (λ z. (account_at z.txns.accounts plan.stream).is_open) c.in_ok-list_inode.ensures.pending ∙ open_own sizes t h actor cmd old plan st planned u i on);
      same = told.stream_;
      ready = c.in-Ok.ensures.ready;
      serials = subst (λ l. AreSerialsBelow (length l) u) (sym listed) (serials_next sizes t h actor cmd old plan st may c.requires.built planned u is i low);
      built = planned.built u is;
      below = λ j f. subst (λ z. j < z) (sym count) (given_next sizes t h actor cmd old plan st may c.requires.built planned u is i have j (ap (λ l. has j (given_by l u)) (sym listed) ∙ f));
      made = λ dir name id is_dir e. subst (λ z. Rattle.std.specs.Prelude.slice_index_or z id 0 < p.free.count) (sym listed) (subst (λ z. Rattle.std.specs.Prelude.slice_index_or all id 0 < z) (sym count)
          (made_below sizes.inodes all n.tree _ u dir name id is_dir (makes_last sizes t h actor cmd old plan st may c.requires.built planned u is i low) e));
      may = λ mid sealed. may_enter sizes t h actor cmd old plan st may c.requires.built planned u is i low entering mid (behind sizes t h actor cmd old plan st planned u i p same mid sealed)
          (subst (λ z. IsEnteringOf sizes.inodes all z u entering) planned.stream told);
      place = λ mid sealed. place_behind sizes t h actor cmd old plan st planned u i p same mid entering.stream (subst (λ z. z < 64) (sym told.stream_) low64) sealed c.in-Ok.ensures.ready.place;
    }

pub returns-in-Ok-clause-made : goal.returns-in-Ok-clause-made
returns-in-Ok-clause-made c t h st =
    let sizes = sizes_of c.args.geometry.now in
    let n = now_of sizes t h in
    let old = c.args.self.now in
    let plan = c.args.plan.now in
    let u = c.args.update.now in
    let actor = c.args.actor in
    let cmd = c.args.command.now in
    let planned = c.requires.plan t h st in
    let is : (entry_of sizes n actor cmd).update ≡ Some u = sym planned.update ∙ c.requires.is in
    let may : MayCall actor cmd = (c.requires.actor, c.requires.fits) in
    let x = listed_of u old.inodes.items c.list_inode.new.self.inodes.items
    (λ i. (count : ℕ) (inodes : List ℕ) (t : Rows) (us : List (ℕ × Charged)) → AreOwned inodes t us → AreTaken count inodes t us old.pending.free → IsLowestFree count inodes t (but_of c.sealed.result us) i)
    c.in_ok-list_inode.ensures.none c.in_ok-list_inode.ensures.listed in
    let i = x.0 in
    let low64 : plan.stream < 64 = subst (λ z. z < 64) (sym planned.stream) ((known sizes t h old st).streams actor) in
    let low = low_all sizes t h actor cmd old plan st planned u i c.sealed.result low64 (planned.apart u c.requires.is) c.sealed.ensures.own c.sealed.ensures.others x.1.1 in
    let all = with_inode (Some u) i old.inodes.items in
    let p = c.prepare.new.self.pending in
    let entering = c.in-Ok.entering in
    let same : IsAsBefore old.pending p = subst (λ z. IsAsBefore z p) c.in_ok-list_inode.ensures.pending c.in-Ok.ensures.before in
    let listed : c.prepare.new.self.inodes.items ≡ all = c.in-Ok.ensures.inodes ∙ x.1.0 in
    let told : IsEnteringOf sizes.inodes all plan.stream u entering = subst (λ z. IsEnteringOf sizes.inodes z plan.stream u entering) x.1.0 c.in-Ok.ensures.told in
    let made = c.enter.ensures.entered in
    let entered : HasEntered entering u all made.0 c.enter.new.self.pending = subst (λ z. HasEntered entering u z made.0 c.enter.new.self.pending) listed made.1.1 in
    made_some sizes t h actor cmd old _ p made.0 plan u entering i st planned is told
    (kept_next sizes t h actor cmd old plan st may c.requires.built planned u is i low)
    (left_next sizes t h actor cmd old plan st may c.requires.built planned u is i)
    same made.1.0 entered
    (makes_last sizes t h actor cmd old plan st may c.requires.built planned u is i low)
    (have_all sizes t h actor cmd old plan st planned u i)
    (owned_all sizes t h actor cmd old plan st planned u i)
    (longer sizes t h actor cmd old plan st planned u i)
    (weighs_next sizes t h actor cmd old plan st may c.requires.built planned u is i)
    (c.enter.ensures.tree ∙ c.in-Ok.ensures.made ∙ ap (λ z. apply z u) c.in_ok-list_inode.ensures.tree)
    (ap (λ z. old.next + z) c.rows_made.ensures)
    (c.enter.ensures.streams ∙ c.in-Ok.ensures.streams ∙ c.in_ok-list_inode.ensures.streams)
    (c.enter.ensures.inodes ∙ listed)

pub returns-in-Err-clause-same : goal.returns-in-Err-clause-same
returns-in-Err-clause-same c = record {
  tree = c.in-Err.ensures.tree ∙ c.in_ok-list_inode.ensures.tree;
  next = c.in-Err.ensures.next ∙ c.in_ok-list_inode.ensures.next;
  streams = c.in-Err.ensures.streams ∙ c.in_ok-list_inode.ensures.streams;
  inodes = c.truncate.ensures.items ∙ ap (take c.len-listed.result) c.in-Err.ensures.inodes
      ∙ listed_off c.args.update.now c.len-listed.result c.args.self.now.inodes.items c.list_inode.new.self.inodes.items _ (c.len-listed.ensures ∙ c.args.self.now.inodes.ok.0)
      c.in_ok-list_inode.ensures.none c.in_ok-list_inode.ensures.listed;
  pending = subst (λ z. IsAsBefore z c.prepare.new.self.pending) c.in_ok-list_inode.ensures.pending c.in-Err.ensures.before;
}
