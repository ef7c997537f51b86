use Rattle.std.proofs.Common.{◌≡◌, ◌+◌, ◌-◌, ap, sym, ◌∙◌, length, refl}
use Rattle.std.specs.Prelude.{◌&&◌, ◌||◌, nat_lt, true, Option, None, Some}
use Rattle.std.proofs.lemmas.Bool.{and_parts}
use Rattle.tree_model.specs.declared.rows.Update.{Update}
use Rattle.cross_dep.specs.Books.{has_bit}
use Rattle.std.specs.FinMap.{len}
use Rattle.ccfs_base.specs.Limits.{transaction_limit}
use Rattle.stream_cuts.specs.Forced.{is_open}
use Rattle.tree_model.specs.Rows.{Rows}
use Rattle.tree_cuts.specs.Calls.{charge, seals_own, unsealed_weight, unsealed_rows}
use Rattle.history_model.specs.Histories.{makes}
use Rattle.stream_txn.specs.Accounts.{account_at}
use Rattle.front_laws.specs.Inodes.{dropped}
use Rattle.front_core.specs.Fronts.{sizes_of}
use Rattle.front_core.specs.Pending.{all_noted}
use Rattle.front_core.proofs.Told.{open_told, weight_told, rows_told}
use Rattle.front_core.proofs.Planned.{own_told, before_told, nothing_sealed, met_open, met_apart, no_bit}
use Rattle.front_core.proofs.state.State.plan_answered.Goals as goal

pub returns-clause-some : goal.returns-clause-some
returns-clause-some c n calls u left kept is fits built =
    let s = c.args.self.now in
    let k = s.pending.txns in
    let st = c.args.stream in
    let sizes = sizes_of c.args.geometry.now in
    let h = n.unsealed in
    let r = c.seals_before-forced.result in
    let o = (account_at k.accounts st).is_open in
    let own = c.seals_before-forced.ensures.own u is
    ∙ ap (λ z. (nat_lt transaction_limit (z + 512) || nat_lt (sizes.inodes - 1) (len s.tree + makes u - length (dropped u) + k.gave_rows)) && o) (weight_told k s.inodes.items h st left.pending.txns)
    ∙ ap (λ z. (nat_lt transaction_limit (unsealed_weight st h + 512) || nat_lt (sizes.inodes - 1) (len s.tree + makes u - length (dropped u) + z)) && o) (rows_told k s.inodes.items h left.pending.txns)
    ∙ ap (λ (z : Rows). (nat_lt transaction_limit (unsealed_weight st h + 512) || nat_lt (sizes.inodes - 1) (len z + makes u - length (dropped u) + unsealed_rows h)) && o) left.tree
    ∙ ap (λ z. z && o) (sym (own_told sizes (length s.inodes.items) n.tree h st u kept.plain kept.light fits built))
    ∙ ap (λ z. seals_own sizes n.tree h st u && z) (open_told k s.inodes.items h st left.pending.txns) in
    before_told st u (charge n.tree u) h r.0 r.1 (seals_own sizes n.tree h st u)
    (λ q l. c.seals_before-forced.ensures.bits u is (all_noted h) left.pending.book q l) own

pub returns-clause-none : goal.returns-clause-none
returns-clause-none c none =
    let r = c.seals_before-forced.result in
    let e = c.seals_before-forced.ensures.none none in
    nothing_sealed r.0 c.args.stream r.1 e.0 e.1

pub returns-clause-forced_open : goal.returns-clause-forced_open
returns-clause-forced_open c n left s l on = by c.args.answered.update refl
  where
    by : (o : Option Update) → c.args.answered.update ≡ o → is_open n.unsealed s ≡ true
    by None is = absurd (let zeros = ap (λ z. has_bit z s) (c.seals_before-forced.ensures.none is).0 in let off = no_bit s in cc)
    by (Some u) is = met_open c.args.stream u n.unsealed s (sym (c.seals_before-forced.ensures.bits u is (all_noted n.unsealed) left.pending.book s l) ∙ on)

pub returns-clause-own_open : goal.returns-clause-own_open
returns-clause-own_open c n left on = by c.args.answered.update refl
  where
    by : (o : Option Update) → c.args.answered.update ≡ o → is_open n.unsealed c.args.stream ≡ true
    by None is = absurd (let off = (c.seals_before-forced.ensures.none is).1 in cc)
    by (Some u) is =
        sym (open_told c.args.self.now.pending.txns c.args.self.now.inodes.items n.unsealed c.args.stream left.pending.txns)
        ∙ (and_parts _ _ (sym (c.seals_before-forced.ensures.own u is) ∙ on)).1

pub returns-clause-apart : goal.returns-clause-apart
returns-clause-apart c n u left is =
    c.seals_before-forced.ensures.bits u is (all_noted n.unsealed) left.pending.book c.args.stream c.requires.stream ∙ met_apart c.args.stream u n.unsealed

pub returns-clause-alone : goal.returns-clause-alone
returns-clause-alone c none = (c.seals_before-forced.ensures.none none).1
