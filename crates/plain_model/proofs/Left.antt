-- What a call leaves, from the parts that leave it.
use Rattle.std.proofs.Common.{◌≡◌, ℕ, ◌+◌, List, [], ◌∷◌, ◌++◌, map, length, sym, ap, ◌∙◌, add-zero}
use Rattle.std.specs.declared.option.Option.{Option}
use Rattle.std.specs.declared.option.Option.TheVariants.{None, Some}
use Rattle.stream_cuts.specs.Streams.{Step, Enter, Seal, unsealed_after}
use Rattle.tree_model.specs.declared.rows.Update.{Update}
use Rattle.tree_model.specs.declared.rows.Entry.{Entry}
use Rattle.tree_model.specs.Rows.{Rows}
use Rattle.tree_model.specs.Updates.{apply}
use Rattle.tree_cuts.specs.Calls.{Sizes, Charge, Charged, charge, call_steps, Accepted}
use Rattle.history_model.specs.State.{Now}
use Rattle.history_model.specs.Answers.{closes}
use Rattle.history_model.specs.Histories.{choices_by, handles_by, makes, sync_call, entered_by}
use Rattle.plain_model.proofs.Ranges.{closes_seals}
use Rattle.plain_model.proofs.SealSteps.{entered_after, closes_entered}

module _ (sizes : Sizes) (n : Now) (e : Entry) where
  -- what is left, with these steps of its call
  abbrev left : Rows → List (Step Charged) → ℕ → Now
  left t steps next = record { tree = t; choices = choices_by n.choices e.actor e.command; handles = handles_by n e.actor e.command e.reply; unsealed = unsealed_after n.unsealed steps; next = next; seals = n.seals + closes steps }

  -- what was left part by part
  abbrev parts : Rows → List (ℕ × Charged) → ℕ → ℕ → Now
  parts t unsealed next seals = record { tree = t; choices = choices_by n.choices e.actor e.command; handles = handles_by n e.actor e.command e.reply; unsealed = unsealed; next = next; seals = seals }

  by_update : (u : Update) → e.update ≡ Some u → left (apply n.tree u) (call_steps sizes n.tree n.unsealed (Accepted e.stream u)) (n.next + makes u) ≡ entered_by sizes n e
  by_update u is = ap (λ (o : Option Update). entered_by sizes n (record e { update = o })) (sym is)

  pub update_left : (u : Update) (n1 n2 n3 n4 : Now) (after : Rows) (c : Charge) (l : List ℕ) → e.update ≡ Some u → after ≡ apply n.tree u → c ≡ charge n.tree u
      → map Seal l ++ Enter e.stream (u, charge n.tree u) ∷ [] ≡ call_steps sizes n.tree n.unsealed (Accepted e.stream u)
      → n1 ≡ record n { handles = handles_by n e.actor e.command e.reply }
      → n2 ≡ record n1 { choices = choices_by n1.choices e.actor e.command }
      → n3 ≡ record n2 { unsealed = unsealed_after n2.unsealed (map Seal l); seals = n2.seals + length l }
      → n4 ≡ record n3 { tree = after; unsealed = (e.stream, (u, c)) ∷ n3.unsealed; next = n3.next + makes u }
      → n4 ≡ entered_by sizes n e
  update_left u n1 n2 n3 n4 after c l is a b steps e1 e2 e3 e4 =
      let s = e.stream in
      let k2 : n2 ≡ record n { choices = choices_by n.choices e.actor e.command; handles = handles_by n e.actor e.command e.reply }
      = e2 ∙ ap (λ (m : Now). record m { choices = choices_by m.choices e.actor e.command }) e1 in
      let k3 : n3 ≡ parts n.tree (unsealed_after n.unsealed (map Seal l)) n.next (n.seals + length l)
      = e3 ∙ ap (λ (m : Now). record m { unsealed = unsealed_after m.unsealed (map Seal l); seals = m.seals + length l }) k2 in
      let k4 : n4 ≡ parts after ((s, (u, c)) ∷ unsealed_after n.unsealed (map Seal l)) (n.next + makes u) (n.seals + length l)
      = e4 ∙ ap (λ (m : Now). record m { tree = after; unsealed = (s, (u, c)) ∷ m.unsealed; next = m.next + makes u }) k3 in
      let x : Charged = (u, charge n.tree u) in
      k4 ∙ ap (λ t. parts t ((s, (u, c)) ∷ unsealed_after n.unsealed (map Seal l)) (n.next + makes u) (n.seals + length l)) a
      ∙ ap (λ z. parts (apply n.tree u) ((s, (u, z)) ∷ unsealed_after n.unsealed (map Seal l)) (n.next + makes u) (n.seals + length l)) b
      ∙ ap (λ z. parts (apply n.tree u) z (n.next + makes u) (n.seals + length l)) (sym (entered_after n.unsealed l s x))
      ∙ ap (λ z. parts (apply n.tree u) (unsealed_after n.unsealed (map Seal l ++ Enter s x ∷ [])) (n.next + makes u) (n.seals + z)) (sym (closes_entered l s x))
      ∙ ap (λ z. left (apply n.tree u) z (n.next + makes u)) steps
      ∙ by_update u is

  by_sync : e.update ≡ None → left n.tree (call_steps sizes n.tree n.unsealed (sync_call n e.actor e.command)) (n.next + 0) ≡ entered_by sizes n e
  by_sync is = ap (λ (o : Option Update). entered_by sizes n (record e { update = o })) (sym is)

  pub sync_left : (n1 n2 n3 : Now) (l : List ℕ) → e.update ≡ None
      → map Seal l ≡ call_steps sizes n.tree n.unsealed (sync_call n e.actor e.command)
      → n1 ≡ record n { handles = handles_by n e.actor e.command e.reply }
      → n2 ≡ record n1 { choices = choices_by n1.choices e.actor e.command }
      → n3 ≡ record n2 { unsealed = unsealed_after n2.unsealed (map Seal l); seals = n2.seals + length l }
      → n3 ≡ entered_by sizes n e
  sync_left n1 n2 n3 l is steps e1 e2 e3 =
      let k2 : n2 ≡ record n { choices = choices_by n.choices e.actor e.command; handles = handles_by n e.actor e.command e.reply }
      = e2 ∙ ap (λ (m : Now). record m { choices = choices_by m.choices e.actor e.command }) e1 in
      let k3 : n3 ≡ parts n.tree (unsealed_after n.unsealed (map Seal l)) n.next (n.seals + length l)
      = e3 ∙ ap (λ (m : Now). record m { unsealed = unsealed_after m.unsealed (map Seal l); seals = m.seals + length l }) k2 in
      k3 ∙ ap (λ z. parts n.tree (unsealed_after n.unsealed (map Seal l)) z (n.seals + length l)) (sym (add-zero n.next))
      ∙ ap (λ z. parts n.tree (unsealed_after n.unsealed (map Seal l)) (n.next + 0) (n.seals + z)) (sym (closes_seals Charged l))
      ∙ ap (λ z. left n.tree z (n.next + 0)) steps
      ∙ by_sync is
