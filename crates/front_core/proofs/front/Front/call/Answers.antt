use Rattle.std.proofs.Common.{◌≡◌, ◌<◌, List, length, [], ◌∷◌, ◌++◌, refl, sym, ap, subst, ◌∙◌}
use Rattle.tree_model.specs.declared.rows.Entry.{Entry}
use Rattle.history_model.specs.Histories.{entry_of}
use Rattle.front_laws.specs.Kept.{now_of}
use Rattle.front_core.specs.Fronts.{Fronted, sizes_of, IsActed}
use Rattle.front_core.specs.Left.{IsStateOf, IsMade}
use Rattle.front_core.specs.Held.{IsFrontOf}
use Rattle.front_core.proofs.Fronting.{fronted_more}
use Rattle.front_core.proofs.FrontOf.{state_of, same_front}
use Rattle.front_core.proofs.FrontCalls.{entry_from, planned_entry}
use Rattle.front_core.proofs.front.Front.call.Goals as goal

pub plan-requires-clause-sound : goal.plan-requires-clause-sound
plan-requires-clause-sound c =
    let f = c.self.inside in
    (f.opening, (f.history.items, state_of (sizes_of f.geometry) f.limit f.opening f.history.items f.handed f.state c.self.invariant))

pub make-requires-clause-sound : goal.make-requires-clause-sound
make-requires-clause-sound c =
    let f = c.self.inside in
    (f.opening, (f.history.items, state_of (sizes_of f.geometry) f.limit f.opening f.history.items f.handed f.state c.self.invariant))

pub make-requires-clause-plan : goal.make-requires-clause-plan
make-requires-clause-plan c t h is = c.in_ok-plan.ensures t h is

pub invariant_of-self-in_err-make : goal.invariant_of-self-in_err-make
invariant_of-self-in_err-make c =
    let f = c.self.inside in
    subst (λ (z : List Entry). IsFrontOf (sizes_of f.geometry) f.limit f.opening z f.handed c.make.new.self) (sym c.reserve.ensures.items)
    (same_front (sizes_of f.geometry) f.limit f.opening f.history.items f.handed f.state c.make.new.self c.self.invariant c.in_err-make.ensures.same)

-- the entry that the call makes
abbrev entry : goal.After-unwrap → Entry
entry c =
    let f = c.self.inside in
    entry_of (sizes_of f.geometry) (now_of (sizes_of f.geometry) f.opening f.history.items) c.args.actor c.args.command.now

state : (c : goal.After-unwrap) → IsStateOf (sizes_of c.self.inside.geometry) c.self.inside.opening c.self.inside.history.items c.self.inside.state
state c =
    let f = c.self.inside in
    state_of (sizes_of f.geometry) f.limit f.opening f.history.items f.handed f.state c.self.invariant

made : (c : goal.After-unwrap) → IsMade (sizes_of c.self.inside.geometry) c.self.inside.opening c.self.inside.history.items (entry c) c.self.inside.state c.make.new.self
made c = c.in_ok-make.ensures.made c.self.inside.opening c.self.inside.history.items (state c)

grown : (c : goal.After-unwrap) → c.push.new.self.items ≡ c.self.inside.history.items ++ entry c ∷ []
grown c =
    let f = c.self.inside in
    let p = c.in_ok-plan.plan in
    let put : c.push.new.self.items ≡ c.reserve.new.self.items ++ entry_from c.args.actor p.stream c.in_ok-copy.copy p.reply p.update ∷ []
    = c.push.ensures.items ∙ (rw c.unwrap.ensures refl) in
    put ∙ ap (λ (z : List Entry). z ++ entry_from c.args.actor p.stream c.in_ok-copy.copy p.reply p.update ∷ []) c.reserve.ensures.items
    ∙ ap (λ (z : Entry). f.history.items ++ z ∷ [])
    (planned_entry (sizes_of f.geometry) (now_of (sizes_of f.geometry) f.opening f.history.items) c.args.actor c.args.command.now c.in_ok-copy.copy p
    (c.in_ok-plan.ensures f.opening f.history.items (state c)) c.in_ok-copy.ensures)

pub invariant_of-self-2 : goal.invariant_of-self-2
invariant_of-self-2 c =
    let f = c.self.inside in
    let room : length f.history.items < f.limit = subst (λ (z : Fronted). length z.entries < z.limit) (sym c.self.view_is) c.requires.room in
    subst (λ (z : List Entry). IsFrontOf (sizes_of f.geometry) f.limit f.opening z f.handed c.make.new.self) (sym (grown c))
    (fronted_more (sizes_of f.geometry) f.limit f.opening f.history.items f.handed f.state c.make.new.self (entry c) c.self.invariant room (made c))

pub returns-clause-acted : goal.returns-clause-acted
returns-clause-acted c =
    let f = c.self.inside in
    let told : Fronted = record { sizes = sizes_of f.geometry; limit = f.limit; opening = f.opening; entries = f.history.items; inodes = f.state.inodes.items; handed = f.handed } in
    let new : Fronted = record { sizes = sizes_of f.geometry; limit = f.limit; opening = f.opening; entries = c.push.new.self.items; inodes = c.make.new.self.inodes.items; handed = f.handed } in
    let acted : IsActed told c.args.actor c.args.command.now new
    = record { sizes = refl; limit = refl; opening = refl; entries = grown c; inodes = (made c).inodes; handed = refl } in
    subst (λ (z : Fronted). IsActed z c.args.actor c.args.command.now new) c.self.view_is acted
