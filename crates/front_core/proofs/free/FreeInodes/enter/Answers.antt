use Rattle.std.proofs.Common.{◌≡◌, ◌<◌, ◌∷◌, ◌++◌, [], List, ℕ, inl, inr, true, length, append-nil, MatchOption, refl, sym, ap, subst, ◌∙◌, arith}
use Rattle.std.proofs.lemmas.List.{get_or-set_same, get_or-set_other}
use Rattle.free_maps.specs.Maps.{is_set}
use Rattle.image_model.specs.Carrying.{inode_in}
use Rattle.front_laws.specs.Inodes.{given_by, has}
use Rattle.front_laws.proofs.Turning.{has_itself}
use Rattle.front_core.specs.Free.{Taken, AreBelow, list_at, given_at, lists_in}
use Rattle.front_core.proofs.Lists.{length-lists, has_last, below_set}
use Rattle.front_core.proofs.Entering.{made_here, made_alone, no_maker, none_made, taken_entered}
use Rattle.front_core.proofs.free.FreeInodes.enter.Goals as goal

pub invariant_of-self-in-Some : goal.invariant_of-self-in-Some
invariant_of-self-in-Some c =
    let lists = lists_in c.self.inside.given in
    let s = c.args.stream in
    let inode = c.in-Some.inode in
    let within : s < length lists = omega (arith, length-lists c.self.inside.given, c.requires.stream) in
    let gave : given_by c.args.inodes.now c.args.update.now ≡ inode ∷ [] = c.in-Some.ensures.given c.requires.built c.requires.serials in
    let below : inode < c.args.self.now.count = c.requires.below inode (ap (has inode) gave ∙ has_itself inode) in
    let count : c.self.inside.taken.count ≡ c.args.self.now.count = ap (λ (z : Taken). z.count) c.self.view_is in
    subst (λ (z : List (List ℕ)). AreBelow c.self.inside.taken.count z) (sym c.push_at.ensures)
    (below_set c.self.inside.taken.count lists s (list_at lists s ++ inode ∷ []) within
    (λ i p. elim (has_last i (list_at lists s) inode p) [ inl q ↦ c.self.invariant s i q | inr e ↦ omega (arith, e, below, count) ]) c.self.invariant)

pub returns-in-Make-clause-taken : goal.returns-in-Make-clause-taken
returns-in-Make-clause-taken c count t unsealed cost tree have owned fits built makes are =
    let inodes = c.args.inodes.now in
    let u = c.args.update.now in
    let s = c.args.stream in
    let id = c.in-Make.id in
    let view = c.self.view_is in
    taken_entered count inodes t unsealed s u cost tree have owned fits c.args.self.now _ are
    (c.set.ensures.count ∙ ap (λ (z : Taken). z.count) view)
    (λ x m. subst (λ z. is_set c.set.new.self.bytes (inode_in inodes z) ≡ true) (made_alone u _ _ id _ c.in-Make.is x m) c.set.ensures.bit)
    (λ i n. c.set.ensures.others i (λ e. n id (made_here u _ _ id _ c.in-Make.is) (sym e)) ∙ ap (λ (z : Taken). is_set z.bits i) view)
    (ap (λ (z : Taken). given_at z s) view ∙ sym (append-nil (given_at c.args.self.now s)) ∙ ap (λ (z : List ℕ). given_at c.args.self.now s ++ z) (sym (ap (given_by inodes) c.in-Make.is)))
    (λ r n. ap (λ (z : Taken). given_at z r) view)

pub returns-in-Some : goal.returns-in-Some
returns-in-Some c =
    let inodes = c.args.inodes.now in
    let u = c.args.update.now in
    let s = c.args.stream in
    let inode = c.in-Some.inode in
    let lists = lists_in c.self.inside.given in
    let new = list_at lists s ++ inode ∷ [] in
    let view = c.self.view_is in
    let within : s < length lists = omega (arith, length-lists c.self.inside.given, c.requires.stream) in
    record {
      taken = λ count t unsealed cost tree have owned fits built makes are.
          (let gave : given_by inodes u ≡ inode ∷ [] = c.in-Some.ensures.given built c.requires.serials in
          taken_entered count inodes t unsealed s u cost tree have owned fits c.args.self.now _ are
          (ap (λ (z : Taken). z.count) view)
          (λ x m. absurd (none_made inodes u inode x gave m))
          (λ i n. ap (λ (z : Taken). is_set z.bits i) view)
          (ap (λ (z : List (List ℕ)). list_at z s) c.push_at.ensures ∙ get_or-set_same lists s new [] within
          ∙ ap (λ (z : Taken). given_at z s ++ inode ∷ []) view ∙ ap (λ (z : List ℕ). given_at c.args.self.now s ++ z) (sym gave))
          (λ r n. ap (λ (z : List (List ℕ)). list_at z r) c.push_at.ensures ∙ get_or-set_other lists s r new [] n ∙ ap (λ (z : Taken). given_at z r) view));
      count = ap (λ (z : Taken). z.count) view;
    }

pub returns-in_default-dropped_inode : goal.returns-in_default-dropped_inode
returns-in_default-dropped_inode c =
    let inodes = c.args.inodes.now in
    let u = c.args.update.now in
    let s = c.args.stream in
    let now = c.args.self.now in
    record {
      taken = λ count t unsealed cost tree have owned fits built makes are.
          (let gave : given_by inodes u ≡ []
          = subst (λ z. MatchOption z (given_by inodes u ≡ []) (λ i. given_by inodes u ≡ i ∷ [])) c.in_default-dropped_inode.is (c.dropped_inode.ensures.given built c.requires.serials) in
          taken_entered count inodes t unsealed s u cost tree have owned fits now now are refl
          (λ x m. absurd (no_maker u c.in_default.not-Make x m))
          (λ i n. refl)
          (sym (append-nil (given_at now s)) ∙ ap (λ (z : List ℕ). given_at now s ++ z) (sym gave))
          (λ r n. refl));
      count = refl;
    }
