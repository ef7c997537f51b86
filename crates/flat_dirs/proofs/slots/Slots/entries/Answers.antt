use Rattle.std.proofs.Common.{◌≡◌, ◌==◌, ℕ, List, ap, sym, subst, ◌∙◌}
use Rattle.std.specs.Prelude.{IfOk}
use Rattle.std.specs.List.{list_any}
use Rattle.std.specs.List.Sorted.{IsStrictlySortedBy}
use Rattle.std.specs.FinMap as map
use Rattle.std.specs.List.{filter}
use Rattle.std.proofs.lemmas.Result.{IfOk-weaker, on_err_weaker}
use Rattle.flat_dirs.specs.Index.{SlotKey, is_below}
use Rattle.flat_dirs.specs.Slots.{entries_in, by_name}
use Rattle.flat_dirs.proofs.Listing.{places_listed, none_mapped}
use Rattle.flat_dirs.proofs.Listed.{listed_just, listed_in_order}
use Rattle.flat_dirs.proofs.slots.Slots.entries.Goals as goal

pub returns-clause-scan : goal.returns-clause-scan
returns-clause-scan c =
    let listed = places_listed (map.from_entries c.self.inside.slots.entries) c.self.inside.places c.args.parent c.self.invariant c.all_below.ensures.ordered ∙ ap (λ m. entries_in m c.args.parent) c.self.view_is in
    subst (λ (l : List ℕ). IfOk c.all_below.result (λ inodes. inodes.items ≡ l)) listed c.all_below.ensures.all

pub returns-clause-just : goal.returns-clause-just
returns-clause-just c =
    let m = c.args.self.now in
    let p = c.args.parent in
    IfOk-weaker c.all_below.result _ _ (λ inodes is inode. ap (list_any (λ listed. listed == inode)) is ∙ listed_just m p inode) (returns-clause-scan c)

pub returns-clause-ordered : goal.returns-clause-ordered
returns-clause-ordered c =
    let m = c.args.self.now in
    IfOk-weaker c.all_below.result _ _ (λ inodes is. subst (IsStrictlySortedBy (by_name m)) (sym is) (listed_in_order m c.args.parent)) (returns-clause-scan c)

pub returns-clause-some : goal.returns-clause-some
returns-clause-some c =
    let listed = places_listed (map.from_entries c.self.inside.slots.entries) c.self.inside.places c.args.parent c.self.invariant c.all_below.ensures.ordered ∙ ap (λ m. entries_in m c.args.parent) c.self.view_is in
    on_err_weaker c.all_below.result (λ some none. some (none_mapped (λ (k : SlotKey). k.2) (filter (is_below c.args.parent) c.self.inside.places.keys) (listed ∙ none))) c.all_below.ensures.some
