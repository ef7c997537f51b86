use Rattle.std.proofs.Common.{rules, ap, ◌∙◌}
use Rattle.std.specs.List.Sorted.{IsBinarySearchResult}
use Rattle.std.proofs.lemmas.List.Sorted.{answers_always}
use Rattle.cross_dep.specs.Marked.{place_of}
use Rattle.cross_dep.specs.Order.{place_cmp}
use Rattle.cross_dep.specs.Kept.{Held}
use Rattle.cross_dep.proofs.Keyed.{key_searched}
use Rattle.cross_dep.proofs.marks.Marks.search.Goals as goal

-- the closure gives what a mark is of, and the slice has the marks
pub returns : goal.returns
returns c =
    let facts = c.binary_search_by_key.ensures in
    let by_place : IsBinarySearchResult (λ y. place_cmp (place_of y) c.place_of-place.result) c.deref.result.now c.binary_search_by_key.result
    = facts.position place_of (answers_always _ _ _ (λ f a r g called. search rules)) in
    key_searched c.args.self.now.keys c.deref.result.now c.args.key.now c.place_of-place.result c.binary_search_by_key.result
    (c.deref.ensures.value ∙ ap (λ (z : Held). z.keys) c.self.view_is) c.place_of-place.ensures (rw c.deref.ensures.value c.self.invariant) facts.bound by_place
