-- The inodes that are kept as taken where a list has more inodes behind the others.
use Rattle.std.proofs.Common.{◌≡◌, inl, inr, ℕ, List, [], ◌∷◌, ◌++◌, refl, sym, ap, ◌∙◌}
use Rattle.std.specs.Prelude.{Some, reverse, flat_map}
use Rattle.std.specs.FinMap.{get}
use Rattle.std.proofs.lemmas.List.{reverse-append}
use Rattle.std.proofs.lemmas.Grind.{flat_map-append}
use Rattle.stream_cuts.specs.Streams.{of_stream}
use Rattle.tree_model.specs.declared.rows.Row.{Row}
use Rattle.tree_model.specs.Rows.{Rows}
use Rattle.tree_cuts.specs.Calls.{Charged}
use Rattle.image_model.specs.Carrying.{inode_in}
use Rattle.carried_volumes.specs.Carried.{HaveInodes}
use Rattle.front_laws.specs.Inodes.{has, given_by, given, IsFree}
use Rattle.front_laws.specs.Owned.{Among}
use Rattle.front_laws.proofs.MoreInodes.{in_more}
use Rattle.front_core.specs.Free.{Taken, AreTaken}
use Rattle.front_core.proofs.Given.{of_among}

-- lists that two rules make of updates are the same, in the reverse order too, where the rules agree on each
module _ {X : Type 0} (f g : (ℕ × Charged) → List X) where
  pub same_flat : (h : List (ℕ × Charged)) → ((e : ℕ × Charged) → Among e h → f e ≡ g e) → flat_map f h ≡ flat_map g h
  same_flat [] same = refl
  same_flat (e ∷ h) same =
      ap (λ z. z ++ flat_map f h) (same e (inl refl)) ∙ ap (λ z. g e ++ z) (same_flat h (λ (d : ℕ × Charged) (a : Among d h). same d (inr a)))

  last_flat : (r : (ℕ × Charged) → List X) (e : ℕ × Charged) (h : List (ℕ × Charged)) → flat_map r (reverse (e ∷ h)) ≡ flat_map r (reverse h) ++ (r e ++ [])
  last_flat r e h = ap (λ (z : List (ℕ × Charged)). flat_map r z) (reverse-append (e ∷ []) h) ∙ flat_map-append r (reverse h) (e ∷ [])

  pub reversed_flat : (h : List (ℕ × Charged)) → ((e : ℕ × Charged) → Among e h → f e ≡ g e) → flat_map f (reverse h) ≡ flat_map g (reverse h)
  reversed_flat [] same = refl
  reversed_flat (e ∷ h) same =
      last_flat f e h
      ∙ ap (λ z. z ++ (f e ++ [])) (reversed_flat h (λ (d : ℕ × Charged) (a : Among d h). same d (inr a)))
      ∙ ap (λ z. flat_map g (reverse h) ++ (z ++ [])) (same e (inl refl))
      ∙ sym (last_flat g e h)

module _ (count : ℕ) (inodes more : List ℕ) (t : Rows) (unsealed : List (ℕ × Charged)) (have : HaveInodes count inodes t)
    (same : (e : ℕ × Charged) → Among e unsealed → given_by (inodes ++ more) e.1.0 ≡ given_by inodes e.1.0) where
  -- what an update gives up by the longer list, and by the other one
  abbrev by_more : (ℕ × Charged) → List ℕ
  by_more e = given_by (inodes ++ more) e.1.0

  abbrev by_few : (ℕ × Charged) → List ℕ
  by_few e = given_by inodes e.1.0

  -- updates give up the same inodes
  pub all_given : given (inodes ++ more) unsealed ≡ given inodes unsealed
  all_given = same_flat by_more by_few unsealed same

  -- those of a stream too
  same_of : (s : ℕ) (e : ℕ × Charged) → Among e (of_stream s unsealed) → by_more e ≡ by_few e
  same_of s e a = same e (of_among e s unsealed a).0

  of_given : (s : ℕ) → given (inodes ++ more) (of_stream s unsealed) ≡ given inodes (of_stream s unsealed)
  of_given s = same_flat by_more by_few (of_stream s unsealed) (same_of s)

  pub longer_free : (i : ℕ) → IsFree inodes t unsealed i → IsFree (inodes ++ more) t unsealed i
  longer_free i f = record {
    no_row = λ (s : ℕ) (r : Row) (g : get t s ≡ Some r) (e : inode_in (inodes ++ more) s ≡ i). f.no_row s r g (sym (in_more inodes more s (have.listed s r g)) ∙ e);
    not_given = ap (has i) all_given ∙ f.not_given;
  }

  pub shorter_free : (i : ℕ) → IsFree (inodes ++ more) t unsealed i → IsFree inodes t unsealed i
  shorter_free i f = record {
    no_row = λ (s : ℕ) (r : Row) (g : get t s ≡ Some r) (e : inode_in inodes s ≡ i). f.no_row s r g (in_more inodes more s (have.listed s r g) ∙ e);
    not_given = ap (has i) (sym all_given) ∙ f.not_given;
  }

  -- so the same inodes are taken
  pub taken_longer : (taken : Taken) → AreTaken count inodes t unsealed taken → AreTaken count (inodes ++ more) t unsealed taken
  taken_longer taken are = record {
    counted = are.counted;
    clear = λ i high low c. longer_free i (are.clear i high low c);
    free = λ i high low f. are.free i high low (shorter_free i f);
    own = λ s l. are.own s l ∙ sym (reversed_flat by_more by_few (of_stream s unsealed) (same_of s));
    inside = λ i p. are.inside i (ap (has i) (sym all_given) ∙ p);
    apart = λ s r i ne p q. are.apart s r i ne (ap (has i) (sym (of_given s)) ∙ p) (ap (has i) (sym (of_given r)) ∙ q);
  }
