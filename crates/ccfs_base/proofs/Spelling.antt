-- Names between slashes.
use Rattle.std.proofs.Common.{◌≡◌, ℕ, ◌+◌, ◌-◌, length-append, ◌<◌, ◌≤◌, Bool, true, false, not, cond, ◌&&◌, ◌==◌, Option, Some, None, List, [], ◌∷◌, ◌++◌, length, take, drop, refl, sym, ap, subst, ◌∙◌, arith, append_assoc, one-add}
use Rattle.std.specs.Prelude.{filter, nat_le, take_while}
use Rattle.std.specs.List.{list_all, position_or_len, prefix_len}
use Rattle.std.specs.Str.{bytes_eq}
use Rattle.std.proofs.lemmas.Bool.Decides.{nat_tests, Decides-eqb}
use Rattle.std.proofs.lemmas.Slice.Eq.{bytes_eq-Decides}
use Rattle.std.proofs.lemmas.List.{take-append-drop}
use Rattle.std.proofs.Math.Seq.{take-append_seam, drop-append_seam}
use Rattle.ccfs_base.specs.Names.{is_name_byte, is_name, is_full, grow, pieces, names_in, spelled, path_text, is_path, path_of, component_place, has_slash}
use Rattle.ccfs_base.specs.Paths.{IsSpelled, is_slashed, first_component, behind_component}
use Rattle.ccfs_base.proofs.Kept.{name_bytes}

abbrev slash : ℕ → Bool
slash b = b == 47

pub left_true : (a b : Bool) → (a && b) ≡ true → a ≡ true
left_true true b h = refl
left_true false b h = h

pub right_true : (a b : Bool) → (a && b) ≡ true → b ≡ true
right_true true b h = h
right_true false b h = cc

not_true : (a : Bool) → not a ≡ true → a ≡ false
not_true true h = sym h
not_true false h = refl

no_slash : (b : ℕ) → is_name_byte b ≡ true → slash b ≡ false
no_slash b h = not_true (slash b) (right_true (nat_le b 126) (not (slash b)) (right_true (nat_le 33 b) _ h))

-- the pieces of what stands behind the first component
abbrev pub rest_pieces : List ℕ → List (List ℕ)
rest_pieces [] = []
rest_pieces (b ∷ bs) = pieces bs

pub pieces_split : (text : List ℕ) → pieces text ≡ take (position_or_len slash text) text ∷ rest_pieces (drop (position_or_len slash text) text)
pieces_split [] = refl
pieces_split (b ∷ bs) = by (slash b) (pieces_split bs)
  where
    by : (s : Bool) → pieces bs ≡ take (position_or_len slash bs) bs ∷ rest_pieces (drop (position_or_len slash bs) bs)
        → cond s ([] ∷ pieces bs) (grow b (pieces bs)) ≡ take (cond (not s) (1 + position_or_len slash bs) 0) (b ∷ bs) ∷ rest_pieces (drop (cond (not s) (1 + position_or_len slash bs) 0) (b ∷ bs))
    by true h = refl
    by false h = rw (h, one-add (position_or_len slash bs)) refl

pub slashed_rest : (text : List ℕ) → is_slashed (drop (position_or_len slash text) text) ≡ true
slashed_rest [] = refl
slashed_rest (b ∷ bs) = by (slash b) refl (slashed_rest bs)
  where
    by : (s : Bool) → slash b ≡ s → is_slashed (drop (position_or_len slash bs) bs) ≡ true → is_slashed (drop (cond (not s) (1 + position_or_len slash bs) 0) (b ∷ bs)) ≡ true
    by true e h = e
    by false e h = rw (one-add (position_or_len slash bs)) h

pub grown : (m s : List ℕ) (ps : List (List ℕ)) → list_all is_name_byte m ≡ true → pieces s ≡ [] ∷ ps → pieces (m ++ s) ≡ m ∷ ps
grown [] s ps all h = h
grown (b ∷ m) s ps all h = rw (no_slash b (left_true (is_name_byte b) _ all), grown m s ps (right_true (is_name_byte b) _ all) h) refl

pub pieces_spelled : (ns : List (List ℕ)) (s : List ℕ) (ps : List (List ℕ)) → list_all is_name ns ≡ true → pieces s ≡ [] ∷ ps → pieces (spelled ns ++ s) ≡ [] ∷ (ns ++ ps)
pieces_spelled [] s ps all h = h
pieces_spelled (n ∷ ns) s ps all h =
    let more : pieces (spelled ns ++ s) ≡ [] ∷ (ns ++ ps) = pieces_spelled ns s ps (right_true (is_name n) _ all) h in
    let whole : pieces (n ++ (spelled ns ++ s)) ≡ n ∷ (ns ++ ps) = grown n (spelled ns ++ s) (ns ++ ps) (name_bytes n (left_true (is_name n) _ all)) more in
    rw (append_assoc n (spelled ns) s, whole) refl

full_name : (n : List ℕ) → is_name n ≡ true → is_full n ≡ true
full_name [] h = h
full_name (b ∷ n) h = refl

pub full_names : (ns : List (List ℕ)) → list_all is_name ns ≡ true → filter is_full ns ≡ ns
full_names [] all = refl
full_names (n ∷ ns) all = rw (full_name n (left_true (is_name n) _ all), full_names ns (right_true (is_name n) _ all)) refl

append_none : {A : Type 0} (xs : List A) → xs ++ [] ≡ xs
append_none {A} [] = refl
append_none {A} (x ∷ xs) = ap (λ (z : List A). x ∷ z) (append_none xs)

pub names_spelled : (ns : List (List ℕ)) → list_all is_name ns ≡ true → names_in (spelled ns) ≡ ns
names_spelled ns all =
    let e : pieces (spelled ns ++ []) ≡ [] ∷ (ns ++ []) = pieces_spelled ns [] [] all refl in
    ap (filter is_full) (rw (append_none (spelled ns), append_none ns) at e) ∙ full_names ns all

pub names_of_text : (ns : List (List ℕ)) → list_all is_name ns ≡ true → names_in (path_text ns) ≡ ns
names_of_text [] all = refl
names_of_text (n ∷ ns) all = names_spelled (n ∷ ns) all

same_self : (xs : List ℕ) → bytes_eq xs xs ≡ true
same_self xs = (bytes_eq-Decides xs xs).1 refl

-- a path is read back from its text
pub path_of_text : (ns : List (List ℕ)) → is_path ns ≡ true → path_of (path_text ns) ≡ Some ns
path_of_text ns ok = rw (names_of_text ns (left_true (list_all is_name ns) _ ok), ok, same_self (path_text ns)) refl

-- a text that no path has
pub no_path : (text : List ℕ) → (is_path (names_in text) ≡ true → path_text (names_in text) ≡ text → ⊥) → path_of text ≡ None
no_path text none = by (is_path (names_in text)) (bytes_eq (path_text (names_in text)) text) (λ p q. none p ((bytes_eq-Decides (path_text (names_in text)) text).0 q))
  where
    by : (a b : Bool) → (a ≡ true → b ≡ true → ⊥) → cond (a && b) (Some (names_in text)) None ≡ None
    by true true h = absurd (h refl refl)
    by true false h = refl
    by false b h = refl

both : (a b : Bool) (ns : List (List ℕ)) → cond (a && b) (Some ns) None ≡ Some ns → (a && b) ≡ true
both true true ns h = refl
both true false ns h = cc
both false b ns h = cc

-- what a path's text says of its names
pub record IsTextOf (ns : List (List ℕ)) (text : List ℕ) : Type 0 where
  pub path : is_path ns ≡ true
  pub whole : path_text ns ≡ text

pub text_of : (text : List ℕ) → path_of text ≡ Some (names_in text) → IsTextOf (names_in text) text
text_of text h =
    let t : (is_path (names_in text) && bytes_eq (path_text (names_in text)) text) ≡ true = both (is_path (names_in text)) (bytes_eq (path_text (names_in text)) text) (names_in text) h in
    record {
      path = left_true (is_path (names_in text)) _ t;
      whole = (bytes_eq-Decides (path_text (names_in text)) text).0 (right_true (is_path (names_in text)) _ t);
    }

pub path_is : (text : List ℕ) → is_path (names_in text) ≡ true → path_text (names_in text) ≡ text → path_of text ≡ Some (names_in text)
path_is text p q = rw (p, (bytes_eq-Decides (path_text (names_in text)) text).1 q) refl

-- ---- the first component of names that are spelled out
length_of_first : (n : List ℕ) (ns : List (List ℕ)) → list_all is_name_byte n ≡ true → position_or_len slash (n ++ spelled ns) ≡ length n
length_of_first [] [] all = refl
length_of_first [] (m ∷ ns) all = refl
length_of_first (b ∷ n) ns all =
    rw (no_slash b (left_true (is_name_byte b) _ all), length_of_first n ns (right_true (is_name_byte b) _ all)) (one-add (length n))

pub record IsStep (rest after : List ℕ) (k : ℕ) : Type 0 where
  pub first : names_in rest ≡ take k after ∷ names_in (drop k after)
  pub name : is_name (take k after) ≡ true
  pub more : IsSpelled (drop k after)

pub spelled_is : (ns : List (List ℕ)) → list_all is_name ns ≡ true → IsSpelled (spelled ns)
spelled_is ns all = record {
  each = rw (names_spelled ns all) all;
  whole = ap spelled (names_spelled ns all);
}

pub stepped : (n : List ℕ) (ns : List (List ℕ)) (k : ℕ) → list_all is_name (n ∷ ns) ≡ true → k ≡ position_or_len slash (n ++ spelled ns) → IsStep (spelled (n ∷ ns)) (n ++ spelled ns) k
stepped n ns k all is =
    let named : is_name n ≡ true = left_true (is_name n) _ all in
    let others : list_all is_name ns ≡ true = right_true (is_name n) _ all in
    let at : k ≡ length n = is ∙ length_of_first n ns (name_bytes n named) in
    let front : take k (n ++ spelled ns) ≡ n = rw at (take-append_seam n (spelled ns)) in
    let back : drop k (n ++ spelled ns) ≡ spelled ns = rw at (drop-append_seam n (spelled ns)) in
    record {
      first = names_spelled (n ∷ ns) all ∙ sym (λ i. front i ∷ (ap names_in back ∙ names_spelled ns others) i);
      name = rw front named;
      more = rw back (spelled_is ns others);
    }

pub step_of : (rest after : List ℕ) (b k : ℕ) → IsSpelled rest → rest ≡ b ∷ after → k ≡ position_or_len slash after → IsStep rest after k
step_of rest after b k spells is at = by (names_in rest) spells.each (spells.whole ∙ is)
  where
    by : (ns : List (List ℕ)) → list_all is_name ns ≡ true → spelled ns ≡ b ∷ after → IsStep rest after k
    by [] all e = cc
    by (n ∷ ns) all e =
        let tail : n ++ spelled ns ≡ after = cc in
        let whole : spelled (n ∷ ns) ≡ rest = e ∙ sym is in
        subst (λ (z : List ℕ). IsStep z after k) whole (subst (λ (z : List ℕ). IsStep (spelled (n ∷ ns)) z k) tail (stepped n ns k all (at ∙ ap (position_or_len slash) (sym tail))))

pub step_from : (rest : List ℕ) → 0 < length rest → IsSpelled rest → IsStep rest (drop 1 rest) (position_or_len slash (drop 1 rest))
step_from [] some spells = absurd (omega arith)
step_from (b ∷ after) some spells = step_of (b ∷ after) after b (position_or_len slash after) spells refl refl

-- ---- a text that goes on behind whole names
pub record IsBehind (text rest : List ℕ) (ms : List (List ℕ)) : Type 0 where
  pub each : list_all is_name ms ≡ true
  pub whole : text ≡ spelled ms ++ rest
  pub slashed : is_slashed rest ≡ true

spelled_more : (ms : List (List ℕ)) (n rest : List ℕ) → spelled (ms ++ n ∷ []) ++ rest ≡ spelled ms ++ (47 ∷ (n ++ rest))
spelled_more [] n rest = ap (λ (z : List ℕ). (47 ∷ z) ++ rest) (append_none n)
spelled_more (m ∷ ms) n rest =
    append_assoc (47 ∷ m) (spelled (ms ++ n ∷ [])) rest ∙ ap (λ (z : List ℕ). (47 ∷ m) ++ z) (spelled_more ms n rest) ∙ sym (append_assoc (47 ∷ m) (spelled ms) (47 ∷ (n ++ rest)))

all_more : (ms : List (List ℕ)) (n : List ℕ) → list_all is_name ms ≡ true → is_name n ≡ true → list_all is_name (ms ++ n ∷ []) ≡ true
all_more [] n all named = rw named refl
all_more (m ∷ ms) n all named = rw (left_true (is_name m) _ all, all_more ms n (right_true (is_name m) _ all) named) refl

pub behind_more : (text rest : List ℕ) (ms : List (List ℕ)) → 0 < length rest → IsBehind text rest ms → is_name (first_component rest) ≡ true → IsBehind text (behind_component rest) (ms ++ first_component rest ∷ [])
behind_more text [] ms some h named = absurd (omega arith)
behind_more text (b ∷ after) ms some h named =
    let k = position_or_len slash after in
    let slash_there : b ≡ 47 = (Decides-eqb b 47).0 h.slashed in
    record {
      each = all_more ms (take k after) h.each named;
      whole = h.whole ∙ ap (λ (z : ℕ). spelled ms ++ z ∷ after) slash_there ∙ ap (λ (z : List ℕ). spelled ms ++ 47 ∷ z) (sym (take-append-drop k after)) ∙ sym (spelled_more ms (take k after) (drop k after));
      slashed = slashed_rest after;
    }

-- the pieces, where the next component is no name
pieces_behind : (ms : List (List ℕ)) (after : List ℕ) → list_all is_name ms ≡ true → pieces (spelled ms ++ 47 ∷ after) ≡ [] ∷ (ms ++ pieces after)
pieces_behind ms after all = pieces_spelled ms (47 ∷ after) (pieces after) all refl

not_all : (ms ps : List (List ℕ)) (c : List ℕ) → is_name c ≡ false → list_all is_name (ms ++ c ∷ ps) ≡ false
not_all [] ps c bad = rw bad refl
not_all (m ∷ ms) ps c bad = by (is_name m) (not_all ms ps c bad)
  where
    by : (a : Bool) → list_all is_name (ms ++ c ∷ ps) ≡ false → (a && list_all is_name (ms ++ c ∷ ps)) ≡ false
    by true h = h
    by false h = refl

all_while : (ms ps : List (List ℕ)) (c : List ℕ) → list_all is_name ms ≡ true → is_name c ≡ false → prefix_len is_name (ms ++ c ∷ ps) ≡ length ms
all_while [] ps c all bad = rw bad refl
all_while (m ∷ ms) ps c all bad = rw (left_true (is_name m) _ all, all_while ms ps c (right_true (is_name m) _ all) bad) (one-add (length ms))

pub record IsNone (text rest : List ℕ) : Type 0 where
  pub spells_not : IsSpelled text → ⊥
  pub place : component_place text ≡ length text - length rest + 1

pub behind_none : (text rest : List ℕ) (ms : List (List ℕ)) → 0 < length rest → IsBehind text rest ms → is_name (first_component rest) ≡ false → IsNone text rest
behind_none text [] ms some h bad = absurd (omega arith)
behind_none text (b ∷ after) ms some h bad =
    let k = position_or_len slash after in
    let c = take k after in
    let ps = rest_pieces (drop k after) in
    let slash_there : b ≡ 47 = (Decides-eqb b 47).0 h.slashed in
    let whole : text ≡ spelled ms ++ 47 ∷ after = h.whole ∙ ap (λ (z : ℕ). spelled ms ++ z ∷ after) slash_there in
    let cut : pieces text ≡ [] ∷ (ms ++ c ∷ ps) = ap pieces whole ∙ pieces_behind ms after h.each ∙ ap (λ (z : List (List ℕ)). [] ∷ (ms ++ z)) (pieces_split after) in
    let lengths : length text ≡ length (spelled ms) + length (b ∷ after) = ap length h.whole ∙ length-append (spelled ms) (b ∷ after) in
    record {
      spells_not = λ s. contrary ms ps c bad text cut s;
      place =
          let front : take_while is_name (drop 1 (pieces text)) ≡ ms = ap (λ (z : List (List ℕ)). take_while is_name (drop 1 z)) cut ∙ ap (λ (z : ℕ). take z (ms ++ c ∷ ps)) (all_while ms ps c h.each bad) ∙ take-append_seam ms (c ∷ ps) in
          ap (λ (z : List (List ℕ)). length (spelled z) + 1) front ∙ omega (arith, lengths);
    }
  where
    contrary : (ms ps : List (List ℕ)) (c : List ℕ) → is_name c ≡ false → (text : List ℕ) → pieces text ≡ [] ∷ (ms ++ c ∷ ps) → IsSpelled text → ⊥
    contrary ms ps c bad text cut s =
        let again : pieces (spelled (names_in text) ++ []) ≡ [] ∷ (names_in text ++ []) = pieces_spelled (names_in text) [] [] s.each refl in
        let mine : pieces text ≡ [] ∷ names_in text = ap pieces (sym (append_none (spelled (names_in text)) ∙ s.whole)) ∙ again ∙ ap (λ (z : List (List ℕ)). [] ∷ z) (append_none (names_in text)) in
        let same : names_in text ≡ ms ++ c ∷ ps = cc in
        let no : list_all is_name (names_in text) ≡ false = ap (list_all is_name) same ∙ not_all ms ps c bad in
        let yes : list_all is_name (names_in text) ≡ true = s.each in
        cc

pub all_read : (text : List ℕ) (ms : List (List ℕ)) → IsBehind text [] ms → IsSpelled text
all_read text ms h = subst IsSpelled (sym (h.whole ∙ append_none (spelled ms))) (spelled_is ms h.each)

-- ---- the three ends of the reading of a path
pub too_long : (text : List ℕ) → 4096 < length text → path_of text ≡ None
too_long text long = no_path text (λ p q. let le : length (path_text (names_in text)) ≤ 4096 = at_most (right_true (list_all is_name (names_in text)) _ p) in let same : length (path_text (names_in text)) ≡ length text = ap length q in absurd (omega arith))
  where
    at_most : {n : ℕ} → nat_le n 4096 ≡ true → n ≤ 4096
    at_most h = grind (arith, nat_tests)

slash_first : (ns : List (List ℕ)) → has_slash (path_text ns) ≡ true
slash_first [] = refl
slash_first (n ∷ ns) = refl

pub no_slash_first : (text : List ℕ) → has_slash text ≡ false → path_of text ≡ None
no_slash_first text h = no_path text (λ p q. let there : has_slash text ≡ true = ap has_slash (sym q) ∙ slash_first (names_in text) in cc)

pub root_alone : (text : List ℕ) → has_slash text ≡ true → length text ≡ 1 → path_of text ≡ Some (names_in text)
root_alone [] h l = cc
root_alone (b ∷ []) h l = let e : b ≡ 47 = (Decides-eqb b 47).0 h in subst (λ (z : ℕ). path_of (z ∷ []) ≡ Some (names_in (z ∷ []))) (sym e) refl
root_alone (b ∷ c ∷ bs) h l = absurd (omega arith)

path_text_full : (ns : List (List ℕ)) (text : List ℕ) → spelled ns ≡ text → 1 < length text → path_text ns ≡ text
path_text_full [] text e l = absurd (let z : length text ≡ 0 = ap length (sym e) in omega arith)
path_text_full (n ∷ ns) text e l = e

pub spells_path : (text : List ℕ) → 1 < length text → length text ≤ 4096 → IsSpelled text → path_of text ≡ Some (names_in text)
spells_path text l few s =
    let whole : path_text (names_in text) ≡ text = path_text_full (names_in text) text s.whole l in
    let fits : nat_le (length (path_text (names_in text))) 4096 ≡ true = let e : length (path_text (names_in text)) ≡ length text = ap length whole in grind (arith, nat_tests) in
    path_is text (rw (s.each, fits) refl) whole

spelled_full : (ns : List (List ℕ)) (text : List ℕ) → path_text ns ≡ text → 1 < length text → spelled ns ≡ text
spelled_full [] text e l = absurd (let z : length text ≡ 1 = ap length (sym e) in omega arith)
spelled_full (n ∷ ns) text e l = e

pub path_spells : (text : List ℕ) → 1 < length text → path_of text ≡ Some (names_in text) → IsSpelled text
path_spells text l h = let t = text_of text h in record { each = left_true (list_all is_name (names_in text)) _ t.path; whole = spelled_full (names_in text) text t.whole l }

none_or_some : (o : Option (List (List ℕ))) (ns : List (List ℕ)) (b : Bool) → o ≡ cond b (Some ns) None → (o ≡ Some ns → ⊥) → o ≡ None
none_or_some o ns true e h = absurd (h e)
none_or_some o ns false e h = e

pub spells_none : (text : List ℕ) → 1 < length text → (IsSpelled text → ⊥) → path_of text ≡ None
spells_none text l never = none_or_some (path_of text) (names_in text) _ refl (λ h. never (path_spells text l h))

pub no_bytes : (xs : List ℕ) → length xs ≡ 0 → xs ≡ []
no_bytes [] h = refl
no_bytes (x ∷ xs) h = absurd (omega arith)
