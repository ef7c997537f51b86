-- The update of an answer is ready to be made.
use Rattle.std.proofs.Common.{◌≡◌, ◌≢◌, ℕ, List, [], refl, sym, ap}
use Rattle.std.specs.Prelude.{Bool, true, false, not, ◌||◌, ◌==◌, is_some, IsTrue, IfSome}
use Rattle.std.specs.declared.option.Option.{Option}
use Rattle.std.specs.declared.option.Option.TheVariants.{None, Some}
use Rattle.std.specs.FinMap.{get, len}
use Rattle.std.proofs.lemmas.Bool.{eqb-false, or_parts}
use Rattle.ccfs_base.specs.Names.{is_name, is_path}
use Rattle.ccfs_base.specs.declared.replies.Reply.{Reply}
use Rattle.tree_model.specs.declared.rows.Update.{Update}
use Rattle.tree_model.specs.declared.rows.Update.TheVariants as update
use Rattle.tree_model.specs.Rows.{place_of, kind_of, is_dir_at, IsTree, IsDir, IsFile, IsEntry}
use Rattle.tree_model.specs.Entries.{entry}
use Rattle.tree_model.specs.Walk.{walk, parent_walk, front_of, last_of}
use Rattle.tree_model.specs.Tests.{is_above, is_empty_at}
use Rattle.tree_model.proofs.Found.{entry_stands, vacant_none}
use Rattle.tree_model.proofs.Fitting.{empty_from, clear_from}
use Rattle.tree_cuts.specs.Calls.{Sizes}
use Rattle.history_model.specs.State.{Now, Opened, is_open_on}
use Rattle.history_model.specs.Answers.{Answer, is_root, no_inode, make, unlink, rmdir, move_to, rename, stat, listing, at_path}
use Rattle.history_laws.proofs.Good.{Good, quiet, good_does, good_cond, good_refuses, good_row, good_place, IsRow, placed_row, walk_row, root_row, file_from, kind_same, not_both, no_some, not_false, parent_dir}
use Rattle.command_answers.specs.Viewing.{IsReady}
use Rattle.command_answers.proofs.Named.{path_last_named, not_root, place_named}

-- what is known of the update of an answer is known of the answer's own
pub ready_if : (P : Update → Type 0) (r : Reply) (o : Option Update) (g : Answer) → ◌≡◌ {A = Answer} (r, o) g → Good P g → IfSome o P
ready_if P r o g e good = by o (ap (λ (a : Answer). a.1) e)
  where
    by : (z : Option Update) → z ≡ g.1 → IfSome z P
    by None q = tt
    by (Some u) q = good u (sym q)

none_not : (x : ℕ) → None ≢ Some x
none_not x e = cc

module _ (sizes : Sizes) (n : Now) (tree : IsTree n.tree) (closed : n.handles ≡ []) where
  abbrev P : Update → Type 0
  P = IsReady n.tree

  shut : (x : ℕ) → is_open_on n.handles x ≡ false
  shut x = ap (λ (h : List Opened). is_open_on h x) closed

  pub make_ready : (s : ℕ) → get n.tree n.next ≡ None → (is_dir : Bool) (path : List (List ℕ)) → IsTrue (is_path path) → Good P (make sizes n s is_dir path)
  make_ready s fresh is_dir path is = good_refuses P (is_root path) _ _ (λ p. good_row P (parent_walk n.tree path) _ (λ d e.
      good_refuses P (is_some (entry n.tree d (last_of path))) _ _ (λ q. good_refuses P (no_inode sizes n s) _ _ (λ z.
      good_does P (update.Make d (last_of path) n.next is_dir) (record {
        fits = (parent_dir n.tree (walk n.tree (front_of path) 0) d e, vacant_none n.tree d (last_of path) (no_some (entry n.tree d (last_of path)) q), fresh);
        named = path_last_named path (not_root path p) is;
        none_stays = tt;
      })))))

  pub unlink_ready : (path : List (List ℕ)) → IsTrue (is_path path) → Good P (unlink sizes n path)
  unlink_ready path is = good_refuses P (is_root path) _ _ (λ p. good_row P (walk n.tree path 0) _ (λ x w.
      good_refuses P (is_dir_at n.tree x) _ _ (λ b.
      let f : IsFile n.tree x = file_from (kind_of n.tree x) (walk_row n.tree path 0 x (root_row n.tree tree) w) b in
      good_place P (place_of n.tree x) _ (λ d name e.
      good_does P (update.Remove d name x (is_open_on n.handles x)) (record {
        fits = (e, λ k. absurd (not_both n.tree x f k));
        named = place_named n.tree path (not_root path p) is x d name w e;
        none_stays = shut x;
      })))))

  pub rmdir_ready : (path : List (List ℕ)) → IsTrue (is_path path) → Good P (rmdir sizes n path)
  rmdir_ready path is = good_refuses P (is_root path) _ _ (λ p. good_row P (walk n.tree path 0) _ (λ x w.
      good_refuses P (not (is_dir_at n.tree x)) _ _ (λ q. good_refuses P (not (is_empty_at n.tree x)) _ _ (λ z.
      good_place P (place_of n.tree x) _ (λ d name e.
      good_does P (update.Remove d name x false) (record {
        fits = (e, λ k. (empty_from n.tree tree x (not_false (is_empty_at n.tree x) z), refl));
        named = place_named n.tree path (not_root path p) is x d name w e;
        none_stays = refl;
      }))))))

  -- the row x stands where its path leads, and comes to an entry of d
  to_onto : (x d : ℕ) (name : List ℕ) (o : Option ℕ) → IsRow n.tree x → IsDir n.tree d → is_above (len n.tree) n.tree x (Some d) ≡ false → is_name name ≡ true
      → ((k : ℕ) (m : List ℕ) → place_of n.tree x ≡ Some (k, m) → is_name m ≡ true) → entry n.tree d name ≡ o → Good P (move_to sizes n x d name o)
  to_onto x d name None row dir above named own e = good_place P (place_of n.tree x) _ (λ k m q.
      good_does P (update.Move k m d name x (is_dir_at n.tree x) None false) (record {
        fits = (q, kind_same (kind_of n.tree x) row, dir, none_not x, vacant_none n.tree d name e, clear_from n.tree tree x d dir above);
        named = (own k m q, named);
        none_stays = refl;
      }))
  to_onto x d name (Some y) row dir above named own e = good_cond P (y == x) _ _ (λ p. quiet P) (λ p.
      good_refuses P (is_dir_at n.tree x || is_dir_at n.tree y) _ _ (λ z. good_place P (place_of n.tree x) _ (λ k m q.
      let both = or_parts (is_dir_at n.tree x) (is_dir_at n.tree y) z in
      let there : IsEntry n.tree d name y = entry_stands n.tree d name y e in
      good_does P (update.Move k m d name x false (Some y) (is_open_on n.handles y)) (record {
        fits = (
          q,
          file_from (kind_of n.tree x) row both.0,
          dir,
          (λ same. eqb-false y x p (let w : y ≡ x = cc in w)),
          (there, file_from (kind_of n.tree y) (placed_row n.tree y d name there) both.1, refl),
          clear_from n.tree tree x d dir above,
        );
        named = (own k m q, named);
        none_stays = shut y;
      }))))

  pub rename_ready : (path to : List (List ℕ)) → IsTrue (is_path path) → IsTrue (is_path to) → Good P (rename sizes n path to)
  rename_ready path to is on = good_refuses P (is_root path || is_root to) _ _ (λ p.
      let both = or_parts (is_root path) (is_root to) p in
      good_row P (walk n.tree path 0) _ (λ x w. good_row P (parent_walk n.tree to) _ (λ d e.
      good_refuses P (is_above (len n.tree) n.tree x (Some d)) _ _ (λ q.
      to_onto x d (last_of to) (entry n.tree d (last_of to)) (walk_row n.tree path 0 x (root_row n.tree tree) w) (parent_dir n.tree (walk n.tree (front_of to) 0) d e) q
      (path_last_named to (not_root to both.1) on) (λ k m at. place_named n.tree path (not_root path both.0) is x k m w at) refl))))

-- ---- those that only tell
module _ (P : Update → Type 0) (sizes : Sizes) (n : Now) where
  pub stat_ready : (path : List (List ℕ)) → Good P (at_path n.tree path (stat sizes n))
  stat_ready path = good_row P (walk n.tree path 0) _ (λ x w. good_cond P (is_dir_at n.tree x) _ _ (λ p. quiet P) (λ p. quiet P))

  pub list_ready : (skip : ℕ) (path : List (List ℕ)) → Good P (at_path n.tree path (listing sizes n skip))
  list_ready skip path = good_row P (walk n.tree path 0) _ (λ x w. good_refuses P (not (is_dir_at n.tree x)) _ _ (λ p. quiet P))
