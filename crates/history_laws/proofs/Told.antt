-- What is known of the update of an answer: it applies, there is room for it, and it treats serials and open files well.
use Rattle.std.proofs.Common.{◌≡◌, ◌≢◌, inl, inr, ℕ, ◌+◌, ◌≤◌, List, length, refl, arith, ltb}
use Rattle.std.specs.Prelude.{Bool, true, false, not, ◌&&◌, ◌||◌, ◌==◌, is_none, is_some, IsTrue}
use Rattle.std.specs.declared.option.Option.{Option}
use Rattle.std.specs.declared.option.Option.TheVariants.{None, Some}
use Rattle.std.specs.FinMap.{len}
use Rattle.std.proofs.lemmas.Bool.{leb-true, ltb-false, eqb-false, or_parts, and_parts}
use Rattle.ccfs_base.specs.Limits.{file_max}
use Rattle.ccfs_base.specs.Fits.{fits_command}
use Rattle.ccfs_base.specs.declared.commands.Command.{Command}
use Rattle.ccfs_base.specs.declared.commands.Command.TheVariants as command
use Rattle.tree_model.specs.declared.rows.Update.{Update}
use Rattle.tree_model.specs.declared.rows.Update.TheVariants as update
use Rattle.tree_model.specs.Rows.{place_of, kind_of, is_dir_at, IsDir, IsFile, IsEntry}
use Rattle.tree_model.specs.Entries.{entry}
use Rattle.tree_model.specs.Walk.{walk, parent_walk, front_of, last_of}
use Rattle.tree_model.specs.Tests.{is_above, is_empty_at, is_file_at}
use Rattle.tree_model.specs.Weights.{length_at}
use Rattle.tree_model.proofs.Found.{entry_stands, vacant_none}
use Rattle.tree_model.proofs.Fitting.{empty_from, clear_from}
use Rattle.tree_cuts.specs.Calls.{Sizes}
use Rattle.history_model.specs.State.{Now, Opened, stream_in, ignores_in, file_in, is_open_on, closed, lowest_free}
use Rattle.history_model.specs.Answers.{Answer, at_path, at_parent, is_root, larger, need, free_for, no_inode, with_space, make, write, resize, read, unlink, rmdir, move_to, rename, open_file, close, stat, listing, fsync, answer}
use Rattle.history_laws.proofs.Good.{Good, quiet, good_does, good_cond, good_refuses, good_row, good_place, good_handle, good_given, IsRow, placed_row, some_row, walk_row, root_row, file_from, dir_from, kind_same, just_file, not_both, no_some, is_nothing, not_false, not_true, not_nil, handle_file, parent_dir}
use Rattle.history_laws.proofs.Sound.{IsSound, handles_left, Told}

module _ (sizes : Sizes) (n : Now) (sound : IsSound n) (s : ℕ) (hs : List Opened) where
  abbrev P : Update → Type 0
  P = Told sizes n s hs

  to_path : (path : List (List ℕ)) (f : ℕ → Answer) → ((x : ℕ) → IsRow n.tree x → Good P (f x)) → Good P (at_path n.tree path f)
  to_path path f g = good_row P (walk n.tree path 0) f (λ x e. g x (walk_row n.tree path 0 x (root_row n.tree sound.tree) e))

  to_parent : (path : List (List ℕ)) (f : ℕ → Answer) → ((d : ℕ) → IsDir n.tree d → Good P (f d)) → Good P (at_parent n.tree path f)
  to_parent path f g = good_row P (parent_walk n.tree path) f (λ d e. g d (parent_dir n.tree (walk n.tree (front_of path) 0) d e))

  to_make : (is_dir : Bool) (path : List (List ℕ)) → Good P (make sizes n s is_dir path)
  to_make is_dir path = good_refuses P (is_root path) _ _ (λ p. to_parent path _ (λ d dir.
      good_refuses P (is_some (entry n.tree d (last_of path))) _ _ (λ q. good_refuses P (no_inode sizes n s) _ _ (λ z.
      good_does P (update.Make d (last_of path) n.next is_dir)
      ((dir, vacant_none n.tree d (last_of path) (no_some (entry n.tree d (last_of path)) q), sound.new n.next (omega arith)), refl, z)))))

  to_space : (x size : ℕ) (u : Update) → (ltb (free_for sizes n s) (need sizes n x size) ≡ false → P u) → Good P (with_space sizes n s x size u)
  to_space x size u f = good_refuses P (ltb (free_for sizes n s) (need sizes n x size)) _ _ (λ p. good_does P u (f p))

  to_write : (off : ℕ) (bytes : List ℕ) → length bytes ≤ 65536 → (x : ℕ) → IsRow n.tree x → Good P (write sizes n s off bytes x)
  to_write off bytes short x row = good_refuses P (is_dir_at n.tree x) _ _ (λ d. let f : IsFile n.tree x = file_from (kind_of n.tree x) row d in
      good_cond P (length bytes == 0) _ _ (λ p. quiet P) (λ p. good_refuses P (ltb file_max (off + length bytes)) _ _ (λ q.
      to_space x (larger (length_at n.tree x) (off + length bytes)) (update.Write x off bytes) (λ r. ((f, not_nil bytes p, ltb-false file_max (off + length bytes) q), short, r)))))

  to_resize : (size x : ℕ) → IsRow n.tree x → Good P (resize sizes n s size x)
  to_resize size x row = good_refuses P (is_dir_at n.tree x) _ _ (λ d. let f : IsFile n.tree x = file_from (kind_of n.tree x) row d in
      good_refuses P (ltb file_max size) _ _ (λ q. good_cond P (size == length_at n.tree x) _ _ (λ z. quiet P) (λ z.
      to_space x size (update.Resize x size) (λ r. ((f, ltb-false file_max size q), r)))))

  to_read : (off size x : ℕ) → Good P (read sizes n off size x)
  to_read off size x = good_refuses P (is_dir_at n.tree x) _ _ (λ p. quiet P)

  to_rmdir : (path : List (List ℕ)) → Good P (rmdir sizes n path)
  to_rmdir path = good_refuses P (is_root path) _ _ (λ p. to_path path _ (λ x row.
      good_refuses P (not (is_dir_at n.tree x)) _ _ (λ q. good_refuses P (not (is_empty_at n.tree x)) _ _ (λ z.
      good_place P (place_of n.tree x) _ (λ d name e. good_does P (update.Remove d name x false)
      ((e, λ k. (empty_from n.tree sound.tree x (not_false (is_empty_at n.tree x) z), refl)), inr (dir_from (kind_of n.tree x) (not_false (is_dir_at n.tree x) q))))))))

  to_open : (actor x : ℕ) → Good P (open_file sizes n actor x)
  to_open actor x = good_refuses P (is_dir_at n.tree x) _ _ (λ p. good_given sizes P (lowest_free n.handles actor 0 16))

  to_stat : (x : ℕ) → Good P (stat sizes n x)
  to_stat x = good_cond P (is_dir_at n.tree x) _ _ (λ p. quiet P) (λ p. quiet P)

  to_list : (skip x : ℕ) → Good P (listing sizes n skip x)
  to_list skip x = good_refuses P (not (is_dir_at n.tree x)) _ _ (λ p. quiet P)

  to_fsync : (actor x : ℕ) → Good P (fsync sizes n actor x)
  to_fsync actor x = good_cond P (ignores_in n.choices actor) _ _ (λ p. quiet P) (λ p. quiet P)

  open_row : (actor handle x : ℕ) → file_in n.handles actor handle ≡ Some x → IsRow n.tree x
  open_row actor handle x e = some_row n.tree x false (handle_file n.tree n.handles actor handle x sound.files e)

-- ---- those that look at open handles
module _ (sizes : Sizes) (n : Now) (sound : IsSound n) (s : ℕ) where
  abbrev Q : Update → Type 0
  Q = Told sizes n s n.handles

  to_unlink : (path : List (List ℕ)) → Good Q (unlink sizes n path)
  to_unlink path = good_refuses Q (is_root path) _ _ (λ p. to_path sizes n sound s n.handles path _ (λ x row.
      good_refuses Q (is_dir_at n.tree x) _ _ (λ b. let f : IsFile n.tree x = file_from (kind_of n.tree x) row b in good_place Q (place_of n.tree x) _ (λ d name e.
      good_does Q (update.Remove d name x (is_open_on n.handles x)) ((e, λ k. absurd (not_both n.tree x f k)), inl refl)))))

  none_not : (x : ℕ) → None ≢ Some x
  none_not x e = cc

  to_onto : (x d : ℕ) (name : List ℕ) (o : Option ℕ) → IsRow n.tree x → IsDir n.tree d → is_above (len n.tree) n.tree x (Some d) ≡ false
      → entry n.tree d name ≡ o → Good Q (move_to sizes n x d name o)
  to_onto x d name None row dir above e = good_place Q (place_of n.tree x) _ (λ p m q.
      good_does Q (update.Move p m d name x (is_dir_at n.tree x) None false)
      ((q, kind_same (kind_of n.tree x) row, dir, none_not x, vacant_none n.tree d name e, clear_from n.tree sound.tree x d dir above), tt))
  to_onto x d name (Some y) row dir above e = good_cond Q (y == x) _ _ (λ p. quiet Q) (λ p.
      good_refuses Q (is_dir_at n.tree x || is_dir_at n.tree y) _ _ (λ z. good_place Q (place_of n.tree x) _ (λ k m q.
      let both = or_parts (is_dir_at n.tree x) (is_dir_at n.tree y) z in
      let there : IsEntry n.tree d name y = entry_stands n.tree d name y e in
      good_does Q (update.Move k m d name x false (Some y) (is_open_on n.handles y)) (
        (
          q,
          file_from (kind_of n.tree x) row both.0,
          dir,
          (λ same. eqb-false y x p (let w : y ≡ x = cc in w)),
          (there, file_from (kind_of n.tree y) (placed_row n.tree y d name there) both.1, refl),
          clear_from n.tree sound.tree x d dir above,
        ),
        refl,
      ))))

  to_rename : (path to : List (List ℕ)) → Good Q (rename sizes n path to)
  to_rename path to = good_refuses Q (is_root path || is_root to) _ _ (λ p. to_path sizes n sound s n.handles path _ (λ x row.
      to_parent sizes n sound s n.handles to _ (λ d dir. good_refuses Q (is_above (len n.tree) n.tree x (Some d)) _ _ (λ q.
      to_onto x d (last_of to) (entry n.tree d (last_of to)) row dir q refl))))

  to_close : (actor handle x : ℕ) → Good (Told sizes n s (closed n.handles actor handle)) (close sizes n actor handle x)
  to_close actor handle x =
      let still = is_open_on (closed n.handles actor handle) x in
      good_cond (Told sizes n s (closed n.handles actor handle)) (is_file_at n.tree x && (is_none (place_of n.tree x) && not still)) _ _
      (λ p. (let a = and_parts (is_file_at n.tree x) (is_none (place_of n.tree x) && not still) p in
      let b = and_parts (is_none (place_of n.tree x)) (not still) a.1 in
      good_does (Told sizes n s (closed n.handles actor handle)) (update.Release x)
      ((just_file (kind_of n.tree x) a.0, is_nothing (place_of n.tree x) b.0), not_true still b.1)))
      (λ p. quiet (Told sizes n s (closed n.handles actor handle)))

module _ (sizes : Sizes) (n : Now) (sound : IsSound n) where
  pub told : (actor : ℕ) (c : Command) → IsTrue (fits_command c) → Good (Told sizes n (stream_in n.choices actor) (handles_left n actor c)) (answer sizes n actor c)
  told a (command.Mkdir path) f = to_make sizes n sound (stream_in n.choices a) n.handles true path
  told a (command.Create path) f = to_make sizes n sound (stream_in n.choices a) n.handles false path
  told a (command.Write path off bytes) f = to_path sizes n sound (stream_in n.choices a) n.handles path _ (to_write sizes n sound (stream_in n.choices a) n.handles off bytes (leb-true (length bytes) 65536 f))
  told a (command.Resize path size) f = to_path sizes n sound (stream_in n.choices a) n.handles path _ (to_resize sizes n sound (stream_in n.choices a) n.handles size)
  told a (command.Read path off size) f = to_path sizes n sound (stream_in n.choices a) n.handles path _ (λ x row. to_read sizes n sound (stream_in n.choices a) n.handles off size x)
  told a (command.Unlink path) f = to_unlink sizes n sound (stream_in n.choices a) path
  told a (command.Rmdir path) f = to_rmdir sizes n sound (stream_in n.choices a) n.handles path
  told a (command.Rename path to) f = to_rename sizes n sound (stream_in n.choices a) path to
  told a (command.OpenFile path) f = to_path sizes n sound (stream_in n.choices a) n.handles path _ (λ x row. to_open sizes n sound (stream_in n.choices a) n.handles a x)
  told a (command.HWrite handle off bytes) f = good_handle _ (file_in n.handles a handle) _ (λ x e. to_write sizes n sound (stream_in n.choices a) n.handles off bytes (leb-true (length bytes) 65536 f) x (open_row sizes n sound (stream_in n.choices a) n.handles a handle x e))
  told a (command.HRead handle off size) f = good_handle _ (file_in n.handles a handle) _ (λ x e. to_read sizes n sound (stream_in n.choices a) n.handles off size x)
  told a (command.Close handle) f = good_handle _ (file_in n.handles a handle) _ (λ x e. to_close sizes n sound (stream_in n.choices a) a handle x)
  told a (command.Stat path) f = to_path sizes n sound (stream_in n.choices a) n.handles path _ (λ x row. to_stat sizes n sound (stream_in n.choices a) n.handles x)
  told a (command.List path skip) f = to_path sizes n sound (stream_in n.choices a) n.handles path _ (λ x row. to_list sizes n sound (stream_in n.choices a) n.handles skip x)
  told a command.Space f = quiet _
  told a (command.SetStream stream ignore) f = quiet _
  told a command.StreamSync f = quiet _
  told a (command.Fsync handle) f = good_handle _ (file_in n.handles a handle) _ (λ x e. to_fsync sizes n sound (stream_in n.choices a) n.handles a x)
  told a command.Sync f = quiet _
  told a command.Flush f = quiet _
