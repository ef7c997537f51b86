-- What a state lets a view see, and which updates are answered from it.
use Rattle.std.proofs.Common.{◌≡◌, ℕ, ◌+◌, ◌^◌, ◌<◌, ◌≤◌, List, length, refl, sym, ap, subst, arith}
use Rattle.std.specs.Prelude.{Bool, true, false, cond, not, ◌||◌, ◌==◌, Option, None, Some, is_some, slice_index, map, take, drop}
use Rattle.std.specs.declared.result.Result.{Result}
use Rattle.std.specs.declared.result.Result.TheVariants.{Ok, Err}
use Rattle.std.specs.FinMap.{get, len}
use Rattle.ccfs_base.specs.Limits.{file_max, blocks, transaction_limit}
use Rattle.ccfs_base.specs.declared.commands.Command.{Command}
use Rattle.ccfs_base.specs.declared.commands.Command.TheVariants as commands
use Rattle.ccfs_base.specs.declared.replies.Refusal.{Refusal}
use Rattle.ccfs_base.specs.declared.replies.Refusal.TheVariants as refusal
use Rattle.ccfs_base.specs.declared.replies.Reply.TheVariants as replies
use Rattle.stream_txn.specs.Accounts.{account_at}
use Rattle.tree_model.specs.declared.rows.Body.{Body}
use Rattle.tree_model.specs.declared.rows.Body.TheVariants.{Dir, File}
use Rattle.tree_model.specs.declared.rows.Row.{Row}
use Rattle.tree_model.specs.declared.rows.Update.{Update}
use Rattle.tree_model.specs.declared.rows.Update.TheVariants.{Make, Write, Resize, Remove, Move, Release}
use Rattle.tree_model.specs.declared.rows.Entry.{Entry}
use Rattle.tree_model.specs.Rows.{Rows, place_of, is_dir_at}
use Rattle.tree_model.specs.Entries.{entry, children}
use Rattle.tree_model.specs.Tests.{is_above, is_empty_at}
use Rattle.tree_model.specs.Walk.{walk, parent_walk, last_of}
use Rattle.tree_model.specs.Weights.{row_bytes, length_at}
use Rattle.tree_cuts.specs.Calls.{Sizes}
use Rattle.history_model.specs.State.{Now, stream_in, is_open_on}
use Rattle.history_model.specs.Answers.{Answer, answer, refuses, from_row, at_place, tells, does, is_root, row_changes, no_inode, move_to, make, unlink, rmdir, rename, stat, listing}
use Rattle.carried_volumes.specs.Plain.{IsPlain, IsBareBody}
use Rattle.update_records.specs.Built.{is_built}
use Rattle.command_answers.specs.Viewing.{FilesFit, IsReady, is_viewed}
use Rattle.front_laws.specs.Kept.{now_of}
use Rattle.front_laws.specs.Laws.{IsKeptNow}
use Rattle.front_core.specs.Left.{IsStateOf}
use Rattle.front_core.specs.declared.state.State.{State}
use Rattle.front_core.proofs.Laws.{kept_states}
use Rattle.front_core.proofs.Told.{weight_told}

-- ---- files

bare_fits : (b : Body) → IsBareBody b → length (Rattle.tree_model.specs.Weights.body_bytes b) ≤ file_max
bare_fits (Dir changes) p = (let none : length (Rattle.tree_model.specs.Weights.body_bytes (Dir changes)) ≡ 0 = refl in omega (arith, none))
bare_fits (File bytes) p = (let none : length bytes ≡ 0 = ap length p in omega (arith, none))

pub files_fit : (t : Rows) → IsPlain t → FilesFit t
files_fit t plain x = by (get t x) refl
  where
    by : (o : Option Row) → get t x ≡ o → length (row_bytes (get t x)) ≤ file_max
    by None is = subst (λ z. length (row_bytes z) ≤ file_max) (sym is) (let none : length (row_bytes None) ≡ 0 = refl in omega (arith, none))
    by (Some r) is = subst (λ z. length (row_bytes z) ≤ file_max) (sym is) (bare_fits r.body (plain.bare x r is))

-- ---- bounds

module _ (sizes : Sizes) (t : Rows) (h : List Entry) (s : State) (st : IsStateOf sizes t h s) where
  pub known : IsKeptNow sizes s.inodes.items (length h) (now_of sizes t h)
  known = kept_states sizes t s.inodes.items h st.kept

  pub stream_is : (actor : ℕ) → actor < 64 → slice_index s.streams actor ≡ stream_in (now_of sizes t h).choices actor
  stream_is actor l = st.left.streams actor l

  pub stream_below : (actor : ℕ) → actor < 64 → slice_index s.streams actor < 64
  stream_below actor l = subst (λ z. z < 64) (sym (stream_is actor l)) (known.streams actor)

  pub weight_below : (stream : ℕ) → (account_at s.pending.txns.accounts stream).weight ≤ transaction_limit
  weight_below stream = subst (λ z. z ≤ transaction_limit) (sym (weight_told s.pending.txns s.inodes.items (now_of sizes t h).unsealed stream st.left.pending.txns)) (known.weigh stream)

  pub seals_below : s.pending.txns.seals + 65 < 2 ^ 64
  seals_below = (let a = st.left.seals in let b = known.seals in let d = st.few in omega (arith, a, b, d))

-- ---- updates

-- an update that commands on names may make, or none
abbrev IsNaming : Option Update → Type 0
IsNaming None = Unit {0}
IsNaming (Some (Make dir name id d)) = Unit {0}
IsNaming (Some (Write id off bytes)) = ⊥
IsNaming (Some (Resize id len)) = ⊥
IsNaming (Some (Remove dir name id stays)) = Unit {0}
IsNaming (Some (Move dir name to_dir to_name id d replaced stays)) = Unit {0}
IsNaming (Some (Release id)) = ⊥

naming_refuses : (b : Bool) (cause : Refusal) (a : Answer) → IsNaming a.1 → IsNaming (refuses b cause a).1
naming_refuses true cause a p = tt
naming_refuses false cause a p = p

naming_row : (r : Result ℕ Refusal) (f : ℕ → Answer) → ((x : ℕ) → IsNaming (f x).1) → IsNaming (from_row r f).1
naming_row (Ok x) f p = p x
naming_row (Err cause) f p = tt

naming_place : (o : Option (ℕ × List ℕ)) (f : ℕ → List ℕ → Answer) → ((d : ℕ) (n : List ℕ) → IsNaming (f d n).1) → IsNaming (at_place o f).1
naming_place (Some p) f g = g p.0 p.1
naming_place None f g = tt

naming_cond : (b : Bool) (x y : Answer) → IsNaming x.1 → IsNaming y.1 → IsNaming (cond b x y).1
naming_cond true x y p q = p
naming_cond false x y p q = q

module _ (sizes : Sizes) (n : Now) where
  naming_make : (s : ℕ) (d : Bool) (path : List (List ℕ)) → IsNaming (make sizes n s d path).1
  naming_make s d path =
      let last : ℕ → Answer = λ x. refuses (no_inode sizes n s) refusal.NoInode (does (Make x (last_of path) n.next d)) in
      let inner : ℕ → Answer = λ x. refuses (is_some (entry n.tree x (last_of path))) refusal.Exists (last x) in
      naming_refuses (is_root path) refusal.Exists (from_row (parent_walk n.tree path) inner)
      (naming_row (parent_walk n.tree path) inner (λ x.
      naming_refuses (is_some (entry n.tree x (last_of path))) refusal.Exists (last x) (naming_refuses (no_inode sizes n s) refusal.NoInode (does (Make x (last_of path) n.next d)) tt)))

  naming_unlink : (path : List (List ℕ)) → IsNaming (unlink sizes n path).1
  naming_unlink path =
      let last : ℕ → ℕ → List ℕ → Answer = λ x d m. does (Remove d m x (is_open_on n.handles x)) in
      let inner : ℕ → Answer = λ x. refuses (is_dir_at n.tree x) refusal.IsDir (at_place (place_of n.tree x) (last x)) in
      naming_refuses (is_root path) refusal.Root (from_row (walk n.tree path 0) inner)
      (naming_row (walk n.tree path 0) inner (λ x. naming_refuses (is_dir_at n.tree x) refusal.IsDir (at_place (place_of n.tree x) (last x)) (naming_place (place_of n.tree x) (last x) (λ d m. tt))))

  naming_rmdir : (path : List (List ℕ)) → IsNaming (rmdir sizes n path).1
  naming_rmdir path =
      let last : ℕ → ℕ → List ℕ → Answer = λ x d m. does (Remove d m x false) in
      let mid : ℕ → Answer = λ x. refuses (not (is_empty_at n.tree x)) refusal.NotEmpty (at_place (place_of n.tree x) (last x)) in
      let inner : ℕ → Answer = λ x. refuses (not (is_dir_at n.tree x)) refusal.NotDir (mid x) in
      naming_refuses (is_root path) refusal.Root (from_row (walk n.tree path 0) inner)
      (naming_row (walk n.tree path 0) inner (λ x. naming_refuses (not (is_dir_at n.tree x)) refusal.NotDir (mid x)
      (naming_refuses (not (is_empty_at n.tree x)) refusal.NotEmpty (at_place (place_of n.tree x) (last x)) (naming_place (place_of n.tree x) (last x) (λ d m. tt)))))

  naming_move : (x to_dir : ℕ) (to_name : List ℕ) (o : Option ℕ) → IsNaming (move_to sizes n x to_dir to_name o).1
  naming_move x to_dir to_name None =
      let last : ℕ → List ℕ → Answer = λ d m. does (Move d m to_dir to_name x (is_dir_at n.tree x) None false) in
      naming_place (place_of n.tree x) last (λ d m. tt)
  naming_move x to_dir to_name (Some y) =
      let last : ℕ → List ℕ → Answer = λ d m. does (Move d m to_dir to_name x false (Some y) (is_open_on n.handles y)) in
      let inner : Answer = refuses (is_dir_at n.tree x || is_dir_at n.tree y) refusal.Exists (at_place (place_of n.tree x) last) in
      naming_cond (y == x) (tells replies.Done) inner tt
      (naming_refuses (is_dir_at n.tree x || is_dir_at n.tree y) refusal.Exists (at_place (place_of n.tree x) last) (naming_place (place_of n.tree x) last (λ d m. tt)))

  naming_rename : (path to : List (List ℕ)) → IsNaming (rename sizes n path to).1
  naming_rename path to =
      let last : ℕ → ℕ → Answer = λ x d. move_to sizes n x d (last_of to) (entry n.tree d (last_of to)) in
      let mid : ℕ → ℕ → Answer = λ x d. refuses (is_above (len n.tree) n.tree x (Some d)) refusal.Loop (last x d) in
      let inner : ℕ → Answer = λ x. from_row (parent_walk n.tree to) (mid x) in
      naming_refuses (is_root path || is_root to) refusal.Root (from_row (walk n.tree path 0) inner)
      (naming_row (walk n.tree path 0) inner (λ x. naming_row (parent_walk n.tree to) (mid x) (λ d.
      naming_refuses (is_above (len n.tree) n.tree x (Some d)) refusal.Loop (last x d) (naming_move x d (last_of to) (entry n.tree d (last_of to))))))

  naming_stat : (path : List (List ℕ)) → IsNaming (from_row (walk n.tree path 0) (stat sizes n)).1
  naming_stat path = naming_row (walk n.tree path 0) (stat sizes n) (λ x. naming_cond (is_dir_at n.tree x)
      (tells (replies.StatDir (length (children n.tree x)) (row_changes (get n.tree x)))) (tells (replies.StatFile (length_at n.tree x) (blocks (length_at n.tree x)))) tt tt)

  naming_list : (path : List (List ℕ)) (skip : ℕ) → IsNaming (from_row (walk n.tree path 0) (listing sizes n skip)).1
  naming_list path skip = naming_row (walk n.tree path 0) (listing sizes n skip) (λ x. by x (is_dir_at n.tree x))
    where
      by : (x : ℕ) (b : Bool) → IsNaming (refuses (not b) refusal.NotDir (tells (replies.Listed (length (children n.tree x)) (map (λ e. (e.0, is_dir_at n.tree e.1)) (take 64 (drop skip (children n.tree x))))))).1
      by x true = tt
      by x false = tt

pub naming : (sizes : Sizes) (n : Now) (actor : ℕ) (c : Command) → is_viewed c ≡ true → IsNaming (answer sizes n actor c).1
naming sizes n actor (commands.Mkdir path) v = naming_make sizes n (stream_in n.choices actor) true path
naming sizes n actor (commands.Create path) v = naming_make sizes n (stream_in n.choices actor) false path
naming sizes n actor (commands.Unlink path) v = naming_unlink sizes n path
naming sizes n actor (commands.Rmdir path) v = naming_rmdir sizes n path
naming sizes n actor (commands.Rename path to) v = naming_rename sizes n path to
naming sizes n actor (commands.Stat path) v = naming_stat sizes n path
naming sizes n actor (commands.List path skip) v = naming_list sizes n path skip
naming sizes n actor (commands.Write path off bytes) v = absurd (cc)
naming sizes n actor (commands.Resize path size) v = absurd (cc)
naming sizes n actor (commands.Read path off size) v = absurd (cc)
naming sizes n actor (commands.OpenFile path) v = absurd (cc)
naming sizes n actor (commands.HWrite handle off bytes) v = absurd (cc)
naming sizes n actor (commands.HRead handle off size) v = absurd (cc)
naming sizes n actor (commands.Close handle) v = absurd (cc)
naming sizes n actor commands.Space v = absurd (cc)
naming sizes n actor (commands.SetStream stream ignore) v = absurd (cc)
naming sizes n actor commands.StreamSync v = absurd (cc)
naming sizes n actor (commands.Fsync handle) v = absurd (cc)
naming sizes n actor commands.Sync v = absurd (cc)
naming sizes n actor commands.Flush v = absurd (cc)

ready_built : (t : Rows) (u : Update) → IsNaming (Some u) → IsReady t u → is_built u ≡ true
ready_built t (Make dir name id d) p r = refl
ready_built t (Write id off bytes) p r = absurd p
ready_built t (Resize id len) p r = absurd p
ready_built t (Remove dir name id stays) p r = ap not r.none_stays
ready_built t (Move dir name to_dir to_name id d replaced stays) p r = ap not r.none_stays
ready_built t (Release id) p r = absurd p

-- the update of an answer to a command on names is built
pub answered_built : (sizes : Sizes) (n : Now) (actor : ℕ) (c : Command) (u : Update) → is_viewed c ≡ true → (answer sizes n actor c).1 ≡ Some u → IsReady n.tree u → is_built u ≡ true
answered_built sizes n actor c u v is ready = ready_built n.tree u (subst IsNaming is (naming sizes n actor c v)) ready
