-- What each command answers, from what the calls before it left.
use Rattle.std.specs.Prelude.{ℕ, suc, ◌+◌, ◌-◌, Bool, true, false, cond, not, ◌&&◌, ◌||◌, ◌==◌, nat_lt, nat_le, List, [], ◌∷◌, length, take, drop, map, is_some, is_none}
use Rattle.std.specs.declared.option.Option.{Option}
use Rattle.std.specs.declared.option.Option.TheVariants.{None, Some}
use Rattle.std.specs.declared.result.Result.{Result}
use Rattle.std.specs.declared.result.Result.TheVariants.{Ok, Err}
use Rattle.std.specs.FinMap.{get, len}
use Rattle.stream_cuts.specs.Streams.{Step, Enter, Seal, without}
use Rattle.ccfs_base.specs.Limits.{file_max, blocks}
use Rattle.ccfs_base.specs.declared.commands.Command.{Command}
use Rattle.ccfs_base.specs.declared.commands.Command.TheVariants as command
use Rattle.ccfs_base.specs.declared.replies.Refusal.{Refusal}
use Rattle.ccfs_base.specs.declared.replies.Refusal.TheVariants as refusal
use Rattle.ccfs_base.specs.declared.replies.Reply.{Reply}
use Rattle.ccfs_base.specs.declared.replies.Reply.TheVariants as reply
use Rattle.tree_model.specs.declared.rows.Body.{Body}
use Rattle.tree_model.specs.declared.rows.Body.TheVariants.{Dir, File}
use Rattle.tree_model.specs.declared.rows.Row.{Row}
use Rattle.tree_model.specs.declared.rows.Update.{Update}
use Rattle.tree_model.specs.declared.rows.Update.TheVariants as update
use Rattle.tree_model.specs.Rows.{Rows, place_of, is_dir_at}
use Rattle.tree_model.specs.Entries.{entry, children}
use Rattle.tree_model.specs.Walk.{walk, parent_walk, last_of}
use Rattle.tree_model.specs.Tests.{is_above, is_empty_at, is_file_at}
use Rattle.tree_model.specs.Weights.{live, bytes_at, length_at}
use Rattle.tree_cuts.specs.Calls.{Sizes, Call, SyncStream, SyncFile, SyncAll, Other, unsealed_blocks, unsealed_rows, call_steps}
use Rattle.history_model.specs.State.{Now, stream_in, ignores_in, file_in, is_open_on, closed, lowest_free}

-- a reply, and an update or none
abbrev pub Answer : Type 0
Answer = Reply × Option Update

-- ---- words for the checks of a command

-- the refusal for this cause; nothing is changed
abbrev pub refused : Refusal → Answer
refused cause = (reply.Refused cause, None)

-- a reply and no update
abbrev pub tells : Reply → Answer
tells r = (r, None)

-- done, with this update
abbrev pub does : Update → Answer
does u = (reply.Done, Some u)

-- refused for this cause where the test passes, else as it goes on
abbrev pub refuses : Bool → Refusal → Answer → Answer
refuses test cause a = cond test (refused cause) a

-- go on from the row that a walk leads to, or answer why it leads to none
abbrev pub from_row : Result ℕ Refusal → (ℕ → Answer) → Answer
from_row (Ok x) f = f x
from_row (Err cause) f = refused cause

-- go on from the row at the end of a path: of `/a/f` from that file's serial
abbrev pub at_path : Rows → List (List ℕ) → (ℕ → Answer) → Answer
at_path t path f = from_row (walk t path 0) f

-- the same from the directory that the last name is to stand in
abbrev pub at_parent : Rows → List (List ℕ) → (ℕ → Answer) → Answer
at_parent t path f = from_row (parent_walk t path) f

-- go on from the file of a handle, where it is open
abbrev pub at_handle : Option ℕ → (ℕ → Answer) → Answer
at_handle (Some x) f = f x
at_handle None f = refused refusal.BadHandle

-- go on with the place of a row; of the rows that a path leads to the root alone stands nowhere
abbrev pub at_place : Option (ℕ × List ℕ) → (ℕ → List ℕ → Answer) → Answer
at_place (Some p) f = f p.0 p.1
at_place None f = refused refusal.Root

-- whether a path is the root's, which has no names
abbrev pub is_root : List (List ℕ) → Bool
is_root [] = true
is_root (n ∷ ns) = false

-- the larger of two numbers
abbrev pub larger : ℕ → ℕ → ℕ
larger a b = cond (nat_le a b) b a

-- ---- what a directory shows

-- the count of changes of a directory; a file has 0
abbrev pub body_changes : Body → ℕ
body_changes (Dir changes) = changes
body_changes (File bytes) = 0

-- the same of a row, and 0 where there is none
abbrev pub row_changes : Option Row → ℕ
row_changes None = 0
row_changes (Some r) = body_changes r.body

-- how many seals there are among these steps: Seal 1, Enter 2 b, Seal 2 have two
abbrev pub closes : {U : Type 0} → List (Step U) → ℕ
closes [] = 0
closes (Enter s u ∷ l) = closes l
closes (Seal s ∷ l) = suc (closes l)

module _ (sizes : Sizes) where
  -- ---- space: what unsealed updates gave up isn't free, but to their own stream

  -- the blocks that the unsealed updates of other streams than s gave up
  abbrev pub gave_others : Now → ℕ → ℕ
  gave_others n s = unsealed_blocks (without s n.unsealed)

  -- the blocks that a file of the new length takes more than now
  abbrev pub need : Now → ℕ → ℕ → ℕ
  need n x size = blocks size - blocks (length_at n.tree x)

  -- the blocks that an update of the stream s may take
  abbrev pub free_for : Now → ℕ → ℕ
  free_for n s = sizes.data_blocks - live n.tree - gave_others n s

  -- an update that gives a file this length, where there is room for it
  abbrev pub with_space : Now → ℕ → ℕ → ℕ → Update → Answer
  with_space n s x size u = refuses (nat_lt (free_for n s) (need n x size)) (refusal.NoSpace (need n x size) (free_for n s)) (does u)

  -- whether there is no inode for one more row: each row takes one, and so does the orphan directory
  abbrev pub no_inode : Now → ℕ → Bool
  no_inode n s = nat_lt (sizes.inodes - 1) (len n.tree + 1 + unsealed_rows (without s n.unsealed))

  -- ---- the commands, with their checks in order; s is the actor's stream

  -- mkdir and create: the root is there already; the walk to the parent; an entry of that name; an inode
  abbrev pub make : Now → ℕ → Bool → List (List ℕ) → Answer
  make n s is_dir path = refuses (is_root path) refusal.Exists (at_parent n.tree path (λ dir.
      refuses (is_some (entry n.tree dir (last_of path))) refusal.Exists
      (refuses (no_inode n s) refusal.NoInode (does (update.Make dir (last_of path) n.next is_dir)))))

  -- write: a directory; no bytes, which is done; the greatest length; room
  abbrev pub write : Now → ℕ → ℕ → List ℕ → ℕ → Answer
  write n s off bytes x = refuses (is_dir_at n.tree x) refusal.IsDir
      (cond (length bytes == 0) (tells reply.Done)
      (refuses (nat_lt file_max (off + length bytes)) refusal.FileBig
      (with_space n s x (larger (length_at n.tree x) (off + length bytes)) (update.Write x off bytes))))

  -- resize: a directory; the greatest length; the same length, which is done; room
  abbrev pub resize : Now → ℕ → ℕ → ℕ → Answer
  resize n s size x = refuses (is_dir_at n.tree x) refusal.IsDir
      (refuses (nat_lt file_max size) refusal.FileBig
      (cond (size == length_at n.tree x) (tells reply.Done)
      (with_space n s x size (update.Resize x size))))

  -- read: a directory; the bytes, cut off at the end of the file
  abbrev pub read : Now → ℕ → ℕ → ℕ → Answer
  read n off size x = refuses (is_dir_at n.tree x) refusal.IsDir (tells (reply.Got (take size (drop off (bytes_at n.tree x)))))

  -- unlink: the root; the walk; a directory
  abbrev pub unlink : Now → List (List ℕ) → Answer
  unlink n path = refuses (is_root path) refusal.Root (at_path n.tree path (λ x.
      refuses (is_dir_at n.tree x) refusal.IsDir
      (at_place (place_of n.tree x) (λ dir name. does (update.Remove dir name x (is_open_on n.handles x))))))

  -- rmdir: the root; the walk; a file; entries
  abbrev pub rmdir : Now → List (List ℕ) → Answer
  rmdir n path = refuses (is_root path) refusal.Root (at_path n.tree path (λ x.
      refuses (not (is_dir_at n.tree x)) refusal.NotDir
      (refuses (not (is_empty_at n.tree x)) refusal.NotEmpty
      (at_place (place_of n.tree x) (λ dir name. does (update.Remove dir name x false))))))

  -- x comes to an entry, where this row stands or none: itself, which is done; another, where not both are files
  abbrev pub move_to : Now → ℕ → ℕ → List ℕ → Option ℕ → Answer
  move_to n x to_dir to_name None = at_place (place_of n.tree x) (λ dir name. does (update.Move dir name to_dir to_name x (is_dir_at n.tree x) None false))
  move_to n x to_dir to_name (Some y) = cond (y == x) (tells reply.Done)
      (refuses (is_dir_at n.tree x || is_dir_at n.tree y) refusal.Exists
      (at_place (place_of n.tree x) (λ dir name. does (update.Move dir name to_dir to_name x false (Some y) (is_open_on n.handles y)))))

  -- rename: a root; the walk of the first; the walk to the parent of the second; that one is the moved row or below it
  abbrev pub rename : Now → List (List ℕ) → List (List ℕ) → Answer
  rename n path to = refuses (is_root path || is_root to) refusal.Root (at_path n.tree path (λ x. at_parent n.tree to (λ to_dir.
      refuses (is_above (len n.tree) n.tree x (Some to_dir)) refusal.Loop
      (move_to n x to_dir (last_of to) (entry n.tree to_dir (last_of to))))))

  -- the handle that is free, if there is one
  abbrev pub given_handle : Option ℕ → Answer
  given_handle (Some h) = tells (reply.Handle h)
  given_handle None = refused refusal.HandlesFull

  -- open: a directory; all 16 handles are open
  abbrev pub open_file : Now → ℕ → ℕ → Answer
  open_file n actor x = refuses (is_dir_at n.tree x) refusal.IsDir (given_handle (lowest_free n.handles actor 0 16))

  -- close: a file without a name that no other handle is open on is released
  abbrev pub close : Now → ℕ → ℕ → ℕ → Answer
  close n actor handle x =
      cond (is_file_at n.tree x && (is_none (place_of n.tree x) && not (is_open_on (closed n.handles actor handle) x))) (does (update.Release x)) (tells reply.Done)

  -- stat: of a directory how many entries it has, and its changes; of a file its length and its blocks
  abbrev pub stat : Now → ℕ → Answer
  stat n x = cond (is_dir_at n.tree x)
      (tells (reply.StatDir (length (children n.tree x)) (row_changes (get n.tree x))))
      (tells (reply.StatFile (length_at n.tree x) (blocks (length_at n.tree x))))

  -- list: a file; the number of entries, and at most 64 names behind the first `skip`, each with whether it is a directory's
  abbrev pub listing : Now → ℕ → ℕ → Answer
  listing n skip x = refuses (not (is_dir_at n.tree x)) refusal.NotDir
      (tells (reply.Listed (length (children n.tree x)) (map (λ e. (e.0, is_dir_at n.tree e.1)) (take 64 (drop skip (children n.tree x))))))

  -- space: the blocks and the inodes that are free to every stream
  abbrev pub space : Now → Answer
  space n = tells (reply.Space (sizes.data_blocks - live n.tree - unsealed_blocks n.unsealed) (sizes.inodes - 1 - len n.tree - unsealed_rows n.unsealed))

  -- a sync form: the number of seals after it
  abbrev pub synced : Now → Call → Answer
  synced n call = tells (reply.Synced (n.seals + closes (call_steps sizes n.tree n.unsealed call)))

  -- fsync: the ignore flag, with which it is done
  abbrev pub fsync : Now → ℕ → ℕ → Answer
  fsync n actor x = cond (ignores_in n.choices actor) (tells reply.Done) (synced n (SyncFile x))

  -- what the actor's command answers, and its update or none
  abbrev pub answer : Now → ℕ → Command → Answer
  answer n actor (command.Mkdir path) = make n (stream_in n.choices actor) true path
  answer n actor (command.Create path) = make n (stream_in n.choices actor) false path
  answer n actor (command.Write path off bytes) = at_path n.tree path (write n (stream_in n.choices actor) off bytes)
  answer n actor (command.Resize path size) = at_path n.tree path (resize n (stream_in n.choices actor) size)
  answer n actor (command.Read path off size) = at_path n.tree path (read n off size)
  answer n actor (command.Unlink path) = unlink n path
  answer n actor (command.Rmdir path) = rmdir n path
  answer n actor (command.Rename path to) = rename n path to
  answer n actor (command.OpenFile path) = at_path n.tree path (open_file n actor)
  answer n actor (command.HWrite handle off bytes) = at_handle (file_in n.handles actor handle) (write n (stream_in n.choices actor) off bytes)
  answer n actor (command.HRead handle off size) = at_handle (file_in n.handles actor handle) (read n off size)
  answer n actor (command.Close handle) = at_handle (file_in n.handles actor handle) (close n actor handle)
  answer n actor (command.Stat path) = at_path n.tree path (stat n)
  answer n actor (command.List path skip) = at_path n.tree path (listing n skip)
  answer n actor command.Space = space n
  answer n actor (command.SetStream stream ignore) = tells reply.Done
  answer n actor command.StreamSync = synced n (SyncStream (stream_in n.choices actor))
  answer n actor (command.Fsync handle) = at_handle (file_in n.handles actor handle) (fsync n actor)
  answer n actor command.Sync = synced n SyncAll
  answer n actor command.Flush = synced n Other
