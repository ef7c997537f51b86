-- One call more in a run.
use Rattle.std.proofs.Common.{◌≡◌, ℕ, zero, suc, ◌+◌, ◌<◌, Bool, true, false, cond, List, [], ◌∷◌, ◌++◌, length, take, drop, get_or, refl, sym, ap, ◌∙◌, arith, append_assoc}
use Rattle.std.proofs.lemmas.List.{append-nil, take_more, take-append-drop, map-append}
use Rattle.std.specs.declared.option.Option.{Option}
use Rattle.std.specs.declared.option.Option.TheVariants.{None, Some}
use Rattle.std.specs.declared.result.Result.{Result}
use Rattle.std.specs.declared.result.Result.TheVariants.{Ok, Err}
use Rattle.std.specs.Prelude.{is_some, not, ◌||◌, ◌==◌, map}
use Rattle.ccfs_base.specs.declared.commands.Command.{Command}
use Rattle.ccfs_base.specs.declared.commands.Command.TheVariants as command
use Rattle.ccfs_base.specs.declared.replies.Refusal.{Refusal}
use Rattle.ccfs_base.specs.declared.replies.Refusal.TheVariants as refusal
use Rattle.ccfs_base.specs.declared.replies.Reply.TheVariants as reply
use Rattle.ccfs_base.specs.Limits.{blocks}
use Rattle.tree_model.specs.declared.rows.Update.{Update}
use Rattle.tree_model.specs.declared.rows.Update.TheVariants as update
use Rattle.tree_model.specs.Weights.{length_at}
use Rattle.tree_model.specs.declared.rows.Entry.{Entry}
use Rattle.tree_model.specs.Entries.{entry, children}
use Rattle.tree_model.specs.Walk.{walk, parent_walk, last_of}
use Rattle.tree_model.specs.Rows.{Rows, is_dir_at, place_of}
use Rattle.tree_model.specs.Tests.{is_above, is_empty_at}
use Rattle.std.specs.FinMap.{get, len}
use Rattle.tree_cuts.specs.Calls.{Sizes}
use Rattle.history_model.specs.State.{Now, stream_in, is_open_on}
use Rattle.history_model.specs.Answers as answers
use Rattle.history_model.specs.Answers.{Answer, answer, from_row, at_place}
use Rattle.history_model.specs.Histories.{start, entered_by, entry_of, now_after, hist, seal_count, synced_number}
use Rattle.history_model.proofs.Longer.{hist_append, hist_more, now_more, durable_more, seals_counted}
use Rattle.script_text.specs.declared.scripts.Call.{Call}
use Rattle.script_text.specs.Scripts.{is_built, first_unbuilt}
use Rattle.front_laws.specs.Kept.{is_answered}
use Rattle.ccfs_top.specs.Stages.{is_sync_form, called}
use Rattle.ccfs_top.specs.Runs.{asked, history, line_of, reply_lines}
use Rattle.ccfs_top.specs.Ends.{joined}
use Rattle.ccfs_top.specs.Reached.{history_to, Reached}

-- ---- what a reply acknowledges

-- the answer acknowledges nothing
record IsQuiet (d : ℕ) (a : Answer) : Type 0 where
  is : synced_number d a.0 ≡ d

quiet_if : (d : ℕ) (b : Bool) (x y : Answer) → IsQuiet d x → IsQuiet d y → IsQuiet d (cond b x y)
quiet_if d true x y p q = p
quiet_if d false x y p q = q

quiet_no : (d : ℕ) (b : Bool) (cause : Refusal) (y : Answer) → IsQuiet d y → IsQuiet d (answers.refuses b cause y)
quiet_no d b cause y q = quiet_if d b (answers.refused cause) y (record { is = refl }) q

quiet_in : (d : ℕ) (r : Result ℕ Refusal) (f : ℕ → Answer) → ((x : ℕ) → IsQuiet d (f x)) → IsQuiet d (from_row r f)
quiet_in d (Ok x) f p = p x
quiet_in d (Err cause) f p = record { is = refl }

quiet_at : (d : ℕ) (o : Option (ℕ × List ℕ)) (f : ℕ → List ℕ → Answer) → ((x : ℕ) (n : List ℕ) → IsQuiet d (f x n)) → IsQuiet d (at_place o f)
quiet_at d (Some p) f all = all p.0 p.1
quiet_at d None f all = record { is = refl }

quiet_does : (d : ℕ) (u : Update) → IsQuiet d (answers.does u)
quiet_does d u = record { is = refl }

abbrev made_in : Sizes → Now → ℕ → Bool → List (List ℕ) → ℕ → Answer
made_in k n s b path dir = answers.refuses (answers.no_inode k n s) refusal.NoInode (answers.does (update.Make dir (last_of path) n.next b))

abbrev made_at : Sizes → Now → ℕ → Bool → List (List ℕ) → ℕ → Answer
made_at k n s b path dir = answers.refuses (is_some (entry n.tree dir (last_of path))) refusal.Exists (made_in k n s b path dir)

quiet_make : (k : Sizes) (d : ℕ) (n : Now) (s : ℕ) (b : Bool) (path : List (List ℕ)) → IsQuiet d (answers.make k n s b path)
quiet_make k d n s b path = quiet_no d (answers.is_root path) refusal.Exists (answers.at_parent n.tree path (made_at k n s b path))
    (quiet_in d (parent_walk n.tree path) (made_at k n s b path) (λ dir. quiet_no d (is_some (entry n.tree dir (last_of path))) refusal.Exists (made_in k n s b path dir)
    (quiet_no d (answers.no_inode k n s) refusal.NoInode (answers.does (update.Make dir (last_of path) n.next b)) (quiet_does d (update.Make dir (last_of path) n.next b)))))

abbrev removed : ℕ → Bool → ℕ → List ℕ → Answer
removed x stays dir name = answers.does (update.Remove dir name x stays)

quiet_removed : (d x : ℕ) (stays : Bool) (o : Option (ℕ × List ℕ)) → IsQuiet d (at_place o (removed x stays))
quiet_removed d x stays o = quiet_at d o (removed x stays) (λ dir name. quiet_does d (update.Remove dir name x stays))

abbrev unlinked : Now → ℕ → Answer
unlinked n x = answers.refuses (is_dir_at n.tree x) refusal.IsDir (at_place (place_of n.tree x) (removed x (is_open_on n.handles x)))

quiet_unlink : (k : Sizes) (d : ℕ) (n : Now) (path : List (List ℕ)) → IsQuiet d (answers.unlink k n path)
quiet_unlink k d n path = quiet_no d (answers.is_root path) refusal.Root (answers.at_path n.tree path (unlinked n))
    (quiet_in d (walk n.tree path 0) (unlinked n) (λ x. quiet_no d (is_dir_at n.tree x) refusal.IsDir (at_place (place_of n.tree x) (removed x (is_open_on n.handles x)))
    (quiet_removed d x (is_open_on n.handles x) (place_of n.tree x))))

abbrev emptied : Now → ℕ → Answer
emptied n x = answers.refuses (not (is_empty_at n.tree x)) refusal.NotEmpty (at_place (place_of n.tree x) (removed x false))

abbrev unmade : Now → ℕ → Answer
unmade n x = answers.refuses (not (is_dir_at n.tree x)) refusal.NotDir (emptied n x)

quiet_rmdir : (k : Sizes) (d : ℕ) (n : Now) (path : List (List ℕ)) → IsQuiet d (answers.rmdir k n path)
quiet_rmdir k d n path = quiet_no d (answers.is_root path) refusal.Root (answers.at_path n.tree path (unmade n))
    (quiet_in d (walk n.tree path 0) (unmade n) (λ x. quiet_no d (not (is_dir_at n.tree x)) refusal.NotDir (emptied n x)
    (quiet_no d (not (is_empty_at n.tree x)) refusal.NotEmpty (at_place (place_of n.tree x) (removed x false)) (quiet_removed d x false (place_of n.tree x)))))

abbrev moved : ℕ → ℕ → List ℕ → Bool → Option ℕ → Bool → ℕ → List ℕ → Answer
moved x to_dir to_name is_dir replaced stays dir name = answers.does (update.Move dir name to_dir to_name x is_dir replaced stays)

quiet_moved : (d x to_dir : ℕ) (to_name : List ℕ) (is_dir : Bool) (replaced : Option ℕ) (stays : Bool) (o : Option (ℕ × List ℕ)) → IsQuiet d (at_place o (moved x to_dir to_name is_dir replaced stays))
quiet_moved d x to_dir to_name is_dir replaced stays o = quiet_at d o (moved x to_dir to_name is_dir replaced stays) (λ dir name. quiet_does d (update.Move dir name to_dir to_name x is_dir replaced stays))

quiet_move : (k : Sizes) (d : ℕ) (n : Now) (x to_dir : ℕ) (name : List ℕ) (o : Option ℕ) → IsQuiet d (answers.move_to k n x to_dir name o)
quiet_move k d n x to_dir name None = quiet_moved d x to_dir name (is_dir_at n.tree x) None false (place_of n.tree x)
quiet_move k d n x to_dir name (Some y) =
    let over = at_place (place_of n.tree x) (moved x to_dir name false (Some y) (is_open_on n.handles y)) in
    let refused = answers.refuses (is_dir_at n.tree x || is_dir_at n.tree y) refusal.Exists over in
    quiet_if d (y == x) (answers.tells reply.Done) refused (record { is = refl })
    (quiet_no d (is_dir_at n.tree x || is_dir_at n.tree y) refusal.Exists over (quiet_moved d x to_dir name false (Some y) (is_open_on n.handles y) (place_of n.tree x)))

abbrev moved_in : Sizes → Now → List (List ℕ) → ℕ → ℕ → Answer
moved_in k n to x to_dir = answers.refuses (is_above (len n.tree) n.tree x (Some to_dir)) refusal.Loop (answers.move_to k n x to_dir (last_of to) (entry n.tree to_dir (last_of to)))

abbrev moved_to : Sizes → Now → List (List ℕ) → ℕ → Answer
moved_to k n to x = answers.at_parent n.tree to (moved_in k n to x)

quiet_rename : (k : Sizes) (d : ℕ) (n : Now) (path to : List (List ℕ)) → IsQuiet d (answers.rename k n path to)
quiet_rename k d n path to = quiet_no d (answers.is_root path || answers.is_root to) refusal.Root (answers.at_path n.tree path (moved_to k n to))
    (quiet_in d (walk n.tree path 0) (moved_to k n to) (λ x. quiet_in d (parent_walk n.tree to) (moved_in k n to x) (λ y.
    quiet_no d (is_above (len n.tree) n.tree x (Some y)) refusal.Loop (answers.move_to k n x y (last_of to) (entry n.tree y (last_of to))) (quiet_move k d n x y (last_of to) (entry n.tree y (last_of to))))))

quiet_stat : (k : Sizes) (d : ℕ) (n : Now) (x : ℕ) → IsQuiet d (answers.stat k n x)
quiet_stat k d n x = quiet_if d (is_dir_at n.tree x) (answers.tells (reply.StatDir (length (children n.tree x)) (answers.row_changes (get n.tree x))))
    (answers.tells (reply.StatFile (length_at n.tree x) (blocks (length_at n.tree x)))) (record { is = refl }) (record { is = refl })

abbrev listed : Now → ℕ → ℕ → Answer
listed n skip x = answers.tells (reply.Listed (length (children n.tree x)) (map (λ e. (e.0, is_dir_at n.tree e.1)) (take 64 (drop skip (children n.tree x)))))

quiet_list : (k : Sizes) (d : ℕ) (n : Now) (skip x : ℕ) → IsQuiet d (answers.listing k n skip x)
quiet_list k d n skip x = quiet_no d (not (is_dir_at n.tree x)) refusal.NotDir (listed n skip x) (record { is = refl })

-- a built command that is no sync form acknowledges nothing
quiet_answer : (k : Sizes) (d : ℕ) (n : Now) (a : ℕ) (c : Command) → is_answered c ≡ true → is_sync_form c ≡ false → IsQuiet d (answer k n a c)
quiet_answer k d n a (command.Mkdir path) built other = quiet_make k d n (stream_in n.choices a) true path
quiet_answer k d n a (command.Create path) built other = quiet_make k d n (stream_in n.choices a) false path
quiet_answer k d n a (command.Unlink path) built other = quiet_unlink k d n path
quiet_answer k d n a (command.Rmdir path) built other = quiet_rmdir k d n path
quiet_answer k d n a (command.Rename path to) built other = quiet_rename k d n path to
quiet_answer k d n a (command.Stat path) built other = quiet_in d (walk n.tree path 0) (answers.stat k n) (λ x. quiet_stat k d n x)
quiet_answer k d n a (command.List path skip) built other = quiet_in d (walk n.tree path 0) (answers.listing k n skip) (λ x. quiet_list k d n skip x)
quiet_answer k d n a (command.SetStream stream ignore) built other = record { is = refl }
quiet_answer k d n a c built other = absurd (cc (built, other))

-- a sync form acknowledges all seals
full_answer : (k : Sizes) (d : ℕ) (n : Now) (a : ℕ) (c : Command) → is_sync_form c ≡ true → synced_number d (answer k n a c).0 ≡ (entered_by k n (entry_of k n a c)).seals
full_answer k d n a command.StreamSync sync = refl
full_answer k d n a command.Sync sync = refl
full_answer k d n a command.Flush sync = refl
full_answer k d n a c sync = absurd (cc sync)

-- ---- commands that are built

-- what a script may ask for, a front answers
built_answered : (c : Command) → is_built c ≡ true → is_answered c ≡ true
built_answered (command.Mkdir path) is = refl
built_answered (command.Create path) is = refl
built_answered (command.Unlink path) is = refl
built_answered (command.Rmdir path) is = refl
built_answered (command.Rename path to) is = refl
built_answered (command.Stat path) is = refl
built_answered (command.List path skip) is = refl
built_answered (command.SetStream stream ignore) is = is
built_answered command.StreamSync is = refl
built_answered command.Sync is = refl
built_answered command.Flush is = refl
built_answered c is = absurd (cc is)

first_built : (b : Bool) (o : Option ℕ) (line : ℕ) → cond b o (Some line) ≡ None → (b ≡ true) × (o ≡ None)
first_built true o line is = (refl, is)
first_built false o line is = absurd (cc is)

each_built : (calls : List Call) (i : ℕ) (c : Call) → i < length calls → c ≡ get_or calls i c → first_unbuilt calls ≡ None → is_built c.command ≡ true
each_built [] i c lt is none = absurd (omega (arith, lt))
each_built (call ∷ calls) zero c lt is none = ap (λ (z : Call). is_built z.command) is ∙ (first_built (is_built call.command) (first_unbuilt calls) call.line none).0
each_built (call ∷ calls) (suc i) c lt is none =
    each_built calls i c (omega (arith, lt)) is (first_built (is_built call.command) (first_unbuilt calls) call.line none).1

-- each call of a script whose calls are all built is answered
pub each_answered : (calls : List Call) (i : ℕ) (c : Call) → i < length calls → c ≡ get_or calls i c → first_unbuilt calls ≡ None → is_answered c.command ≡ true
each_answered calls i c lt is none = built_answered c.command (each_built calls i c lt is none)

-- how many seals are acknowledged after a call that is answered: all where it is a sync form, else as many as before
pub acknowledged_by : (k : Sizes) (t : Rows) (h : List Entry) (a : ℕ) (c : Command) (d : ℕ) → is_answered c ≡ true
    → cond (is_sync_form c) (seal_count k (start t) (called k t h a c)) d ≡ synced_number d (entry_of k (now_after k (start t) h) a c).reply
acknowledged_by k t h a c d answered = go (is_sync_form c) refl
  where
    n : Now
    n = now_after k (start t) h

    e : Entry
    e = entry_of k n a c

    counted : seal_count k (start t) (called k t h a c) ≡ (entered_by k n e).seals
    counted = let all = seals_counted k (start t) (h ++ e ∷ []) in
        let more = ap (λ (z : Now). z.seals) (now_more k (start t) h e) in
        omega (arith, all, more)

    go : (b : Bool) → is_sync_form c ≡ b → cond b (seal_count k (start t) (called k t h a c)) d ≡ synced_number d e.reply
    go true sync = counted ∙ sym (full_answer k d n a c sync)
    go false other = sym (quiet_answer k d n a c answered other).is

-- ---- one call more

pub history_on : (k : Sizes) (t : Rows) (calls : List Call) (i : ℕ) (c : Call) → i < length calls → c ≡ get_or calls i c
    → history_to k (start t) calls (i + 1) ≡ called k t (history_to k (start t) calls i) c.actor c.command
history_on k t calls i c lt is =
    ap (history k (start t)) (take_more calls i c lt ∙ ap (λ (z : Call). take i calls ++ z ∷ []) (sym is))
    ∙ ap (hist k (start t)) (map-append (λ (z : Call). (z.actor, z.command)) (take i calls) (c ∷ []))
    ∙ hist_more k (start t) (asked (take i calls)) (c.actor, c.command)

pub reached_start : (k : Sizes) (t : Rows) (calls : List Call) → Reached k t calls 0 [] 0
reached_start k t calls = record { entries = refl; acknowledged = refl }

pub reached_on : (k : Sizes) (t : Rows) (calls : List Call) (i : ℕ) (c : Call) (h : List Entry) (d d' : ℕ) → i < length calls → c ≡ get_or calls i c
    → Reached k t calls i h d → d' ≡ synced_number d (entry_of k (now_after k (start t) h) c.actor c.command).reply
    → Reached k t calls (i + 1) (called k t h c.actor c.command) d'
reached_on k t calls i c h d d' lt is r synced = record {
  entries = ap (λ (z : List Entry). called k t z c.actor c.command) r.entries ∙ sym (history_on k t calls i c lt is);
  acknowledged = durable_more h (entry_of k (now_after k (start t) h) c.actor c.command)
      ∙ ap (λ (z : ℕ). synced_number z (entry_of k (now_after k (start t) h) c.actor c.command).reply) r.acknowledged ∙ sym synced;
}

-- ---- the reply lines

pub lines_more : (h : List Entry) (e : Entry) → joined (reply_lines (h ++ e ∷ [])) ≡ joined (reply_lines h) ++ line_of e
lines_more [] e = append-nil (line_of e)
lines_more (d ∷ h) e = ap (λ (z : List ℕ). line_of d ++ z) (lines_more h e) ∙ sym (append_assoc (line_of d) (joined (reply_lines h)) (line_of e))

-- the reply lines so far stand first among all
pub lines_first : (k : Sizes) (t : Rows) (calls : List Call) (i : ℕ)
    → (g : List (List ℕ)) × (reply_lines (history k (start t) calls) ≡ reply_lines (history_to k (start t) calls i) ++ g)
lines_first k t calls i =
    let n = now_after k (start t) (history_to k (start t) calls i) in
    let rest = drop i calls in (
      reply_lines (history k n rest),
      ap (λ (z : List Call). reply_lines (history k (start t) z)) (sym (take-append-drop i calls))
          ∙ ap (λ (z : List (ℕ × Command)). reply_lines (hist k (start t) z)) (map-append (λ (z : Call). (z.actor, z.command)) (take i calls) rest)
          ∙ ap reply_lines (hist_append k (start t) (asked (take i calls)) (asked rest))
          ∙ map-append line_of (history_to k (start t) calls i) (history k n rest),
    )
