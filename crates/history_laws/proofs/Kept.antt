-- Each call that may be made leaves a sound state.
use Rattle.std.proofs.Common.{◌≡◌, inl, inr, ℕ, ◌+◌, ◌≤◌, ◌<◌, List, [], ◌∷◌, refl, sym, ap, subst, arith, ◌∙◌}
use Rattle.std.specs.Prelude.{Bool, true, false, cond, not, ◌&&◌, ◌||◌, ◌==◌, is_none, IsTrue}
use Rattle.std.specs.List.{AllByRecursion}
use Rattle.std.specs.declared.option.Option.{Option}
use Rattle.std.specs.declared.option.Option.TheVariants.{None, Some}
use Rattle.std.specs.declared.result.Result.{Result}
use Rattle.std.specs.declared.result.Result.TheVariants.{Ok, Err}
use Rattle.std.specs.FinMap.{get}
use Rattle.std.proofs.lemmas.Bool.{eq-eqb, leb-true}
use Rattle.ccfs_base.specs.Fits.{fits_command}
use Rattle.ccfs_base.specs.declared.commands.Command.{Command}
use Rattle.ccfs_base.specs.declared.commands.Command.TheVariants as command
use Rattle.ccfs_base.specs.declared.replies.Refusal.{Refusal}
use Rattle.ccfs_base.specs.declared.replies.Refusal.TheVariants as refusal
use Rattle.ccfs_base.specs.declared.replies.Reply.{Reply}
use Rattle.ccfs_base.specs.declared.replies.Reply.TheVariants as reply
use Rattle.tree_model.specs.declared.rows.Update.{Update}
use Rattle.tree_model.specs.declared.rows.Update.TheVariants as update
use Rattle.tree_model.specs.Rows.{Rows, kind, kind_of, place_of, is_dir_at, IsTree, IsFile}
use Rattle.tree_model.specs.Updates.{Fits, apply}
use Rattle.tree_model.specs.Walk.{walk}
use Rattle.tree_model.specs.Tests.{is_file_at}
use Rattle.tree_model.proofs.TreeKept.{tree_kept}
use Rattle.tree_cuts.specs.Calls.{Sizes}
use Rattle.history_model.specs.State.{Now, Opened, stream_in, file_in, is_handle, is_open_on, closed, lowest_free}
use Rattle.history_model.specs.Answers.{refused, tells, does, from_row, at_handle, given_handle, open_file, close, answer}
use Rattle.history_model.specs.Histories.{opened_at, handles_by, choices_by, made_by, tree_by, entered_by, entry_of}
use Rattle.history_laws.proofs.Good.{Good, good_refuses, good_row, good_given, walk_row, root_row, file_from, not_both}
use Rattle.history_laws.proofs.Sound.{IsSound, handles_left, Told}
use Rattle.history_laws.proofs.Told.{told}
use Rattle.history_laws.proofs.Turns.{file_stays, none_stays, told_born, told_dead}

no_file : (t : Rows) (x : ℕ) → IsFile t x → get t x ≡ None → ⊥
no_file t x f e = let z : ◌≡◌ {A = Option Bool} None (Some false) = sym (ap kind e) ∙ f in cc

true_false : true ≡ false → ⊥
true_false e = cc

-- what an accepted update is: it applies
pub told_fits : (sizes : Sizes) (n : Now) (s : ℕ) (hs : List Opened) (u : Update) → Told sizes n s hs u → Fits n.tree u
told_fits sizes n s hs (update.Make dir name id k) h = h.0
told_fits sizes n s hs (update.Write id off bytes) h = h.0
told_fits sizes n s hs (update.Resize id size) h = h.0
told_fits sizes n s hs (update.Remove dir name id stays) h = h.0
told_fits sizes n s hs (update.Move dir name to_dir to_name id k replaced stays) h = h.0
told_fits sizes n s hs (update.Release id) h = h.0

-- ---- handles
abbrev pub AllOpen : List Opened → List Opened → Type 0
AllOpen all hs = AllByRecursion (λ o. is_open_on all o.file ≡ true) hs

abbrev pub AllFiles : Rows → List Opened → Type 0
AllFiles t hs = AllByRecursion (λ o. IsFile t o.file) hs

files_stay : (sizes : Sizes) (n : Now) (s : ℕ) (u : Update) (hs all : List Opened) → IsSound n → Told sizes n s all u → AllFiles n.tree hs → AllOpen all hs → AllFiles (apply n.tree u) hs
files_stay sizes n s u [] all sound h f o = tt
files_stay sizes n s u (y ∷ hs) all sound h f o = (
  file_stays n.tree u y.file f.0
      (λ d e. no_file n.tree y.file f.0 (sound.new y.file (let same = (told_born sizes n s all u y.file d h e).0 in omega arith)))
      (λ e. elim (told_dead sizes n s all u y.file h e) [ inl p ↦ true_false (sym o.0 ∙ p) | inr d ↦ not_both n.tree y.file f.0 d ]),
  files_stay sizes n s u hs all sound h f.1 o.1,
)

open_later : (y : Opened) (hs xs : List Opened) → AllOpen hs xs → AllOpen (y ∷ hs) xs
open_later y hs [] a = tt
open_later y hs (x ∷ xs) a = (elim (y.file == x.file) as (λ b. (b || is_open_on hs x.file) ≡ true) [ true ↦ refl | false ↦ a.0 ], open_later y hs xs a.1)

all_open : (hs : List Opened) → AllOpen hs hs
all_open [] = tt
all_open (y ∷ hs) = (ap (λ b. b || is_open_on hs y.file) (eq-eqb y.file y.file refl), open_later y hs hs (all_open hs))

closed_files : (t : Rows) (hs : List Opened) (a h : ℕ) → AllFiles t hs → AllFiles t (closed hs a h)
closed_files t [] a h f = tt
closed_files t (y ∷ hs) a h f = let r = closed_files t hs a h f.1 in
    elim (is_handle a h y) as (λ b. AllFiles t (cond (not b) (y ∷ closed hs a h) (closed hs a h))) [ true ↦ r | false ↦ (f.0, r) ]

closing : (n : Now) (a h : ℕ) (r : Reply) → AllFiles n.tree n.handles → AllFiles n.tree (handles_by n a (command.Close h) r)
closing n a h reply.Done f = closed_files n.tree n.handles a h f
closing n a h r f = f

module _ (sizes : Sizes) (n : Now) (sound : IsSound n) where
  given_files : (a x : ℕ) (path : List (List ℕ)) (o : Option ℕ) → walk n.tree path 0 ≡ Ok x → IsFile n.tree x
      → AllFiles n.tree (handles_by n a (command.OpenFile path) (given_handle sizes o).0)
  given_files a x path None e f = sound.files
  given_files a x path (Some h) e f = subst (λ w. AllFiles n.tree (opened_at n.handles a h w)) (sym e) (f, sound.files)

  file_files : (a x : ℕ) (path : List (List ℕ)) (o : Option ℕ) → walk n.tree path 0 ≡ Ok x → (k : Bool) → is_dir_at n.tree x ≡ k
      → AllFiles n.tree (handles_by n a (command.OpenFile path) (cond k (refused refusal.IsDir) (given_handle sizes o)).0)
  file_files a x path o e true p = sound.files
  file_files a x path o e false p = given_files a x path o e (file_from (kind_of n.tree x) (walk_row n.tree path 0 x (root_row n.tree sound.tree) e) p)

  open_files : (a : ℕ) (path : List (List ℕ)) (w : Result ℕ Refusal) → walk n.tree path 0 ≡ w
      → AllFiles n.tree (handles_by n a (command.OpenFile path) (from_row w (open_file sizes n a)).0)
  open_files a path (Ok x) e = file_files a x path (lowest_free n.handles a 0 16) e (is_dir_at n.tree x) refl
  open_files a path (Err cause) e = sound.files

  -- the handles after a command are open on files of the tree before it
  old_files : (a : ℕ) (c : Command) → AllFiles n.tree (handles_by n a c (answer sizes n a c).0)
  old_files a (command.OpenFile path) = open_files a path (walk n.tree path 0) refl
  old_files a (command.Close handle) = closing n a handle (answer sizes n a (command.Close handle)).0 sound.files
  old_files a c = sound.files

  open_is_quiet : (a : ℕ) (path : List (List ℕ)) → Good (λ u. ⊥) (answer sizes n a (command.OpenFile path))
  open_is_quiet a path = good_row (λ u. ⊥) (walk n.tree path 0) _ (λ x e. good_refuses (λ u. ⊥) (is_dir_at n.tree x) _ _ (λ p. good_given sizes (λ u. ⊥) (lowest_free n.handles a 0 16)))

  nothing_some : (u : Update) → None ≡ Some u → ⊥
  nothing_some u e = cc

  close_open : (a h : ℕ) (u : Update) (o : Option ℕ) → (at_handle o (close sizes n a h)).1 ≡ Some u
      → AllOpen (closed n.handles a h) (handles_by n a (command.Close h) (at_handle o (close sizes n a h)).0)
  close_open a h u None e = absurd (nothing_some u e)
  close_open a h u (Some x) e = elim (is_file_at n.tree x && (is_none (place_of n.tree x) && not (is_open_on (closed n.handles a h) x))) as (λ b.
      AllOpen (closed n.handles a h) (handles_by n a (command.Close h) (cond b (does (update.Release x)) (tells reply.Done)).0)) [ true ↦ all_open (closed n.handles a h) | false ↦ all_open (closed n.handles a h) ]

  left_open : (a : ℕ) (c : Command) (u : Update) → (answer sizes n a c).1 ≡ Some u → AllOpen (handles_left n a c) (handles_by n a c (answer sizes n a c).0)
  left_open a (command.OpenFile path) u e = absurd (open_is_quiet a path u e)
  left_open a (command.Close handle) u e = close_open a handle u (file_in n.handles a handle) e
  left_open a c u e = all_open n.handles

  -- ---- streams
  choices_stay : (a : ℕ) (c : Command) → IsTrue (fits_command c) → AllByRecursion (λ d. d.stream < 64) (choices_by n.choices a c)
  choices_stay a (command.SetStream stream ignore) f = (let le = leb-true stream 63 f in omega arith, sound.streams)
  choices_stay a c f = sound.streams

  -- ---- the whole
  new_after : (s : ℕ) (u : Update) (hs : List Opened) → Told sizes n s hs u → (k : ℕ) → n.next + made_by (Some u) ≤ k → get (apply n.tree u) k ≡ None
  new_after s u hs h k le = none_stays n.tree u k (sound.new k (omega arith)) (λ d e. let b = told_born sizes n s hs u k d h e in let x = b.0 in let y = b.1 in omega arith)

  pub sound_entry : (a : ℕ) (c : Command) → IsTrue (fits_command c) → IsSound (entered_by sizes n (entry_of sizes n a c))
  sound_entry a c f = by (answer sizes n a c).1 refl
    where
      by : (o : Option Update) → (answer sizes n a c).1 ≡ o → IsSound (entered_by sizes n (entry_of sizes n a c))
      by None e = record {
        tree = subst (λ o. IsTree (tree_by n.tree o)) (sym e) sound.tree;
        new = λ k le. subst (λ o. get (tree_by n.tree o) k ≡ None) (sym e) (sound.new k (omega arith));
        files = subst (λ o. AllFiles (tree_by n.tree o) (handles_by n a c (answer sizes n a c).0)) (sym e) (old_files a c);
        streams = choices_stay a c f;
      }
      by (Some u) e =
          let s = stream_in n.choices a in
          let h : Told sizes n s (handles_left n a c) u = told sizes n sound a c f u e in record {
            tree = subst (λ o. IsTree (tree_by n.tree o)) (sym e) (tree_kept n.tree u sound.tree (told_fits sizes n s (handles_left n a c) u h));
            new = λ k le. subst (λ o. get (tree_by n.tree o) k ≡ None) (sym e) (new_after s u (handles_left n a c) h k (subst (λ o. n.next + made_by o ≤ k) e le));
            files = subst (λ o. AllFiles (tree_by n.tree o) (handles_by n a c (answer sizes n a c).0)) (sym e)
                (files_stay sizes n s u (handles_by n a c (answer sizes n a c).0) (handles_left n a c) sound h (old_files a c) (left_open a c u e));
            streams = choices_stay a c f;
          }
