-- A session's call as a run counts with it: by the image that was found.
use Rattle.std.proofs.Common.{◌≡◌, ℕ, ◌+◌, ◌≤◌, ◌<◌, true, cond, List, length, get_or, refl, ap, ◌∙◌, subst}
use Rattle.std.specs.declared.option.Option.{Option}
use Rattle.std.specs.declared.option.Option.TheVariants.{Some}
use Rattle.std.proofs.lemmas.List.{take_all}
use Rattle.ccfs_base.specs.declared.commands.Command.{Command}
use Rattle.ccfs_base.specs.declared.replies.Reply.{Reply}
use Rattle.tree_model.specs.declared.rows.Entry.{Entry}
use Rattle.tree_model.specs.declared.picturing.Item.{Item}
use Rattle.tree_model.specs.Rows.{Rows}
use Rattle.tree_model.specs.Picture.{picture}
use Rattle.tree_cuts.specs.Calls.{Sizes}
use Rattle.history_model.specs.Histories.{start, now_after, entry_of, seal_count, tree_at, synced_number}
use Rattle.script_text.specs.declared.scripts.Call.{Call}
use Rattle.front_laws.specs.Kept.{is_answered}
use Rattle.front_core.specs.Fronts.{Fronted, next_history, seals_of}
use Rattle.ccfs_top.specs.Images.{Image}
use Rattle.ccfs_top.specs.Stages.{is_sync_form, called}
use Rattle.ccfs_top.specs.Outcomes.{Within}
use Rattle.ccfs_top.specs.Reached.{Reached}
use Rattle.ccfs_top.specs.Runs.{further, history}
use Rattle.ccfs_top.specs.Sessions.{ShowsOneOf, IsStepped, cut_tree}
use Rattle.ccfs_top.proofs.Steps.{acknowledged_by, reached_on}

-- what holds of a number, a tree and sizes, holds of the same
pub by_image : (P : ℕ → Rows → Sizes → Type 0) (a b : ℕ) (t u : Rows) (k l : Sizes) → a ≡ b → t ≡ u → k ≡ l → P a t k → P b u l
by_image P a b t u k l p q r x = subst (λ (z : Sizes). P b u z) r (subst (λ (z : Rows). P b z k) q (subst (λ (z : ℕ). P z t k) p x))

-- the same of a tree and sizes
pub by_sizes : (P : Rows → Sizes → Type 0) (t u : Rows) (k l : Sizes) → t ≡ u → k ≡ l → P t k → P u l
by_sizes P t u k l q r x = subst (λ (z : Sizes). P u z) r (subst (λ (z : Rows). P z k) q x)

abbrev image_of : ℕ → Rows → Sizes → Image
image_of number t k = record { number = number; tree = t; sizes = k }

-- an image on the way of a call is one within the history with it
pub within_step : (f : Fronted) (first number : ℕ) (t : Rows) (k : Sizes) (a : ℕ) (c : Command) (written : ℕ) (x : List ℕ) → first ≡ number → f.opening ≡ t → f.sizes ≡ k
    → ShowsOneOf (record f { entries = next_history f a c }) first written (seals_of (record f { entries = next_history f a c })) x
    → Within (image_of number t k) (called k t f.entries a c) written x
within_step f first number t k a c written x p q r w =
    by_image (λ (z : ℕ) (u : Rows) (l : Sizes). Within (image_of z u l) (called l u f.entries a c) written x) first number f.opening t f.sizes k p q r
    (record { cut = w.cut; enough = w.enough; few = w.few; shows = w.shows })

-- ---- a call that was performed

-- What a run knows behind one call more.
pub record IsOn (front : Fronted) (image : Image) (calls : List Call) (i : ℕ) (call : Call) (h : List Entry) (reply : Reply) (written : ℕ) : Type 0 where
  pub entries : front.entries ≡ called image.sizes image.tree h call.actor call.command
  pub said : reply ≡ (entry_of image.sizes (now_after image.sizes (start image.tree) h) call.actor call.command).reply
  pub reached : Reached image.sizes image.tree calls (i + 1) (called image.sizes image.tree h call.actor call.command) written

pub stepped_on : (f new : Fronted) (image : Image) (calls : List Call) (i : ℕ) (call : Call) (written written' : ℕ) (reply : Reply) → i < length calls → call ≡ get_or calls i call
    → f.opening ≡ image.tree → f.sizes ≡ image.sizes → Reached image.sizes image.tree calls i f.entries written → is_answered call.command ≡ true
    → IsStepped f written call.actor call.command reply new written' → IsOn new image calls i call f.entries reply written'
stepped_on f new image calls i call written written' reply lt is opening sizes reached answered done =
    let h = f.entries in let a = call.actor in let c = call.command in
    let on = called image.sizes image.tree h a c in
    let e = entry_of image.sizes (now_after image.sizes (start image.tree) h) a c in
    let entries : new.entries ≡ on = done.entries ∙ by_sizes (λ (t : Rows) (k : Sizes). next_history f a c ≡ called k t h a c) f.opening image.tree f.sizes image.sizes opening sizes refl in
    let said : reply ≡ e.reply =
    done.reply_is ∙ by_sizes (λ (t : Rows) (k : Sizes). (entry_of f.sizes (now_after f.sizes (start f.opening) h) a c).reply ≡ (entry_of k (now_after k (start t) h) a c).reply) f.opening image.tree f.sizes image.sizes opening sizes refl in
    let seals : seals_of new ≡ seal_count image.sizes (start image.tree) on =
    ap (λ (z : List Entry). seal_count new.sizes (start new.opening) z) entries
    ∙ by_sizes (λ (t : Rows) (k : Sizes). seal_count new.sizes (start new.opening) on ≡ seal_count k (start t) on) new.opening image.tree new.sizes image.sizes (done.opening ∙ opening) (done.sizes ∙ sizes) refl in
    let counted : written' ≡ synced_number written e.reply =
    done.written_is ∙ ap (λ (z : ℕ). cond (is_sync_form c) z written) seals ∙ acknowledged_by image.sizes image.tree h a c written answered in
    record { entries = entries; said = said; reached = reached_on image.sizes image.tree calls i call h written written' lt is reached counted }

-- ---- at the end

-- what a front shows is what its image's history shows
pub shows_same : (f : Fronted) (first number : ℕ) (image : Image) (k : ℕ) → first ≡ number → f.opening ≡ image.tree → f.sizes ≡ image.sizes
    → ◌≡◌ {A = Option (ℕ × List Item)} (Some (further first k, picture (cut_tree f k))) (Some (further number k, picture (tree_at image.sizes (start image.tree) f.entries k)))
shows_same f first number image k same opening sizes =
    let trees : cut_tree f k ≡ tree_at image.sizes (start image.tree) f.entries k =
    by_sizes (λ (t : Rows) (s : Sizes). cut_tree f k ≡ tree_at s (start t) f.entries k) f.opening image.tree f.sizes image.sizes opening sizes refl in
    ap (λ (z : ℕ). Some (further z k, picture (cut_tree f k))) same ∙ ap (λ (z : Rows). Some (further number k, picture z)) trees

-- behind all calls the history is that of all
pub reached_end : (image : Image) (calls : List Call) (i : ℕ) (h : List Entry) (written : ℕ) → length calls ≤ i → Reached image.sizes image.tree calls i h written
    → h ≡ history image.sizes (start image.tree) calls
reached_end image calls i h written past reached = reached.entries ∙ ap (history image.sizes (start image.tree)) (take_all i calls past)
