-- What a session keeps of its front and its volume, and what a crash leaves on its way.
use Rattle.std.specs.Prelude.{◌≡◌, ℕ, ◌≤◌, cond, Some, List}
use Rattle.ccfs_base.specs.declared.commands.Command.{Command}
use Rattle.ccfs_base.specs.declared.replies.Reply.{Reply}
use Rattle.block_layout.specs.declared.geometry.Geometry.{Geometry}
use Rattle.gate_journal.specs.declared.halves.Half.{Half}
use Rattle.tree_model.specs.declared.picturing.Item.{Item}
use Rattle.tree_model.specs.Rows.{Rows}
use Rattle.tree_model.specs.Picture.{picture}
use Rattle.history_model.specs.Histories.{start, tree_at}
use Rattle.image_model.specs.Volumes as volumes
use Rattle.image_model.specs.Volumes.{volume_of, metadata}
use Rattle.atomic_volume.specs.Held.{contents_by}
use Rattle.recovery.specs.Recovering.{picture_shown, shown_for_now}
use Rattle.carried_volumes.specs.Carried.{Carried}
use Rattle.front_core.specs.Fronts.{Fronted, sizes_of, seals_of, next_entry, next_history}
use Rattle.ccfs_top.specs.Runs.{further}
use Rattle.ccfs_top.specs.Stages.{is_sync_form}

-- the tree of the cut after so many seals of a front
abbrev pub cut_tree : Fronted → ℕ → Rows
cut_tree front k = tree_at front.sizes (start front.opening) front.entries k

-- A session's volume carries the tree of the cut after the batches that were written to it, under the number so many behind that of the
-- opening. Its metadata is at hand.
pub record Settled (geometry : Geometry) (bytes at_hand : List ℕ) (front : Fronted) (first written : ℕ) : Type 0 where
  pub sizes : front.sizes ≡ sizes_of geometry
  pub carried : Carried (volume_of geometry bytes) (cut_tree front written) front.inodes
  pub copied : at_hand ≡ metadata (volume_of geometry bytes)
  pub number : volumes.number (volume_of geometry bytes) ≡ further first written
  pub few : written ≤ seals_of front

-- a volume, by what is known of it, shows this number and this picture
abbrev pub Shows : Geometry → Half → List ℕ → ℕ → List Item → Type 0
Shows geometry half bytes number items = picture_shown (contents_by geometry half bytes) ≡ Some (number, items)

-- an image shows the cut of a front after so many seals
abbrev pub ShowsCut : Fronted → ℕ → ℕ → List ℕ → Type 0
ShowsCut front first k c = shown_for_now c ≡ Some (further first k, picture (cut_tree front k))

-- an image on the way shows one of the cuts from this number of seals to that
pub record ShowsOneOf (front : Fronted) (first least most : ℕ) (c : List ℕ) : Type 0 where
  pub cut : ℕ
  pub enough : least ≤ cut
  pub few : cut ≤ most
  pub shows : ShowsCut front first cut c

-- how many batches are written once a call was made: all that are sealed, where it is a sync form
abbrev pub written_by : Fronted → ℕ → Command → ℕ
written_by front written c = cond (is_sync_form c) (seals_of front) written

-- A call was performed: the front has its entry, and nothing that was sealed waits behind a sync form.
pub record IsStepped (old : Fronted) (written : ℕ) (actor : ℕ) (c : Command) (reply : Reply) (new : Fronted) (written' : ℕ) : Type 0 where
  pub reply_is : reply ≡ (next_entry old actor c).reply
  pub sizes : new.sizes ≡ old.sizes
  pub limit : new.limit ≡ old.limit
  pub opening : new.opening ≡ old.opening
  pub entries : new.entries ≡ next_history old actor c
  pub handed : new.handed ≡ written'
  pub written_is : written' ≡ written_by new written c
