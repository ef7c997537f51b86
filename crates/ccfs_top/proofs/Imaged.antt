-- What a session knows of the image that it was opened on.
use Rattle.std.proofs.Common.{◌≡◌, ℕ, ◌-◌, ◌<◌, ◌^◌, List, refl, sym, ap, ◌∙◌, subst, arith}
use Rattle.std.specs.declared.option.Option.{Option}
use Rattle.std.specs.declared.option.Option.TheVariants.{None, Some}
use Rattle.std.proofs.lemmas.Option.{same_Some}
use Rattle.block_layout.specs.declared.geometry.Geometry.{Geometry}
use Rattle.block_layout.specs.Sizes.{data_start}
use Rattle.tree_cuts.specs.Calls.{Sizes}
use Rattle.tree_model.specs.Rows.{Rows}
use Rattle.gate_journal.specs.declared.halves.Half.{Half}
use Rattle.disk_model.specs.declared.disk.Disk.{Ghosts}
use Rattle.recovery.specs.Opens.{Finds}
use Rattle.atomic_volume.specs.Homing.{at_home}
use Rattle.std.specs.Prelude.{option_map}
use Rattle.atomic_volume.specs.Opening.{Contents, opened}
use Rattle.atomic_volume.specs.Held.{contents_by}
use Rattle.image_model.specs.declared.check.Check.{Check}
use Rattle.image_model.specs.Reading.{IsWhole}
use Rattle.image_model.specs.Volumes as volumes
use Rattle.image_model.specs.Volumes.{volume_of, metadata, table_of}
use Rattle.image_model.specs.Files.{file_bytes}
use Rattle.image_model.specs.Trees.{inodes_of, tree_of}
use Rattle.image_model.specs.Checks.{first_failure_for_now}
use Rattle.carried_volumes.specs.Laws.{IsOpened}
use Rattle.front_core.specs.Fronts.{Fronted, sizes_of, new_front}
use Rattle.recovery.specs.Recovering.{volume_in, where_sound, tree_held}
use Rattle.ccfs_top.specs.Images.{IsImage}
use Rattle.ccfs_top.specs.Runs.{image_by, further}
use Rattle.ccfs_top.specs.Sessions.{Settled}
use Rattle.carried_volumes.proofs.Opening.{sound_volumes_are_opened}

-- ---- sizes

abbrev sized : ℕ → ℕ → Sizes
sized data_blocks inodes = record { data_blocks = data_blocks; inodes = inodes }

data_left : (g : Geometry) → g.data_blocks ≡ g.blocks - data_start g.inodes
data_left g = omega (arith, g.first_data_place, g.data_to_the_end)

sizes_by : (g : Geometry) → sizes_of g ≡ sized (g.blocks - data_start g.inodes) g.inodes
sizes_by g = ap (λ (z : ℕ). sized z g.inodes) (data_left g)

-- ---- an opened image

held_is : {A : Type 0} (o : Option (Check × ℕ)) (p q : A) → where_sound o p ≡ Some q → p ≡ q
held_is None p q is = same_Some p q is
held_is (Some failed) p q is = absurd (cc is)

-- the number and the tree that contents hold are the volume's
held_volume : (contents : Contents) (n : ℕ) (t : Rows) → tree_held contents ≡ Some (n, t) → ◌≡◌ {A = ℕ × Rows} (volumes.number (volume_in contents), tree_of (volume_in contents)) (n, t)
held_volume contents n t held = held_is _ (volumes.number (volume_in contents), tree_of (volume_in contents)) (n, t) held

module _ (g : Geometry) (half : Half) (bytes inodes : List ℕ) (n : ℕ) (t : Rows) (whole : IsWhole g bytes) (held : tree_held (contents_by g half bytes) ≡ Some (n, t))
    (sound : first_failure_for_now None (volume_of g bytes) ≡ None) (listed : inodes ≡ inodes_of (table_of (volume_of g bytes)) (file_bytes (volume_of g bytes))) where
  tree_is : tree_of (volume_of g bytes) ≡ t
  tree_is = ap (λ (z : ℕ × Rows). z.1) (held_volume (contents_by g half bytes) n t held)

  -- what is known of the volume
  pub opened_is : IsOpened (volume_of g bytes) t inodes
  opened_is =
      subst (λ (z : Rows). IsOpened (volume_of g bytes) z inodes) tree_is
      (subst (λ (z : List ℕ). IsOpened (volume_of g bytes) (tree_of (volume_of g bytes)) z) (sym listed) (sound_volumes_are_opened g bytes whole sound))

  -- a front that was just made is settled on it
  pub settled_first : (at_hand : List ℕ) (front : Fronted) (limit : ℕ) → n < 2 ^ 64 → at_hand ≡ metadata (volume_of g bytes) → front ≡ new_front g limit t inodes → Settled g bytes at_hand front n 0
  settled_first at_hand front limit small copied is =
      let new : Fronted = new_front g limit t inodes in
      let number : n ≡ further n 0 = omega (arith, small) in
      subst (λ (z : Fronted). Settled g bytes at_hand z n 0) (sym is) (record {
        sizes = refl;
        carried = opened_is.carried;
        copied = copied;
        number = ap (λ (z : ℕ × Rows). z.0) (held_volume (contents_by g half bytes) n t held) ∙ number;
        few = omega arith;
      })

home_of : (o : Option Contents) (home : Contents) → option_map at_home o ≡ Some home → (c : Contents) × (o ≡ Some c) × (at_home c ≡ home)
home_of None home e = absurd (let z : ◌≡◌ {A = Option Contents} None (Some home) = e in cc)
home_of (Some c) home e = (c, refl, same_Some (at_home c) home e)

-- the image that an opening found is the one that its session counts with
pub image_found : {X : Type 0} (d : Ghosts X) (old new : X) (number : ℕ) (front : Fronted) (geometry : Geometry) (half : Half) (bytes : List ℕ) → front.sizes ≡ sizes_of geometry
    → (found : Finds d old new (contents_by geometry half bytes) (number, front.opening)) → IsImage (image_by number front) found.contents
image_found d old new number front geometry half bytes sizes found =
    let was = home_of (opened found.contents) (contents_by geometry half bytes) found.opens in
    let blocks = ap (λ (z : Contents). z.blocks) was.2 in
    let inodes = ap (λ (z : Contents). z.inodes) was.2 in
    record {
      recovers = found.recovers;
      contents = was.0;
      opens = was.1;
      sizes_are = sizes ∙ sizes_by geometry ∙ (λ i. sized (sym blocks i - data_start (sym inodes i)) (sym inodes i));
    }
