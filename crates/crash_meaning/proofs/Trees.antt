-- What an image recovers to is a tree.
use Rattle.std.proofs.Common.{◌≡◌, ℕ, sym, ap, subst, ◌∙◌}
use Rattle.std.specs.Prelude.{Option, Some, None}
use Rattle.tree_model.specs.Rows.{Rows, IsTree}
use Rattle.atomic_volume.specs.Opening.{Contents, opened}
use Rattle.image_model.specs.Volumes.{Volume, number}
use Rattle.image_model.specs.Checks.{all_built, first_failure}
use Rattle.image_model.specs.Trees.{tree_of}
use Rattle.image_model.proofs.SoundVolumes.{sound_volumes_carry}
use Rattle.recovery.specs.Recovering.{volume_in, where_sound, held_under, if_opened}
use Rattle.recovery.proofs.Carried.{none_fails, for_now_is_no_more}
use Rattle.recovery.proofs.Recovers.{passes_closed}
use Rattle.crash_meaning.specs.Laws.{ImagesRecoverToTrees, TheseForNow}

held_tree : (contents : Contents) (p : ℕ × Rows) → held_under all_built contents ≡ Some p → IsTree p.1
held_tree contents p e =
    let v : Volume = volume_in contents in
    let held : ℕ × Rows = (number v, tree_of v) in
    let none : first_failure contents.last v ≡ None = none_fails (first_failure contents.last v) held p e in
    let some : Some held ≡ Some p = sym (ap (λ o. where_sound o held) none) ∙ e in
    let same : held ≡ p = cc in
    subst (λ (q : ℕ × Rows). IsTree q.1) same (sound_volumes_carry v (passes_closed all_built contents.last v none).1).0

opened_tree : (o : Option Contents) (p : ℕ × Rows) → if_opened (held_under all_built) o ≡ Some p → IsTree p.1
opened_tree None p e = absurd (cc)
opened_tree (Some contents) p e = held_tree contents p e

pub images_recover_to_trees : ImagesRecoverToTrees
images_recover_to_trees c p e = opened_tree (opened c) p e

pub these_for_now : TheseForNow
these_for_now c p e = images_recover_to_trees c p (for_now_is_no_more c p e)
