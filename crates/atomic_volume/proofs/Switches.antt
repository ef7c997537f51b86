-- The images of a switch of the master byte.
use Rattle.std.proofs.Common.{◌≡◌, ◌⊎◌, inl, inr, ℕ, ◌+◌, ◌≤◌, Some, List, [], ◌∷◌, length, get_or, replicate, refl, sym, ◌∙◌, ap, subst, arith}
use Rattle.std.specs.Prelude.{option_map}
use Rattle.disk_model.specs.Bytes.{part, patched, Torn}
use Rattle.disk_model.specs.Past.{Torn-patched}
use Rattle.disk_model.specs.Moments.{Only, Follows, Elapses}
use Rattle.disk_model.specs.declared.disk.Disk.{Ghosts}
use Rattle.disk_model.proofs.Places.{part-patched}
use Rattle.block_layout.specs.declared.geometry.Geometry.{Geometry}
use Rattle.gate_journal.specs.declared.halves.Half.{Half}
use Rattle.gate_journal.specs.Journal.{Journal}
use Rattle.gate_journal.specs.Halves.{half_of, size_of, journal_of}
use Rattle.gate_journal.specs.Loading.{empty}
use Rattle.gate_journal.specs.Runs.{LeavesBy}
use Rattle.atomic_volume.specs.Opening.{Contents, opened}
use Rattle.atomic_volume.specs.Held.{ReadsAs}
use Rattle.atomic_volume.specs.Homing.{other_half, Comes, at_home, OpensLike, OpensAs, IsMoved, IsMovedFrom, Bears, master_of, made_ready}
use Rattle.atomic_volume.proofs.Bytes.{byte_read}
use Rattle.atomic_volume.proofs.Leaving.{leaves_weaker, leaves_then}
use Rattle.atomic_volume.proofs.Moves.{ready_long, switch_opens, last_opens, last_bears}

module _ (h : Half) (d : List ℕ) (bears : Bears h d) (m : List ℕ) (ready : m ≡ made_ready h d) (b : ℕ) (c : List ℕ) (is : c ≡ patched m 4096 (b ∷ [])) (byte : b ≡ master_of (other_half h.half)) where
  room : 4096 + 1 ≤ length m
  room = omega (arith, ready_long h d bears (replicate 4096 0) refl m ready, bears.shows.inside)

  torn : Torn 4096 1 m c
  torn = subst (λ (l : List ℕ). Torn 4096 1 m l) (sym is) (Torn-patched m 4096 (b ∷ []) room)

  master : get_or c 4096 0 ≡ master_of (other_half h.half)
  master = byte_read 4096 c b (ap (λ (l : List ℕ). part 4096 1 l) is ∙ part-patched m 4096 (b ∷ []) room) ∙ byte

  pub switched_opens : opened c ≡ option_map at_home (opened d)
  switched_opens = last_opens h d bears (replicate 4096 0) refl m ready c torn master

  pub switched_bears : (after : Half) → half_of after ≡ other_half h.half → size_of after ≡ size_of h → journal_of after ≡ empty → Bears after c
  switched_bears after half size is_empty = last_bears h d bears (replicate 4096 0) refl m ready c torn master after half size is_empty

module _ {X : Type 0} (d : Ghosts X) (h : Half) (start mid : X) (was : d.may_leave start (d.seen start)) (bears : (c : List ℕ) → d.may_leave start c → Bears h c)
    (ready_run : LeavesBy d start mid (Comes OpensLike (d.may_leave start))) where
  abbrev P : List ℕ → Type 0
  P = IsMovedFrom (d.seen start) (d.may_leave start)

  pub moved_before : LeavesBy d start mid P
  moved_before = leaves_weaker d start mid (Comes OpensLike (d.may_leave start)) P ready_run (λ c p. inl p)

  from_now : (c : List ℕ) → OpensAs (d.seen start) c → P c
  from_now c (inl same) = inl (d.seen start, was, same)
  from_now c (inr home) = inr home

  -- each image of a run that goes on with a switch opens as one of the start, or as the contents at the start do, at home
  pub moved : (now : X) → d.seen mid ≡ made_ready h (d.seen start) → Only (d.seen mid) (d.may_leave mid) → Elapses (d.moment mid) (d.moment now) (d.left_since mid) (d.left_since now)
      → Follows (Torn 4096 1) (d.may_leave mid) (d.left_since now (d.moment mid)) → LeavesBy d start now P
  moved now ready only time crash = leaves_then d start mid now P moved_before (record {
    time = time;
    each = λ c left. let from = crash c left in
        from_now c (switch_opens h (d.seen start) (bears (d.seen start) was) (replicate 4096 0) refl from.0 (only from.0 from.1 ∙ ready) c from.2);
  })

-- then it is the volume's, with the half that has no batch
pub holds_moved : (g : Geometry) (h after : Half) (bytes d c : List ℕ) → ReadsAs g h bytes d → Bears after c → opened c ≡ option_map at_home (opened d) → journal_of after ≡ empty → length c ≡ length d → ReadsAs g after bytes c
holds_moved g h after bytes d c holds bears opens is long = record {
  opens = opens ∙ ap (option_map at_home) holds.opens ∙ (λ i. Some (record { blocks = g.blocks; inodes = g.inodes; bytes = bytes; last = ap (λ (j : Journal). j.last) (sym is) i }));
  shows = bears.shows;
  active = bears.active;
  size = bears.size;
  long = long ∙ holds.long;
}

-- the same by what the contents at the start open to
pub moved_by : {X : Type 0} (d : Ghosts X) (old new : X) (contents : Contents) → opened (d.seen old) ≡ Some contents → LeavesBy d old new (IsMovedFrom (d.seen old) (d.may_leave old))
    → LeavesBy d old new (IsMoved contents (d.may_leave old))
moved_by d old new contents opens run = leaves_weaker d old new (IsMovedFrom (d.seen old) (d.may_leave old)) (IsMoved contents (d.may_leave old)) run by
  where
    by : (c : List ℕ) → IsMovedFrom (d.seen old) (d.may_leave old) c → IsMoved contents (d.may_leave old) c
    by c (inl from) = inl from
    by c (inr home) = inr (home ∙ ap (option_map at_home) opens)
