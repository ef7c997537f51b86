-- The room for updates, where marks were replaced.
use Rattle.std.proofs.Common.{◌≡◌, ◌≢◌, ℕ, ◌+◌, ◌*◌, ◌≤◌, List, length, sym, ap, subst, arith}
use Rattle.cross_dep.specs.Books.{HasRoom, IsRoomKept, IsRoomUsed}
use Rattle.cross_dep.specs.Kept.{Held}
use Rattle.cross_dep.specs.Held.{NoneFell, book_in, held_at}
use Rattle.cross_dep.proofs.HeldMarks.{keys_at, places_at}

-- so many updates find places beside the marks that are held
abbrev pub Fits : List Held → ℕ → ℕ → Type 0
Fits marks s updates = length (held_at marks s).keys + 6 * updates ≤ (held_at marks s).places

pub room_of : (marks : List Held) (s updates : ℕ) → Fits marks s updates → HasRoom (book_in marks) s updates
room_of marks s updates h = omega (arith, h, ap length (keys_at marks s), places_at marks s)

pub room_is : (marks : List Held) (s updates : ℕ) → HasRoom (book_in marks) s updates → Fits marks s updates
room_is marks s updates h = omega (arith, h, ap length (keys_at marks s), places_at marks s)

-- no places were lost, and no marks came
pub room_kept : (marks new : List Held) → NoneFell marks new → ((s : ℕ) → length (held_at new s).keys ≤ length (held_at marks s).keys)
    → IsRoomKept (book_in marks) (book_in new)
room_kept marks new fell few s updates h = room_of new s updates (omega (arith, fell s, few s, room_is marks s updates h))

-- six marks came at most, in one stream
pub room_used : (marks new : List Held) (stream : ℕ) → NoneFell marks new → length (held_at new stream).keys ≤ length (held_at marks stream).keys + 6
    → ((other : ℕ) → other ≢ stream → held_at new other ≡ held_at marks other) → IsRoomUsed (book_in marks) stream (book_in new)
room_used marks new stream fell few others = record {
  own = λ updates h. room_of new stream updates (omega (arith, fell stream, few, room_is marks stream (updates + 1) h));
  others = λ other updates n h. room_of new other updates
      (subst (λ (z : Held). length z.keys + 6 * updates ≤ z.places) (sym (others other n)) (room_is marks other updates h));
}
