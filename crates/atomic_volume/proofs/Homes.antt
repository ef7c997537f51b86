-- Ranges put on bytes, and on the volume area of an image.
use Rattle.std.proofs.Common.{◌≡◌, ◌⊎◌, inl, inr, ⊎_elim, ℕ, suc, ◌+◌, ◌-◌, ◌≤◌, ◌<◌, List, [], ◌∷◌, ◌++◌, length, get_or, take, drop, refl, sym, ◌∙◌, ap, subst, arith, append_assoc, length-append, length-drop}
use Rattle.std.specs.List.{All}
use Rattle.std.proofs.Math.Seq.{take-append-add, drop-append-add}
use Rattle.std.proofs.lemmas.List.{ext_get_or, drop_at, length-take-le, get_or-take, get_or-drop, get_or_append_left, get_or-append_right}
use Rattle.std.proofs.lemmas.List.Elements.{All-cons}
use Rattle.std.proofs.lemmas.List.Sums.{sum_by_more}
use Rattle.disk_model.specs.Bytes.{patched, Torn}
use Rattle.disk_model.specs.Past.{length-patched}
use Rattle.disk_model.proofs.Places.{torn_place, part-patched, place-patched}
use Rattle.gate_journal.specs.declared.batches.Range.{Range}
use Rattle.gate_journal.specs.Batches.{Stands, range_bytes}
use Rattle.gate_journal.proofs.Parts.{part_place}
use Rattle.atomic_volume.specs.Opening.{volume_place, volume_area, put_on}
use Rattle.atomic_volume.specs.Homing.{put_home, IsApart, Scattered}
use Rattle.atomic_volume.proofs.Puts.{put_on_more}

-- a place that no range covers
abbrev pub IsOutside : List Range → ℕ → Type 0
IsOutside ranges k = All (λ (r : Range). (k < r.off) ⊎ (r.off + length r.bytes ≤ k)) ranges

abbrev IsOff : ℕ → Range → Type 0
IsOff k r = (k < r.off) ⊎ (r.off + length r.bytes ≤ k)

tail_all : {X : Type 0} (P : X → Type 0) (x : X) (xs : List X) → All P (x ∷ xs) → All P xs
tail_all P x xs all = λ k d less. all (suc k) d (omega (arith, less))

three : (k u n : ℕ) → (k < u) ⊎ ((u ≤ k) × (k < u + n)) ⊎ (u + n ≤ k)
three k u n = grind arith

-- a place that was written over
in_patched : (old : List ℕ) (offset : ℕ) (bytes : List ℕ) → offset + length bytes ≤ length old → (k : ℕ) → offset ≤ k → k < offset + length bytes → get_or (patched old offset bytes) k 0 ≡ get_or bytes (k - offset) 0
in_patched old offset bytes inside k from to =
    let at : offset + (k - offset) ≡ k = omega (arith, from) in
    ap (λ (i : ℕ). get_or (patched old offset bytes) i 0) (sym at)
    ∙ sym (part_place offset (length bytes) (k - offset) (patched old offset bytes) (omega (arith, from, to)))
    ∙ ap (λ (l : List ℕ). get_or l (k - offset) 0) (part-patched old offset bytes inside)

-- bytes that agree outside a range and others agree outside the others, once that range is put on them
patched_same : (r : Range) (rs : List Range) (a b : List ℕ) → r.off + length r.bytes ≤ length a → r.off + length r.bytes ≤ length b → ((k : ℕ) → IsOutside (r ∷ rs) k → get_or a k 0 ≡ get_or b k 0)
    → (k : ℕ) → IsOutside rs k → get_or (patched a r.off r.bytes) k 0 ≡ get_or (patched b r.off r.bytes) k 0
patched_same r rs a b in_a in_b same k out = ⊎_elim
    (λ low. kept (inl low))
    (λ more. ⊎_elim
    (λ within. in_patched a r.off r.bytes in_a k within.0 within.1 ∙ sym (in_patched b r.off r.bytes in_b k within.0 within.1))
    (λ high. kept (inr high))
    more)
    (three k r.off (length r.bytes))
  where
    kept : IsOff k r → get_or (patched a r.off r.bytes) k 0 ≡ get_or (patched b r.off r.bytes) k 0
    kept off = place-patched a r.off r.bytes in_a k off ∙ same k (All-cons (IsOff k) r rs off out) ∙ sym (place-patched b r.off r.bytes in_b k off)

-- bytes that agree outside ranges are the same once these are put on them
pub same_put : (rs : List Range) (a b : List ℕ) → length a ≡ length b → All (Stands (length a)) rs → ((k : ℕ) → IsOutside rs k → get_or a k 0 ≡ get_or b k 0) → put_on a rs ≡ put_on b rs
same_put [] a b long stand same = ext_get_or 0 a b long (λ k less. same k (λ i d lt. absurd (omega (arith, lt))))
same_put (r ∷ rs) a b long stand same =
    let s : Stands (length a) r = stand 0 r (omega arith) in
    let in_a : r.off + length r.bytes ≤ length a = s.inside in
    let in_b : r.off + length r.bytes ≤ length b = subst (λ (n : ℕ). r.off + length r.bytes ≤ n) long in_a in
    same_put rs (patched a r.off r.bytes) (patched b r.off r.bytes) (length-patched a r.off r.bytes in_a ∙ long ∙ sym (length-patched b r.off r.bytes in_b))
    (subst (λ (n : ℕ). All (Stands n) rs) (sym (length-patched a r.off r.bytes in_a)) (tail_all (Stands (length a)) r rs stand))
    (patched_same r rs a b in_a in_b same)

pub put_long : (rs : List Range) (a : List ℕ) → All (Stands (length a)) rs → length (put_on a rs) ≡ length a
put_long [] a stand = refl
put_long (r ∷ rs) a stand =
    let s : Stands (length a) r = stand 0 r (omega arith) in
    let long : length (patched a r.off r.bytes) ≡ length a = length-patched a r.off r.bytes s.inside in
    put_long rs (patched a r.off r.bytes) (subst (λ (n : ℕ). All (Stands n) rs) (sym long) (tail_all (Stands (length a)) r rs stand)) ∙ long

-- a place outside of the ranges stays
pub put_outside : (rs : List Range) (a : List ℕ) → All (Stands (length a)) rs → (k : ℕ) → IsOutside rs k → get_or (put_on a rs) k 0 ≡ get_or a k 0
put_outside [] a stand k out = refl
put_outside (r ∷ rs) a stand k out =
    let s : Stands (length a) r = stand 0 r (omega arith) in
    let long : length (patched a r.off r.bytes) ≡ length a = length-patched a r.off r.bytes s.inside in
    put_outside rs (patched a r.off r.bytes) (subst (λ (n : ℕ). All (Stands n) rs) (sym long) (tail_all (Stands (length a)) r rs stand)) k (tail_all (IsOff k) r rs out)
    ∙ place-patched a r.off r.bytes s.inside k (out 0 r (omega arith))

-- put on twice, ranges are as put on once
pub put_twice : (rs : List Range) (a : List ℕ) → All (Stands (length a)) rs → put_on (put_on a rs) rs ≡ put_on a rs
put_twice rs a stand =
    let long = put_long rs a stand in
    same_put rs (put_on a rs) a long (subst (λ (n : ℕ). All (Stands n) rs) (sym long) stand) (put_outside rs a stand)

module _ (c : List ℕ) (rs : List Range) (inside : volume_place ≤ length c) where
  front_long : length (take volume_place c) ≡ volume_place
  front_long = length-take-le volume_place c inside

  pub home_area : volume_area (put_home c rs) ≡ put_on (volume_area c) rs
  home_area = drop_at (take volume_place c) (put_on (volume_area c) rs) volume_place front_long

  module _ (stand : All (Stands (length (volume_area c))) rs) where
    pub home_long : length (put_home c rs) ≡ length c
    home_long = omega (arith, length-append (take volume_place c) (put_on (volume_area c) rs), front_long, put_long rs (volume_area c) stand, length-drop volume_place c, inside)

    outside_of : (k : ℕ) → volume_place ≤ k → IsApart rs k → IsOutside rs (k - volume_place)
    outside_of k from apart = λ i d less. ⊎_elim (λ low. inl (omega (arith, low, from))) (λ high. inr (omega (arith, high, from))) (apart i d less)

    -- a place apart from the homes stays
    pub home_place : (k : ℕ) → IsApart rs k → get_or (put_home c rs) k 0 ≡ get_or c k 0
    home_place k apart = ⊎_elim
        (λ low. get_or_append_left (take volume_place c) (put_on (volume_area c) rs) 0 k (omega (arith, front_long, low)) ∙ get_or-take volume_place c k 0 low)
        (λ high. get_or-append_right (take volume_place c) (put_on (volume_area c) rs) volume_place k 0 front_long high
        ∙ put_outside rs (volume_area c) stand (k - volume_place) (outside_of k high apart)
        ∙ get_or-drop volume_place c (k - volume_place) 0
        ∙ ap (λ (i : ℕ). get_or c i 0) (let e : volume_place + (k - volume_place) ≡ k = omega (arith, high) in e))
        (low_or_high k)
      where
        low_or_high : (k : ℕ) → (k < volume_place) ⊎ (volume_place ≤ k)
        low_or_high k = grind arith

-- bytes written behind a front
patched_behind : (front area : List ℕ) (n offset : ℕ) (bytes : List ℕ) → length front ≡ n → patched (front ++ area) (n + offset) bytes ≡ front ++ patched area offset bytes
patched_behind front area n offset bytes long =
    let first : take (n + offset) (front ++ area) ≡ front ++ take offset area
    = ap (λ (i : ℕ). take (i + offset) (front ++ area)) (sym long) ∙ take-append-add front area offset in
    let last : drop (n + offset + length bytes) (front ++ area) ≡ drop (offset + length bytes) area
    = ap (λ (i : ℕ). drop i (front ++ area)) (let e : n + offset + length bytes ≡ length front + (offset + length bytes) = omega (arith, long) in e) ∙ drop-append-add front area (offset + length bytes) in
    ap (λ (l : List ℕ). l ++ bytes ++ drop (n + offset + length bytes) (front ++ area)) first
    ∙ ap (λ (l : List ℕ). (front ++ take offset area) ++ bytes ++ l) last
    ∙ simp append_assoc

-- one more range is put home
pub home_more : (c : List ℕ) (rs : List Range) (i : ℕ) (r : Range) → volume_place ≤ length c → i < length rs → r ≡ get_or rs i r
    → patched (put_home c (take i rs)) (volume_place + r.off) r.bytes ≡ put_home c (take (i + 1) rs)
home_more c rs i r inside less is =
    patched_behind (take volume_place c) (put_on (volume_area c) (take i rs)) volume_place r.off r.bytes (length-take-le volume_place c inside)
    ∙ ap (λ (l : List ℕ). take volume_place c ++ l) (put_on_more (volume_area c) rs i r less is)

-- a torn write of one of the ranges to its home scatters no more than these
pub scattered_more : (rs : List Range) (i : ℕ) (r : Range) (n : ℕ) (d m c : List ℕ) → i < length rs → r ≡ get_or rs i r → n ≡ length r.bytes → Scattered rs d m → Torn (volume_place + r.off) n m c → Scattered rs d c
scattered_more rs i r n d m c less is long scattered torn = record {
  size = torn.same_length ∙ scattered.size;
  each = λ k apart.
      let off : (k < volume_place + r.off) ⊎ (volume_place + r.off + length r.bytes ≤ k)
      = subst (λ (x : Range). (k < volume_place + x.off) ⊎ (volume_place + x.off + length x.bytes ≤ k)) (sym is) (apart i r less) in
      torn_place (volume_place + r.off) n m c torn k (subst (λ (x : ℕ). (k < volume_place + r.off) ⊎ (volume_place + r.off + x ≤ k)) (sym long) off) ∙ scattered.each k apart;
}

-- one more range counts
pub bytes_more : (rs : List Range) (i : ℕ) (r : Range) → i < length rs → r ≡ get_or rs i r → range_bytes (take (i + 1) rs) ≡ range_bytes (take i rs) + length r.bytes
bytes_more rs i r less is = sum_by_more (λ (x : Range). length x.bytes) rs i r less ∙ ap (λ (x : Range). range_bytes (take i rs) + length x.bytes) (sym is)
