-- The image that a number picks is one that a crash may leave.
use Rattle.std.proofs.Common.{◌≡◌, ◌⊎◌, inr, ⊎_elim, ℕ, ◌+◌, ◌-◌, ◌≤◌, ◌<◌, Bool, false, ◌&&◌, ◌||◌, ◌==◌, if◌then◌else◌, nat_le, nat_lt, IsTrue, List, [], ◌∷◌, ◌++◌, length, get_or, take, drop, replicate, refl, sym, ◌∙◌, ap, subst, arith, length-append, length-drop}
use Rattle.std.proofs.lemmas.Bool.Decides.{nat_tests}
use Rattle.std.proofs.lemmas.List.{ext_get_or, take-take, take-append-le, length-take, length-take-le, get_or-take, get_or-drop, get_or-append_right, get_or_append_left, get_or_past}
use Rattle.disk_model.specs.Bytes.{part, patched, resized, Torn}
use Rattle.disk_model.specs.History.{contents, all_inside, Images}
use Rattle.disk_model.specs.Past.{length-patched, length-resized, Torn-patched, Images-contents, inside_now}
use Rattle.disk_model.specs.Pick.{stable_of, is_loose, image_byte, mixed, loose_byte, IsPicked}
use Rattle.disk_model.proofs.Places.{torn_place, part-patched}
use Rattle.disk_model.specs.declared.operation.Operation.{Operation}
use Rattle.disk_model.specs.declared.operation.Operation.TheVariants.{Write, Resize, Sync}

pub length-stable : (start : List ℕ) (past : List Operation) → IsTrue (all_inside start past) → length (stable_of start past) ≡ length (contents start past)
length-stable start [] inside = refl
length-stable start (Write offset bytes ∷ past) inside =
    let both = inside_now (offset + length bytes.items) (length (contents start past)) (all_inside start past) inside in
    length-stable start past both.1 ∙ sym (length-patched (contents start past) offset bytes.items both.0)
length-stable start (Resize size ∷ past) inside = length-resized (stable_of start past) size ∙ sym (length-resized (contents start past) size)
length-stable start (Sync ∷ past) inside = refl

torn_back : (offset n : ℕ) (old new : List ℕ) → Torn offset n old new → Torn offset n new old
torn_back offset n old new torn = record { before = sym torn.before; after = sym torn.after; same_length = sym torn.same_length }

same_by_places : (c s : List ℕ) → length c ≡ length s → ((x : ℕ) → get_or c x 0 ≡ get_or s x 0) → c ≡ s
same_by_places c s size places = ext_get_or 0 c s size (λ x lt. places x)

-- a place in a part
part_place : (offset n k : ℕ) (l : List ℕ) → k < n → get_or (part offset n l) k 0 ≡ get_or l (offset + k) 0
part_place offset n k l lt = get_or-take n (drop offset l) k 0 lt ∙ get_or-drop offset l k 0

in_or_out : (offset n x : ℕ) → ((offset ≤ x) × (x < offset + n)) ⊎ ((x < offset) ⊎ (offset + n ≤ x))
in_or_out offset n x = grind arith

split : (x n : ℕ) → (x < n) ⊎ (n ≤ x)
split x n = grind arith

resized_place : (old : List ℕ) (n x : ℕ) → x < n → x < length old → get_or (resized old n) x 0 ≡ get_or old x 0
resized_place old n x lt lt' = get_or_append_left (take n old) (replicate (n - length old) 0) 0 x (omega (arith, length-take n old)) ∙ get_or-take n old x 0 lt

firm_outside : (offset n x : ℕ) (b : Bool) → (x < offset) ⊎ (offset + n ≤ x) → b ≡ false → ((nat_le offset x && nat_lt x (offset + n)) || b) ≡ false
firm_outside offset n x b out firm = grind (arith, nat_tests)

-- at every place that isn't loose it has the stable byte
pub record HasFirm (start : List ℕ) (past : List Operation) (c : List ℕ) : Type 0 where
  pub size : length c ≡ length (stable_of start past)
  pub rest : (x : ℕ) → is_loose past x ≡ false → get_or c x 0 ≡ get_or (stable_of start past) x 0

-- any bytes at the loose places, and the stable ones elsewhere, are an image
pub firm_is_image : (start : List ℕ) (past : List Operation) → IsTrue (all_inside start past) → (c : List ℕ) → HasFirm start past c → Images start past c
firm_is_image start [] inside c firm = same_by_places c start firm.size (λ x. firm.rest x refl)
firm_is_image start (Sync ∷ past) inside c firm = same_by_places c (contents start past) firm.size (λ x. firm.rest x refl)
firm_is_image start (Write offset bytes ∷ past) inside c firm =
    let both = inside_now (offset + length bytes.items) (length (contents start past)) (all_inside start past) inside in
    let s = stable_of start past in
    let n = length bytes.items in
    let room : offset + n ≤ length s = omega (arith, both.0, length-stable start past both.1) in
    let ys = part offset n s in
    let ys_long : length ys ≡ n = length-take-le n (drop offset s) (omega (arith, length-drop offset s, room)) in
    let room_c : offset + length ys ≤ length c = omega (arith, ys_long, room, firm.size) in
    let d = patched c offset ys in
    let torn : Torn offset n d c = subst (λ (k : ℕ). Torn offset k d c) ys_long (torn_back offset (length ys) c d (Torn-patched c offset ys room_c)) in
    let long_d : length d ≡ length s = length-patched c offset ys room_c ∙ firm.size in
    let inner : (x : ℕ) → offset ≤ x → x < offset + n → get_or d x 0 ≡ get_or s x 0 = λ x low high.
    let at : offset + (x - offset) ≡ x = omega (arith, low) in
    ap (λ (i : ℕ). get_or d i 0) (sym at) ∙ sym (part_place offset n (x - offset) d (omega (arith, low, high)))
    ∙ ap (λ (l : List ℕ). get_or l (x - offset) 0) (ap (λ (k : ℕ). part offset k d) (sym ys_long) ∙ part-patched c offset ys room_c)
    ∙ part_place offset n (x - offset) s (omega (arith, low, high)) ∙ ap (λ (i : ℕ). get_or s i 0) at in
    let rest : (x : ℕ) → is_loose past x ≡ false → get_or d x 0 ≡ get_or s x 0 = λ x loose.
    ⊎_elim (λ within. inner x within.0 within.1)
    (λ out. sym (torn_place offset n d c torn x out) ∙ firm.rest x (firm_outside offset n x (is_loose past x) out loose))
    (in_or_out offset n x) in
    (d, firm_is_image start past both.1 d (record { size = long_d; rest = rest }), torn)
firm_is_image start (Resize n ∷ past) inside c firm =
    let s = stable_of start past in
    let len = length s in
    let long_c : length c ≡ n = firm.size ∙ length-resized s n in
    let d = take len c ++ drop n s in
    let long_d : length d ≡ len = omega (arith, length-append (take len c) (drop n s), length-take len c, length-drop n s, long_c) in
    let front : (k : ℕ) → k ≤ length d → k ≤ n → take k c ≡ take k d = λ k le le'.
    sym (take-append-le k (take len c) (drop n s) (omega (arith, length-take len c, long_c, long_d, le, le')) ∙ take-take k len c (omega (arith, le, long_d))) in
    let low : (x : ℕ) → x < n → x < len → get_or d x 0 ≡ get_or c x 0 = λ x lt lt'.
    get_or_append_left (take len c) (drop n s) 0 x (omega (arith, length-take len c, long_c, lt, lt')) ∙ get_or-take len c x 0 lt' in
    let high : (x : ℕ) → n ≤ x → x < len → get_or d x 0 ≡ get_or s x 0 = λ x le lt.
    let short : length (take len c) ≡ n = omega (arith, length-take len c, long_c, le, lt) in
    get_or-append_right (take len c) (drop n s) n x 0 short le ∙ get_or-drop n s (x - n) 0 ∙ ap (λ (i : ℕ). get_or s i 0) (let e : n + (x - n) ≡ x = omega (arith, le) in e) in
    let rest : (x : ℕ) → is_loose past x ≡ false → get_or d x 0 ≡ get_or s x 0 = λ x loose.
    ⊎_elim (λ inside_s. ⊎_elim (λ lt. low x lt inside_s ∙ firm.rest x loose ∙ resized_place s n x lt inside_s) (λ le. high x le inside_s) (split x n))
    (λ past_s. get_or_past d x 0 (omega (arith, long_d, past_s)) ∙ sym (get_or_past s x 0 past_s)) (split x len) in
    (d, firm_is_image start past inside d (record { size = long_d; rest = rest }), record { either = inr long_c; front = front })

pick_cases : (pick : ℕ) → (pick ≡ 0) ⊎ ((pick ≡ 1) ⊎ (((pick == 0) ≡ false) × ((pick == 1) ≡ false)))
pick_cases pick = grind (arith, nat_tests)

firm_byte : (start : List ℕ) (past : List Operation) (pick place : ℕ) → (pick == 0) ≡ false → (pick == 1) ≡ false → is_loose past place ≡ false → image_byte start past pick place ≡ get_or (stable_of start past) place 0
firm_byte start past pick place not0 not1 loose = rw (not0, not1, loose) refl

pub picked_is_image : (start : List ℕ) (past : List Operation) (pick : ℕ) (image : List ℕ) → IsTrue (all_inside start past) → IsPicked start past pick image → Images start past image
picked_is_image start past pick image inside picked =
    let s = stable_of start past in
    let beyond : (x : ℕ) (other : List ℕ) → length image ≡ length other → length image ≤ x → get_or image x 0 ≡ get_or other x 0 = λ x other same le.
    get_or_past image x 0 le ∙ sym (get_or_past other x 0 (omega (arith, same, le))) in
    ⊎_elim
    (λ zero_pick. let same : image ≡ s = ext_get_or 0 image s picked.same_length (λ x lt. picked.bytes x lt ∙ ap (λ (p : ℕ). image_byte start past p x) zero_pick) in
    firm_is_image start past inside image (record { size = picked.same_length; rest = λ x loose. ap (λ (l : List ℕ). get_or l x 0) same }))
    (λ other. ⊎_elim
    (λ one_pick. let same : image ≡ contents start past = ext_get_or 0 image (contents start past) (picked.same_length ∙ length-stable start past inside) (λ x lt. picked.bytes x lt ∙ ap (λ (p : ℕ). image_byte start past p x) one_pick) in
    subst (Images start past) (sym same) (Images-contents start past inside))
    (λ drawn. firm_is_image start past inside image (record {
      size = picked.same_length;
      rest = λ x loose. ⊎_elim (λ lt. picked.bytes x lt ∙ firm_byte start past pick x drawn.0 drawn.1 loose) (λ le. beyond x s picked.same_length le) (split x (length image));
    }))
    other)
    (pick_cases pick)

pub picked_stable : (start : List ℕ) (past : List Operation) (pick : ℕ) (image : List ℕ) → pick ≡ 0 → image ≡ stable_of start past → IsPicked start past pick image
picked_stable start past pick image is same = record {
  same_length = ap length same;
  bytes = λ x lt. ap (λ (l : List ℕ). get_or l x 0) same ∙ sym (ap (λ (p : ℕ). image_byte start past p x) is);
}

pub picked_now : (start : List ℕ) (past : List Operation) (pick : ℕ) (image : List ℕ) → IsTrue (all_inside start past) → pick ≡ 1 → image ≡ contents start past → IsPicked start past pick image
picked_now start past pick image inside is same = record {
  same_length = ap length same ∙ sym (length-stable start past inside);
  bytes = λ x lt. ap (λ (l : List ℕ). get_or l x 0) same ∙ sym (ap (λ (p : ℕ). image_byte start past p x) is);
}

-- the image by its loose places
pub picked_drawn : (start : List ℕ) (past : List Operation) (pick : ℕ) (image stable now : List ℕ) (loose : List Bool) → (pick ≡ 0 → ⊥) → (pick ≡ 1 → ⊥)
    → stable ≡ stable_of start past → now ≡ contents start past → length image ≡ length stable
    → ((x : ℕ) → x < length image → get_or loose x false ≡ is_loose past x)
    → ((x : ℕ) → x < length image → get_or image x 0 ≡ (if get_or loose x false then loose_byte (mixed pick x) (get_or stable x 0) (get_or now x 0) else get_or stable x 0))
    → IsPicked start past pick image
picked_drawn start past pick image stable now loose not0 not1 stable_is now_is same places bytes =
    let no0 : (pick == 0) ≡ false = grind (arith, nat_tests) in
    let no1 : (pick == 1) ≡ false = grind (arith, nat_tests) in
    record {
      same_length = same ∙ ap length stable_is;
      bytes = λ x lt. bytes x lt
          ∙ ap (λ (b : Bool). if b then loose_byte (mixed pick x) (get_or stable x 0) (get_or now x 0) else get_or stable x 0) (places x lt)
          ∙ ap (λ (l : List ℕ). if is_loose past x then loose_byte (mixed pick x) (get_or l x 0) (get_or now x 0) else get_or l x 0) stable_is
          ∙ ap (λ (l : List ℕ). if is_loose past x then loose_byte (mixed pick x) (get_or (stable_of start past) x 0) (get_or l x 0) else get_or (stable_of start past) x 0) now_is
          ∙ sym (let e : image_byte start past pick x ≡ (if is_loose past x then loose_byte (mixed pick x) (get_or (stable_of start past) x 0) (get_or (contents start past) x 0) else get_or (stable_of start past) x 0) = rw (no0, no1) refl in e);
    }
