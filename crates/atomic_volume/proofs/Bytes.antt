-- Parts of an image as they are read.
use Rattle.std.proofs.Common.{◌≡◌, ℕ, ◌+◌, ◌-◌, ◌*◌, ◌≤◌, List, [], ◌∷◌, length, get_or, drop, sym, ◌∙◌, ap, arith, length-drop}
use Rattle.std.proofs.lemmas.List.{get_or-take, get_or-drop, take_all}
use Rattle.disk_model.specs.Bytes.{part}
use Rattle.atomic_volume.specs.Opening.{volume_place, volume_area}

-- one byte
pub byte_read : (k : ℕ) (c : List ℕ) (b : ℕ) → part k 1 c ≡ b ∷ [] → get_or c k 0 ≡ b
byte_read k c b is = sym (get_or-drop k c 0 0 ∙ ap (λ (i : ℕ). get_or c i 0) (let e : k + 0 ≡ k = omega arith in e)) ∙ sym (get_or-take 1 (drop k c) 0 0 (omega arith)) ∙ ap (λ (l : List ℕ). get_or l 0 0) is

-- all from the volume's start on
pub area_read : (n : ℕ) (c : List ℕ) → length c ≡ volume_place + n → part volume_place n c ≡ volume_area c
area_read n c long = take_all n (drop volume_place c) (omega (arith, length-drop volume_place c, long))

-- how long the volume's area is
pub area_long : (c : List ℕ) (blocks : ℕ) → length c ≡ 4096 * blocks → length (volume_area c) ≡ 4096 * (blocks - 260)
area_long c blocks long = length-drop volume_place c ∙ behind (length c) blocks long
  where
    behind : (len blocks : ℕ) → len ≡ 4096 * blocks → len - 1064960 ≡ 4096 * (blocks - 260)
    behind len blocks long = omega (arith, long)

pub total_long : (len blocks n : ℕ) → len ≡ 4096 * blocks → 512 ≤ blocks → n ≡ 4096 * (blocks - 260) → len ≡ 1064960 + n
total_long len blocks n long least size = omega (arith, long, least, size)
