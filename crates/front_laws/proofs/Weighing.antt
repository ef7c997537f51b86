-- What built updates weigh and give up.
use Rattle.std.proofs.Common.{◌≡◌, ℕ, zero, suc, ◌+◌, ◌-◌, ◌*◌, ◌<◌, ◌≤◌, List, length, refl, ap, arith}
use Rattle.std.specs.Prelude.{Bool, true, false, Option, None, Some}
use Rattle.std.specs.FinMap.{get, len}
use Rattle.tree_model.specs.declared.rows.Body.{Body}
use Rattle.tree_model.specs.declared.rows.Body.TheVariants.{Dir, File}
use Rattle.tree_model.specs.declared.rows.Row.{Row}
use Rattle.tree_model.specs.declared.rows.Update.{Update}
use Rattle.tree_model.specs.declared.rows.Update.TheVariants.{Make, Write, Resize, Remove, Move, Release}
use Rattle.tree_model.specs.Rows.{Rows, IsTree}
use Rattle.tree_model.specs.Updates.{new_body, Fits, apply}
use Rattle.tree_model.specs.Weights.{live, landed_by}
use Rattle.tree_model.proofs.Live.{part, body_blocks, one_each, len_total, total_apply}
use Rattle.tree_cuts.specs.Calls.{charge}
use Rattle.history_model.specs.Histories.{makes}
use Rattle.history_laws.proofs.Light.{calm_blocks}
use Rattle.carried_volumes.specs.Plain.{IsBareBody, IsPlain}
use Rattle.carried_volumes.specs.Carried.{HaveInodes}
use Rattle.update_records.specs.Built.{is_built, AreSerialsBelow}
use Rattle.front_laws.specs.Inodes.{dropped}
use Rattle.front_laws.specs.Owned.{IsRow}
use Rattle.front_laws.proofs.Turning.{kind_row, entry_row}

-- ---- rows

row_part : (t : Rows) (x : ℕ) → IsRow t x → part one_each (get t x) ≡ 1
row_part t x r = ap (part one_each) r.1

none_part : (t : Rows) (x : ℕ) → get t x ≡ None → part one_each (get t x) ≡ 0
none_part t x e = ap (part one_each) e

counted_from : (a b c d o m k z : ℕ) → a ≡ c → b ≡ d → c + o ≡ d + m → k + m ≡ o + z → a + k ≡ b + z
counted_from a b c d o m k z p q e g = omega arith

-- an update changes the number of rows by the one that it makes and those that it drops
pub rows_counted : (t : Rows) (u : Update) → Fits t u → is_built u ≡ true → len (apply t u) + length (dropped u) ≡ len t + makes u
rows_counted t (Make dir name id d) f built = let u : Update = Make dir name id d in
    counted_from _ _ _ _ _ _ 0 1 (len_total (apply t u)) (len_total t) (total_apply one_each (λ b. refl) t u) (let e = none_part t id f.2 in omega arith)
rows_counted t (Write id off bytes) f built = absurd (cc)
rows_counted t (Resize id len) f built = absurd (cc)
rows_counted t (Remove dir name id true) f built = absurd (cc)
rows_counted t (Remove dir name id false) f built = let u : Update = Remove dir name id false in
    counted_from _ _ _ _ _ _ 1 0 (len_total (apply t u)) (len_total t) (total_apply one_each (λ b. refl) t u) (let e = row_part t id (entry_row t dir name id f.0) in omega arith)
rows_counted t (Move dir name to_dir to_name id d r true) f built = absurd (cc)
rows_counted t (Move dir name to_dir to_name id d None false) f built = let u : Update = Move dir name to_dir to_name id d None false in
    counted_from _ _ _ _ _ _ 0 0 (len_total (apply t u)) (len_total t) (total_apply one_each (λ b. refl) t u) (omega arith)
rows_counted t (Move dir name to_dir to_name id d (Some y) false) f built = let u : Update = Move dir name to_dir to_name id d (Some y) false in
    counted_from _ _ _ _ _ _ 1 0 (len_total (apply t u)) (len_total t) (total_apply one_each (λ b. refl) t u) (let e = row_part t y (kind_row t y false f.4.1) in omega arith)
rows_counted t (Release id) f built = absurd (cc)

makes_or_drops : (u : Update) → makes u ≤ 1 × (makes u ≡ 1 → length (dropped u) ≡ 0)
makes_or_drops (Make dir name id d) = (omega arith, λ e. refl)
makes_or_drops (Write id off bytes) = (omega arith, λ e. refl)
makes_or_drops (Resize id len) = (omega arith, λ e. refl)
makes_or_drops (Remove dir name id stays) = (omega arith, λ e. absurd (let z : 0 ≡ 1 = e in omega arith))
makes_or_drops (Move dir name to_dir to_name id d r stays) = (omega arith, λ e. absurd (let z : 0 ≡ 1 = e in omega arith))
makes_or_drops (Release id) = (omega arith, λ e. absurd (let z : 0 ≡ 1 = e in omega arith))

gave_from : (a b d m : ℕ) → a + d ≡ b + m → m ≤ 1 → (m ≡ 1 → d ≡ 0) → d ≡ b - a
gave_from a b d zero e le f = omega arith
gave_from a b d (suc m) e le f = let z = f (let w : suc m ≡ 1 = omega arith in w) in omega arith

-- it is charged the rows that it drops
pub gave_dropped : (t : Rows) (u : Update) → Fits t u → is_built u ≡ true → length (dropped u) ≡ (charge t u).gave_rows
gave_dropped t u f built = let m = makes_or_drops u in gave_from (len (apply t u)) (len t) (length (dropped u)) (makes u) (rows_counted t u f built) m.0 m.1

-- ---- blocks

bare_blocks : (b : Body) → IsBareBody b → body_blocks b ≡ 0
bare_blocks (Dir n) p = refl
bare_blocks (File bytes) p = ap (λ z. body_blocks (File z)) p

bare_part : (t : Rows) → IsPlain t → (x : ℕ) → part body_blocks (get t x) ≡ 0
bare_part t plain x = by (get t x) refl
  where
    by : (o : Option Row) → get t x ≡ o → part body_blocks o ≡ 0
    by None e = refl
    by (Some r) e = bare_blocks r.body (plain.bare x r e)

new_blocks : (d : Bool) → body_blocks (new_body d) ≡ 0
new_blocks true = refl
new_blocks false = refl

-- files without bytes take no blocks
pub live_stays : (t : Rows) (u : Update) → IsPlain t → is_built u ≡ true → live (apply t u) ≡ live t
live_stays t (Make dir name id d) plain built =
    let a = total_apply body_blocks calm_blocks t (Make dir name id d) in let o = bare_part t plain id in let m = new_blocks d in omega (arith, a, o, m)
live_stays t (Write id off bytes) plain built = absurd (cc)
live_stays t (Resize id len) plain built = absurd (cc)
live_stays t (Remove dir name id true) plain built = absurd (cc)
live_stays t (Remove dir name id false) plain built = let a = total_apply body_blocks calm_blocks t (Remove dir name id false) in let o = bare_part t plain id in omega (arith, a, o)
live_stays t (Move dir name to_dir to_name id d r true) plain built = absurd (cc)
live_stays t (Move dir name to_dir to_name id d None false) plain built = let a = total_apply body_blocks calm_blocks t (Move dir name to_dir to_name id d None false) in omega (arith, a)
live_stays t (Move dir name to_dir to_name id d (Some y) false) plain built =
    let a = total_apply body_blocks calm_blocks t (Move dir name to_dir to_name id d (Some y) false) in let o = bare_part t plain y in omega (arith, a, o)
live_stays t (Release id) plain built = absurd (cc)

none_landed : (t : Rows) (u : Update) → is_built u ≡ true → landed_by t u ≡ 0
none_landed t (Make dir name id d) built = refl
none_landed t (Write id off bytes) built = absurd (cc)
none_landed t (Resize id len) built = absurd (cc)
none_landed t (Remove dir name id stays) built = refl
none_landed t (Move dir name to_dir to_name id d r stays) built = refl
none_landed t (Release id) built = absurd (cc)

weighs : (a b l w : ℕ) → a ≡ b → l ≡ 0 → 512 + l + 32 * ((a - b) + (b - a)) ≡ 512
weighs a b l w p q = omega arith

pub built_weight : (t : Rows) (u : Update) → IsPlain t → is_built u ≡ true → (charge t u).weight ≡ 512
built_weight t u plain built = weighs (live (apply t u)) (live t) (landed_by t u) 0 (live_stays t u plain built) (none_landed t u built)

pub built_blocks : (t : Rows) (u : Update) → IsPlain t → is_built u ≡ true → (charge t u).gave_blocks ≡ 0
built_blocks t u plain built = let e = live_stays t u plain built in omega (arith, e)

-- ---- serials

pub row_listed : (count : ℕ) (inodes : List ℕ) (t : Rows) → HaveInodes count inodes t → (x : ℕ) → IsRow t x → x < length inodes
row_listed count inodes t have x r = have.listed x r.0 r.1

-- those that an update names have inodes, where that of a new row has one
abbrev pub HasPlace : List ℕ → Update → Type 0
HasPlace inodes (Make dir name id d) = id < length inodes
HasPlace inodes (Write id off bytes) = Unit {0}
HasPlace inodes (Resize id len) = Unit {0}
HasPlace inodes (Remove dir name id stays) = Unit {0}
HasPlace inodes (Move dir name to_dir to_name id d r stays) = Unit {0}
HasPlace inodes (Release id) = Unit {0}

pub serials_below : (count : ℕ) (inodes : List ℕ) (t : Rows) (u : Update) → IsTree t → HaveInodes count inodes t → Fits t u → HasPlace inodes u → AreSerialsBelow (length inodes) u
serials_below count inodes t (Make dir name id d) w have f place = (row_listed count inodes t have dir (kind_row t dir true f.0), place)
serials_below count inodes t (Write id off bytes) w have f place = tt
serials_below count inodes t (Resize id len) w have f place = tt
serials_below count inodes t (Remove dir name id stays) w have f place =
    (row_listed count inodes t have dir (kind_row t dir true (w.parents id dir name f.0)), row_listed count inodes t have id (entry_row t dir name id f.0))
serials_below count inodes t (Move dir name to_dir to_name id d None stays) w have f place = (
  row_listed count inodes t have dir (kind_row t dir true (w.parents id dir name f.0)),
  row_listed count inodes t have to_dir (kind_row t to_dir true f.2),
  row_listed count inodes t have id (entry_row t dir name id f.0),
  tt,
)
serials_below count inodes t (Move dir name to_dir to_name id d (Some y) stays) w have f place = (
  row_listed count inodes t have dir (kind_row t dir true (w.parents id dir name f.0)),
  row_listed count inodes t have to_dir (kind_row t to_dir true f.2),
  row_listed count inodes t have id (entry_row t dir name id f.0),
  row_listed count inodes t have y (kind_row t y false f.4.1),
)
serials_below count inodes t (Release id) w have f place = tt
