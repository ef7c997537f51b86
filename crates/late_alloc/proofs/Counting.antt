-- What one file more counts for.
use Rattle.std.proofs.Common.{◌≡◌, ℕ, ◌+◌, ◌<◌, ◌≤◌, ◌++◌, List, [], ◌∷◌, length, map, take, drop, get_or, refl, sym, ap, ◌∙◌, arith, append_assoc, length-drop, length-take-le}
use Rattle.std.proofs.lemmas.List.{map-append, length-map, length-append, length-take, take_all}
use Rattle.std.proofs.lemmas.Grind.{common_steps}
use Rattle.std.proofs.Math.Seq.{take-add}
use Rattle.std.proofs.Math.ListN.{drop_of_length-le}
use Rattle.ccfs_base.specs.Limits.{file_max, pages}
use Rattle.file_bodies.specs.declared.ops.BodyOp.{BodyOp}
use Rattle.block_maps.specs.declared.plans.Gain.{Gain}
use Rattle.block_maps.specs.declared.plans.Plan.{Plan}
use Rattle.block_maps.specs.Maps.{Mapped, file_at, IsWhole, block_of, given_blocks}
use Rattle.block_maps.specs.Plans.{use_of, blocks_of}
use Rattle.block_maps.specs.Uses.{uses, block_count, new_count, use_at, new_uses}
use Rattle.block_maps.proofs.Lists.{drop_front}
use Rattle.block_maps.proofs.Placing.{new_uses_at, length-new_uses, uses_from, given_are}
use Rattle.late_alloc.specs.declared.changes.Reach.{Reach}
use Rattle.late_alloc.specs.Choice.{IsPlan}
use Rattle.late_alloc.specs.Gaining.{gains_from, gains_by}
use Rattle.late_alloc.specs.Reaches.{touched_of, own_news, news, news_of, given_by, given_of}
use Rattle.late_alloc.proofs.Listing.{flat_touched}
use Rattle.late_alloc.proofs.Reaching.{reach_none}

-- nothing of a file
abbrev pub no_reach : Reach
no_reach = record { inode = 0; least = 0; end = 0 }

-- a file has at most 1,049 blocks
pub new_count_few : (least end : ℕ) → end ≤ file_max → new_count least end ≤ 1049
new_count_few least end h = grind (arith, common_steps)

pub length-own_news : (reach : Reach) → length (own_news reach) ≡ new_count reach.least reach.end
length-own_news reach = length-map (new_uses reach.least (pages reach.end)) (λ purpose. (reach.inode, purpose)) ∙ length-new_uses reach.least (pages reach.end)

pub length-news_front : (reach : Reach) (rest : List Reach) → length (news (reach ∷ rest)) ≡ new_count reach.least reach.end + length (news rest)
length-news_front reach rest = length-append (own_news reach) (news rest) ∙ ap (λ z. z + length (news rest)) (length-own_news reach)

-- the count of one file more
pub news_step : (reaches : List Reach) (i need : ℕ) (reach : Reach) → i < length reaches → get_or reaches i no_reach ≡ reach
    → need + length (news (drop i reaches)) ≡ length (news reaches)
    → need + new_count reach.least reach.end + length (news (drop (i + 1) reaches)) ≡ length (news reaches)
news_step reaches i need reach h is e =
    let front = ap (λ z. length (news z)) (drop_front reaches i no_reach reach h is) ∙ length-news_front reach (drop (i + 1) reaches) in
    omega arith

-- the blocks that one file more gives up
pub given_step : (files : List Mapped) (reaches : List Reach) (i : ℕ) (given : List ℕ) (reach : Reach) → i < length reaches → get_or reaches i no_reach ≡ reach
    → given ++ given_by files (drop i reaches) ≡ given_by files reaches
    → (given ++ given_blocks (file_at files reach.inode) reach.least) ++ given_by files (drop (i + 1) reaches) ≡ given_by files reaches
given_step files reaches i given reach h is e =
    append_assoc given (given_blocks (file_at files reach.inode) reach.least) (given_by files (drop (i + 1) reaches))
    ∙ sym (ap (λ z. given ++ given_by files z) (drop_front reaches i no_reach reach h is)) ∙ e

-- the new blocks of one file more
pub gains_step : (reaches : List Reach) (i : ℕ) (gained whole : List Gain) (blocks : List ℕ) (reach : Reach) → i < length reaches → get_or reaches i no_reach ≡ reach
    → gained ++ gains_by (drop i reaches) blocks ≡ whole
    → (gained ++ gains_from reach.inode (block_count reach.least) (take (new_count reach.least reach.end) blocks)) ++ gains_by (drop (i + 1) reaches) (drop (new_count reach.least reach.end) blocks) ≡ whole
gains_step reaches i gained whole blocks reach h is e =
    append_assoc gained (gains_from reach.inode (block_count reach.least) (take (new_count reach.least reach.end) blocks)) (gains_by (drop (i + 1) reaches) (drop (new_count reach.least reach.end) blocks))
    ∙ sym (ap (λ z. gained ++ gains_by z blocks) (drop_front reaches i no_reach reach h is)) ∙ e

pub enough_step : (reaches : List Reach) (i : ℕ) (blocks : List ℕ) (reach : Reach) → i < length reaches → get_or reaches i no_reach ≡ reach
    → length (news (drop i reaches)) ≤ length blocks
    → (new_count reach.least reach.end ≤ length blocks) × (length (news (drop (i + 1) reaches)) ≤ length (drop (new_count reach.least reach.end) blocks))
enough_step reaches i blocks reach h is e =
    let front = ap (λ z. length (news z)) (drop_front reaches i no_reach reach h is) ∙ length-news_front reach (drop (i + 1) reaches) in
    (omega arith, omega (arith, length-drop (new_count reach.least reach.end) blocks))

-- ---- what the new blocks are for

uses_gained : (inode place : ℕ) (blocks : List ℕ) → map use_of (gains_from inode place blocks) ≡ map (λ purpose. (inode, purpose)) (uses_from place (length blocks))
uses_gained inode place [] = refl
uses_gained inode place (block ∷ rest) = ap (λ z. (inode, use_at place) ∷ z) (uses_gained inode (place + 1) rest)

blocks_gained : (inode place : ℕ) (blocks : List ℕ) → blocks_of (gains_from inode place blocks) ≡ blocks
blocks_gained inode place [] = refl
blocks_gained inode place (block ∷ rest) = ap (λ z. block ∷ z) (blocks_gained inode (place + 1) rest)

uses_all : (reaches : List Reach) (blocks : List ℕ) → length (news reaches) ≤ length blocks → map use_of (gains_by reaches blocks) ≡ news reaches
uses_all [] blocks h = refl
uses_all (reach ∷ rest) blocks h =
    let n : ℕ = new_count reach.least reach.end in
    let count = length-news_front reach rest in
    let l : length (take n blocks) ≡ n = length-take-le n blocks (omega arith) in
    map-append use_of (gains_from reach.inode (block_count reach.least) (take n blocks)) (gains_by rest (drop n blocks))
    ∙ ap (λ z. z ++ map use_of (gains_by rest (drop n blocks)))
    (uses_gained reach.inode (block_count reach.least) (take n blocks)
    ∙ ap (λ z. map (λ purpose. (reach.inode, purpose)) (uses_from (block_count reach.least) z)) l
    ∙ ap (map (λ purpose. (reach.inode, purpose))) (sym (new_uses_at reach.least (pages reach.end))))
    ∙ ap (λ z. own_news reach ++ z) (uses_all rest (drop n blocks) (omega (arith, length-drop n blocks)))

blocks_all : (reaches : List Reach) (blocks : List ℕ) → length (news reaches) ≤ length blocks → blocks_of (gains_by reaches blocks) ≡ take (length (news reaches)) blocks
blocks_all [] blocks h = refl
blocks_all (reach ∷ rest) blocks h =
    let n : ℕ = new_count reach.least reach.end in
    let m : ℕ = length (news rest) in
    let count = length-news_front reach rest in
    map-append (λ (gain : Gain). gain.block) (gains_from reach.inode (block_count reach.least) (take n blocks)) (gains_by rest (drop n blocks))
    ∙ ap (λ z. z ++ blocks_of (gains_by rest (drop n blocks))) (blocks_gained reach.inode (block_count reach.least) (take n blocks))
    ∙ ap (λ z. take n blocks ++ z) (blocks_all rest (drop n blocks) (omega (arith, length-drop n blocks)))
    ∙ sym (ap (λ z. take z blocks) count ∙ take-add n m blocks)

-- ---- files that no operation is on

pub news_touched : (files : List Mapped) (ops : List BodyOp) → news (touched_of files ops) ≡ news_of files ops
news_touched files ops = flat_touched own_news files ops (λ k h none.
    let n : ℕ = pages (file_at files k).len in
    ap own_news (reach_none ops k (file_at files k).len none) ∙ ap (map (λ purpose. (k, purpose))) (drop_of_length-le (uses n) (omega arith)))

pub given_touched : (files : List Mapped) (ops : List BodyOp) → given_by files (touched_of files ops) ≡ given_of files ops
given_touched files ops = flat_touched (λ (reach : Reach). given_blocks (file_at files reach.inode) reach.least) files ops (λ k h none.
    let n : ℕ = pages (file_at files k).len in
    ap (λ (z : Reach). given_blocks (file_at files z.inode) z.least) (reach_none ops k (file_at files k).len none)
    ∙ ap (map (block_of (file_at files k))) (drop_of_length-le (uses n) (omega arith)))

-- ---- plans

-- the blocks behind the kept ones are given up
pub given_behind : (file : Mapped) (least : ℕ) → IsWhole file → drop (block_count least) file.blocks ≡ given_blocks file least
given_behind file least whole = sym (given_are file least whole.blocks)

-- what is chosen is a plan
pub planned : (files : List Mapped) (ops : List BodyOp) (reaches : List Reach) (stand blocks : List ℕ) (plan : Plan) → reaches ≡ touched_of files ops
    → blocks ≡ take (length (news reaches)) stand → length (news reaches) ≤ length blocks → length (news reaches) ≤ length stand
    → plan.gained.items ≡ gains_by reaches blocks → plan.given.items ≡ given_by files reaches → IsPlan files ops stand plan
planned files ops reaches stand blocks plan is lowest enough many gained given =
    let all : news reaches ≡ news_of files ops = ap news is ∙ news_touched files ops in
    let n : ℕ = length (news reaches) in
    let count : length blocks ≡ n = ap length lowest ∙ length-take-le n stand many in
    record {
      uses = ap (map use_of) gained ∙ uses_all reaches blocks enough ∙ all;
      blocks = ap blocks_of gained ∙ blocks_all reaches blocks enough ∙ take_all n blocks (omega arith) ∙ lowest ∙ ap (λ z. take (length z) stand) all;
      enough = omega (arith, ap length all);
      given = given ∙ ap (given_by files) is ∙ given_touched files ops;
    }

-- fewer stand than are needed
pub fewer : (files : List Mapped) (ops : List BodyOp) (reaches : List Reach) (stand blocks : List ℕ) (need : ℕ) → reaches ≡ touched_of files ops
    → need ≡ length (news reaches) → blocks ≡ take need stand → length blocks < need → (need ≡ length (news_of files ops)) × (length blocks ≡ length stand)
fewer files ops reaches stand blocks need is count lowest short =
    (count ∙ ap (λ z. length (news z)) is ∙ ap length (news_touched files ops), omega (arith, ap length lowest, length-take need stand))
