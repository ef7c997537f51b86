-- The laws of uses, and of maps behind a batch.
use Rattle.std.proofs.Common.{◌≡◌, ℕ, ◌+◌, ◌≤◌, ◌++◌, length, take, sym, ap, ◌∙◌, arith, length-append}
use Rattle.std.proofs.lemmas.Grind.{common_steps}
use Rattle.std.proofs.lemmas.List.{length-take}
use Rattle.std.proofs.lemmas.List.FromFn.{take-map-range_with_len}
use Rattle.ccfs_base.specs.Limits.{pages}
use Rattle.block_maps.specs.Laws.{UsesAreCounted, UsesArePrefixes, NextIsWhole}
use Rattle.block_maps.specs.Uses.{uses, block_count, use_at}
use Rattle.block_maps.proofs.Placing.{length-uses, uses_at}

pub uses_are_counted : UsesAreCounted
uses_are_counted n = length-uses n

pub block_count_low : (m n : ℕ) → m ≤ n → block_count m ≤ block_count n
block_count_low m n h = grind (arith, common_steps)

pub uses_are_prefixes : UsesArePrefixes
uses_are_prefixes m n h =
    ap (λ z. take z (uses n)) (length-uses m) ∙ ap (take (block_count m)) (uses_at n)
    ∙ take-map-range_with_len use_at 0 (block_count n) (block_count m) (block_count_low m n h) ∙ sym (uses_at m)

pub next_is_whole : NextIsWhole
next_is_whole file low len new whole before after few e =
    let a : block_count low ≤ block_count (pages file.len) = block_count_low low (pages file.len) before in
    let b : block_count low ≤ block_count (pages len) = block_count_low low (pages len) after in
    let n : length (take (block_count low) file.blocks ++ new) ≡ length (take (block_count low) file.blocks) + length new = length-append (take (block_count low) file.blocks) new in
    record { blocks = omega (arith, length-take (block_count low) file.blocks, whole.blocks); len = few }
