-- The laws of cuts, proved.
use Rattle.std.proofs.Common.{ap, sym, ◌∙◌}
use Rattle.stream_cuts.specs.Streams.{entered}
use Rattle.stream_cuts.specs.Cuts.{lost}
use Rattle.stream_cuts.specs.Amounts.{sum_over}
use Rattle.stream_cuts.specs.Laws.{BatchOfSeal, SealingAllLeavesNone, ForcedSealsGuard, AllIsKept, UnsealedAreLost, CutsAreClosed, LongerKeeps, KeptApply, NextBatch, AmountsAtCut}
use Rattle.stream_cuts.proofs.KeptFirst as first
use Rattle.stream_cuts.proofs.Closed.{closed_at}
use Rattle.stream_cuts.proofs.Longer.{seals_longer, cut_at_longer, kept_longer, state_longer}
use Rattle.stream_cuts.proofs.Unsealed.{unsealed_lost}
use Rattle.stream_cuts.proofs.AllKept as whole
use Rattle.stream_cuts.proofs.Forcing.{entering_guarded, sealing_all}
use Rattle.stream_cuts.proofs.OfSeal as of_seal
use Rattle.stream_cuts.proofs.Next as next
use Rattle.stream_cuts.proofs.Amounts as amounts

pub forced_seals_guard : (U : Type 0) → ForcedSealsGuard U
forced_seals_guard U meets s u own h n = entering_guarded meets s u own h n

pub all_is_kept : (U : Type 0) → AllIsKept U
all_is_kept U l none = whole.all_kept l none

pub batch_of_seal : (U : Type 0) → BatchOfSeal U
batch_of_seal U l k s = of_seal.batch_of_seal l k s

pub sealing_all_leaves_none : (U : Type 0) → SealingAllLeavesNone U
sealing_all_leaves_none U h n = sealing_all h n

pub unsealed_are_lost : (U : Type 0) → UnsealedAreLost U
unsealed_are_lost U f l = unsealed_lost f l ∙ ap (λ c. sum_over f (lost (entered l) c)) (sym (whole.cut_at_end l))

pub cuts_are_closed : {U : Type 0} (Meet : U → U → Type 0) → CutsAreClosed Meet
cuts_are_closed Meet l n g = closed_at Meet l n g

pub longer_keeps : {S U : Type 0} (apply : S → U → S) → LongerKeeps apply
longer_keeps apply t l k n le = (seals_longer l k n le, cut_at_longer l k n le, kept_longer l k n le, state_longer apply t l k n le)

pub kept_apply : {S U : Type 0} (Applies : S → U → Type 0) (apply : S → U → S) (Meet : U → U → Type 0) → KeptApply Applies apply Meet
kept_apply Applies apply Meet swaps t h c r k = first.kept_apply Applies apply Meet swaps t h c r k

pub next_batch : {S U : Type 0} (Applies : S → U → Type 0) (apply : S → U → S) (Meet : U → U → Type 0) → NextBatch Applies apply Meet
next_batch Applies apply Meet swaps t l n r g = next.next_batch Applies apply Meet swaps t l n r g

pub amounts_at_cut : {S U : Type 0} (Applies : S → U → Type 0) (apply : S → U → S) (Meet : U → U → Type 0) → AmountsAtCut Applies apply Meet
amounts_at_cut Applies apply Meet swaps size steady t h c r k = amounts.amounts_at_cut Applies apply size Meet swaps steady t h c r k
