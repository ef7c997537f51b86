use Rattle.std.proofs.Common.{◌≡◌, [], ◌∷◌, refl, sym, ap, ◌∙◌, arith}
use Rattle.std.specs.Prelude.{None}
use Rattle.std.proofs.lemmas.Result.{err_from_is_err_and}
use Rattle.free_maps.specs.Maps.{clear_below}
use Rattle.image_model.specs.declared.check.Check.TheVariants as checks
use Rattle.image_model.specs.Volumes.{volume_of, data_blocks}
use Rattle.image_model.specs.Checks.{bare, failure, unless}
use Rattle.image_check.specs.Verdicts.{block_checks, first_among}
use Rattle.image_check.proofs.Verdict.{passed, refused, behind, last_step}
use Rattle.image_check.proofs.Free.{no_pointers, pointers_are_right, bits_told}
use Rattle.image_check.proofs.chain.check_blocks.Goals as goal

pub are_counted-counted-requires-clause-inodes : goal.are_counted-counted-requires-clause-inodes
are_counted-counted-requires-clause-inodes c = c.clear_inodes.ensures ∙ ap (λ m. clear_below m.bytes m.count) c.requires.table.used

pub returns-in_err-pass : goal.returns-in_err-pass
returns-in_err-pass c =
    let v = volume_of c.args.geometry.now c.args.volume.now in
    let f = failure bare None v in
    let none = no_pointers v c.requires.inodes in
    let total : c.args.geometry.now.data_blocks ≡ data_blocks v = omega (arith, c.args.geometry.now.first_data_place, c.args.geometry.now.data_to_the_end) in
    let bits = bits_told v c.in_ok-block_bits.field-0 c.clear_count-clear.result c.args.geometry.now.data_blocks c.unless.result none c.in_ok-block_bits.ensures c.clear_count-clear.ensures total c.unless.ensures in
    let fault = c.in_err-pass.field-0.0 in
    let p = err_from_is_err_and c.from_residual-in_err-pass.result c.from_residual-in_err-pass.ensures.1 in
    rw (p.1, p.2)
    (behind f checks.Pointer (checks.Bits ∷ checks.Counts ∷ []) None fault (pointers_are_right v none) refl
    (refused f checks.Bits (checks.Counts ∷ []) c.unless.result fault bits c.in_err-pass.ensures))

pub returns : goal.returns
returns c =
    let v = volume_of c.args.geometry.now c.args.volume.now in
    let f = failure bare None v in
    let none = no_pointers v c.requires.inodes in
    let total : c.args.geometry.now.data_blocks ≡ data_blocks v = omega (arith, c.args.geometry.now.first_data_place, c.args.geometry.now.data_to_the_end) in
    let bits = bits_told v c.in_ok-block_bits.field-0 c.clear_count-clear.result c.args.geometry.now.data_blocks c.unless.result none c.in_ok-block_bits.ensures c.clear_count-clear.ensures total c.unless.ensures in
    let counts = sym (c.unless-2.ensures ∙ ap (λ b. unless b 260) c.are_counted-counted.ensures) in
    last_step c.pass-2.result checks.Counts c.unless-2.result (first_among v block_checks ≡ None) (first_among v block_checks) c.pass-2.ensures
    (λ right. passed f checks.Pointer (checks.Bits ∷ checks.Counts ∷ []) (pointers_are_right v none) ∙ passed f checks.Bits (checks.Counts ∷ []) (bits ∙ c.in_ok-pass.ensures) ∙ passed f checks.Counts [] (counts ∙ right))
    (λ fault refuses. behind f checks.Pointer (checks.Bits ∷ checks.Counts ∷ []) None fault (pointers_are_right v none) refl
    (behind f checks.Bits (checks.Counts ∷ []) c.unless.result fault bits c.in_ok-pass.ensures (refused f checks.Counts [] c.unless-2.result fault counts refuses)))
