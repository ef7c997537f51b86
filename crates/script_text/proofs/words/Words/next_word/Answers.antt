use Rattle.std.proofs.Common.{◌≡◌, ◌+◌, ◌∙◌, None, ap, arith, length, not, sym}
use Rattle.script_text.specs.Words.{Rest, is_blank}
use Rattle.script_text.proofs.Cuts.{position-cases, rest_equal, unwrap_or-position, words_from-at, words_from-none}
use Rattle.script_text.proofs.words.Words.next_word.Goals as goal

pub returns-in_err-begin-clause-none : goal.returns-in_err-begin-clause-none
returns-in_err-begin-clause-none c =
    let xs = c.self.inside.rest.now in
    let n = position-cases (λ b. not (is_blank b)) xs None c.in_err-begin.ensures in
    rw c.from_residual.ensures (ap (λ (r : Rest). r.words) (sym c.self.view_is) ∙ words_from-none c.self.inside.place xs n)

pub returns-clause-some : goal.returns-clause-some
returns-clause-some c =
    let p = c.self.inside.place in
    let xs = c.self.inside.rest.now in
    let ys = c.split_at.result.1.now in
    let i = c.in_ok-begin.begin in
    let e = c.unwrap_or.result in
    let cut = c.split_at-2.ensures in
    let w = words_from-at p xs ys i e c.in_ok-begin.ensures c.split_at.ensures.back (c.unwrap_or.ensures ∙ unwrap_or-position is_blank ys c.blank.result c.blank.ensures) in
    let z : p + length xs ≡ p + i + length c.split_at-2.result.0.now + length c.split_at-2.result.1.now = omega (arith, c.split_at.ensures.back_len, cut.front_len, cut.back_len) in
    sym c.self.view_is ∙ rest_equal _ _ _ _ (rw (cut.front_len, cut.front, cut.back) w) z
