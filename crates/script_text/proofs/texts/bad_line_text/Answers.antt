use Rattle.std.proofs.Common.{◌≡◌, ◌++◌, ◌∷◌, ◌∙◌, [], List, ℕ, ap, append_assoc, codes, decimal, sym}
use Rattle.script_text.proofs.texts.bad_line_text.Goals as goal

-- texts that were appended one after another
appended : (start first second label tail : List ℕ) → start ≡ [] → first ≡ start ++ label → second ≡ first ++ tail → second ≡ label ++ tail
appended start first second label tail s f g = rw (g, f, s)

pub returns : goal.returns
returns c =
    let tail = codes " is not a command\n" in
    let number = decimal c.args.line in
    let labeled = c.in_ok-append_labeled.ensures ∙ ap (λ n. c.new-out.result ++ (codes "script line " ++ decimal n)) c.from.ensures in
    appended _ _ c.append.new.self (codes "script line " ++ number) tail c.new-out.ensures labeled c.in_ok-append.ensures.ok
    ∙ sym (ap (λ x. codes "script line " ++ x) (append_assoc number (codes " is not a command") (10 ∷ [])))
