use Rattle.base.proofs.Public.{◌≡◌, ◌∙◌, ◌+◌, ◌-◌, ℕ, List, length, take, drop, ap, arith, common_steps}
use Rattle.cert_read.specs.Lines.{bytes_before_newline}
use Rattle.cert_read.proofs.LineLemmas.{counted}
use Rattle.cert_read.proofs.cursor.before_newline_from.Goals as goal

-- a list from a place on
rest_of : (bytes : List ℕ) (clean : ℕ) → take (length bytes - clean) (drop clean bytes) ≡ drop clean bytes
rest_of bytes clean = grind (arith, common_steps)

pub returns-clause-count : goal.returns-clause-count
returns-clause-count c =
    ap (λ (n : ℕ). c.args.clean + n) (c.before_newline.ensures.count ∙ ap bytes_before_newline (rest_of c.args.bytes.now c.args.clean))
    ∙ counted c.args.bytes.now c.args.clean c.requires.looked c.requires.clean
