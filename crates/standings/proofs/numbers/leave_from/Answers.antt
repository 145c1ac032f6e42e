use Rattle.standings.proofs.Prelude.{ℕ, max, ap, ◌∙◌, Choice, choices, leave_of, lowest}
use Rattle.standings.proofs.{ChangeLemmas.least_from, RowLemmas.all_stay}
use Rattle.standings.proofs.numbers.leave_from.Goals as goal

pub returns : goal.returns
returns c =
    let raised : Choice → ℕ = λ d. max c.args.floor (leave_of c.args.p.now.given c.args.v.0 d) in
    c.unwrap_or.ensures ∙ least_from (leave_of c.args.p.now.given c.args.v.0) c.args.floor c.args.domain.now c.lowest.result c.requires.floor (c.lowest.ensures ∙ ap (lowest raised) (all_stay (choices c.args.domain.now)))
