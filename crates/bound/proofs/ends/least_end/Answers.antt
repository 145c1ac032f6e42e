use Rattle.std.proofs.Common.{ap, ◌∙◌, unwrap_or}
use Rattle.relax.specs.Prelude.{choices, end_of, lowest}
use Rattle.bound.proofs.EndLemmas.{all_stay}
use Rattle.bound.proofs.ends.least_end.Goals as goal

pub returns : goal.returns
returns c = c.unwrap_or.ensures ∙ ap (λ o. unwrap_or o 0) (c.lowest.ensures ∙ ap (lowest (end_of c.args.p.now.given c.args.e)) (all_stay (choices c.args.domain.now)))
