use Rattle.rule_pair.proofs.Prelude.{sym, ◌∙◌, arith, nat_tests}
use Rattle.rule_pair.proofs.UnmovedLemmas.{idle_apart, rows_apart}
use Rattle.rule_pair.proofs.unmoved.goes_apart.Goals as goal

pub returns-then-idle : goal.returns-then-idle
returns-then-idle c = λ _ n t. idle_apart c.args.domain.now (sym c.idle.ensures ∙ c.if-idle.true) n t

pub returns : goal.returns
returns c = λ on n t. rows_apart c.args.domain.now c.rows.result.now c.rows.ensures.items c.rows.ensures.climbs (grind (arith, nat_tests, on)) n t
