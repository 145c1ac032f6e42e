use Rattle.rule_group.proofs.Prelude.{ap, false≢true, sym, ◌∙◌}
use Rattle.rule_group.specs.Prelude.{choices, sets}
use Rattle.rule_group.proofs.ActingLemmas.{started_from}
use Rattle.rule_group.proofs.ordered.starts_from.Goals as goal

pub returns : goal.returns
returns c =
    λ yes. started_from c.args.p.now.given (sets c.args.g.now) c.args.v.0 c.domain-domain.result.now c.rows-rows.result.now (ap choices (sym c.domain-domain.ensures.domain)) c.rows-rows.ensures.items c.rows-rows.ensures.climbs
    c.args.from (λ none. false≢true (sym c.if-is_empty.false ∙ c.is_empty.ensures.1 none)) (c.rows_start_from.ensures.first yes) (c.rows_start_from.ensures.last yes)
