use Rattle.rule_group.proofs.Prelude.{ap, sym}
use Rattle.rule_group.specs.Prelude.{choices, sets}
use Rattle.rule_group.proofs.ActingLemmas.{ended_by}
use Rattle.rule_group.proofs.ordered.ends_by.Goals as goal

pub returns : goal.returns
returns c =
    λ yes. ended_by c.args.p.now.given (sets c.args.g.now) c.args.v.0 c.domain-domain.result.now c.rows-rows.result.now (ap choices (sym c.domain-domain.ensures.domain)) c.rows-rows.ensures.items c.rows-rows.ensures.climbs
    c.args.by (c.rows_end_by.ensures.first yes) (c.rows_end_by.ensures.last yes)
