use Rattle.rule_group.proofs.Prelude.{ap, false≢true, sym, ◌∙◌}
use Rattle.rule_group.specs.Prelude.{choices, groups_seen, sets}
use Rattle.rule_group.proofs.TogetherLemmas.{fits_member}
use Rattle.rule_group.proofs.together.machine_fits.Goals as goal

pub returns-then-idle_fits : goal.returns-then-idle_fits
returns-then-idle_fits c =
    λ yes. fits_member c.args.p.now.given (sets c.args.g.now) c.args.always (groups_seen c.args.groups.now) c.args.common.now c.args.v.0 c.domain-domain.result.now c.rows-rows.result.now (ap choices (sym c.domain-domain.ensures.domain))
    (λ none. false≢true (sym c.if-is_empty.false ∙ c.is_empty.ensures.1 none)) c.rows-rows.ensures.items c.rows-rows.ensures.climbs (c.idle_fits.ensures c.if-idle_fits.true)
    (c.rows_fit.ensures.first yes) (c.rows_fit.ensures.last yes)
