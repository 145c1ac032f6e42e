use Rattle.rule_place.proofs.Prelude.{sym, ap, ◌∙◌, arith, choices, sets}
use Rattle.rule_place.proofs.OptionalLemmas.{option_is}
use Rattle.rule_place.proofs.optional.option_of.Goals as goal

pub returns-clause-shutdown : goal.returns-clause-shutdown
returns-clause-shutdown c =
    option_is c.args.p.now.given (sets c.args.g.now) c.args.n.0 _ c.domain-domain.result.now c.rows-rows.result.now (sym c.usable.ensures ∙ c.if-not-usable.false) (ap choices (sym c.domain-domain.ensures.domain))
    (sym c.idle.ensures ∙ c.if-not-idle.false) c.rows-rows.ensures.items c.rows-rows.ensures.climbs c.if-rows-ne1.false (omega (arith, c.if-first-horizon.false, c.horizon.ensures.horizon)) (omega (arith, c.horizon-2.ensures.horizon))
