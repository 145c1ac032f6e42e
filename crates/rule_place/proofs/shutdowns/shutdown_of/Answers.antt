use Rattle.rule_place.proofs.Prelude.{sym, ap, ◌∙◌, choices, sets}
use Rattle.rule_place.proofs.ShutdownLemmas.{shutdown_is}
use Rattle.rule_place.proofs.shutdowns.shutdown_of.Goals as goal

pub returns : goal.returns
returns c =
    shutdown_is c.args.p.now.given (sets c.args.g.now) c.args.n.0 c.domain-domain.result.now c.rows-rows.result.now (sym c.usable.ensures ∙ c.if-not-usable.false) (ap choices (sym c.domain-domain.ensures.domain))
    (sym c.idle.ensures ∙ c.if-idle.false) c.rows-rows.ensures.items c.rows-rows.ensures.climbs c.if-rows-ne1.false
