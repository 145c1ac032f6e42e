use Rattle.rule_place.proofs.Prelude.{ap, arith, sym, ◌∙◌, false≢true, choices, sets}
use Rattle.rule_place.proofs.AllowedLemmas.{is_allowed}
use Rattle.rule_place.proofs.allowed.machine_is_allowed.Goals as goal

pub returns-then-rows_are_allowed : goal.returns-then-rows_are_allowed
returns-then-rows_are_allowed c =
    λ yes. is_allowed c.args.p.now.given (sets c.args.g.now) c.args.constraint.now c.args.v.0 c.domain-domain.result.now c.rows-rows.result.now (omega (arith, c.args.p.now.sound.horizon)) (ap choices (sym c.domain-domain.ensures.domain))
    (λ none. false≢true (sym c.if-is_empty.false ∙ c.is_empty.ensures.1 none)) c.rows-rows.ensures.items c.rows-rows.ensures.climbs (c.rows_are_allowed.ensures c.if-rows_are_allowed.true)
    (c.host_is_allowed.ensures yes)
