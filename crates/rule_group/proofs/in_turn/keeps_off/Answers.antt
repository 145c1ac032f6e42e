use Rattle.rule_group.proofs.Prelude.{ap, false≢true, sym, ◌∙◌}
use Rattle.rule_group.specs.Prelude.{choices, sets}
use Rattle.rule_group.proofs.ActingLemmas.{keeps_off_by}
use Rattle.rule_group.proofs.in_turn.keeps_off.Goals as goal

pub returns : goal.returns
returns c =
    λ yes. keeps_off_by c.args.p.now.given (sets c.args.g.now) c.args.w.0 c.domain-domain.result.now c.rows-rows.result.now (ap choices (sym c.domain-domain.ensures.domain)) c.rows-rows.ensures.items c.rows-rows.ensures.climbs
    c.args.span (λ none. false≢true (sym c.if-is_empty.false ∙ c.is_empty.ensures.1 none)) (c.rows_keep_off.ensures.first yes) (c.rows_keep_off.ensures.last yes)
