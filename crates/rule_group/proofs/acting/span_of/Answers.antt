use Rattle.rule_group.proofs.Prelude.{sym, ◌∙◌}
use Rattle.rule_group.proofs.ActingLemmas.{idle_span}
use Rattle.rule_group.proofs.acting.span_of.Goals as goal

pub returns-then-idle : goal.returns-then-idle
returns-then-idle c =
    rw c.domain-domain.ensures.domain at (idle_span c.args.p.now.given c.args.v.0 c.domain-domain.result.now (record { from = 4294967296; until = 0 }) (sym c.idle.ensures ∙ c.if-idle.true) c.domain-domain.ensures.climbs)
