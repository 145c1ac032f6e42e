use Rattle.rule_group.proofs.ActingLemmas.{any_span}
use Rattle.rule_group.proofs.acting.span_of_rows.Goals as goal

pub loop-i-init : goal.loop-i-init
loop-i-init c = any_span c.args.p.now.given c.args.v.0 c.args.domain.now
