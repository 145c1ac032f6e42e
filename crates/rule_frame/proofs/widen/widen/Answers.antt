use Rattle.rule_frame.proofs.WidenLemmas.{idle_holds}
use Rattle.rule_frame.proofs.widen.widen.Goals as goal

pub returns-in-Idle : goal.returns-in-Idle
returns-in-Idle g c = idle_holds c.args.p.now.given c.args.g.now c.args.e c.args.end c.args.reason c.in-Idle.is c.requires.element c.requires.is_end c.requires.refuted
