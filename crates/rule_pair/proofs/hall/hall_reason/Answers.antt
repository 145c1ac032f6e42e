use Rattle.rule_pair.proofs.Prelude.{rules, separation_seen}
use Rattle.rule_pair.proofs.ApartLemmas.{apart_listed}
use Rattle.rule_pair.proofs.hall.hall_reason.Goals as goal

pub crowded-requires-clause-machines : goal.crowded-requires-clause-machines
crowded-requires-clause-machines c = apart_listed c.args.p.now.given c.index-constraints-c.result (separation_seen c.in_ok-separation.separation) c.in_ok-separation.ensures.some (search rules)
