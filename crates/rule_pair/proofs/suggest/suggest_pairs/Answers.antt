use Rattle.rule_pair.proofs.Prelude.{rules, separation_seen}
use Rattle.rule_pair.proofs.ApartLemmas.{apart_listed}
use Rattle.rule_pair.proofs.suggest.suggest_pairs.Goals as goal

pub suggest_apart-requires-clause-machines : goal.suggest_apart-requires-clause-machines
suggest_apart-requires-clause-machines c = apart_listed c.args.p.now.given c.index-constraints-c.result (separation_seen c.in-Some.separation) c.in-Some.ensures.some (search rules)

pub suggest_apart_from-requires-clause-machines : goal.suggest_apart_from-requires-clause-machines
suggest_apart_from-requires-clause-machines c = apart_listed c.args.p.now.given c.index-constraints-c.result (separation_seen c.in-Some.separation) c.in-Some.ensures.some (search rules)
